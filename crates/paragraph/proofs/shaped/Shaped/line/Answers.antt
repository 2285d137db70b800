use Rattle.std.proofs.Common.{refl, sym, ap, ◌∙◌, arith}
use Rattle.std.proofs.lemmas.Bool.{eq-eqb, ne_eqb}
use Rattle.paragraph.specs.Calls.{gives, is_shaped, kept, owes}
use Rattle.paragraph.specs.Told.{memory}
use Rattle.paragraph.proofs.Steps.{line-full, line-kept, line-owed}
use Rattle.paragraph.proofs.shaped.Shaped.line.Goals as goal

pub returns-then-are_free : goal.returns-then-are_free
returns-then-are_free c = λ x. (
  (λ i. gives (kept c.args.a c.args.b (c.find_line-line.ensures.line i).first (c.find_line-line.ensures.line i).count))
      ∙ sym (line-kept c.args.self.now (memory c.args.run.now c.args.marks.now) c.args.a c.args.b (sym c.if-ends_past.ensures) (sym c.if-is_too_small.ensures.answer) (sym (c.if-are_free.ensures c.args.run.now))),
  refl,
  refl,
)

pub returns-then-self : goal.returns-then-self
returns-then-self c = λ x. (
  sym (line-full c.args.self.now (memory c.args.run.now c.args.marks.now) c.args.a c.args.b (sym c.if-ends_past.ensures) (sym c.if-is_too_small.ensures.answer) (sym (c.if-are_free.ensures c.args.run.now)) (eq-eqb c.args.self.now.owed 65535 (omega (arith, c.if-self.true)))),
  refl,
  refl,
)

pub returns : goal.returns
returns c = λ x. (
  ap owes c.owe.ensures.slip ∙ sym (line-owed c.args.self.now (memory c.args.run.now c.args.marks.now) c.args.a c.args.b (sym c.if-ends_past.ensures) (sym c.if-is_too_small.ensures.answer) (sym (c.if-are_free.ensures c.args.run.now)) (ne_eqb c.args.self.now.owed 65535 c.if-self.false)),
  ap is_shaped c.owe.ensures.owed,
  refl,
)
