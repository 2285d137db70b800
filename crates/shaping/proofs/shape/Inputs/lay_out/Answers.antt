use Rattle.std.proofs.Common.{rules, ◌≡◌, ◌-◌, ◌++◌, length, drop, replicate, refl, sym, ap, ◌∙◌, subst, arith}
use Rattle.std.proofs.lemmas.List.{drop-replicate, length-replicate, length-take-le}
use Rattle.model.specs.Shaping.{Shapes, shaped}
use Rattle.run.specs.Contents.{glyphs_of}
use Rattle.run.specs.Runs.{blank}
use Rattle.shaping.specs.Attempts.{inputs_of}
use Rattle.shaping.proofs.Firsts.{via}
use Rattle.shaping.proofs.shape.Inputs.lay_out.Goals as goal

pub returns-clause-shaped : goal.returns-clause-shaped
returns-clause-shaped g c =
    let run = glyphs_of c.fill-hits.new.run in
    let marks = c.fill-hits.new.marks in
    let text = c.args.text.now in
    let clear = length c.args.marks.now in
    let zeros : length c.clear_ties.new.marks ≡ clear = ap length c.clear_ties.ensures ∙ length-replicate clear 0 in
    let long : length marks ≡ length text = c.fill-hits.ensures.len ∙ length-take-le (length text) c.clear_ties.new.marks (omega (arith, zeros, c.requires.marked)) in (
      record { run = run; marks = marks; hits = c.in_ok-hits.hits },
      subst (λ room. Shapes (inputs_of (g.S.FontSource.means c.args.self.now.source.now) c.args.self.now.table.table.now c.args.self.now.plan.now c.args.self.now.limit room) text (shaped (record { run = run; marks = marks; hits = c.in_ok-hits.hits }))) c.new-first.ensures.room c.in_ok-hits.ensures.outcome,
      c.len-glyphs.ensures.len,
      refl,
      via c.close.new.self.0 (search rules) (c.close.ensures.memory ∙ ap (λ n. run ++ replicate (n - length run) blank) (c.fill-hits.ensures.room ∙ c.new-first.ensures.room)),
      ap (λ l. marks ++ l) (ap (drop (length text)) c.clear_ties.ensures ∙ drop-replicate (length text) clear 0 ∙ ap (λ n. replicate (clear - n) 0) (sym long)),
    )
