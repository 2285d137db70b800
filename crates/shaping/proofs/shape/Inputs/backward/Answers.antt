use Rattle.std.proofs.Common.{◌≡◌, ℕ, zero, suc, ◌-◌, length, Ok, Err, sym, ap, ◌∙◌, subst, arith}
use Rattle.std.proofs.lemmas.Result.{err_from_is_err_and}
use Rattle.candidates.specs.LookupOf.{lookup_of}
use Rattle.editing.specs.Contents.{glyphs_of, open_of, room_of}
use Rattle.gsub.specs.Meaning.{gsub_means}
use Rattle.model.specs.Shaping.{attempt, back_pass}
use Rattle.shaping.specs.Attempts.{Comes, Ready, ending_of, inputs_of}
use Rattle.shaping.specs.Work.{state_of}
use Rattle.shaping.proofs.Works.{lent-on}
use Rattle.shaping.proofs.Passing.{back-on, back-stops, none-open, ready-on}
use Rattle.shaping.proofs.shape.Inputs.backward.Goals as goal

pub loop-i-preserved : goal.loop-i-preserved
loop-i-preserved g c =
    let font = g.S.FontSource.means c.args.self.now.source.now in
    let t = c.args.self.now.table.table.now in
    let room = room_of c.args.work.now.editing in
    let inputs = inputs_of font t c.args.self.now.plan.now c.args.self.now.limit room in
    let s = state_of c.loop-i.work in
    let fs = open_of c.loop-i.work.editing in
    let s' = state_of c.attempt.new.work in
    let fs' = open_of c.attempt.new.work.editing in
    let i = c.loop-i.i - 1 in
    let one : c.loop-i.i ≡ suc i = omega (arith, c.loop-i-test.true) in
    let comes : (l : ℕ) → lookup_of c.args.lookup.now ≡ gsub_means t l → Comes (attempt inputs 6 c.args.alternate l i s) s fs (Ok c.in_ok-attempt.field-0) s' fs' =
    subst (λ r. (l : ℕ) → lookup_of c.args.lookup.now ≡ gsub_means t l → Comes (attempt (inputs_of font t c.args.self.now.plan.now c.args.self.now.limit r) 6 c.args.alternate l i s) s fs (Ok c.in_ok-attempt.field-0) s' fs') c.loop-i.invariant.lent.1 c.in_ok-attempt.ensures.answer in
    record {
      on = λ x v named. back-on inputs x (back_pass inputs x (length (glyphs_of c.args.work.now.editing)) (state_of c.args.work.now)) i s (c.loop-i.invariant.on x v named ∙ ap (λ n. back_pass inputs x n s) one) fs s' fs' c.in_ok-attempt.field-0
          (subst (λ a. Comes (attempt inputs 6 a x.lookup i s) s fs (Ok c.in_ok-attempt.field-0) s' fs') (sym v) (comes x.lookup named));
      idle = (
        none-open (attempt inputs 6 c.args.alternate c.requires.named.0 i s) s s' fs' c.in_ok-attempt.field-0 (subst (λ xs. Comes (attempt inputs 6 c.args.alternate c.requires.named.0 i s) s xs (Ok c.in_ok-attempt.field-0) s' fs') c.loop-i.invariant.idle.0 (comes c.requires.named.0 c.requires.named.1)),
        subst (λ n. Ready n s') (sym c.attempt.ensures.lent.3) (ready-on inputs (length c.loop-i.work.ties.now) 6 c.args.alternate c.requires.named.0 i s c.loop-i.invariant.idle.1 s' fs fs' c.in_ok-attempt.field-0 (comes c.requires.named.0 c.requires.named.1)),
      );
      lent = lent-on c.attempt.new.work c.loop-i.work c.args.work.now c.attempt.ensures.lent c.loop-i.invariant.lent;
    }

pub returns-in_err-attempt-clause-pass : goal.returns-in_err-attempt-clause-pass
returns-in_err-attempt-clause-pass g c = λ x v named.
    let font = g.S.FontSource.means c.args.self.now.source.now in
    let t = c.args.self.now.table.table.now in
    let room = room_of c.args.work.now.editing in
    let inputs = inputs_of font t c.args.self.now.plan.now c.args.self.now.limit room in
    let s = state_of c.loop-i.work in
    let fs = open_of c.loop-i.work.editing in
    let s' = state_of c.attempt.new.work in
    let fs' = open_of c.attempt.new.work.editing in
    let i = c.loop-i.i - 1 in
    let one : c.loop-i.i ≡ suc i = omega (arith, c.loop-i-test.true) in
    let comes : (l : ℕ) → lookup_of c.args.lookup.now ≡ gsub_means t l → Comes (attempt inputs 6 c.args.alternate l i s) s fs (Err c.in_err-attempt.field-0.0) s' fs' =
    subst (λ r. (l : ℕ) → lookup_of c.args.lookup.now ≡ gsub_means t l → Comes (attempt (inputs_of font t c.args.self.now.plan.now c.args.self.now.limit r) 6 c.args.alternate l i s) s fs (Err c.in_err-attempt.field-0.0) s' fs') c.loop-i.invariant.lent.1 c.in_err-attempt.ensures.answer in
    let p = err_from_is_err_and c.from_residual.result c.from_residual.ensures.1 in
    let is : c.from_residual.result ≡ Err c.in_err-attempt.field-0.0 = p.1 ∙ ap Err p.2 in
    ap (λ r. ending_of r s') is
    ∙ sym (back-stops inputs x (back_pass inputs x (length (glyphs_of c.args.work.now.editing)) (state_of c.args.work.now)) i s (c.loop-i.invariant.on x v named ∙ ap (λ n. back_pass inputs x n s) one) fs s' fs' c.in_err-attempt.field-0.0
    (subst (λ a. Comes (attempt inputs 6 a x.lookup i s) s fs (Err c.in_err-attempt.field-0.0) s' fs') (sym v) (comes x.lookup named)))

pub returns-clause-pass : goal.returns-clause-pass
returns-clause-pass g c = λ x v named.
    let inputs = inputs_of (g.S.FontSource.means c.args.self.now.source.now) c.args.self.now.table.table.now c.args.self.now.plan.now c.args.self.now.limit (room_of c.args.work.now.editing) in
    let none : c.loop-i.i ≡ zero = omega (arith, c.loop-i-test.false) in
    sym (c.loop-i.invariant.on x v named ∙ ap (λ n. back_pass inputs x n (state_of c.loop-i.work)) none)
