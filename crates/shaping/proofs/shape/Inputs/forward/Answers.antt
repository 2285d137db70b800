use Rattle.std.proofs.Common.{◌≡◌, ℕ, ◌≤◌, true, length, Some, None, Ok, Err, ltb, sym, ap, ◌∙◌, subst, arith}
use Rattle.std.proofs.lemmas.Bool.{lt-ltb, le-ltb}
use Rattle.std.proofs.lemmas.Result.{err_from_is_err_and}
use Rattle.candidates.specs.LookupOf.{lookup_of}
use Rattle.editing.specs.Contents.{open_of, room_of}
use Rattle.gsub.specs.Meaning.{gsub_means}
use Rattle.model.specs.Shaping.{Pass, attempt}
use Rattle.shaping.specs.Attempts.{Comes, Ready, ending_of, inputs_of}
use Rattle.shaping.specs.Work.{state_of}
use Rattle.shaping.proofs.Works.{lent-on}
use Rattle.shaping.proofs.Passing.{goes-on, left-hit, left-missed, none-open, onward, onward-ends, onward-stops, ready-on, room-kept, stays}
use Rattle.shaping.proofs.shape.Inputs.forward.Goals as goal

pub returns-in_err-end-clause-pass : goal.returns-in_err-end-clause-pass
returns-in_err-end-clause-pass g c = λ x v named.
    let font = g.S.FontSource.means c.args.self.now.source.now in
    let t = c.args.self.now.table.table.now in
    let room = room_of c.args.work.now.editing in
    let inputs = inputs_of font t c.args.self.now.plan.now c.args.self.now.limit room in
    let s = state_of c.loop-i.work in
    let fs = open_of c.loop-i.work.editing in
    let s' = state_of c.attempt.new.work in
    let fs' = open_of c.attempt.new.work.editing in
    let comes : (l : ℕ) → lookup_of c.args.lookup.now ≡ gsub_means t l → Comes (attempt inputs 6 c.args.alternate l c.loop-i.i s) s fs (Err c.in_err-end.field-0.0) s' fs' =
    subst (λ r. (l : ℕ) → lookup_of c.args.lookup.now ≡ gsub_means t l → Comes (attempt (inputs_of font t c.args.self.now.plan.now c.args.self.now.limit r) 6 c.args.alternate l c.loop-i.i s) s fs (Err c.in_err-end.field-0.0) s' fs') c.loop-i.invariant.lent.1 c.in_err-end.ensures.answer in
    let more : ltb c.loop-i.i (length s.run) ≡ true = lt-ltb c.loop-i.i (length s.run) (omega (arith, c.loop-i-test.true, c.len.ensures.len)) in
    let p = err_from_is_err_and c.from_residual.result c.from_residual.ensures.1 in
    let is : c.from_residual.result ≡ Err c.in_err-end.field-0.0 = p.1 ∙ ap Err p.2 in
    subst (λ r. Pass inputs x 0 (state_of c.args.work.now) (ending_of r s')) (sym is)
    (onward-stops inputs x (state_of c.args.work.now) c.loop-i.i s (c.loop-i.invariant.on x v named) more fs s' fs' c.in_err-end.field-0.0 (subst (λ a. Comes (attempt inputs 6 a x.lookup c.loop-i.i s) s fs (Err c.in_err-end.field-0.0) s' fs') (sym v) (comes x.lookup named)))

pub loop-i-smaller-in-Some : goal.loop-i-smaller-in-Some
loop-i-smaller-in-Some g c =
    let font = g.S.FontSource.means c.args.self.now.source.now in
    let t = c.args.self.now.table.table.now in
    let room = room_of c.args.work.now.editing in
    let inputs = inputs_of font t c.args.self.now.plan.now c.args.self.now.limit room in
    let s = state_of c.loop-i.work in
    let fs = open_of c.loop-i.work.editing in
    let s' = state_of c.attempt.new.work in
    let fs' = open_of c.attempt.new.work.editing in
    let comes : (l : ℕ) → lookup_of c.args.lookup.now ≡ gsub_means t l → Comes (attempt inputs 6 c.args.alternate l c.loop-i.i s) s fs (Ok (Some c.in-Some.end)) s' fs' =
    subst (λ r. (l : ℕ) → lookup_of c.args.lookup.now ≡ gsub_means t l → Comes (attempt (inputs_of font t c.args.self.now.plan.now c.args.self.now.limit r) 6 c.args.alternate l c.loop-i.i s) s fs (Ok (Some c.in-Some.end)) s' fs') c.loop-i.invariant.lent.1 (subst (λ w. (l : ℕ) → lookup_of c.args.lookup.now ≡ gsub_means t l → Comes (attempt (inputs_of font t c.args.self.now.plan.now c.args.self.now.limit (room_of c.loop-i.work.editing)) 6 c.args.alternate l c.loop-i.i s) s fs (Ok w) s' fs') c.in-Some.is c.in_ok-end.ensures.answer) in
    let climbs = goes-on inputs 6 c.args.alternate c.requires.named.0 c.loop-i.i s fs s' fs' c.in-Some.end (comes c.requires.named.0 c.requires.named.1) in
    let fits : length s.run ≤ room = subst (λ r. length s.run ≤ r) c.loop-i.invariant.lent.1 (omega (arith, c.len.ensures.len, c.len.ensures.fits)) in
    let kept = room-kept inputs 6 c.args.alternate c.requires.named.0 c.loop-i.i s fs (Some c.in-Some.end) s' fs' (comes c.requires.named.0 c.requires.named.1) fits in
    left-hit c.args.self.now.limit (room_of c.loop-i.work.editing) (room_of c.attempt.new.work.editing) c.loop-i.i c.in-Some.end s s' c.attempt.ensures.lent.1 climbs.0 climbs.1 (subst (λ r. length s'.run ≤ r) (sym c.loop-i.invariant.lent.1) kept)

pub loop-i-preserved-in-Some : goal.loop-i-preserved-in-Some
loop-i-preserved-in-Some g c =
    let font = g.S.FontSource.means c.args.self.now.source.now in
    let t = c.args.self.now.table.table.now in
    let room = room_of c.args.work.now.editing in
    let inputs = inputs_of font t c.args.self.now.plan.now c.args.self.now.limit room in
    let s = state_of c.loop-i.work in
    let fs = open_of c.loop-i.work.editing in
    let s' = state_of c.attempt.new.work in
    let fs' = open_of c.attempt.new.work.editing in
    let comes : (l : ℕ) → lookup_of c.args.lookup.now ≡ gsub_means t l → Comes (attempt inputs 6 c.args.alternate l c.loop-i.i s) s fs (Ok (Some c.in-Some.end)) s' fs' =
    subst (λ r. (l : ℕ) → lookup_of c.args.lookup.now ≡ gsub_means t l → Comes (attempt (inputs_of font t c.args.self.now.plan.now c.args.self.now.limit r) 6 c.args.alternate l c.loop-i.i s) s fs (Ok (Some c.in-Some.end)) s' fs') c.loop-i.invariant.lent.1 (subst (λ w. (l : ℕ) → lookup_of c.args.lookup.now ≡ gsub_means t l → Comes (attempt (inputs_of font t c.args.self.now.plan.now c.args.self.now.limit (room_of c.loop-i.work.editing)) 6 c.args.alternate l c.loop-i.i s) s fs (Ok w) s' fs') c.in-Some.is c.in_ok-end.ensures.answer) in
    let more : ltb c.loop-i.i (length s.run) ≡ true = lt-ltb c.loop-i.i (length s.run) (omega (arith, c.loop-i-test.true, c.len.ensures.len)) in
    record {
      on = λ x v named. onward inputs x (state_of c.args.work.now) c.loop-i.i s (c.loop-i.invariant.on x v named) more fs s' fs' (Some c.in-Some.end) (subst (λ a. Comes (attempt inputs 6 a x.lookup c.loop-i.i s) s fs (Ok (Some c.in-Some.end)) s' fs') (sym v) (comes x.lookup named));
      idle = (
        none-open (attempt inputs 6 c.args.alternate c.requires.named.0 c.loop-i.i s) s s' fs' (Some c.in-Some.end) (subst (λ xs. Comes (attempt inputs 6 c.args.alternate c.requires.named.0 c.loop-i.i s) s xs (Ok (Some c.in-Some.end)) s' fs') c.loop-i.invariant.idle.0 (comes c.requires.named.0 c.requires.named.1)),
        subst (λ n. Ready n s') (sym c.attempt.ensures.lent.3) (ready-on inputs (length c.loop-i.work.ties.now) 6 c.args.alternate c.requires.named.0 c.loop-i.i s c.loop-i.invariant.idle.1 s' fs fs' (Some c.in-Some.end) (comes c.requires.named.0 c.requires.named.1)),
      );
      lent = lent-on c.attempt.new.work c.loop-i.work c.args.work.now c.attempt.ensures.lent c.loop-i.invariant.lent;
    }

pub loop-i-smaller : goal.loop-i-smaller
loop-i-smaller g c =
    let font = g.S.FontSource.means c.args.self.now.source.now in
    let t = c.args.self.now.table.table.now in
    let room = room_of c.args.work.now.editing in
    let inputs = inputs_of font t c.args.self.now.plan.now c.args.self.now.limit room in
    let s = state_of c.loop-i.work in
    let fs = open_of c.loop-i.work.editing in
    let s' = state_of c.attempt.new.work in
    let fs' = open_of c.attempt.new.work.editing in
    let comes : (l : ℕ) → lookup_of c.args.lookup.now ≡ gsub_means t l → Comes (attempt inputs 6 c.args.alternate l c.loop-i.i s) s fs (Ok None) s' fs' =
    subst (λ r. (l : ℕ) → lookup_of c.args.lookup.now ≡ gsub_means t l → Comes (attempt (inputs_of font t c.args.self.now.plan.now c.args.self.now.limit r) 6 c.args.alternate l c.loop-i.i s) s fs (Ok None) s' fs') c.loop-i.invariant.lent.1 (subst (λ w. (l : ℕ) → lookup_of c.args.lookup.now ≡ gsub_means t l → Comes (attempt (inputs_of font t c.args.self.now.plan.now c.args.self.now.limit (room_of c.loop-i.work.editing)) 6 c.args.alternate l c.loop-i.i s) s fs (Ok w) s' fs') c.in-None.is c.in_ok-end.ensures.answer) in
    left-missed c.args.self.now.limit (room_of c.loop-i.work.editing) (room_of c.attempt.new.work.editing) c.loop-i.i s s' (stays (attempt inputs 6 c.args.alternate c.requires.named.0 c.loop-i.i s) s fs s' fs' (comes c.requires.named.0 c.requires.named.1)) c.attempt.ensures.lent.1 (omega (arith, c.loop-i-test.true, c.len.ensures.len))

pub loop-i-preserved : goal.loop-i-preserved
loop-i-preserved g c =
    let font = g.S.FontSource.means c.args.self.now.source.now in
    let t = c.args.self.now.table.table.now in
    let room = room_of c.args.work.now.editing in
    let inputs = inputs_of font t c.args.self.now.plan.now c.args.self.now.limit room in
    let s = state_of c.loop-i.work in
    let fs = open_of c.loop-i.work.editing in
    let s' = state_of c.attempt.new.work in
    let fs' = open_of c.attempt.new.work.editing in
    let comes : (l : ℕ) → lookup_of c.args.lookup.now ≡ gsub_means t l → Comes (attempt inputs 6 c.args.alternate l c.loop-i.i s) s fs (Ok None) s' fs' =
    subst (λ r. (l : ℕ) → lookup_of c.args.lookup.now ≡ gsub_means t l → Comes (attempt (inputs_of font t c.args.self.now.plan.now c.args.self.now.limit r) 6 c.args.alternate l c.loop-i.i s) s fs (Ok None) s' fs') c.loop-i.invariant.lent.1 (subst (λ w. (l : ℕ) → lookup_of c.args.lookup.now ≡ gsub_means t l → Comes (attempt (inputs_of font t c.args.self.now.plan.now c.args.self.now.limit (room_of c.loop-i.work.editing)) 6 c.args.alternate l c.loop-i.i s) s fs (Ok w) s' fs') c.in-None.is c.in_ok-end.ensures.answer) in
    let more : ltb c.loop-i.i (length s.run) ≡ true = lt-ltb c.loop-i.i (length s.run) (omega (arith, c.loop-i-test.true, c.len.ensures.len)) in
    record {
      on = λ x v named. onward inputs x (state_of c.args.work.now) c.loop-i.i s (c.loop-i.invariant.on x v named) more fs s' fs' None (subst (λ a. Comes (attempt inputs 6 a x.lookup c.loop-i.i s) s fs (Ok None) s' fs') (sym v) (comes x.lookup named));
      idle = (
        none-open (attempt inputs 6 c.args.alternate c.requires.named.0 c.loop-i.i s) s s' fs' None (subst (λ xs. Comes (attempt inputs 6 c.args.alternate c.requires.named.0 c.loop-i.i s) s xs (Ok None) s' fs') c.loop-i.invariant.idle.0 (comes c.requires.named.0 c.requires.named.1)),
        subst (λ n. Ready n s') (sym c.attempt.ensures.lent.3) (ready-on inputs (length c.loop-i.work.ties.now) 6 c.args.alternate c.requires.named.0 c.loop-i.i s c.loop-i.invariant.idle.1 s' fs fs' None (comes c.requires.named.0 c.requires.named.1)),
      );
      lent = lent-on c.attempt.new.work c.loop-i.work c.args.work.now c.attempt.ensures.lent c.loop-i.invariant.lent;
    }

pub returns-clause-pass : goal.returns-clause-pass
returns-clause-pass g c = λ x v named.
    let room = room_of c.args.work.now.editing in
    let inputs = inputs_of (g.S.FontSource.means c.args.self.now.source.now) c.args.self.now.table.table.now c.args.self.now.plan.now c.args.self.now.limit room in
    let s = state_of c.loop-i.work in
    onward-ends inputs x (state_of c.args.work.now) c.loop-i.i s (c.loop-i.invariant.on x v named) (le-ltb c.loop-i.i (length s.run) (omega (arith, c.loop-i-test.false, c.len.ensures.len)))
