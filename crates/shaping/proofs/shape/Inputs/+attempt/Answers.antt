use Rattle.std.proofs.Common.{◌≡◌, ◌+◌, ◌-◌, ◌≤◌, ◌<◌, [], ◌∷◌, ℕ, length, map, take, Some, Ok, Err, refl, sym, ap, ◌∙◌, subst, arith}
use Rattle.std.proofs.lemmas.List.{length-map}
use Rattle.std.proofs.lemmas.Result.{err_from_is_err_and}
use Rattle.model.specs.Edits.{edits, frame_at, told}
use Rattle.model.specs.Shaping.{attempt}
use Rattle.model.proofs.Chain.{inner}
use Rattle.editing.specs.Contents.{open_of, room_of}
use Rattle.candidates.specs.Actions.{action_of, records_of}
use Rattle.candidates.specs.LookupOf.{lookup_of}
use Rattle.candidates.specs.declared.found.Action.{Action}
use Rattle.candidates.specs.declared.found.Action.TheVariants.{Put, Join, Nest}
use Rattle.candidates.specs.declared.found.Records.{Records}
use Rattle.ties.specs.Ties.{tied_in}
use Rattle.shaping.specs.Attempts.{Comes, Ready, inputs_of, match_at}
use Rattle.shaping.specs.declared.work.Work.{Work}
use Rattle.shaping.specs.Work.{Lent, state_of}
use Rattle.shaping.proofs.Works.{lent-on}
use Rattle.shaping.proofs.Attempts.{Quiet, Ran, ran-first}
use Rattle.shaping.proofs.Depth.{chose-nested, chose-nested-stopped, chose-none, chose-quiet, chose-stopped, found-inside, hi-below, record-idle, record-ran, record-ready, record-stopped, took-ready}
use Rattle.shaping.proofs.shape.Inputs.+attempt.Goals as goal
use Rattle.shaping.proofs.shape.Inputs.+attempt.Goals.{in-Some-inner+in_ok-attempt, in_default-inner, in-Nest+else-loop-i-test, in_default-action}

-- an action in the code that is not to run records
quiet-by : (x : Action) → ((rs : Records) → x ≡ Nest rs → ⊥) → Quiet (action_of x)
quiet-by (Put gs) h = tt
quiet-by (Join n) h = tt
quiet-by (Nest rs) h = h rs refl

pub returns-in_default-clause-answer : goal.returns-in_default-clause-answer
returns-in_default-clause-answer g t c = λ l named.
    let inputs = inputs_of (g.S.FontSource.means c.args.self.now.source.now) c.args.self.now.table.table.now c.args.self.now.plan.now c.args.self.now.limit (room_of c.args.work.now.editing) in
    chose-none inputs (lookup_of c.args.lookup.now) c.args.alternate l c.args.p (state_of c.args.work.now) named c.args.depth (open_of c.args.work.now.editing) (λ here. c.in_default.ensures.chosen here)

pub strike-requires-clause-far : goal.strike-requires-clause-far
strike-requires-clause-far g t c =
    let s = state_of c.args.work.now in
    let k = lookup_of c.args.lookup.now in
    let found = c.in-Some.found in
    let m = match_at s.run c.args.p (take found.inputs c.choose.new.met) found in
    hi-below (record { font = g.S.FontSource.means c.args.self.now.source.now; table = λ n. k; plan = []; limit = 0; room = 0 }) k c.args.alternate 0 c.args.p s refl
    (found-inside (length s.run) c.args.p c.choose.result found c.in-Some.is c.choose.ensures.past) m (λ here. c.in-Some.ensures.chosen here) [] (length c.args.work.now.ties.now) c.requires.ready

pub returns-in_err-strike-clause-answer : goal.returns-in_err-strike-clause-answer
returns-in_err-strike-clause-answer g t c = λ l named.
    let inputs = inputs_of (g.S.FontSource.means c.args.self.now.source.now) c.args.self.now.table.table.now c.args.self.now.plan.now c.args.self.now.limit (room_of c.args.work.now.editing) in
    let s = state_of c.args.work.now in
    let fs = open_of c.args.work.now.editing in
    let found = c.in-Some.found in
    let m = match_at s.run c.args.p (take found.inputs c.choose.new.met) found in
    let here = found-inside (length s.run) c.args.p c.choose.result found c.in-Some.is c.choose.ensures.past in
    let p = err_from_is_err_and c.from_residual.result c.from_residual.ensures.1 in
    let is : c.from_residual.result ≡ Err c.in_err-strike.field-0.0 = p.1 ∙ ap Err p.2 in
    subst (λ r. Comes (attempt inputs c.args.depth c.args.alternate l c.args.p s) s fs r (state_of c.strike.new.work) (open_of c.strike.new.work.editing)) (sym is)
    (chose-stopped inputs (lookup_of c.args.lookup.now) c.args.alternate l c.args.p s named here m (λ h. c.in-Some.ensures.chosen h) fs c.args.depth c.if-depth-eq0.false c.in_err-strike.field-0.0 (state_of c.strike.new.work) (open_of c.strike.new.work.editing) c.in_err-strike.ensures.took)

pub loop-i-init : goal.loop-i-init
loop-i-init g t c =
    let inputs = inputs_of (g.S.FontSource.means c.args.self.now.source.now) c.args.self.now.table.table.now c.args.self.now.plan.now c.args.self.now.limit (room_of c.args.work.now.editing) in
    let s = state_of c.args.work.now in
    let fs = open_of c.args.work.now.editing in
    let s₁ = state_of c.strike.new.work in
    let k = lookup_of c.args.lookup.now in
    let found = c.in-Some.found in
    let m = match_at s.run c.args.p (take found.inputs c.choose.new.met) found in
    let here = found-inside (length s.run) c.args.p c.choose.result found c.in-Some.is c.choose.ensures.past in
    let took = c.in_ok-strike.ensures.took in
    let lent = c.in_ok-strike.ensures.lent in
    let deep = ap length took.3 ∙ length-map (frame_at c.args.p m.others ∷ fs) (told (edits m.action m.others c.args.p)) in
    record {
      ran = λ f₀ fs₀ opened.
          subst (Ran (inner inputs (attempt inputs (c.args.depth - 1) c.args.alternate)) (records_of c.in-Nest.records) f₀ s₁ fs₀ 0 s₁) (sym opened)
          (ran-first (inner inputs (attempt inputs (c.args.depth - 1) c.args.alternate)) (records_of c.in-Nest.records) f₀ s₁ fs₀);
      ready = subst (λ n. Ready n s₁) (sym lent.3) (took-ready inputs k c.args.alternate c.args.p s m here (c.in-Some.ensures.chosen here) fs _ s₁ (open_of c.strike.new.work.editing) took (length c.args.work.now.ties.now) c.requires.ready);
      lent = lent;
      deep = omega (arith, deep, c.requires.open, c.if-depth-eq0.false);
    }

pub returns-in_err-attempt-clause-answer : goal.returns-in_err-attempt-clause-answer
returns-in_err-attempt-clause-answer g t c = λ l named.
    let font = g.S.FontSource.means c.args.self.now.source.now in
    let room = room_of c.args.work.now.editing in
    let inputs = inputs_of font c.args.self.now.table.table.now c.args.self.now.plan.now c.args.self.now.limit room in
    let s = state_of c.args.work.now in
    let fs = open_of c.args.work.now.editing in
    let s₁ = state_of c.strike.new.work in
    let k = lookup_of c.args.lookup.now in
    let found = c.in-Some.found in
    let m = match_at s.run c.args.p (take found.inputs c.choose.new.met) found in
    let here = found-inside (length s.run) c.args.p c.choose.result found c.in-Some.is c.choose.ensures.past in
    let took = c.in_ok-strike.ensures.took in
    let f₀ = told (edits m.action m.others c.args.p) (frame_at c.args.p m.others) in
    let fs₀ = map (told (edits m.action m.others c.args.p)) fs in
    let rs = records_of c.in-Nest.records in
    let s₂ = state_of c.loop-i.work in
    let fs₂ = open_of c.loop-i.work.editing in
    let s₃ = state_of c.attempt.new.work in
    let fs₃ = open_of c.attempt.new.work.editing in
    let x = c.in-Some-inner.inner in
    let stop = c.in_err-attempt.field-0.0 in
    let p = err_from_is_err_and c.from_residual-in_err-attempt.result c.from_residual-in_err-attempt.ensures.1 in
    let is : c.from_residual-in_err-attempt.result ≡ Err stop = p.1 ∙ ap Err p.2 in
    let inside : (n : ℕ) → lookup_of x.lookup ≡ inputs.table n → Comes (attempt inputs (c.args.depth - 1) c.args.alternate n x.at s₂) s₂ fs₂ (Err stop) s₃ fs₃ =
    subst (λ r. (n : ℕ) → lookup_of x.lookup ≡ inputs.table n → Comes (attempt (inputs_of font c.args.self.now.table.table.now c.args.self.now.plan.now c.args.self.now.limit r) (c.args.depth - 1) c.args.alternate n x.at s₂) s₂ fs₂ (Err stop) s₃ fs₃)
    c.loop-i.invariant.lent.1 c.in_err-attempt.ensures.answer in
    let stopped = record-stopped inputs (c.args.depth - 1) c.args.alternate rs f₀ s₁ fs₀ c.loop-i.i s₂ fs₂ (c.loop-i.invariant.ran f₀ fs₀ took.3) (omega (arith, c.loop-i-test.true, c.len-i-end.ensures))
    x (λ f gs q e h. c.in-Some-inner.ensures f gs q room e h) s₃ fs₃ stop inside in
    subst (λ r. Comes (attempt inputs c.args.depth c.args.alternate l c.args.p s) s fs r s₃ fs₃) (sym is)
    (chose-nested-stopped inputs k c.args.alternate l c.args.p s named here m (λ h. c.in-Some.ensures.chosen h) fs c.args.depth c.if-depth-eq0.false c.in_ok-strike.field-0 s₁ (open_of c.strike.new.work.editing) took rs (ap action_of c.in-Nest.is) stop s₃ fs₃ stopped)

pub loop-i-preserved : goal.loop-i-preserved
loop-i-preserved g t c =
    let font = g.S.FontSource.means c.args.self.now.source.now in
    let room = room_of c.args.work.now.editing in
    let inputs = inputs_of font c.args.self.now.table.table.now c.args.self.now.plan.now c.args.self.now.limit room in
    let s = state_of c.args.work.now in
    let fs = open_of c.args.work.now.editing in
    let s₁ = state_of c.strike.new.work in
    let k = lookup_of c.args.lookup.now in
    let found = c.in-Some.found in
    let m = match_at s.run c.args.p (take found.inputs c.choose.new.met) found in
    let here = found-inside (length s.run) c.args.p c.choose.result found c.in-Some.is c.choose.ensures.past in
    let took = c.in_ok-strike.ensures.took in
    let f₀ = told (edits m.action m.others c.args.p) (frame_at c.args.p m.others) in
    let fs₀ = map (told (edits m.action m.others c.args.p)) fs in
    let rs = records_of c.in-Nest.records in
    let d = c.args.depth - 1 in
    let try = inner inputs (attempt inputs d c.args.alternate) in
    let s₂ = state_of c.loop-i.work in
    let fs₂ = open_of c.loop-i.work.editing in
    let more : c.loop-i.i < length rs = omega (arith, c.loop-i-test.true, c.len-i-end.ensures) in
    let so_far = c.loop-i.invariant in
    record {
      ran = λ f fs' opened. elim c.match-inner.branch [
        | in-Some-inner+in_ok-attempt w ↦
            subst (λ (v : Work). Ran try rs f s₁ fs' (c.loop-i.i + 1) (state_of v) (open_of v.editing)) (sym w.work-is)
            (record-ran inputs d c.args.alternate rs f s₁ fs' c.loop-i.i s₂ fs₂ (so_far.ran f fs' opened) more w.in-Some-inner.inner (λ h gs q e i. w.in-Some-inner.ensures h gs q room e i)
            (state_of w.attempt.new.work) (open_of w.attempt.new.work.editing) w.in_ok-attempt.field-0
            (subst (λ r. (n : ℕ) → lookup_of w.in-Some-inner.inner.lookup ≡ inputs.table n → Comes (attempt (inputs_of font c.args.self.now.table.table.now c.args.self.now.plan.now c.args.self.now.limit r) d c.args.alternate n w.in-Some-inner.inner.at s₂) s₂ fs₂ (Ok w.in_ok-attempt.field-0) (state_of w.attempt.new.work) (open_of w.attempt.new.work.editing))
            so_far.lent.1 w.in_ok-attempt.ensures.answer))
        | in_default-inner w ↦
            subst (λ (v : Work). Ran try rs f s₁ fs' (c.loop-i.i + 1) (state_of v) (open_of v.editing)) (sym w.work-is)
            (record-idle inputs d c.args.alternate rs f s₁ fs' c.loop-i.i s₂ fs₂ (so_far.ran f fs' opened) more (λ h gs q e i. w.in_default-inner.ensures h gs q room e i))
      ];
      ready = elim c.match-inner.branch [
        | in-Some-inner+in_ok-attempt w ↦
            subst (λ (v : Work). Ready (length v.ties.now) (state_of v)) (sym w.work-is)
            (subst (λ n. Ready n (state_of w.attempt.new.work)) (sym w.in_ok-attempt.ensures.lent.3)
            (record-ready inputs d c.args.alternate rs f₀ s₁ fs₀ c.loop-i.i s₂ fs₂ (so_far.ran f₀ fs₀ took.3) more w.in-Some-inner.inner (λ h gs q e i. w.in-Some-inner.ensures h gs q room e i)
            (state_of w.attempt.new.work) (open_of w.attempt.new.work.editing) (length c.loop-i.work.ties.now) so_far.ready w.in_ok-attempt.field-0
            (subst (λ r. (n : ℕ) → lookup_of w.in-Some-inner.inner.lookup ≡ inputs.table n → Comes (attempt (inputs_of font c.args.self.now.table.table.now c.args.self.now.plan.now c.args.self.now.limit r) d c.args.alternate n w.in-Some-inner.inner.at s₂) s₂ fs₂ (Ok w.in_ok-attempt.field-0) (state_of w.attempt.new.work) (open_of w.attempt.new.work.editing))
            so_far.lent.1 w.in_ok-attempt.ensures.answer)).0)
        | in_default-inner w ↦ subst (λ (v : Work). Ready (length v.ties.now) (state_of v)) (sym w.work-is) so_far.ready
      ];
      lent = elim c.match-inner.branch [
        | in-Some-inner+in_ok-attempt w ↦ subst (λ (v : Work). Lent v c.args.work.now) (sym w.work-is) (lent-on w.attempt.new.work c.loop-i.work c.args.work.now w.in_ok-attempt.ensures.lent so_far.lent)
        | in_default-inner w ↦ subst (λ (v : Work). Lent v c.args.work.now) (sym w.work-is) so_far.lent
      ];
      deep = elim c.match-inner.branch [
        | in-Some-inner+in_ok-attempt w ↦
            subst (λ (v : Work). length (open_of v.editing) + d ≤ 6) (sym w.work-is)
            (omega (
              arith,
              so_far.deep,
              (record-ready inputs d c.args.alternate rs f₀ s₁ fs₀ c.loop-i.i s₂ fs₂ (so_far.ran f₀ fs₀ took.3) more w.in-Some-inner.inner (λ h gs q e i. w.in-Some-inner.ensures h gs q room e i)
                  (state_of w.attempt.new.work) (open_of w.attempt.new.work.editing) (length c.loop-i.work.ties.now) so_far.ready w.in_ok-attempt.field-0
                  (subst (λ r. (n : ℕ) → lookup_of w.in-Some-inner.inner.lookup ≡ inputs.table n → Comes (attempt (inputs_of font c.args.self.now.table.table.now c.args.self.now.plan.now c.args.self.now.limit r) d c.args.alternate n w.in-Some-inner.inner.at s₂) s₂ fs₂ (Ok w.in_ok-attempt.field-0) (state_of w.attempt.new.work) (open_of w.attempt.new.work.editing))
                  so_far.lent.1 w.in_ok-attempt.ensures.answer)).1,
            ))
        | in_default-inner w ↦ subst (λ (v : Work). length (open_of v.editing) + d ≤ 6) (sym w.work-is) so_far.deep
      ];
    }

pub returns-clause-answer : goal.returns-clause-answer
returns-clause-answer g t c = λ l named.
    let font = g.S.FontSource.means c.args.self.now.source.now in
    let room = room_of c.args.work.now.editing in
    let inputs = inputs_of font c.args.self.now.table.table.now c.args.self.now.plan.now c.args.self.now.limit room in
    let s = state_of c.args.work.now in
    let fs = open_of c.args.work.now.editing in
    let s₁ = state_of c.strike.new.work in
    let k = lookup_of c.args.lookup.now in
    let found = c.in-Some.found in
    let m = match_at s.run c.args.p (take found.inputs c.choose.new.met) found in
    let here = found-inside (length s.run) c.args.p c.choose.result found c.in-Some.is c.choose.ensures.past in
    let took = c.in_ok-strike.ensures.took in
    let f₀ = told (edits m.action m.others c.args.p) (frame_at c.args.p m.others) in
    let fs₀ = map (told (edits m.action m.others c.args.p)) fs in
    let d = c.args.depth - 1 in
    let v = c.match-found.work in
    let e = c.close_match.result in
    let fs' = open_of c.close_match.new.self in
    let closed : state_of (record { editing = c.close_match.new.self; ties = v.ties; hits = v.hits }) ≡ state_of v =
    λ i. record { run = c.close_match.ensures.glyphs i; tied = tied_in v.ties.now; hits = v.hits } in
    subst (λ q. Comes (attempt inputs c.args.depth c.args.alternate l c.args.p s) s fs (Ok (Some e)) q fs') (sym closed)
    (elim c.match-found.branch [
      | in-Nest+else-loop-i-test w ↦
          subst (λ (q : Work). Comes (attempt inputs c.args.depth c.args.alternate l c.args.p s) s fs (Ok (Some e)) (state_of q) fs') (sym w.work-is)
          (chose-nested inputs k c.args.alternate l c.args.p s named here m (λ h. c.in-Some.ensures.chosen h) fs c.args.depth c.if-depth-eq0.false c.in_ok-strike.field-0 s₁ (open_of c.strike.new.work.editing) took (records_of w.in-Nest.records) (ap action_of w.in-Nest.is)
          w.loop-i.i (state_of w.loop-i.work) (open_of w.loop-i.work.editing) e fs' (omega (arith, w.loop-i-test.false, w.len-i-end.ensures)) (w.loop-i.invariant.ran f₀ fs₀ took.3)
          (λ f gs o. c.close_match.ensures.closed f gs (ap (λ (q : Work). open_of q.editing) w.work-is ∙ o)))
      | in_default-action w ↦
          subst (λ (q : Work). Comes (attempt inputs c.args.depth c.args.alternate l c.args.p s) s fs (Ok (Some e)) (state_of q) fs') (sym w.work-is)
          (chose-quiet inputs k c.args.alternate l c.args.p s named here m (λ h. c.in-Some.ensures.chosen h) fs c.args.depth c.if-depth-eq0.false c.in_ok-strike.field-0 s₁ (open_of c.strike.new.work.editing) took
          (quiet-by found.action w.in_default-action.not-Nest) e fs' (c.close_match.ensures.closed f₀ fs₀ (ap (λ (q : Work). open_of q.editing) w.work-is ∙ took.3)))
    ])
