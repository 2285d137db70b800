use Rattle.std.proofs.Common.{◌≡◌, List, map, slice_get, option_map, Some, None, ℕ, sym, ap, ◌∙◌, subst}
use Rattle.std.proofs.lemmas.Option.{slice_get-map}
use Rattle.model.specs.Lookups.{LookupRecord}
use Rattle.candidates.specs.declared.found.Record.{Record}
use Rattle.shaping.specs.Attempts.{Inwards, inputs_of}
use Rattle.candidates.specs.Actions.{record_of}
use Rattle.shaping.proofs.Attempts.{idle-backward, idle-past, runs-forward}
use Rattle.shaping.proofs.shape.Inputs.inner.Goals as goal

-- the record in the code is the definitions'
same-record : (rs : List LookupRecord) (i : ℕ) (q : Record) (r : LookupRecord) → Some q ≡ slice_get (map record_of rs) i → slice_get rs i ≡ Some r → q ≡ record_of r
same-record rs i q r e is = let same : Some q ≡ Some (record_of r) = e ∙ slice_get-map record_of rs i ∙ ap (option_map record_of) is in cc

pub returns-in_err-at : goal.returns-in_err-at
returns-in_err-at g c = λ f fs r room opened is.
    let inputs = inputs_of (g.S.FontSource.means c.args.self.now.source.now) c.args.self.now.table.table.now c.args.self.now.plan.now c.args.self.now.limit room in
    let q = same-record _ c.args.i c.in_ok-record.record r (sym c.in_ok-record.was ∙ c.get.ensures) is in
    let past : None ≡ slice_get f.positions r.index = sym c.in_err-at.was ∙ c.position.ensures.innermost f fs opened ∙ ap (slice_get f.positions) c.from.ensures ∙ ap (λ (x : Record). slice_get f.positions x.index) q in
    subst (Inwards inputs r f) (sym c.from_residual-in_err-at.ensures) (λ depth alternate s. idle-past inputs f r.lookup r.index depth alternate s past)

pub returns-then-is_backward : goal.returns-then-is_backward
returns-then-is_backward g c = λ f fs r room opened is depth alternate s.
    let inputs = inputs_of (g.S.FontSource.means c.args.self.now.source.now) c.args.self.now.table.table.now c.args.self.now.plan.now c.args.self.now.limit room in
    let q = same-record _ c.args.i c.in_ok-record.record r (sym c.in_ok-record.was ∙ c.get.ensures) is in
    let at : Some c.in_ok-at.at ≡ slice_get f.positions r.index = sym c.in_ok-at.was ∙ c.position.ensures.innermost f fs opened ∙ ap (slice_get f.positions) c.from.ensures ∙ ap (λ (x : Record). slice_get f.positions x.index) q in
    let named = c.of-lookup.ensures ∙ ap (λ (x : Record). inputs.table x.lookup) q in
    idle-backward inputs f r.lookup r.index depth alternate s c.in_ok-at.at at (sym (c.if-is_backward.ensures ∙ ap (λ k. k.backward) named))

pub returns : goal.returns
returns g c = λ f fs r room opened is.
    let inputs = inputs_of (g.S.FontSource.means c.args.self.now.source.now) c.args.self.now.table.table.now c.args.self.now.plan.now c.args.self.now.limit room in
    let q = same-record _ c.args.i c.in_ok-record.record r (sym c.in_ok-record.was ∙ c.get.ensures) is in
    let at : Some c.in_ok-at.at ≡ slice_get f.positions r.index = sym c.in_ok-at.was ∙ c.position.ensures.innermost f fs opened ∙ ap (slice_get f.positions) c.from.ensures ∙ ap (λ (x : Record). slice_get f.positions x.index) q in
    let named = c.of-lookup.ensures ∙ ap (λ (x : Record). inputs.table x.lookup) q in
    (named, λ depth alternate s. runs-forward inputs f r.lookup r.index depth alternate s c.in_ok-at.at at (sym (c.if-is_backward.ensures ∙ ap (λ k. k.backward) named)))
