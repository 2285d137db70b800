-- The next glyph that is not passed over, one glyph after the other.
use Rattle.std.proofs.Common.{◌≡◌, ℕ, suc, ◌+◌, ◌-◌, ◌≤◌, Bool, true, false, cond, List, [], ◌∷◌, drop, length, Some, None, Option, refl, sym, ap, ◌∙◌, arith}
use Rattle.std.specs.List.{slice_get}
use Rattle.std.proofs.lemmas.List.{drop_more, drop_all}
use Rattle.std.proofs.lemmas.Option.{slice_get_within, get_or_from_slice_get}
use Rattle.std.proofs.Math.Option.{Option as Perhaps, none, some, map}
use Rattle.model.specs.declared.Glyph.{Glyph}
use Rattle.model.specs.Lookups.{Met, later, seek}
use Rattle.matching.specs.declared.passing.Next.{Next}
use Rattle.matching.specs.Next.{later_by, next_in}

drop-at : (gs : List Glyph) (i : ℕ) (g : Glyph) → slice_get gs i ≡ Some g → drop i gs ≡ g ∷ drop (i + 1) gs
drop-at gs i g e = drop_more gs i g (slice_get_within gs i g e) ∙ ap (λ x. x ∷ drop (i + 1) gs) (get_or_from_slice_get gs i g g e)

later_by-0 : (o : Option Next) → later_by 0 o ≡ o
later_by-0 None = refl
later_by-0 (Some next) = let e : 0 + next.gap ≡ next.gap = omega arith in ap (λ n. Some (record { gap = n; glyph = next.glyph })) e

later_by-more : (n : ℕ) (o : Option Next) → later_by n (later_by 1 o) ≡ later_by (n + 1) o
later_by-more n None = refl
later_by-more n (Some next) = let e : n + (1 + next.gap) ≡ (n + 1) + next.gap = omega arith in ap (λ k. Some (record { gap = k; glyph = next.glyph })) e

module _ (skips : ℕ → Bool) (gs : List Glyph) (from i : ℕ) (le : from ≤ i) where
  abbrev pub Looked : Type 0
  Looked = next_in skips (drop from gs) ≡ later_by (i - from) (next_in skips (drop i gs))

  -- a glyph that is passed over: on to the next
  pub next-on : (g : Glyph) → Looked → slice_get gs i ≡ Some g → skips g.glyph ≡ true → next_in skips (drop from gs) ≡ later_by (i + 1 - from) (next_in skips (drop (i + 1) gs))
  next-on g looked here over =
      let one : (i - from) + 1 ≡ i + 1 - from = omega arith in
      looked ∙ ap (λ l. later_by (i - from) (next_in skips l)) (drop-at gs i g here)
      ∙ ap (λ b. later_by (i - from) (cond b (later_by 1 (next_in skips (drop (i + 1) gs))) (Some (record { gap = 0; glyph = g })))) over
      ∙ later_by-more (i - from) (next_in skips (drop (i + 1) gs)) ∙ ap (λ n. later_by n (next_in skips (drop (i + 1) gs))) one

  -- one that is not: it is the next
  pub next-found : (g : Glyph) → Looked → slice_get gs i ≡ Some g → skips g.glyph ≡ false → next_in skips (drop from gs) ≡ Some (record { gap = i - from; glyph = g })
  next-found g looked here not =
      let z : (i - from) + 0 ≡ i - from = omega arith in
      looked ∙ ap (λ l. later_by (i - from) (next_in skips l)) (drop-at gs i g here)
      ∙ ap (λ b. later_by (i - from) (cond b (later_by 1 (next_in skips (drop (i + 1) gs))) (Some (record { gap = 0; glyph = g })))) not
      ∙ ap (λ n. Some (record { gap = n; glyph = g })) z

  pub next-none : Looked → length gs ≤ i → next_in skips (drop from gs) ≡ None
  next-none looked past = looked ∙ ap (λ l. later_by (i - from) (next_in skips l)) (drop_all i gs past)

pub next-first : (skips : ℕ → Bool) (gs : List Glyph) (from : ℕ) → next_in skips (drop from gs) ≡ later_by (from - from) (next_in skips (drop from gs))
next-first skips gs from =
    let z : 0 ≡ from - from = omega arith in
    sym (later_by-0 (next_in skips (drop from gs))) ∙ ap (λ n. later_by n (next_in skips (drop from gs))) z

-- the search for an entry, and for others behind it: the next glyph meets the entry, or nothing does
abbrev pub met_by : (entry : ℕ → Bool) → (others : List Glyph → Perhaps (List Met)) → List Glyph → Option Next → Perhaps (List Met)
met_by entry others gs None = none
met_by entry others gs (Some next) =
    cond (entry next.glyph.glyph) (map (λ ms. record { gap = next.gap; cluster = next.glyph.cluster } ∷ ms) (others (drop (suc next.gap) gs))) none

later-map : (next : Next) (r : Perhaps (List Met)) → later (map (λ ms. record { gap = next.gap; cluster = next.glyph.cluster } ∷ ms) r) ≡ map (λ ms. record { gap = 1 + next.gap; cluster = next.glyph.cluster } ∷ ms) r
later-map next none = refl
later-map next (some ms) = let e : suc next.gap ≡ 1 + next.gap = omega arith in ap (λ n. some (record { gap = n; cluster = next.glyph.cluster } ∷ ms)) e

later-met : (b : Bool) (next : Next) (r : Perhaps (List Met))
    → later (cond b (map (λ ms. record { gap = next.gap; cluster = next.glyph.cluster } ∷ ms) r) none) ≡ cond b (map (λ ms. record { gap = 1 + next.gap; cluster = next.glyph.cluster } ∷ ms) r) none
later-met true next r = later-map next r
later-met false next r = refl

later-next : (entry : ℕ → Bool) (others : List Glyph → Perhaps (List Met)) (g : Glyph) (gs : List Glyph) (o : Option Next)
    → later (met_by entry others gs o) ≡ met_by entry others (g ∷ gs) (later_by 1 o)
later-next entry others g gs None = refl
later-next entry others g gs (Some next) =
    let e : suc (suc next.gap) ≡ suc (1 + next.gap) = omega arith in
    later-met (entry next.glyph.glyph) next (others (drop (suc next.gap) gs))
    ∙ ap (λ n. cond (entry next.glyph.glyph) (map (λ ms. record { gap = 1 + next.gap; cluster = next.glyph.cluster } ∷ ms) (others (drop n (g ∷ gs)))) none) e

seek-by : (skips entry : ℕ → Bool) (entries : List (ℕ → Bool)) (g : Glyph) (gs : List Glyph) (b : Bool) → seek skips (entry ∷ entries) gs ≡ met_by entry (seek skips entries) gs (next_in skips gs)
    → cond b (later (seek skips (entry ∷ entries) gs)) (cond (entry g.glyph) (map (λ ms. record { gap = 0; cluster = g.cluster } ∷ ms) (seek skips entries gs)) none)
    ≡ met_by entry (seek skips entries) (g ∷ gs) (cond b (later_by 1 (next_in skips gs)) (Some (record { gap = 0; glyph = g })))
seek-by skips entry entries g gs true e = ap later e ∙ later-next entry (seek skips entries) g gs (next_in skips gs)
seek-by skips entry entries g gs false e = refl

pub seek-next : (skips entry : ℕ → Bool) (entries : List (ℕ → Bool)) (gs : List Glyph) → seek skips (entry ∷ entries) gs ≡ met_by entry (seek skips entries) gs (next_in skips gs)
seek-next skips entry entries [] = refl
seek-next skips entry entries (g ∷ gs) = seek-by skips entry entries g gs (skips g.glyph) (seek-next skips entry entries gs)
