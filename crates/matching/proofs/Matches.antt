-- A search for two lists of entries, one behind the other, and a pattern around a position.
use Rattle.std.proofs.Common.{◌≡◌, ℕ, suc, ◌+◌, Bool, true, false, cond, List, [], ◌∷◌, ◌++◌, length, take, drop, reverse, Some, None, Option, refl, sym, ap, ap₂, ◌∙◌, subst, arith}
use Rattle.std.proofs.lemmas.List.{drop-drop, take_at}
use Rattle.std.proofs.Math.Seq.{take-append_seam}
use Rattle.std.proofs.Math.Option.{Option as Perhaps, none, some, map}
use Rattle.model.specs.declared.Glyph.{Glyph}
use Rattle.model.specs.Lookups.{Action, Candidate, Match, Met, Pattern, far, matched, seek}
use Rattle.matching.specs.declared.passing.Next.{Next}
use Rattle.matching.specs.declared.pattern.Span.{Span}
use Rattle.matching.specs.declared.seek.Reached.{Reached}
use Rattle.matching.specs.Next.{next_in}
use Rattle.std.specs.List.{slice_get}
use Rattle.std.proofs.lemmas.Option.{get_or_from_slice_get}
use Rattle.matching.specs.Match.{matched_at, spanned}
use Rattle.matching.specs.Seek.{Outward, ends, glyph_at, mets_at, reached_by}
use Rattle.matching.proofs.Nexts.{met_by, seek-next}
use Rattle.matching.proofs.Seeks.{behind, behind-none}

ends-shift : (i j : ℕ) (ms : List Met) → ends (i + j) ms ≡ i + ends j ms
ends-shift i j [] = refl
ends-shift i j (m ∷ ms) =
    let e : i + j + m.gap + 1 ≡ i + (j + m.gap + 1) = omega arith in
    ap (λ n. ends n ms) e ∙ ends-shift i (j + m.gap + 1) ms

far-append : (own : ℕ) (ms ns : List Met) → far own (ms ++ ns) ≡ far (far own ms) ns
far-append own [] ns = refl
far-append own (m ∷ ms) ns = far-append m.cluster ms ns

map-behind : (m : Met) (ms : List Met) (r : Perhaps (List Met)) → map (λ xs. m ∷ xs) (behind ms r) ≡ behind (m ∷ ms) r
map-behind m ms none = refl
map-behind m ms (some ns) = refl

module _ (skips : ℕ → Bool) (bs : List (ℕ → Bool)) where
  -- the search that goes on where another ended
  abbrev pub followed : List Glyph → Perhaps (List Met) → Perhaps (List Met)
  followed gs none = none
  followed gs (some ms) = behind ms (seek skips bs (drop (ends 0 ms) gs))

  follow-map : (gs : List Glyph) (m : Met) (r : Perhaps (List Met)) → map (λ xs. m ∷ xs) (followed (drop (suc m.gap) gs) r) ≡ followed gs (map (λ xs. m ∷ xs) r)
  follow-map gs m none = refl
  follow-map gs m (some ms) =
      let first : 0 + m.gap + 1 ≡ suc m.gap + 0 = omega arith in
      map-behind m ms (seek skips bs (drop (ends 0 ms) (drop (suc m.gap) gs)))
      ∙ ap (λ l. behind (m ∷ ms) (seek skips bs l)) (drop-drop (ends 0 ms) (suc m.gap) gs ∙ ap (λ n. drop n gs) (sym (ends-shift (suc m.gap) 0 ms) ∙ ap (λ n. ends n ms) (sym first)))

  follow-cond : (gs : List Glyph) (m : Met) (b : Bool) (whole part : Perhaps (List Met)) → whole ≡ followed (drop (suc m.gap) gs) part
      → cond b (map (λ xs. m ∷ xs) whole) none ≡ followed gs (cond b (map (λ xs. m ∷ xs) part) none)
  follow-cond gs m true whole part e = ap (map (λ xs. m ∷ xs)) e ∙ follow-map gs m part
  follow-cond gs m false whole part e = refl

  follow-met : (entry : ℕ → Bool) (fs : List (ℕ → Bool)) (gs : List Glyph) (o : Option Next) → ((l : List Glyph) → seek skips (fs ++ bs) l ≡ followed l (seek skips fs l))
      → met_by entry (seek skips (fs ++ bs)) gs o ≡ followed gs (met_by entry (seek skips fs) gs o)
  follow-met entry fs gs None ih = refl
  follow-met entry fs gs (Some next) ih =
      let m : Met = record { gap = next.gap; cluster = next.glyph.cluster } in
      follow-cond gs m (entry next.glyph.glyph) (seek skips (fs ++ bs) (drop (suc next.gap) gs)) (seek skips fs (drop (suc next.gap) gs)) (ih (drop (suc next.gap) gs))

  pub seek-append : (fs : List (ℕ → Bool)) (gs : List Glyph) → seek skips (fs ++ bs) gs ≡ followed gs (seek skips fs gs)
  seek-append [] gs = sym (behind-none (seek skips bs gs))
  seek-append (a ∷ fs) gs =
      seek-next skips a (fs ++ bs) gs ∙ follow-met a fs gs (next_in skips gs) (seek-append fs) ∙ ap (followed gs) (sym (seek-next skips a fs gs))

-- as many glyphs are met as there are entries
abbrev Long : ℕ → Perhaps (List Met) → Type 0
Long n none = Unit {0}
Long n (some ms) = length ms ≡ n

long-map : (m : Met) (n : ℕ) (b : Bool) (o : Perhaps (List Met)) → Long n o → Long (suc n) (cond b (map (λ ms. m ∷ ms) o) none)
long-map m n true none h = tt
long-map m n true (some ms) h = ap suc h
long-map m n false o h = tt

long-met : (n : ℕ) (entry : ℕ → Bool) (others : List Glyph → Perhaps (List Met)) (gs : List Glyph) (o : Option Next) → ((l : List Glyph) → Long n (others l)) → Long (suc n) (met_by entry others gs o)
long-met n entry others gs None h = tt
long-met n entry others gs (Some next) h =
    long-map (record { gap = next.gap; cluster = next.glyph.cluster }) n (entry next.glyph.glyph) (others (drop (suc next.gap) gs)) (h (drop (suc next.gap) gs))

seek-long : (skips : ℕ → Bool) (ts : List (ℕ → Bool)) (gs : List Glyph) → Long (length ts) (seek skips ts gs)
seek-long skips [] gs = refl
seek-long skips (t ∷ ts) gs = subst (Long (suc (length ts))) (sym (seek-next skips t ts gs)) (long-met (length ts) t (seek skips ts) gs (next_in skips gs) (seek-long skips ts))

-- where further entries are met too, the first are met by the first of the glyphs
module _ (skips : ℕ → Bool) (is ls : List (ℕ → Bool)) (gs : List Glyph) (ms : List Met) where
  of-both : (xs : List Met) → length xs ≡ length is → (r : Perhaps (List Met)) → some ms ≡ behind xs r → some xs ≡ some (take (length is) ms)
  of-both xs long none e = absurd cc
  of-both xs long (some ys) e =
      let whole : ms ≡ xs ++ ys = cc in
      ap some (sym (ap (take (length is)) whole ∙ ap (λ n. take n (xs ++ ys)) (sym long) ∙ take-append_seam xs ys))

  of-first : (r : Perhaps (List Met)) → Long (length is) r → some ms ≡ followed skips ls gs r → r ≡ some (take (length is) ms)
  of-first none long e = absurd cc
  of-first (some xs) long e = of-both xs long (seek skips ls (drop (ends 0 xs) gs)) e

  pub seek-first : seek skips (is ++ ls) gs ≡ some ms → seek skips is gs ≡ some (take (length is) ms)
  seek-first e = of-first (seek skips is gs) (seek-long skips is gs) (sym e ∙ seek-append skips ls is gs)

-- what a search reached tells of it
reached-none : (from : Reached) (o : Perhaps (List Met)) → None ≡ reached_by from o → o ≡ none
reached-none from none e = refl
reached-none from (some ms) e = absurd cc

pub reached-some : (from r : Reached) (o : Perhaps (List Met)) → Some r ≡ reached_by from o → (ms : List Met) × (o ≡ some ms)
reached-some from r none e = absurd cc
reached-some from r (some ms) e = (ms, refl)

module _ (skips : ℕ → Bool) (is ls bs : List (ℕ → Bool)) (ahead back : List Glyph) (own : ℕ) where
  abbrev start : Reached
  start = record { at = 0; far = own }

  -- further input that is not met
  pub no-input : None ≡ reached_by start (seek skips is ahead) → seek skips (is ++ ls) ahead ≡ none
  no-input e = seek-append skips ls is ahead ∙ ap (followed skips ls ahead) (reached-none start (seek skips is ahead) e)

  module _ (ms : List Met) (met : seek skips is ahead ≡ some ms) (input : Reached) (input-is : Some input ≡ reached_by start (seek skips is ahead)) where
    input-at : input.at ≡ ends 0 ms
    input-at = let e : Some input ≡ reached_by start (some ms) = input-is ∙ ap (reached_by start) met in cc

    input-far : input.far ≡ far own ms
    input-far = let e : Some input ≡ reached_by start (some ms) = input-is ∙ ap (reached_by start) met in cc

    on : seek skips (is ++ ls) ahead ≡ behind ms (seek skips ls (drop input.at ahead))
    on = seek-append skips ls is ahead ∙ ap (followed skips ls ahead) met ∙ ap (λ n. behind ms (seek skips ls (drop n ahead))) (sym input-at)

    -- a lookahead that is not met
    pub no-lookahead : None ≡ reached_by input (seek skips ls (drop input.at ahead)) → seek skips (is ++ ls) ahead ≡ none
    no-lookahead e = on ∙ ap (behind ms) (reached-none input (seek skips ls (drop input.at ahead)) e)

    -- all three are met
    pub all-met : (action : Action) (looked backed : Reached) → Some looked ≡ reached_by input (seek skips ls (drop input.at ahead)) → Some backed ≡ reached_by start (seek skips bs back)
        → matched (record { pattern = record { backtrack = bs; input = is; lookahead = ls }; action = action }) own (seek skips (is ++ ls) ahead) (seek skips bs back)
        ≡ some (record { action = action; others = ms; own = own; lo = backed.far; hi = looked.far })
    all-met action looked backed l b =
        let c : Candidate = record { pattern = record { backtrack = bs; input = is; lookahead = ls }; action = action } in
        let ns = reached-some input looked (seek skips ls (drop input.at ahead)) l in
        let xs = reached-some start backed (seek skips bs back) b in
        let whole : seek skips (is ++ ls) ahead ≡ some (ms ++ ns.0) = on ∙ ap (behind ms) ns.1 in
        let looked-is : Some looked ≡ reached_by input (some ns.0) = l ∙ ap (reached_by input) ns.1 in
        let backed-is : Some backed ≡ reached_by start (some xs.0) = b ∙ ap (reached_by start) xs.1 in
        let hi : looked.far ≡ far input.far ns.0 = cc in
        let lo : backed.far ≡ far own xs.0 = cc in
        let top : far own (ms ++ ns.0) ≡ looked.far = far-append own ms ns.0 ∙ ap (λ n. far n ns.0) (sym input-far) ∙ sym hi in
        let long : length ms ≡ length is = subst (Long (length is)) met (seek-long skips is ahead) in
        let others : take (length is) (ms ++ ns.0) ≡ ms = ap (λ n. take n (ms ++ ns.0)) (sym long) ∙ take-append_seam ms ns.0 in
        ap (λ o. matched c own o (seek skips bs back)) whole ∙ ap (matched c own (some (ms ++ ns.0))) xs.1
        ∙ ap (λ o. some (record { action = action; others = o; own = own; lo = far own xs.0; hi = far own (ms ++ ns.0) })) others
        ∙ ap (λ n. some (record { action = action; others = ms; own = own; lo = n; hi = far own (ms ++ ns.0) })) (sym lo)
        ∙ ap (λ n. some (record { action = action; others = ms; own = own; lo = backed.far; hi = n })) top

-- the same around position p, as code counts it
module _ (skips : ℕ → Bool) (pattern : Pattern) (action : Action) (gs : List Glyph) (p : ℕ) where
  behind-p : suc p ≡ p + 1
  behind-p = omega arith

  pub not-ahead : seek skips (pattern.input ++ pattern.lookahead) (drop (p + 1) gs) ≡ none → None ≡ spanned (matched_at skips pattern action gs p)
  not-ahead e =
      sym (ap (λ o. spanned (matched (record { pattern = pattern; action = action }) (glyph_at gs p).cluster o (seek skips pattern.backtrack (reverse (take p gs)))))
      (ap (λ n. seek skips (pattern.input ++ pattern.lookahead) (drop n gs)) behind-p ∙ e))

  pub match-at : (g : Glyph) (ms : List Met) (lo hi : ℕ) → slice_get gs p ≡ Some g
      → matched (record { pattern = pattern; action = action }) g.cluster (seek skips (pattern.input ++ pattern.lookahead) (drop (p + 1) gs)) (seek skips pattern.backtrack (reverse (take p gs))) ≡ some (record { action = action; others = ms; own = g.cluster; lo = lo; hi = hi })
      → matched_at skips pattern action gs p ≡ some (record { action = action; others = ms; own = (glyph_at gs p).cluster; lo = lo; hi = hi })
  match-at g ms lo hi here m =
      let own : (glyph_at gs p).cluster ≡ g.cluster = ap (λ x. x.cluster) (get_or_from_slice_get gs p g (record { glyph = 0; cluster = 0 }) here) in
      ap (λ c. matched (record { pattern = pattern; action = action }) c (seek skips (pattern.input ++ pattern.lookahead) (drop (suc p) gs)) (seek skips pattern.backtrack (reverse (take p gs)))) own
      ∙ ap (λ n. matched (record { pattern = pattern; action = action }) g.cluster (seek skips (pattern.input ++ pattern.lookahead) (drop n gs)) (seek skips pattern.backtrack (reverse (take p gs)))) behind-p
      ∙ m ∙ ap (λ c. some (record { action = action; others = ms; own = c; lo = lo; hi = hi })) (sym own)

-- what a pattern spans tells how its input was met
module _ (skips : ℕ → Bool) (pattern : Pattern) (action : Action) (gs : List Glyph) (p : ℕ) (span : Span) where
  abbrev after : List Glyph
  after = drop (suc p) gs

  abbrev own : ℕ
  own = (glyph_at gs p).cluster

  abbrev inputs : ℕ
  inputs = length pattern.input

  abbrev met : Perhaps (List Met) → Perhaps (List Met) → Perhaps Match
  met ahead back = matched (record { pattern = pattern; action = action }) own ahead back

  abbrev one : List Met → Match
  one ms = record { action = action; others = ms; own = own; lo = span.lo; hi = span.hi }

  spans : (ahead back : Perhaps (List Met)) → Some span ≡ spanned (met ahead back) → (ms : List Met) × (ahead ≡ some ms) × (met ahead back ≡ some (one (take inputs ms)))
  spans none back e = absurd cc
  spans (some ms) none e = absurd cc
  spans (some ms) (some bs) e =
      let lo : far own bs ≡ span.lo = cc in
      let hi : far own ms ≡ span.hi = cc in
      (ms, refl, ap₂ (λ l h. some (record { action = action; others = take inputs ms; own = own; lo = l; hi = h })) lo hi)

  pub input-met : Some span ≡ spanned (matched_at skips pattern action gs p) → (ms : List Met) × (seek skips pattern.input after ≡ some ms) × (matched_at skips pattern action gs p ≡ some (one ms))
  input-met e =
      let all = spans (seek skips (pattern.input ++ pattern.lookahead) after) (seek skips pattern.backtrack (reverse (take p gs))) e in
      (take inputs all.0, seek-first skips pattern.input pattern.lookahead after all.0 all.1, all.2)

  -- the input's indices, noted in memory with more places behind them
  pub input-noted : (qs rest : List ℕ) → Some span ≡ spanned (matched_at skips pattern action gs p) → length qs ≡ inputs
      → ((tests : List (ℕ → Bool)) (ms : List Met) → length tests ≡ length qs → seek skips tests (drop (p + 1) gs) ≡ some ms → (ms ≡ mets_at (drop (p + 1) gs) 0 qs) × Outward 0 (length (drop (p + 1) gs)) qs)
      → (matched_at skips pattern action gs p ≡ some (one (mets_at after 0 (take inputs (qs ++ rest))))) × Outward 0 (length after) (take inputs (qs ++ rest))
  input-noted qs rest e long noted =
      let all = input-met e in
      let one-on : p + 1 ≡ suc p = omega arith in
      let at-p = subst (λ n. (ms : List Met) → seek skips pattern.input (drop n gs) ≡ some ms → (ms ≡ mets_at (drop n gs) 0 qs) × Outward 0 (length (drop n gs)) qs) one-on (λ ms. noted pattern.input ms (sym long)) all.0 all.1 in
      let same : take inputs (qs ++ rest) ≡ qs = take_at qs rest inputs long in
      (all.2 ∙ ap (λ ms. some (one ms)) (at-p.0 ∙ ap (mets_at after 0) (sym same)), subst (Outward 0 (length after)) (sym same) at-p.1)
