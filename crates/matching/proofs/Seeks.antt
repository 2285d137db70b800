-- A search for entries, one after the other.
use Rattle.std.proofs.Common.{◌≡◌, ℕ, suc, ◌+◌, ◌-◌, ◌<◌, ◌≤◌, Bool, true, false, cond, List, [], ◌∷◌, ◌++◌, length, get_or, drop, Some, None, Option, refl, sym, ap, ◌∙◌, append_assoc, arith}
use Rattle.std.proofs.lemmas.List.{drop_more, drop_all, drop-drop, get_or-drop, append-nil}
use Rattle.std.proofs.Math.Option.{Option as Perhaps, none, some, map}
use Rattle.model.specs.declared.Glyph.{Glyph}
use Rattle.model.specs.Lookups.{Met, far, seek}
use Rattle.matching.specs.declared.passing.Next.{Next}
use Rattle.matching.specs.Next.{later_by, next_in}
use Rattle.matching.specs.declared.seek.Reached.{Reached}
use Rattle.matching.specs.Seek.{meets, glyph_at, mets_at, ends, reached_by, Outward}
use Rattle.matching.proofs.Nexts.{met_by, seek-next}

-- where the search goes on after the glyphs met
abbrev pub past : ℕ → List ℕ → ℕ
past i [] = i
past i (q ∷ qs) = past (suc q) qs

pub past-more : (i : ℕ) (qs : List ℕ) (q : ℕ) → past i (qs ++ q ∷ []) ≡ suc q
past-more i [] q = refl
past-more i (p ∷ qs) q = past-more (suc p) qs q

outward-more : (i n : ℕ) (qs : List ℕ) (q : ℕ) → Outward i n qs → past i qs ≤ q → q < n → Outward i n (qs ++ q ∷ [])
outward-more i n [] q out le lt = (le, lt, tt)
outward-more i n (p ∷ qs) q out le lt = (out.0, out.1, outward-more (suc p) n qs q out.2 le lt)

mets-more : (gs : List Glyph) (i : ℕ) (qs : List ℕ) (q : ℕ) → mets_at gs i (qs ++ q ∷ []) ≡ mets_at gs i qs ++ record { gap = q - past i qs; cluster = (glyph_at gs q).cluster } ∷ []
mets-more gs i [] q = refl
mets-more gs i (p ∷ qs) q = ap (λ ms. record { gap = p - i; cluster = (glyph_at gs p).cluster } ∷ ms) (mets-more gs (suc p) qs q)

abbrev pub behind : List Met → Perhaps (List Met) → Perhaps (List Met)
behind xs r = map (λ ms. xs ++ ms) r

behind-more : (xs : List Met) (m : Met) (r : Perhaps (List Met)) → behind xs (map (λ ms. m ∷ ms) r) ≡ behind (xs ++ m ∷ []) r
behind-more xs m none = refl
behind-more xs m (some ms) = ap some (sym (append_assoc xs (m ∷ []) ms))

pub behind-none : (r : Perhaps (List Met)) → behind [] r ≡ r
behind-none none = refl
behind-none (some ms) = refl

-- the next glyph is the one so far on
next-is : (skips : ℕ → Bool) (g : Glyph) (gs : List Glyph) (b : Bool) (o : Option Next) (next : Next) → ((n : Next) → o ≡ Some n → get_or gs n.gap (record { glyph = 0; cluster = 0 }) ≡ n.glyph)
    → cond b (later_by 1 o) (Some (record { gap = 0; glyph = g })) ≡ Some next → get_or (g ∷ gs) next.gap (record { glyph = 0; cluster = 0 }) ≡ next.glyph
next-is skips g gs true None next ih e = absurd cc
next-is skips g gs true (Some n) next ih e =
    let gap : suc n.gap ≡ next.gap = grind arith in
    let same : n.glyph ≡ next.glyph = cc in
    ap (λ i. get_or (g ∷ gs) i (record { glyph = 0; cluster = 0 })) (sym gap) ∙ ih n refl ∙ same
next-is skips g gs false o next ih e =
    let gap : 0 ≡ next.gap = cc in
    let same : g ≡ next.glyph = cc in
    ap (λ i. get_or (g ∷ gs) i (record { glyph = 0; cluster = 0 })) (sym gap) ∙ same

next-at : (skips : ℕ → Bool) (gs : List Glyph) (next : Next) → next_in skips gs ≡ Some next → get_or gs next.gap (record { glyph = 0; cluster = 0 }) ≡ next.glyph
next-at skips [] next e = absurd cc
next-at skips (g ∷ gs) next e = next-is skips g gs (skips g.glyph) (next_in skips gs) next (next-at skips gs) e

ends-more : (i : ℕ) (ms : List Met) (m : Met) → ends i (ms ++ m ∷ []) ≡ ends i ms + m.gap + 1
ends-more i [] m = refl
ends-more i (x ∷ ms) m = ends-more (i + x.gap + 1) ms m

far-more : (own : ℕ) (ms : List Met) (m : Met) → far own (ms ++ m ∷ []) ≡ m.cluster
far-more own [] m = refl
far-more own (x ∷ ms) m = far-more x.cluster ms m

module _ (skips : ℕ → Bool) (tests : List (ℕ → Bool)) (gs : List Glyph) (at k : ℕ) (more : k < length tests) where
  abbrev test : ℕ → Bool
  test = get_or tests k (λ g. false)

  here : seek skips (drop k tests) (drop at gs) ≡ met_by test (seek skips (drop (k + 1) tests)) (drop at gs) (next_in skips (drop at gs))
  here = ap (λ ts. seek skips ts (drop at gs)) (drop_more tests k (λ g. false) more) ∙ seek-next skips test (drop (k + 1) tests) (drop at gs)

  -- no glyph is left for entry k
  left-none : None ≡ next_in skips (drop at gs) → seek skips (drop k tests) (drop at gs) ≡ none
  left-none e = here ∙ ap (met_by test (seek skips (drop (k + 1) tests)) (drop at gs)) (sym e)

  module _ (next : Next) (is : next_in skips (drop at gs) ≡ Some next) where
    abbrev met : Met
    met = record { gap = next.gap; cluster = next.glyph.cluster }

    abbrev rest : Perhaps (List Met)
    rest = seek skips (drop (k + 1) tests) (drop (suc next.gap) (drop at gs))

    by : seek skips (drop k tests) (drop at gs) ≡ cond (meets tests k next.glyph.glyph) (map (λ ms. met ∷ ms) rest) none
    by = here ∙ ap (met_by test (seek skips (drop (k + 1) tests)) (drop at gs)) is

    -- the next one does not meet it
    left-not : meets tests k next.glyph.glyph ≡ false → seek skips (drop k tests) (drop at gs) ≡ none
    left-not e = by ∙ ap (λ b. cond b (map (λ ms. met ∷ ms) rest) none) e

    -- it does: on to the next entry
    left-on : meets tests k next.glyph.glyph ≡ true → seek skips (drop k tests) (drop at gs) ≡ map (λ ms. met ∷ ms) (seek skips (drop (k + 1) tests) (drop (at + next.gap + 1) gs))
    left-on e =
        let on : at + suc next.gap ≡ at + next.gap + 1 = omega arith in
        by ∙ ap (λ b. cond b (map (λ ms. met ∷ ms) rest) none) e
        ∙ ap (λ l. map (λ ms. met ∷ ms) (seek skips (drop (k + 1) tests) l)) (drop-drop (suc next.gap) at gs ∙ ap (λ n. drop n gs) on)

-- what was met so far, and that what is left gives the whole
module _ (skips : ℕ → Bool) (tests : List (ℕ → Bool)) (gs : List Glyph) (from so_far : Reached) (k : ℕ) where
  abbrev pub Sought : Type 0
  Sought =
      (ms : List Met)
      × (so_far.at ≡ ends from.at ms)
      × (so_far.far ≡ far from.far ms)
      × (seek skips tests (drop from.at gs) ≡ behind ms (seek skips (drop k tests) (drop so_far.at gs)))

  module _ (sought : Sought) (more : k < length tests) where
    pub sought-none : None ≡ next_in skips (drop so_far.at gs) → None ≡ reached_by from (seek skips tests (drop from.at gs))
    sought-none e = sym (ap (reached_by from) (sought.3 ∙ ap (behind sought.0) (left-none skips tests gs so_far.at k more e)))

    pub sought-not : (next : Next) → next_in skips (drop so_far.at gs) ≡ Some next → meets tests k next.glyph.glyph ≡ false → None ≡ reached_by from (seek skips tests (drop from.at gs))
    sought-not next is e = sym (ap (reached_by from) (sought.3 ∙ ap (behind sought.0) (left-not skips tests gs so_far.at k more next is e)))

pub sought-first : (skips : ℕ → Bool) (tests : List (ℕ → Bool)) (gs : List Glyph) (from : Reached) → Sought skips tests gs from from 0
sought-first skips tests gs from = ([], refl, refl, sym (behind-none (seek skips tests (drop from.at gs))))

pub sought-on : (skips : ℕ → Bool) (tests : List (ℕ → Bool)) (gs : List Glyph) (from so_far : Reached) (k : ℕ) → Sought skips tests gs from so_far k → k < length tests
    → (next : Next) → next_in skips (drop so_far.at gs) ≡ Some next → meets tests k next.glyph.glyph ≡ true → Sought skips tests gs from (record { at = so_far.at + next.gap + 1; far = next.glyph.cluster }) (k + 1)
sought-on skips tests gs from so_far k sought more next is met =
    let m : Met = record { gap = next.gap; cluster = next.glyph.cluster } in
    let end : so_far.at + next.gap + 1 ≡ ends from.at (sought.0 ++ m ∷ []) = omega (arith, sought.1, ends-more from.at sought.0 m) in (
      sought.0 ++ m ∷ [],
      end,
      sym (far-more from.far sought.0 m),
      sought.3 ∙ ap (behind sought.0) (left-on skips tests gs so_far.at k more next is met)
          ∙ behind-more sought.0 m (seek skips (drop (k + 1) tests) (drop (so_far.at + next.gap + 1) gs)),
    )

-- all entries are met
pub sought-all : (skips : ℕ → Bool) (tests : List (ℕ → Bool)) (gs : List Glyph) (from so_far : Reached) (k : ℕ) → Sought skips tests gs from so_far k → length tests ≤ k → Some so_far ≡ reached_by from (seek skips tests (drop from.at gs))
sought-all skips tests gs from so_far k sought all =
    let met : seek skips tests (drop from.at gs) ≡ some sought.0 = sought.3 ∙ ap (λ ts. behind sought.0 (seek skips ts (drop so_far.at gs))) (drop_all k tests all) ∙ ap some (append-nil sought.0) in
    let ended : Some so_far ≡ Some (record { at = ends from.at sought.0; far = far from.far sought.0 }) =
    ap (λ i. Some (record { at = i; far = so_far.far })) sought.1 ∙ ap (λ c. Some (record { at = ends from.at sought.0; far = c })) sought.2 in
    ended ∙ sym (ap (reached_by from) met)

-- the indices noted so far are those of the glyphs that the entries so far met
module _ (skips : ℕ → Bool) (tests : List (ℕ → Bool)) (gs : List Glyph) (at k : ℕ) (qs : List ℕ) where
  abbrev pub Noted : Type 0
  Noted =
      (at ≡ past 0 qs)
      × Outward 0 (length gs) qs
      × (seek skips tests gs ≡ behind (mets_at gs 0 qs) (seek skips (drop k tests) (drop at gs)))

  module _ (ms : List Met) (all : seek skips tests gs ≡ some ms) (noted : Noted) where
    left-some : seek skips (drop k tests) (drop at gs) ≡ none → ⊥
    left-some e = let no : some ms ≡ none = sym all ∙ noted.2 ∙ ap (behind (mets_at gs 0 qs)) e in cc

    pub noted-all : length tests ≤ k → (ms ≡ mets_at gs 0 qs) × Outward 0 (length gs) qs
    noted-all done =
        let met : some ms ≡ some (mets_at gs 0 qs) = sym all ∙ noted.2 ∙ ap (λ ts. behind (mets_at gs 0 qs) (seek skips ts (drop at gs))) (drop_all k tests done) ∙ ap some (append-nil (mets_at gs 0 qs)) in
        let same : ms ≡ mets_at gs 0 qs = cc in
        (same, noted.1)

    module _ (more : k < length tests) where
      pub noted-none : None ≡ next_in skips (drop at gs) → ⊥
      noted-none e = left-some (left-none skips tests gs at k more e)

      module _ (next : Next) (is : next_in skips (drop at gs) ≡ Some next) (inside : at + next.gap < length gs) where
        abbrev index : ℕ
        index = at + next.gap

        abbrev m : Met
        m = record { gap = next.gap; cluster = next.glyph.cluster }

        mets : mets_at gs 0 qs ++ m ∷ [] ≡ mets_at gs 0 (qs ++ index ∷ [])
        mets =
            let gap : next.gap ≡ index - past 0 qs = omega (arith, noted.0) in
            let glyph : next.glyph ≡ glyph_at gs index = sym (next-at skips (drop at gs) next is) ∙ get_or-drop at gs next.gap (record { glyph = 0; cluster = 0 }) in
            let same : m ≡ record { gap = index - past 0 qs; cluster = (glyph_at gs index).cluster } = cc in
            ap (λ x. mets_at gs 0 qs ++ x ∷ []) same ∙ sym (mets-more gs 0 qs index)

        goes : (b : Bool) → meets tests k next.glyph.glyph ≡ b → (index + 1 ≡ past 0 (qs ++ index ∷ [])) × Outward 0 (length gs) (qs ++ index ∷ [])
            × (seek skips tests gs ≡ behind (mets_at gs 0 (qs ++ index ∷ [])) (seek skips (drop (k + 1) tests) (drop (index + 1) gs)))
        goes false e = absurd (left-some (left-not skips tests gs at k more next is e))
        goes true e =
            let end : index + 1 ≡ suc index = omega arith in (
              end ∙ sym (past-more 0 qs index),
              outward-more 0 (length gs) qs index noted.1 (omega (arith, noted.0)) inside,
              noted.2 ∙ ap (behind (mets_at gs 0 qs)) (left-on skips tests gs at k more next is e)
                  ∙ behind-more (mets_at gs 0 qs) m (seek skips (drop (k + 1) tests) (drop (index + 1) gs))
                  ∙ ap (λ xs. behind xs (seek skips (drop (k + 1) tests) (drop (index + 1) gs))) mets,
            )

pub noted-first : (skips : ℕ → Bool) (tests : List (ℕ → Bool)) (gs : List Glyph) → Noted skips tests gs 0 0 []
noted-first skips tests gs = (refl, tt, sym (behind-none (seek skips tests gs)))

pub noted-on : (skips : ℕ → Bool) (tests : List (ℕ → Bool)) (gs : List Glyph) (at k : ℕ) (qs : List ℕ) (ms : List Met) → seek skips tests gs ≡ some ms → Noted skips tests gs at k qs → k < length tests
    → (next : Next) → next_in skips (drop at gs) ≡ Some next → at + next.gap < length gs → Noted skips tests gs (at + next.gap + 1) (k + 1) (qs ++ (at + next.gap) ∷ [])
noted-on skips tests gs at k qs ms all noted more next is inside = goes skips tests gs at k qs ms all noted more next is inside (meets tests k next.glyph.glyph) refl
