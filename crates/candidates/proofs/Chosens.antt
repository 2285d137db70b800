-- A choice, candidate by candidate and subtable by subtable.
use Rattle.std.proofs.Common.{◌≡◌, ℕ, suc, ◌+◌, ◌*◌, ◌-◌, ◌<◌, ◌≤◌, Bool, List, [], ◌∷◌, ◌++◌, drop, length, sym, ap, ◌∙◌, arith}
use Rattle.std.proofs.lemmas.List.{drop_all}
use Rattle.std.proofs.Math.Option.{Option as Perhaps, none, some}
use Rattle.layout.specs.Bytes.{u16_at}
use Rattle.model.specs.declared.Glyph.{Glyph}
use Rattle.model.specs.Lookups.{Candidate, Match, or_else}
use Rattle.matching.specs.Match.{matched_at}
use Rattle.gsub.specs.Candidates.{fields, subtable_candidates}
use Rattle.gsub.specs.Meaning.{candidates_of, subtable_at, type_at}
use Rattle.candidates.specs.Chosen.{chosen}

-- the candidates of the subtables from number j on, of n
abbrev pub left_of : (t : List ℕ) → (s v g n j : ℕ) → List Candidate
left_of t s v g n j = candidates_of t s v g (fields t (s + 6 + 2 * j) (n - j))

abbrev pub subtable_of : (t : List ℕ) → (s v g j : ℕ) → List Candidate
subtable_of t s v g j = subtable_candidates (drop (subtable_at t s (u16_at t (s + 6 + 2 * j))) t) (type_at t s) v g

left-on : (t : List ℕ) (s v g n j : ℕ) → j < n → left_of t s v g n j ≡ subtable_of t s v g j ++ left_of t s v g n (j + 1)
left-on t s v g n j h =
    let more : n - j ≡ suc (n - (j + 1)) = omega arith in
    let next : s + 6 + 2 * j + 2 ≡ s + 6 + 2 * (j + 1) = omega arith in
    ap (λ m. candidates_of t s v g (fields t (s + 6 + 2 * j) m)) more
    ∙ ap (λ i. subtable_of t s v g j ++ candidates_of t s v g (fields t i (n - (j + 1)))) next

left-none : (t : List ℕ) (s v g n j : ℕ) → n ≤ j → left_of t s v g n j ≡ []
left-none t s v g n j h = let z : n - j ≡ 0 = omega arith in ap (λ m. candidates_of t s v g (fields t (s + 6 + 2 * j) m)) z

pub left-all : (t : List ℕ) (s v g n : ℕ) → left_of t s v g n 0 ≡ candidates_of t s v g (fields t (s + 6) n)
left-all t s v g n =
    let z : n - 0 ≡ n = omega arith in
    let i : s + 6 + 2 * 0 ≡ s + 6 = omega arith in
    ap (λ m. candidates_of t s v g (fields t (s + 6 + 2 * 0) m)) z ∙ ap (λ b. candidates_of t s v g (fields t b n)) i

module _ (skips : ℕ → Bool) (gs : List Glyph) (p : ℕ) where
  -- those that are left choose what all do
  abbrev pub Same : (left all : List Candidate) → Type 0
  Same left all = chosen skips left gs p ≡ chosen skips all gs p

  pub found-here : (c : Candidate) (l k cs all : List Candidate) (m : Perhaps Match) → Same (l ++ cs) all → l ≡ c ∷ k → m ≡ matched_at skips c.pattern c.action gs p → (x : Match) → m ≡ some x → m ≡ chosen skips all gs p
  found-here c l k cs all m same is e x some-x =
      let met : matched_at skips c.pattern c.action gs p ≡ some x = sym e ∙ some-x in
      some-x ∙ sym (ap (λ o. or_else o (chosen skips (k ++ cs) gs p)) met) ∙ sym (ap (λ u. chosen skips (u ++ cs) gs p) is) ∙ same

  pub not-here : (c : Candidate) (l k cs all : List Candidate) → Same (l ++ cs) all → l ≡ c ∷ k → none ≡ matched_at skips c.pattern c.action gs p → Same (k ++ cs) all
  not-here c l k cs all same is e =
      ap (λ o. or_else o (chosen skips (k ++ cs) gs p)) e ∙ sym (ap (λ u. chosen skips (u ++ cs) gs p) is) ∙ same

  module _ (t : List ℕ) (s v g n j : ℕ) (all : List Candidate) where
    -- into a subtable, past it, and past all
    pub list-in : (l : List Candidate) → j < n → Same (left_of t s v g n j) all → l ≡ subtable_of t s v g j → Same (l ++ left_of t s v g n (j + 1)) all
    list-in l h same is = ap (λ u. chosen skips (u ++ left_of t s v g n (j + 1)) gs p) is ∙ sym (ap (λ u. chosen skips u gs p) (left-on t s v g n j h)) ∙ same

    pub list-past : (l : List Candidate) (k : ℕ) → length l ≤ k → Same (drop k l ++ left_of t s v g n (j + 1)) all → Same (left_of t s v g n (j + 1)) all
    list-past l k h same = sym (ap (λ u. chosen skips (u ++ left_of t s v g n (j + 1)) gs p) (drop_all k l h)) ∙ same

    pub all-past : n ≤ j → Same (left_of t s v g n j) all → none ≡ chosen skips all gs p
    all-past h same = sym (ap (λ u. chosen skips u gs p) (left-none t s v g n j h)) ∙ same
