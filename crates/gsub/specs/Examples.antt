-- What a small table means, worked out by hand. It has a lookup of most kinds; glyphs: f = 1, i = 2, a mark m = 3, the ligature fi = 4, x = 5.
use Rattle.std.specs.Prelude.{◌≡◌, ℕ, Bool, true, false, List, [], ◌∷◌, map, None, Some, nat_eq}
use Rattle.layout.specs.Faults.{first_in}
use Rattle.model.specs.Lookups.{Action, put, join, nest, Candidate}
use Rattle.gsub.specs.Meaning.{gsub_means, no_lookup, subtable_at}
use Rattle.gsub.specs.Tables.{gsub_faults, in_lookup}

-- Lookup 0: x plus 3. 1: f i becomes fi, under flag 8. 2: alternates 6 and 7 of x. 3: x between f and m runs lookup 0. 4: x (class 1) before a glyph of class 2, which is 6. 5: i before i becomes x, backward. 6: an extension: x becomes x x; flag 16 and mark set 6. 7: f i runs lookup 0 at i.
abbrev pub table : List ℕ
table =
    0 ∷ 1 ∷ 0 ∷ 0 ∷ 0 ∷ 0 ∷ 0 ∷ 0 ∷ 0 ∷ 10 ∷ 0 ∷ 8 ∷ 0 ∷ 18 ∷ 0 ∷ 38 ∷ 0 ∷ 70 ∷ 0 ∷ 98 ∷ 0 ∷ 140 ∷ 0 ∷ 186 ∷ 0 ∷ 214 ∷ 0 ∷ 252 ∷ 0 ∷ 1 ∷ 0 ∷ 0 ∷
    0 ∷ 1 ∷ 0 ∷ 8 ∷ 0 ∷ 1 ∷ 0 ∷ 6 ∷ 0 ∷ 3 ∷ 0 ∷ 1 ∷ 0 ∷ 1 ∷ 0 ∷ 5 ∷ 0 ∷ 4 ∷ 0 ∷ 8 ∷ 0 ∷ 1 ∷ 0 ∷ 8 ∷ 0 ∷ 1 ∷ 0 ∷ 8 ∷ 0 ∷ 1 ∷ 0 ∷ 14 ∷
    0 ∷ 1 ∷ 0 ∷ 1 ∷ 0 ∷ 1 ∷ 0 ∷ 1 ∷ 0 ∷ 4 ∷ 0 ∷ 4 ∷ 0 ∷ 2 ∷ 0 ∷ 2 ∷ 0 ∷ 3 ∷ 0 ∷ 0 ∷ 0 ∷ 1 ∷ 0 ∷ 8 ∷ 0 ∷ 1 ∷ 0 ∷ 8 ∷ 0 ∷ 1 ∷ 0 ∷ 14 ∷
    0 ∷ 1 ∷ 0 ∷ 1 ∷ 0 ∷ 5 ∷ 0 ∷ 2 ∷ 0 ∷ 6 ∷ 0 ∷ 7 ∷ 0 ∷ 6 ∷ 0 ∷ 0 ∷ 0 ∷ 1 ∷ 0 ∷ 8 ∷ 0 ∷ 1 ∷ 0 ∷ 8 ∷ 0 ∷ 1 ∷ 0 ∷ 14 ∷ 0 ∷ 1 ∷ 0 ∷ 1 ∷
    0 ∷ 5 ∷ 0 ∷ 1 ∷ 0 ∷ 4 ∷ 0 ∷ 1 ∷ 0 ∷ 1 ∷ 0 ∷ 1 ∷ 0 ∷ 1 ∷ 0 ∷ 3 ∷ 0 ∷ 1 ∷ 0 ∷ 0 ∷ 0 ∷ 0 ∷ 0 ∷ 5 ∷ 0 ∷ 0 ∷ 0 ∷ 1 ∷ 0 ∷ 8 ∷ 0 ∷ 2 ∷
    0 ∷ 12 ∷ 0 ∷ 18 ∷ 0 ∷ 2 ∷ 0 ∷ 0 ∷ 0 ∷ 28 ∷ 0 ∷ 1 ∷ 0 ∷ 1 ∷ 0 ∷ 5 ∷ 0 ∷ 1 ∷ 0 ∷ 5 ∷ 0 ∷ 2 ∷ 0 ∷ 1 ∷ 0 ∷ 2 ∷ 0 ∷ 1 ∷ 0 ∷ 4 ∷ 0 ∷ 2 ∷
    0 ∷ 0 ∷ 0 ∷ 2 ∷ 0 ∷ 8 ∷ 0 ∷ 0 ∷ 0 ∷ 1 ∷ 0 ∷ 8 ∷ 0 ∷ 1 ∷ 0 ∷ 14 ∷ 0 ∷ 0 ∷ 0 ∷ 1 ∷ 0 ∷ 14 ∷ 0 ∷ 1 ∷ 0 ∷ 5 ∷ 0 ∷ 1 ∷ 0 ∷ 1 ∷ 0 ∷ 2 ∷
    0 ∷ 7 ∷ 0 ∷ 16 ∷ 0 ∷ 1 ∷ 0 ∷ 10 ∷ 0 ∷ 6 ∷ 0 ∷ 1 ∷ 0 ∷ 2 ∷ 0 ∷ 0 ∷ 0 ∷ 8 ∷ 0 ∷ 1 ∷ 0 ∷ 8 ∷ 0 ∷ 1 ∷ 0 ∷ 14 ∷ 0 ∷ 1 ∷ 0 ∷ 1 ∷ 0 ∷ 5 ∷
    0 ∷ 2 ∷ 0 ∷ 5 ∷ 0 ∷ 5 ∷ 0 ∷ 5 ∷ 0 ∷ 0 ∷ 0 ∷ 1 ∷ 0 ∷ 8 ∷ 0 ∷ 3 ∷ 0 ∷ 2 ∷ 0 ∷ 1 ∷ 0 ∷ 14 ∷ 0 ∷ 20 ∷ 0 ∷ 1 ∷ 0 ∷ 0 ∷ 0 ∷ 1 ∷ 0 ∷ 1 ∷
    0 ∷ 1 ∷ 0 ∷ 1 ∷ 0 ∷ 1 ∷ 0 ∷ 2 ∷ []

abbrev pub candidates : (lookup value glyph : ℕ) → List Candidate
candidates k v g = (gsub_means table k).candidates v g

-- A candidate by the glyphs that must stand around.
abbrev pub among : (backtrack input lookahead : List ℕ) → Action → Candidate
among b i a act = record { pattern = record { backtrack = map (λ e g. nat_eq g e) b; input = map (λ e g. nat_eq g e) i; lookahead = map (λ e g. nat_eq g e) a }; action = act }

pub record Examples : Type 0 where
  pub no_fault : first_in (gsub_faults table) ≡ None
  pub delta : candidates 0 1 5 ≡ among [] [] [] (put (8 ∷ [])) ∷ []
  pub not_covered : candidates 0 1 6 ≡ []
  pub ligature : candidates 1 1 1 ≡ among [] (2 ∷ []) [] (join 4) ∷ []
  pub flag : (gsub_means table 1).flag ≡ 8
  pub second_alternate : candidates 2 2 5 ≡ among [] [] [] (put (7 ∷ [])) ∷ []
  pub no_third_alternate : candidates 2 3 5 ≡ []
  pub chain : candidates 3 1 5 ≡ among (1 ∷ []) [] (3 ∷ []) (nest (record { index = 0; lookup = 0 } ∷ [])) ∷ []
  -- the test of class 2 holds of 6, not of 5
  pub class_test : map (λ c. map (λ test. test 6) c.pattern.input) (candidates 4 1 5) ≡ (true ∷ []) ∷ []
  pub other_class : map (λ c. map (λ test. test 5) c.pattern.input) (candidates 4 1 5) ≡ (false ∷ []) ∷ []
  pub backward : (gsub_means table 5).backward ≡ true
  pub forward : (gsub_means table 4).backward ≡ false
  pub reverse : map (λ c. c.action) (candidates 5 1 2) ≡ put (5 ∷ []) ∷ []
  pub before : map (λ c. map (λ test. test 2) c.pattern.lookahead) (candidates 5 1 2) ≡ (true ∷ []) ∷ []
  pub extension : candidates 6 1 5 ≡ among [] [] [] (put (5 ∷ 5 ∷ [])) ∷ []
  pub mark_set : (gsub_means table 6).mark_set ≡ 6
  pub by_coverages : map (λ c. c.action) (candidates 7 1 1) ≡ nest (record { index = 1; lookup = 0 } ∷ []) ∷ []
  pub second_input : map (λ c. map (λ test. test 2) c.pattern.input) (candidates 7 1 1) ≡ (true ∷ []) ∷ []
  pub first_input : candidates 7 1 2 ≡ []
  -- a number past the lookups
  pub missing : gsub_means table 8 ≡ no_lookup

-- Another table, for what the first one leaves open. Lookup 0, type 1, has two subtables: 5 and 6 become 7 and 9 by a list;
-- 3 and 6 less 4, modulo 65,536. 1, type 5 by glyphs: f i runs lookup 0 at i and then lookup 3 at f; f i x runs lookup 0 at x.
-- 2, type 6 by classes: backtrack 7 (class 1), input f i (1 and 2), lookahead 6 (class 2; x is 1) runs lookup 0 at f.
-- 3, type 8: i becomes x and 3 becomes 9, behind 7 and before 6.
abbrev pub forms : List ℕ
forms =
    0 ∷ 1 ∷ 0 ∷ 0 ∷ 0 ∷ 0 ∷ 0 ∷ 0 ∷ 0 ∷ 10 ∷ 0 ∷ 4 ∷ 0 ∷ 10 ∷ 0 ∷ 52 ∷ 0 ∷ 106 ∷ 0 ∷ 196 ∷ 0 ∷ 1 ∷ 0 ∷ 0 ∷
    0 ∷ 2 ∷ 0 ∷ 10 ∷ 0 ∷ 28 ∷ 0 ∷ 2 ∷ 0 ∷ 10 ∷ 0 ∷ 2 ∷ 0 ∷ 7 ∷ 0 ∷ 9 ∷ 0 ∷ 1 ∷ 0 ∷ 2 ∷ 0 ∷ 5 ∷ 0 ∷ 6 ∷
    0 ∷ 1 ∷ 0 ∷ 6 ∷ 255 ∷ 252 ∷ 0 ∷ 1 ∷ 0 ∷ 2 ∷ 0 ∷ 3 ∷ 0 ∷ 6 ∷ 0 ∷ 5 ∷ 0 ∷ 0 ∷ 0 ∷ 1 ∷ 0 ∷ 8 ∷ 0 ∷ 1 ∷
    0 ∷ 8 ∷ 0 ∷ 1 ∷ 0 ∷ 14 ∷ 0 ∷ 1 ∷ 0 ∷ 1 ∷ 0 ∷ 1 ∷ 0 ∷ 2 ∷ 0 ∷ 6 ∷ 0 ∷ 20 ∷ 0 ∷ 2 ∷ 0 ∷ 2 ∷ 0 ∷ 2 ∷
    0 ∷ 1 ∷ 0 ∷ 0 ∷ 0 ∷ 0 ∷ 0 ∷ 3 ∷ 0 ∷ 3 ∷ 0 ∷ 1 ∷ 0 ∷ 2 ∷ 0 ∷ 5 ∷ 0 ∷ 2 ∷ 0 ∷ 0 ∷ 0 ∷ 6 ∷ 0 ∷ 0 ∷
    0 ∷ 1 ∷ 0 ∷ 8 ∷ 0 ∷ 2 ∷ 0 ∷ 16 ∷ 0 ∷ 24 ∷ 0 ∷ 34 ∷ 0 ∷ 44 ∷ 0 ∷ 2 ∷ 0 ∷ 0 ∷ 0 ∷ 60 ∷ 0 ∷ 1 ∷ 0 ∷ 2 ∷
    0 ∷ 1 ∷ 0 ∷ 2 ∷ 0 ∷ 2 ∷ 0 ∷ 1 ∷ 0 ∷ 7 ∷ 0 ∷ 7 ∷ 0 ∷ 1 ∷ 0 ∷ 1 ∷ 0 ∷ 1 ∷ 0 ∷ 2 ∷ 0 ∷ 1 ∷ 0 ∷ 2 ∷
    0 ∷ 2 ∷ 0 ∷ 2 ∷ 0 ∷ 5 ∷ 0 ∷ 5 ∷ 0 ∷ 1 ∷ 0 ∷ 6 ∷ 0 ∷ 6 ∷ 0 ∷ 2 ∷ 0 ∷ 1 ∷ 0 ∷ 4 ∷ 0 ∷ 1 ∷ 0 ∷ 1 ∷
    0 ∷ 2 ∷ 0 ∷ 2 ∷ 0 ∷ 1 ∷ 0 ∷ 2 ∷ 0 ∷ 1 ∷ 0 ∷ 0 ∷ 0 ∷ 0 ∷ 0 ∷ 8 ∷ 0 ∷ 0 ∷ 0 ∷ 1 ∷ 0 ∷ 8 ∷ 0 ∷ 1 ∷
    0 ∷ 18 ∷ 0 ∷ 1 ∷ 0 ∷ 26 ∷ 0 ∷ 1 ∷ 0 ∷ 32 ∷ 0 ∷ 2 ∷ 0 ∷ 5 ∷ 0 ∷ 9 ∷ 0 ∷ 1 ∷ 0 ∷ 2 ∷ 0 ∷ 2 ∷ 0 ∷ 3 ∷
    0 ∷ 1 ∷ 0 ∷ 1 ∷ 0 ∷ 7 ∷ 0 ∷ 1 ∷ 0 ∷ 1 ∷ 0 ∷ 6 ∷ []

abbrev pub form : (lookup glyph : ℕ) → List Candidate
form k g = (gsub_means forms k).candidates 1 g

-- Whether each entry of a candidate's pattern has a glyph: of its backtrack, its input and its lookahead.
abbrev pub backtrack_has : (glyph : ℕ) → Candidate → List Bool
backtrack_has g c = map (λ test. test g) c.pattern.backtrack

abbrev pub input_has : (glyph : ℕ) → Candidate → List Bool
input_has g c = map (λ test. test g) c.pattern.input

abbrev pub lookahead_has : (glyph : ℕ) → Candidate → List Bool
lookahead_has g c = map (λ test. test g) c.pattern.lookahead

-- An extension whose subtable lies 65,544 bytes on, which is past this table.
abbrev pub far : List ℕ
far =
    0 ∷ 1 ∷ 0 ∷ 0 ∷ 0 ∷ 0 ∷ 0 ∷ 0 ∷ 0 ∷ 10 ∷ 0 ∷ 1 ∷ 0 ∷ 4 ∷ 0 ∷ 7 ∷ 0 ∷ 0 ∷ 0 ∷ 1 ∷ 0 ∷ 8 ∷ 0 ∷ 1 ∷
    0 ∷ 1 ∷ 0 ∷ 1 ∷ 0 ∷ 8 ∷ []

pub record FurtherExamples : Type 0 where
  pub no_fault : first_in (gsub_faults forms) ≡ None
  -- TYPE 1: the entry at the index; both subtables, in order; a sum past 65,535
  pub first_entry : form 0 5 ≡ among [] [] [] (put (7 ∷ [])) ∷ []
  pub both_subtables : form 0 6 ≡ among [] [] [] (put (9 ∷ [])) ∷ among [] [] [] (put (2 ∷ [])) ∷ []
  pub largest_glyph : form 0 3 ≡ among [] [] [] (put (65535 ∷ [])) ∷ []
  -- TYPE 3: there is no alternate 0
  pub no_alternate_0 : candidates 2 0 5 ≡ []
  -- TYPE 5: all rules of a set, and all records of a rule, in order
  pub two_rules :
      form 1 1
      ≡ among [] (2 ∷ []) [] (nest (record { index = 1; lookup = 0 } ∷ record { index = 0; lookup = 3 } ∷ []))
      ∷ among [] (2 ∷ 5 ∷ []) [] (nest (record { index = 2; lookup = 0 } ∷ []))
      ∷ []
  -- TYPE 6 BY CLASSES: three class definitions, each for its own entries
  pub by_classes : map (λ c. c.action) (form 2 1) ≡ nest (record { index = 0; lookup = 0 } ∷ []) ∷ []
  pub backtrack_class : map (backtrack_has 7) (form 2 1) ≡ (true ∷ []) ∷ []
  pub no_backtrack_class : map (backtrack_has 5) (form 2 1) ≡ (false ∷ []) ∷ []
  pub input_class : map (input_has 2) (form 2 1) ≡ (true ∷ []) ∷ []
  pub no_input_class : map (input_has 6) (form 2 1) ≡ (false ∷ []) ∷ []
  pub lookahead_class : map (lookahead_has 6) (form 2 1) ≡ (true ∷ []) ∷ []
  pub no_lookahead_class : map (lookahead_has 2) (form 2 1) ≡ (false ∷ []) ∷ []
  -- a class whose set is missing has no rules
  pub no_set : form 2 2 ≡ []
  -- TYPE 8: the glyph at the index, and a coverage on either side
  pub at_the_index : map (λ c. c.action) (form 3 3) ≡ put (9 ∷ []) ∷ []
  pub behind : map (backtrack_has 7) (form 3 3) ≡ (true ∷ []) ∷ []
  pub not_behind : map (backtrack_has 6) (form 3 3) ≡ (false ∷ []) ∷ []
  pub ahead : map (lookahead_has 6) (form 3 3) ≡ (true ∷ []) ∷ []
  pub not_ahead : map (lookahead_has 7) (form 3 3) ≡ (false ∷ []) ∷ []
  -- TYPE 7: its offset has 32 bits, in the meaning and in the check
  pub far_subtable : subtable_at far 14 8 ≡ 65566
  pub far_fault :
      first_in (gsub_faults far)
      ≡ Some (record { place = in_lookup 0 (Some 0); fault = record { number = 1; start = 65566; byte = 65566 } })
