-- Worked examples. Glyphs: f = 1, i = 2, a mark m = 3, the ligature fi = 4, x = 5.
use Rattle.std.specs.Prelude.{◌≡◌, ℕ, true, false, cond, ◌&&◌, ◌||◌, List, [], ◌∷◌, ◌++◌, map, filter, replicate, ◌==◌, nat_eq, slice_index_or, None, Some}
use Rattle.font.specs.Font.{Font}
use Rattle.model.specs.declared.Entry.{Entry}
use Rattle.model.specs.declared.Glyph.{Glyph}
use Rattle.model.specs.Edits.{up_from}
use Rattle.model.specs.Limits.{refused_first}
use Rattle.model.specs.Lookups.{LookupRecord, Action, put, join, nest, Candidate, Lookup, passes_over}
use Rattle.model.specs.Shaping.{Inputs, refused, shaped, Shapes}

-- The font: a character's glyph is its number, but that of character 20 is x. Bases are 11, ligatures 12, components 15.
-- Marks are 3 (mark class 0), 13 (1, and in mark set 6), 14 (2, and in set 7), 16 (3) and 17 (258).
abbrev pub font : Font
font =
    record {
      glyph = λ c. cond (c == 20) 5 c;
      class = λ g.
          cond (g == 11) 1 (cond (g == 12) 2 (cond (g == 15) 4
          (cond (g == 3 || g == 13 || g == 14 || g == 16 || g == 17) 3 0)));
      mark_class = λ g. cond (g == 13) 1 (cond (g == 14) 2 (cond (g == 16) 3 (cond (g == 17) 258 0)));
      in_mark_set = λ k g. (k == 6 && g == 13) || (k == 7 && g == 14);
    }

-- A lookup with a flag, mark set 6 and candidates for one glyph.
abbrev pub forward : (flag glyph : ℕ) → List Candidate → Lookup
forward flag n cs = record { flag = flag; mark_set = 6; backward = false; candidates = λ alt g. cond (g == n) cs [] }

abbrev pub backward : (glyph : ℕ) → List Candidate → Lookup
backward n cs = record { flag = 0; mark_set = 0; backward = true; candidates = λ alt g. cond (g == n) cs [] }

-- A candidate that looks for glyphs before, further in, and after the input.
abbrev pub rule : (backtrack input lookahead : List ℕ) → Action → Candidate
rule b i a act = record { pattern = record { backtrack = map nat_eq b; input = map nat_eq i; lookahead = map nat_eq a }; action = act }

infix 70 ◌runs◌
infix 70 ◌∶◌
-- A record: at the input glyph with this index, run that lookup.
abbrev pub ◌runs◌ : (index lookup : ℕ) → LookupRecord
index runs lookup = record { index = index; lookup = lookup }

-- A glyph of a run, written glyph ∶ cluster.
abbrev pub ◌∶◌ : (glyph cluster : ℕ) → Glyph
g ∶ c = record { glyph = g; cluster = c }

-- The lookups by their places in a list; the plan runs number 0 with alternate value 1.
abbrev pub inputs : List Lookup → (limit room : ℕ) → Inputs
inputs ks limit room =
    record { font = font; table = λ n. slice_index_or ks n (forward 0 0 []); plan = record { lookup = 0; alternate = 1 } ∷ []; limit = limit; room = room }

-- What the lookups make of a text, at hit limit 10 and room 10 unless said otherwise.
abbrev pub Gives : List Lookup → (text : List ℕ) → (run : List Glyph) → (marks : List ℕ) → (hits : ℕ) → Type 0
Gives ks text run marks hits = Shapes (inputs ks 10 10) text (shaped (record { run = run; marks = marks; hits = hits }))

-- f i → fi, under a flag
abbrev pub ligature : (flag : ℕ) → List Lookup
ligature flag = forward flag 1 (rule [] (2 ∷ []) [] (join 4) ∷ []) ∷ []

-- i → x, to stand behind a lookup that runs it by a record
abbrev pub to_x : List Lookup
to_x = forward 0 2 (rule [] [] [] (put (5 ∷ [])) ∷ []) ∷ []

-- backtrack f, then i → x by a record
abbrev pub after_f : List Lookup
after_f = forward 0 2 (rule (1 ∷ []) [] [] (nest (0 runs 1 ∷ [])) ∷ []) ∷ to_x

-- backtrack f, input i, no record; before a rule i → x by a record
abbrev pub except_after_f : List Lookup
except_after_f = forward 0 2 (rule (1 ∷ []) [] [] (nest []) ∷ rule [] [] [] (nest (0 runs 1 ∷ [])) ∷ []) ∷ to_x

-- x → x x
abbrev pub doubled : List Lookup
doubled = forward 0 5 (rule [] [] [] (put (5 ∷ 5 ∷ [])) ∷ []) ∷ []

-- The glyphs 8 and 9 in place of i and of x, as lookups that records name.
abbrev pub i→8 : Lookup
i→8 = forward 0 2 (rule [] [] [] (put (8 ∷ [])) ∷ [])

abbrev pub x→9 : Lookup
x→9 = forward 0 5 (rule [] [] [] (put (9 ∷ [])) ∷ [])

-- Input f i x with records, then lookups 1 to 3.
abbrev pub over_fix : List LookupRecord → List Lookup → List Lookup
over_fix rs ks = forward 0 1 (rule [] (2 ∷ 5 ∷ []) [] (nest rs) ∷ []) ∷ ks

-- Which of these glyphs a lookup passes over, by its flag and its mark set.
abbrev pub passed_over : (flag mark_set : ℕ) → List ℕ
passed_over flag set =
    filter (passes_over font (record { flag = flag; mark_set = set; backward = false; candidates = λ alt g. [] }))
    (5 ∷ 11 ∷ 12 ∷ 15 ∷ 3 ∷ 13 ∷ 14 ∷ 16 ∷ 17 ∷ [])

-- Plan entries for these lookup numbers, with one alternate value.
abbrev pub entries : (alternate : ℕ) → (lookups : List ℕ) → List Entry
entries alternate = map (λ lookup. record { lookup = lookup; alternate = alternate })

-- Each of these notices one clause of the definitions.
pub record FurtherExamples : Type 0 where
  -- an empty text: empty run, no hits
  pub empty : Gives (ligature 0) [] [] [] 0
  -- the ligature on f i x
  pub ligates : Gives (ligature 0) (1 ∷ 2 ∷ 5 ∷ []) (4 ∶ 0 ∷ 5 ∶ 2 ∷ []) (0 ∷ 2 ∷ 0 ∷ []) 1
  -- under flag 8 on f m i: the mark stays behind the ligature, in its cluster
  pub passes_over_the_mark : Gives (ligature 8) (1 ∷ 3 ∷ 2 ∷ []) (4 ∶ 0 ∷ 3 ∶ 0 ∷ []) (0 ∷ 2 ∷ 2 ∷ []) 1
  -- the line from 0 to 2 of that text shaped alone, and the line from 0 to 1, whose end is tied
  pub line_alone : Gives (ligature 0) (1 ∷ 2 ∷ []) (4 ∶ 0 ∷ []) (0 ∷ 2 ∷ []) 1
  pub tied_line_alone : Gives (ligature 0) (1 ∷ []) (1 ∶ 0 ∷ []) (0 ∷ []) 0
  -- backtrack and a record on f i: the match is a hit, and so is the record's; at limit 1, refusal 7
  pub record_runs : Gives after_f (1 ∷ 2 ∷ []) (1 ∶ 0 ∷ 5 ∶ 1 ∷ []) (0 ∷ 1 ∷ []) 2
  pub limit_spent : Shapes (inputs after_f 1 10) (1 ∷ 2 ∷ []) (refused 7)
  -- a rule without records still matches, hits and ties, and no later rule is tried
  pub match_without_record : Gives except_after_f (1 ∷ 2 ∷ []) (1 ∶ 0 ∷ 2 ∶ 1 ∷ []) (0 ∷ 1 ∷ []) 1
  -- where its backtrack is missing, the next rule is tried
  pub next_rule : Gives except_after_f (2 ∷ []) (5 ∶ 0 ∷ []) (0 ∷ []) 2
  -- one glyph becomes two, with the old cluster; at room 1, refusal 8
  pub growing : Gives doubled (5 ∷ []) (5 ∶ 0 ∷ 5 ∶ 0 ∷ []) (0 ∷ []) 1
  pub room_spent : Shapes (inputs doubled 10 1) (5 ∷ []) (refused 8)
  -- backward: i before a lookahead i becomes x, on i i i
  pub goes_backward : Gives (backward 2 (rule [] [] (2 ∷ []) (put (5 ∷ [])) ∷ []) ∷ []) (2 ∷ 2 ∷ 2 ∷ []) (2 ∶ 0 ∷ 5 ∶ 1 ∷ 2 ∶ 2 ∷ []) (0 ∷ 0 ∷ 1 ∷ []) 1
  -- MATCHING
  -- lookahead without a record ties too, and the pass goes on at the match's end, which leaves the lookahead out
  pub lookahead_ties : Gives (forward 0 2 (rule [] [] (2 ∷ []) (nest []) ∷ []) ∷ []) (2 ∷ 2 ∷ 2 ∷ []) (2 ∶ 0 ∷ 2 ∶ 1 ∷ 2 ∶ 2 ∷ []) (0 ∷ 1 ∷ 1 ∷ []) 2
  -- backtrack entry 0 is the nearest: f i before x, not i f
  pub nearest_first : Gives (forward 0 5 (rule (2 ∷ 1 ∷ []) [] [] (put (8 ∷ [])) ∷ []) ∷ []) (1 ∷ 2 ∷ 5 ∷ []) (1 ∶ 0 ∷ 2 ∶ 1 ∷ 8 ∶ 2 ∷ []) (0 ∷ 1 ∷ 1 ∷ []) 1
  pub not_text_order : Gives (forward 0 5 (rule (1 ∷ 2 ∷ []) [] [] (put (8 ∷ [])) ∷ []) ∷ []) (1 ∷ 2 ∷ 5 ∷ []) (1 ∶ 0 ∷ 2 ∶ 1 ∷ 5 ∶ 2 ∷ []) (0 ∷ 0 ∷ 0 ∷ []) 0
  -- a glyph passed over between two glyphs matched is tied, in input and in backtrack
  pub ties_passed_over : Gives (forward 8 1 (rule [] (2 ∷ []) [] (nest []) ∷ []) ∷ []) (1 ∷ 3 ∷ 2 ∷ []) (1 ∶ 0 ∷ 3 ∶ 1 ∷ 2 ∶ 2 ∷ []) (0 ∷ 1 ∷ 1 ∷ []) 1
  pub ties_passed_over_before : Gives (forward 8 2 (rule (1 ∷ []) [] [] (nest []) ∷ []) ∷ []) (1 ∷ 3 ∷ 2 ∷ []) (1 ∶ 0 ∷ 3 ∶ 1 ∷ 2 ∶ 2 ∷ []) (0 ∷ 1 ∷ 1 ∷ []) 1
  -- without the flag the mark stands in the way
  pub mark_in_the_way : Gives (ligature 0) (1 ∷ 3 ∷ 2 ∷ []) (1 ∶ 0 ∷ 3 ∶ 1 ∷ 2 ∶ 2 ∷ []) (0 ∷ 0 ∷ 0 ∷ []) 0
  -- an attempt at a glyph that the lookup passes over fails, in a pass and by a record
  pub passed_over_fails : Gives (forward 8 3 (rule [] [] [] (put (8 ∷ [])) ∷ []) ∷ []) (3 ∷ []) (3 ∶ 0 ∷ []) (0 ∷ []) 0
  pub passed_over_record_fails : Gives (forward 0 3 (rule [] [] [] (nest (0 runs 1 ∷ [])) ∷ []) ∷ forward 8 3 (rule [] [] [] (put (8 ∷ [])) ∷ []) ∷ []) (3 ∷ []) (3 ∶ 0 ∷ []) (0 ∷ []) 1
  -- LIGATURES
  -- clusters before the first component's stay as they are
  pub merge_has_lower_bound : Gives (ligature 0) (5 ∷ 1 ∷ 2 ∷ []) (5 ∶ 0 ∷ 4 ∶ 1 ∷ []) (0 ∷ 0 ∷ 2 ∷ []) 1
  -- a ligature of a ligature over a mark: 4 m i → 8
  pub ligature_over_mark : Gives (forward 8 4 (rule [] (2 ∷ []) [] (join 8) ∷ []) ∷ []) (4 ∷ 3 ∷ 2 ∷ 5 ∷ []) (8 ∶ 0 ∷ 3 ∶ 0 ∷ 5 ∶ 3 ∷ []) (0 ∷ 2 ∷ 2 ∷ 0 ∷ []) 1
  -- clusters merge up to the last component's: f i m i → 4 m
  pub merges_to_the_last : Gives (forward 8 1 (rule [] (2 ∷ 2 ∷ []) [] (join 4) ∷ []) ∷ []) (1 ∷ 2 ∷ 3 ∷ 2 ∷ []) (4 ∶ 0 ∷ 3 ∶ 0 ∷ []) (0 ∷ 2 ∷ 2 ∷ 2 ∷ []) 1
  -- the last component's cluster merges too, where another glyph has it: i becomes i i, and f joins the first of them
  pub merges_the_last_cluster : Gives (forward 0 1 (rule [] (2 ∷ []) [] (nest (1 runs 1 ∷ 0 runs 2 ∷ [])) ∷ []) ∷ forward 0 2 (rule [] [] [] (put (2 ∷ 2 ∷ [])) ∷ []) ∷ ligature 0) (1 ∷ 2 ∷ []) (4 ∶ 0 ∷ 2 ∶ 0 ∷ []) (0 ∷ 2 ∷ []) 3
  -- RECORDS
  -- a ligature stands where its first component stood: of f m i the outer match has f and i in its list, m i becomes 8, i leaves the list, and index 1 is past it
  pub stands_at_the_first : Gives (forward 8 1 (rule [] (2 ∷ []) [] (nest (0 runs 1 ∷ 1 runs 3 ∷ [])) ∷ []) ∷ forward 0 1 (rule [] (3 ∷ []) [] (nest (1 runs 2 ∷ [])) ∷ []) ∷ forward 0 3 (rule [] (2 ∷ []) [] (join 8) ∷ []) ∷ forward 0 8 (rule [] [] [] (put (9 ∷ [])) ∷ []) ∷ []) (1 ∷ 3 ∷ 2 ∷ []) (1 ∶ 0 ∷ 8 ∶ 1 ∷ []) (0 ∷ 1 ∷ 2 ∷ []) 3
  -- a record that grows the list of positions: f becomes f f, index 1 is then the second f, and index 2 is i
  pub grows_positions : Gives (over_fix (0 runs 1 ∷ 1 runs 2 ∷ 2 runs 3 ∷ []) (forward 0 1 (rule [] [] [] (put (1 ∷ 1 ∷ [])) ∷ []) ∷ forward 0 1 (rule [] [] [] (put (7 ∷ [])) ∷ []) ∷ i→8 ∷ [])) (1 ∷ 2 ∷ 5 ∷ []) (1 ∶ 0 ∷ 7 ∶ 0 ∷ 8 ∶ 1 ∷ 5 ∶ 2 ∷ []) (0 ∷ 1 ∷ 1 ∷ []) 4
  -- one that removes an input glyph: the ligature takes i out of the list, index 1 is then x, and index 2 is past the list
  pub removes_input : Gives (over_fix (0 runs 1 ∷ 1 runs 2 ∷ 2 runs 3 ∷ []) (forward 0 1 (rule [] (2 ∷ []) [] (join 4) ∷ []) ∷ x→9 ∷ i→8 ∷ [])) (1 ∷ 2 ∷ 5 ∷ 2 ∷ []) (4 ∶ 0 ∷ 9 ∶ 2 ∷ 2 ∶ 3 ∷ []) (0 ∷ 2 ∷ 1 ∷ 0 ∷ []) 3
  -- one that removes two: of f i i m x, where the outer match passes over m, index 1 is then x
  pub removes_two : Gives (forward 8 1 (rule [] (2 ∷ 2 ∷ 5 ∷ []) [] (nest (0 runs 1 ∷ 1 runs 2 ∷ [])) ∷ []) ∷ forward 0 1 (rule [] (2 ∷ 2 ∷ []) [] (join 4) ∷ []) ∷ x→9 ∷ []) (1 ∷ 2 ∷ 2 ∷ 3 ∷ 5 ∷ []) (4 ∶ 0 ∷ 3 ∶ 3 ∷ 9 ∶ 4 ∷ []) (0 ∷ 2 ∷ 2 ∷ 1 ∷ 1 ∷ []) 3
  -- a ligature over a mark inside an open match f m i: the mark keeps its place in the list
  pub ligature_inside : Gives (forward 0 1 (rule [] (3 ∷ 2 ∷ []) [] (nest (0 runs 1 ∷ 1 runs 2 ∷ [])) ∷ []) ∷ forward 8 1 (rule [] (2 ∷ []) [] (join 4) ∷ []) ∷ forward 0 3 (rule [] [] [] (put (7 ∷ [])) ∷ []) ∷ []) (1 ∷ 3 ∷ 2 ∷ []) (4 ∶ 0 ∷ 7 ∶ 0 ∷ []) (0 ∷ 2 ∷ 2 ∷ []) 3
  -- a record of a record: the outermost match hears of its edits too, and index 2 is then i
  pub told_to_all : Gives (over_fix (0 runs 1 ∷ 2 runs 3 ∷ []) (forward 0 1 (rule [] [] [] (nest (0 runs 2 ∷ [])) ∷ []) ∷ forward 0 1 (rule [] [] [] (put (1 ∷ 1 ∷ [])) ∷ []) ∷ i→8 ∷ [])) (1 ∷ 2 ∷ 5 ∷ []) (1 ∶ 0 ∷ 1 ∶ 0 ∷ 8 ∶ 1 ∷ 5 ∶ 2 ∷ []) (0 ∷ 1 ∷ 1 ∷ []) 4
  -- and it hears of them in order: of f i m x, where the outer match passes over m, f and then i are doubled, and index 4 is x
  pub told_in_order : Gives (forward 8 1 (rule [] (2 ∷ 5 ∷ []) [] (nest (0 runs 1 ∷ 4 runs 4 ∷ [])) ∷ []) ∷ forward 0 1 (rule [] (2 ∷ []) [] (nest (0 runs 2 ∷ 2 runs 3 ∷ [])) ∷ []) ∷ forward 0 1 (rule [] [] [] (put (1 ∷ 1 ∷ [])) ∷ []) ∷ forward 0 2 (rule [] [] [] (put (2 ∷ 2 ∷ [])) ∷ []) ∷ x→9 ∷ []) (1 ∷ 2 ∷ 3 ∷ 5 ∷ []) (1 ∶ 0 ∷ 1 ∶ 0 ∷ 2 ∶ 1 ∷ 2 ∶ 1 ∷ 3 ∶ 2 ∷ 9 ∶ 3 ∷ []) (0 ∷ 1 ∷ 1 ∷ 1 ∷ []) 5
  -- glyphs that grow from one that is in no list enter no list: m, passed over by the outer match, becomes m m, and index 1 is still i
  pub grows_outside_the_list : Gives (forward 8 1 (rule [] (2 ∷ []) [] (nest (0 runs 1 ∷ 1 runs 3 ∷ [])) ∷ []) ∷ forward 0 1 (rule [] (3 ∷ []) [] (nest (1 runs 2 ∷ [])) ∷ []) ∷ forward 0 3 (rule [] [] [] (put (3 ∷ 3 ∷ [])) ∷ []) ∷ i→8 ∷ []) (1 ∷ 3 ∷ 2 ∷ []) (1 ∶ 0 ∷ 3 ∶ 1 ∷ 3 ∶ 1 ∷ 8 ∶ 2 ∷ []) (0 ∷ 1 ∷ 1 ∷ []) 4
  -- a record that reaches past the outer match's end, which stays: i grows to i i behind the match f, and the pass meets both
  pub reaches_past_the_end : Gives (record { flag = 0; mark_set = 0; backward = false; candidates = λ alt g. cond (g == 1) (rule [] [] [] (nest (0 runs 1 ∷ [])) ∷ []) (cond (g == 2) (rule [] [] [] (put (8 ∷ [])) ∷ []) []) } ∷ forward 0 1 (rule [] (2 ∷ []) [] (nest (1 runs 2 ∷ [])) ∷ []) ∷ forward 0 2 (rule [] [] [] (put (2 ∷ 2 ∷ [])) ∷ []) ∷ []) (1 ∷ 2 ∷ []) (1 ∶ 0 ∷ 8 ∶ 1 ∷ 8 ∶ 1 ∷ []) (0 ∷ 1 ∷ []) 5
  -- a change inside the match moves its end along, so that the pass does not meet the new glyphs
  pub end_moves_along : Gives (record { flag = 0; mark_set = 0; backward = false; candidates = λ alt g. cond (g == 1) (rule [] (2 ∷ []) [] (nest (0 runs 1 ∷ [])) ∷ []) (cond (g == 2) (rule [] [] [] (put (8 ∷ [])) ∷ []) []) } ∷ forward 0 1 (rule [] [] [] (put (2 ∷ 2 ∷ [])) ∷ []) ∷ []) (1 ∷ 2 ∷ 2 ∷ []) (2 ∶ 0 ∷ 2 ∶ 0 ∷ 2 ∶ 1 ∷ 8 ∶ 2 ∷ []) (0 ∷ 1 ∷ 0 ∷ []) 3
  -- an index past the list does nothing, neither to the first nor to the last glyph
  pub index_past_the_list : Gives (over_fix (3 runs 1 ∷ 3 runs 2 ∷ 1 runs 3 ∷ []) (forward 0 1 (rule [] [] [] (put (7 ∷ [])) ∷ []) ∷ x→9 ∷ i→8 ∷ [])) (1 ∷ 2 ∷ 5 ∷ []) (1 ∶ 0 ∷ 8 ∶ 1 ∷ 5 ∶ 2 ∷ []) (0 ∷ 1 ∷ 1 ∷ []) 2
  -- the list is cut to 64: f becomes 64 glyphs, so that i falls off, and index 64 is past the list; index 63 is the last of the new glyphs
  pub first64 : Shapes (inputs (forward 0 1 (rule [] (2 ∷ []) [] (nest (0 runs 1 ∷ 64 runs 2 ∷ 63 runs 3 ∷ [])) ∷ []) ∷ forward 0 1 (rule [] [] [] (put (replicate 64 5)) ∷ []) ∷ i→8 ∷ x→9 ∷ []) 10 70) (1 ∷ 2 ∷ []) (shaped (record { run = replicate 63 (5 ∶ 0) ++ (9 ∶ 0 ∷ 2 ∶ 1 ∷ []); marks = 0 ∷ 1 ∷ []; hits = 3 }))
  -- a lookup that names itself: the plan's attempt and five records inside one another hit, a sixth does not run
  pub depth_six : Gives (forward 0 2 (rule [] [] [] (nest (0 runs 0 ∷ [])) ∷ []) ∷ []) (2 ∷ []) (2 ∶ 0 ∷ []) (0 ∷ []) 6
  -- a record that names a backward lookup does nothing
  pub no_backward_record : Gives (forward 0 2 (rule [] [] [] (nest (0 runs 1 ∷ [])) ∷ []) ∷ backward 2 (rule [] [] [] (put (8 ∷ [])) ∷ []) ∷ []) (2 ∷ []) (2 ∶ 0 ∷ []) (0 ∷ []) 1
  -- LIMITS
  -- where both the hit limit and the room are spent, 7 comes before 8
  pub seven_before_eight : Shapes (inputs doubled 0 1) (5 ∷ []) (refused 7)
  -- a run may fill its buffer, and the hits their limit
  pub fills : Shapes (inputs doubled 1 2) (5 ∷ []) (shaped (record { run = 5 ∶ 0 ∷ 5 ∶ 0 ∷ []; marks = 0 ∷ []; hits = 1 }))
  -- a refusal inside a record ends all
  pub refused_inside : Shapes (inputs (forward 0 5 (rule [] [] [] (nest (0 runs 1 ∷ [])) ∷ []) ∷ doubled) 10 1) (5 ∷ []) (refused 8)
  -- a first run longer than the room is refused before any hit
  pub first_run_too_long : Shapes (inputs (ligature 0) 0 1) (1 ∷ 2 ∷ []) (refused 8)
  -- PLANS
  -- entries run in order, each on what the one before left: i → x, then x → 9
  pub in_order : Shapes (record { font = font; table = λ n. slice_index_or (to_x ++ (x→9 ∷ [])) n x→9; plan = record { lookup = 0; alternate = 1 } ∷ record { lookup = 1; alternate = 1 } ∷ []; limit = 10; room = 10 }) (2 ∷ 5 ∷ []) (shaped (record { run = 9 ∶ 0 ∷ 9 ∶ 1 ∷ []; marks = 0 ∷ 0 ∷ []; hits = 3 }))
  -- a backward pass begins with the last glyph, and goes on after a hit
  pub from_the_last : Gives (backward 2 (rule (1 ∷ []) [] [] (put (8 ∷ [])) ∷ []) ∷ []) (1 ∷ 2 ∷ 1 ∷ 2 ∷ []) (1 ∶ 0 ∷ 8 ∶ 1 ∷ 1 ∶ 2 ∷ 8 ∶ 3 ∷ []) (0 ∷ 1 ∷ 0 ∷ 1 ∷ []) 2
  -- the first run has the font's glyphs
  pub fonts_glyph : Gives (x→9 ∷ []) (20 ∷ []) (9 ∶ 0 ∷ []) (0 ∷ []) 1
  -- a record's lookup has the plan entry's alternate value
  pub alternate_of_the_entry : Shapes (record { font = font; table = λ n. slice_index_or (forward 0 2 (rule [] [] [] (nest (0 runs 1 ∷ [])) ∷ []) ∷ []) n (record { flag = 0; mark_set = 0; backward = false; candidates = λ alt g. rule [] [] [] (put (alt ∷ [])) ∷ [] }); plan = record { lookup = 0; alternate = 7 } ∷ []; limit = 10; room = 10 }) (2 ∷ []) (shaped (record { run = 7 ∶ 0 ∷ []; marks = 0 ∷ []; hits = 2 }))
  -- PASSING OVER: the bits 2 and 4 for bases and ligatures alone, and neither for components
  pub flag2 : passed_over 0x0002 6 ≡ 11 ∷ []
  pub flag4 : passed_over 0x0004 6 ≡ 12 ∷ []
  -- the other low bits pass over nothing
  pub other_bits : passed_over 0x00E1 6 ≡ []
  -- flag 8 passes over all marks, whatever the mark set or the high byte
  pub flag8 : passed_over 0x0118 6 ≡ 3 ∷ 13 ∷ 14 ∷ 16 ∷ 17 ∷ []
  -- flag 0x10 passes over the marks outside the lookup's set, whatever the high byte
  pub flag16 : passed_over 0x0210 6 ≡ 3 ∷ 14 ∷ 16 ∷ 17 ∷ []
  pub another_set : passed_over 0x0010 7 ≡ 3 ∷ 13 ∷ 16 ∷ 17 ∷ []
  pub missing_set : passed_over 0x0010 8 ≡ 3 ∷ 13 ∷ 14 ∷ 16 ∷ 17 ∷ []
  -- the high byte alone passes over the marks of another mark class, which has 16 bits
  pub class1 : passed_over 0x0100 6 ≡ 3 ∷ 14 ∷ 16 ∷ 17 ∷ []
  pub class2 : passed_over 0x0200 6 ≡ 3 ∷ 13 ∷ 16 ∷ 17 ∷ []
  pub class3 : passed_over 0x0300 6 ≡ 3 ∷ 13 ∷ 14 ∷ 17 ∷ []
  pub class128 : passed_over 0x8000 6 ≡ 3 ∷ 13 ∷ 14 ∷ 16 ∷ 17 ∷ []
  -- SIZES, AND THEN THE PLAN: as much as may be, and nothing at all
  pub most : refused_first 65535 65535 65535 1000000 100 (entries 65535 (up_from 36 64)) ≡ None
  pub least : refused_first 0 0 0 0 0 [] ≡ None
  -- neither does a run have to hold the text, nor a text to fill its marks
  pub apart : refused_first 7 0 9 0 1 (entries 1 (0 ∷ [])) ≡ None
  pub text_too_long : refused_first 65536 65535 65536 1000000 100 [] ≡ Some 6
  pub run_too_long : refused_first 65535 65536 65535 1000000 100 [] ≡ Some 6
  pub limit_too_high : refused_first 65535 65535 65535 1000001 100 [] ≡ Some 6
  pub marks_too_short : refused_first 7 9 6 10 100 [] ≡ Some 6
  pub plan_too_long : refused_first 7 9 7 10 100 (entries 1 (up_from 0 65)) ≡ Some 5
  pub lookup_repeated : refused_first 7 9 7 10 100 (entries 1 (3 ∷ 3 ∷ [])) ≡ Some 5
  pub lookups_fall : refused_first 7 9 7 10 100 (entries 1 (3 ∷ 2 ∷ [])) ≡ Some 5
  pub lookup_missing : refused_first 7 9 7 10 100 (entries 1 (3 ∷ 100 ∷ [])) ≡ Some 5
  pub alternate_0 : refused_first 7 9 7 10 100 (entries 1 (3 ∷ []) ++ entries 0 (4 ∷ [])) ≡ Some 5
  pub six_before_five : refused_first 7 9 6 10 100 (entries 0 (3 ∷ [])) ≡ Some 6
