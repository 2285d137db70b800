-- The nine worked examples, in one statement. Glyphs: f = 1, i = 2, a mark m = 3, the ligature fi =
-- 4, x = 5.
use Rattle.std.specs.Prelude.{ℕ, [], ◌∷◌}
use Rattle.model.specs.Examples.{Gives, after_f, backward, doubled, except_after_f, inputs, ligature, rule, ◌∶◌}
use Rattle.model.specs.Lookups.{put}
use Rattle.model.specs.Shaping.{Shapes, refused}
use Rattle.paragraph.specs.Calls.{done, gives, is_blank, is_shaped, kept, line, owes, paid, pay, shape}
use Rattle.paragraph.specs.Example.{fix, fresh, full, paragraph, room_for_two, slip}
use Rattle.paragraph.specs.Step.{Step}

-- A paragraph of f i x, shaped with f i → fi: its line from 0 to 2 is kept; that from 0 to 1, whose
-- end is tied, is a slip, which is paid with f alone.
pub record KeptAndPaid : Type 0 where
  pub shaped_as : Step fix fresh (is_blank 7) shape done (is_shaped (paragraph 0)) full
  pub kept_line :
      Step fix full (is_shaped (paragraph 0)) (line 0 2) (gives (kept 0 2 0 1))
      (is_shaped (paragraph 0)) full
  pub slip_owed :
      Step fix full (is_shaped (paragraph 0)) (line 0 1) (owes slip)
      (is_shaped (paragraph 1)) full
  pub slip_paid :
      Step fix full (is_shaped (paragraph 1)) (pay slip (room_for_two (0 ∶ 0) (8 ∷ 8 ∷ [])))
      (gives (paid 0 1 1 0 (room_for_two (1 ∶ 0) (0 ∷ 0 ∷ [])))) (is_shaped (paragraph 0)) full

pub record NineExamples : Type 0 where
  -- 1. an empty text: an empty run, no hits
  pub empty : Gives (ligature 0) [] [] [] 0
  -- 2. f i → fi on f i x
  pub joins : Gives (ligature 0) (1 ∷ 2 ∷ 5 ∷ []) (4 ∶ 0 ∷ 5 ∶ 2 ∷ []) (0 ∷ 2 ∷ 0 ∷ []) 1
  -- 3. under flag 8 on f m i: the mark stays behind the ligature, in its cluster
  pub joins_over_a_mark :
      Gives (ligature 8) (1 ∷ 3 ∷ 2 ∷ []) (4 ∶ 0 ∷ 3 ∶ 0 ∷ []) (0 ∷ 2 ∷ 2 ∷ []) 1
  -- 4. a line of the second that is kept, and one that is paid for
  pub kept_and_paid : KeptAndPaid
  -- 5. backtrack f, i → x by a record, on f i: the match is a hit, and so is the record's; at limit
  -- 1, refusal 7
  pub record_runs :
      Gives after_f (1 ∷ 2 ∷ []) (1 ∶ 0 ∷ 5 ∶ 1 ∷ []) (0 ∷ 1 ∷ []) 2
      × Shapes (inputs after_f 1 10) (1 ∷ 2 ∷ []) (refused 7)
  -- 6. backtrack f, input i, no record, before a rule i → x by a record, on f i: it matches, hits
  -- and ties, and no later rule is tried
  pub matches_without_record : Gives except_after_f (1 ∷ 2 ∷ []) (1 ∶ 0 ∷ 2 ∶ 1 ∷ []) (0 ∷ 1 ∷ []) 1
  -- 7. the same on i: the backtrack is missing, and the next rule is tried
  pub next_rule : Gives except_after_f (2 ∷ []) (5 ∶ 0 ∷ []) (0 ∷ []) 2
  -- 8. x → x x on x: one glyph becomes two, with the old cluster; at room 1, refusal 8
  pub grows :
      Gives doubled (5 ∷ []) (5 ∶ 0 ∷ 5 ∶ 0 ∷ []) (0 ∷ []) 1
      × Shapes (inputs doubled 10 1) (5 ∷ []) (refused 8)
  -- 9. backward: i before a lookahead i becomes x, on i i i
  pub goes_backward :
      Gives (backward 2 (rule [] [] (2 ∷ []) (put (5 ∷ [])) ∷ []) ∷ []) (2 ∷ 2 ∷ 2 ∷ [])
      (2 ∶ 0 ∷ 5 ∶ 1 ∷ 2 ∶ 2 ∷ []) (0 ∷ 0 ∷ 1 ∷ []) 1
