-- Shaping's two clauses as one, where the tables have no fault.
use Rattle.std.proofs.Common.{◌≡◌, ℕ, List, Some, None, Option, Result, length, refl, ap, ◌∙◌}
use Rattle.model.specs.declared.Glyph.{Glyph}
use Rattle.model.specs.Shaping.{Outcome, refused, shaped}
use Rattle.shaping.specs.declared.refusal.Refusal.{Refusal}
use Rattle.shaping.specs.declared.shape.Laid.{Laid}
use Rattle.shaping.specs.Shape.{answer_of as outcome_told, marks_left, run_left, told, refused as told_refused}
use Rattle.shape_c.specs.Answers.{answer_of, answered}
use Rattle.shape_c.specs.Calls.{ComesBy, End, barred, ended, marks_after, run_after}

outcome_in_c : (o : Outcome) → answered (outcome_told o) ≡ answer_of (ended o)
outcome_in_c (refused n) = refl
outcome_in_c (shaped r) = refl

pub comes : (To : Outcome → Type 0) (r : Result Laid Refusal) (run0 run1 : List Glyph) (marks0 marks1 : List ℕ) (first : Option ℕ)
    → ((n : ℕ) → first ≡ Some n → (told r ≡ told_refused n) × (run1 ≡ run0) × (marks1 ≡ marks0))
    → (first ≡ None → (o : Outcome) × To o × (told r ≡ outcome_told o) × (run1 ≡ run_left o (length run0)) × (marks1 ≡ marks_left o (length marks0)))
    → (e : End) × ComesBy None first To e × (answered (told r) ≡ answer_of e) × (run1 ≡ run_after e run0) × (marks1 ≡ marks_after e marks0)
comes To r run0 run1 marks0 marks1 (Some n) before after =
    let h = before n refl in
    (barred n, refl, ap answered h.0, h.1, h.2)
comes To r run0 run1 marks0 marks1 None before after =
    let h = after refl in
    (ended h.0, (h.0, h.1, refl), ap answered h.2 ∙ outcome_in_c h.0, h.3, h.4)
