-- What shaping answers and leaves, in the words of the calls.
use Rattle.std.proofs.Common.{◌≡◌, ℕ, List, Some, None, Option, Ok, Err, Result, length, refl, ◌∙◌}
use Rattle.model.specs.declared.Glyph.{Glyph}
use Rattle.gsub.specs.Meaning.{gsub_means}
use Rattle.model.specs.Shaping.{Outcome, Shapes, refused, shaped}
use Rattle.shaping.specs.declared.refusal.Refusal.{Refusal as ShapingRefusal}
use Rattle.shaping.specs.declared.shape.Laid.{Laid}
use Rattle.shaping.specs.Shape.{answer_of, marks_left, run_left, told, refused as told_refused}
use Rattle.paragraph.specs.Calls.{Inputs, Memory, by_first, filled, first_refusal, left_by}
use Rattle.paragraph.specs.Told.{Filled, Tells, memory}

tells-refused : (r : Result Laid ShapingRefusal) (n : ℕ) → told r ≡ told_refused n → Tells r (refused n)
tells-refused (Ok laid) n e = absurd cc
tells-refused (Err refusal) n e = cc

tells-outcome : (r : Result Laid ShapingRefusal) (o : Outcome) → told r ≡ answer_of o → Tells r o
tells-outcome (Ok laid) (refused n) e = absurd cc
tells-outcome (Err refusal) (refused n) e = cc
tells-outcome (Ok laid) (shaped w) e = (w, refl, cc, cc)
tells-outcome (Err refusal) (shaped w) e = absurd cc

pub same-memory : {run run' : List Glyph} {marks marks' : List ℕ} → run ≡ run' → marks ≡ marks' → memory run marks ≡ memory run' marks'
same-memory e f i = record { run = e i; marks = f i }

filled-is : (o : Outcome) (m : Memory) → memory (run_left o (length m.run)) (marks_left o (length m.marks)) ≡ filled o m
filled-is (refused n) m = refl
filled-is (shaped w) m = refl

module _ (x : Inputs) (limit : ℕ) (text : List ℕ) (m : Memory) (r : Result Laid ShapingRefusal) (run' : List Glyph) (marks' : List ℕ)
    (first : (n : ℕ) → first_refusal x limit text m ≡ Some n → (told r ≡ told_refused n) × (run' ≡ m.run) × (marks' ≡ m.marks))
    (outcome : first_refusal x limit text m ≡ None → (o : Outcome) × Shapes (record { font = x.source.font; table = gsub_means x.table; plan = x.plan; limit = limit; room = length m.run }) text o
    × (told r ≡ answer_of o) × (run' ≡ run_left o (length m.run)) × (marks' ≡ marks_left o (length m.marks))) where
  by : (f : Option ℕ) → first_refusal x limit text m ≡ f → (o : Outcome) × by_first x limit text m f o × Tells r o × (memory run' marks' ≡ left_by f o m)
  by (Some n) e = let h = first n e in (refused n, refl, tells-refused r n h.0, same-memory h.1 h.2)
  by None e = let h = outcome e in (h.0, h.1, tells-outcome r h.0 h.2, same-memory h.3 h.4 ∙ filled-is h.0 m)

  pub filled-by : Filled x limit text m r (memory run' marks')
  filled-by = by (first_refusal x limit text m) refl
