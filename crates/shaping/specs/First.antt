-- A state of shaping with no hit so far, and what a plan comes to from there.
use Rattle.std.specs.Prelude.{◌≡◌, ℕ, List, Ok, Err, Result}
use Rattle.model.specs.declared.Glyph.{Glyph}
use Rattle.model.specs.Shaping.{Ending, Inputs, Runs, Shapes, State, accepted, marks, refused, shaped, stopped}
use Rattle.shaping.specs.declared.stop.Stop.{Stop}
use Rattle.shaping.specs.Attempts.{stop_number}
use Rattle.ties.specs.Ties.{tied_in}

abbrev pub first_state : List Glyph → (ties : List ℕ) → State
first_state run ties = record { run = run; tied = tied_in ties; hits = 0 }

-- Accepted with so many hits, or stopped.
abbrev pub ended : Result ℕ Stop → List Glyph → (ties : List ℕ) → Ending
ended (Ok hits) run ties = accepted (record { run = run; tied = tied_in ties; hits = hits })
ended (Err stop) run ties = stopped (stop_number stop)

-- The plan comes from a state to another with this run and these hits, whose first n clusters have these marks; or it is stopped.
abbrev pub Marked : Inputs → State → (n : ℕ) → Result ℕ Stop → List Glyph → List ℕ → Type 0
Marked inputs s n (Ok hits) run ms = (t : State) × Runs inputs inputs.plan s (accepted t) × (t.run ≡ run) × (t.hits ≡ hits) × (ms ≡ marks t 0 n)
Marked inputs s n (Err stop) run ms = Runs inputs inputs.plan s (stopped (stop_number stop))

-- The outcome of a text.
abbrev pub Filled : Inputs → (text : List ℕ) → Result ℕ Stop → List Glyph → List ℕ → Type 0
Filled inputs text (Ok hits) run ms = Shapes inputs text (shaped (record { run = run; marks = ms; hits = hits }))
Filled inputs text (Err stop) run ms = Shapes inputs text (refused (stop_number stop))
