-- What shaping changes, as the code holds it.
use Rattle.std.specs.Prelude.{◌≡◌, [], length}
use Rattle.model.specs.Shaping.{State}
use Rattle.editing.specs.Contents.{glyphs_of, lender_of, open_of, room_of}
use Rattle.shaping.specs.declared.work.Work.{Work}
use Rattle.shaping.specs.Attempts.{Ready}
use Rattle.ties.specs.Ties.{tied_in}

abbrev pub state_of : Work → State
state_of w = record { run = glyphs_of w.editing; tied = tied_in w.ties.now; hits = w.hits }

-- Two of them in the same memory.
abbrev pub Lent : Work → Work → Type 0
Lent v w =
    (lender_of v.editing ≡ lender_of w.editing) × (room_of v.editing ≡ room_of w.editing)
    × (v.ties.ghost_name ≡ w.ties.ghost_name) × (length v.ties.now ≡ length w.ties.now)

-- Between attempts of a plan: no match is open.
abbrev pub Idle : Work → Type 0
Idle w = (open_of w.editing ≡ []) × Ready (length w.ties.now) (state_of w)
