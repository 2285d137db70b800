-- What a run under change is to its callers: the run, and the open matches in it.
use Rattle.std.specs.Prelude.{ℕ, List, take}
use Rattle.std.specs.Borrow.{GName}
use Rattle.model.specs.declared.Glyph.{Glyph}
use Rattle.model.specs.Edits.{Frame}
use Rattle.run.specs.Contents as run
use Rattle.editing.specs.declared.editing.Editing.{Editing}
use Rattle.editing.specs.Frames.{innermost_first}

abbrev pub glyphs_of : Editing → List Glyph
glyphs_of editing = run.glyphs_of editing.run

-- The open matches, the innermost first.
abbrev pub open_of : Editing → List Frame
open_of editing = innermost_first (take editing.depth editing.frames)

abbrev pub room_of : Editing → ℕ
room_of editing = run.room_of editing.run

abbrev pub lender_of : Editing → GName
lender_of editing = run.lender_of editing.run
