-- What a run is to its callers: its glyphs, for how many there is room, and whose memory it is in.
use Rattle.std.specs.Prelude.{ℕ, List, ◌++◌, take, drop, length}
use Rattle.std.specs.Borrow.{GName}
use Rattle.model.specs.declared.Glyph.{Glyph}
use Rattle.run.specs.declared.Run.{Run}

-- The glyphs before the gap, and those behind it.
unfoldable pub glyphs_of : Run → List Glyph
glyphs_of run = take run.front run.slots.now ++ drop run.back run.slots.now

abbrev pub room_of : Run → ℕ
room_of run = length run.slots.now

-- The ghost name of the borrow. Where it stays the lender's, the lender knows what `close` leaves.
abbrev pub lender_of : Run → GName
lender_of run = run.slots.ghost_name
