-- What a match does, and what was found at a position, in the words of the definitions.
use Rattle.std.specs.Prelude.{◌≡◌, ℕ, suc, List, take, drop, Some, None, Option}
use Rattle.std.proofs.Math.Option.{Option as Perhaps, none, some}
use Rattle.model.specs.declared.Glyph.{Glyph}
use Rattle.model.specs.Lookups.{LookupRecord, Match, put, join, nest}
use Rattle.model.specs.Lookups.{Action as ModelAction}
use Rattle.matching.specs.Seek.{glyph_at, mets_at}
use Rattle.gsub.specs.Candidates.{records_from}
use Rattle.candidates.specs.declared.found.Action.{Action}
use Rattle.candidates.specs.declared.found.Action.TheVariants.{Put, Join, Nest}
use Rattle.candidates.specs.declared.found.Found.{Found}
use Rattle.candidates.specs.declared.found.Glyphs.{Glyphs}
use Rattle.candidates.specs.declared.found.Record.{Record}
use Rattle.candidates.specs.declared.found.Records.{Records}

abbrev pub glyphs_in : Glyphs → List ℕ
glyphs_in gs = take gs.count gs.list

abbrev pub records_of : Records → List LookupRecord
records_of rs = records_from rs.part.now rs.at rs.count

-- A record in the code.
abbrev pub record_of : LookupRecord → Record
record_of r = record { index = r.index; lookup = r.lookup }

abbrev pub action_of : Action → ModelAction
action_of (Put gs) = put (glyphs_in gs)
action_of (Join n) = join n
action_of (Nest rs) = nest (records_of rs)

-- A match at position p of a run, whose further input glyphs have the first of these indices, counted from the glyph behind p.
abbrev pub found_at : List Glyph → (p : ℕ) → (met : List ℕ) → Option Found → Perhaps Match
found_at gs p met None = none
found_at gs p met (Some f) =
    some (record { action = action_of f.action; others = mets_at (drop (suc p) gs) 0 (take f.inputs met); own = (glyph_at gs p).cluster; lo = f.span.lo; hi = f.span.hi })

-- What is left of the memory for those indices: a match changes as many places as it has further
-- inputs, the first ones, and a miss changes none.
abbrev pub MetLeft : Option Found → (old new : List ℕ) → Type 0
MetLeft None old new = new ≡ old
MetLeft (Some f) old new = drop f.inputs new ≡ drop f.inputs old
