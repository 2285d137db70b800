-- What the code answers to an attempt, by what the definitions say that it comes to.
use Rattle.std.specs.Prelude.{◌≡◌, ℕ, suc, ◌<◌, cond, drop, true, false, ◌∷◌, List, map, length, Some, None, Option, Ok, Err, Result, nat_lt, nat_le}
use Rattle.std.specs.List.{AllByRecursion}
use Rattle.std.proofs.Math.ListN.{get_elem?}
use Rattle.font.specs.Font.{Font}
use Rattle.gsub.specs.Meaning.{gsub_means}
use Rattle.matching.specs.Seek.{glyph_at, mets_at}
use Rattle.model.specs.declared.Entry.{Entry}
use Rattle.model.specs.declared.Glyph.{Glyph}
use Rattle.model.specs.Edits.{Frame, edits, frame_at, told}
use Rattle.model.specs.Laws.{Rising}
use Rattle.model.specs.Lookups.{LookupRecord, Match}
use Rattle.model.specs.Shaping.{Attempt, Ending, Inputs, State, accepted, at_index, attempt, barred, hit, miss, stopped, struck}
use Rattle.candidates.specs.Actions.{action_of}
use Rattle.candidates.specs.LookupOf.{lookup_of}
use Rattle.candidates.specs.declared.found.Found.{Found}
use Rattle.shaping.specs.declared.attempt.Inner.{Inner}
use Rattle.shaping.specs.declared.stop.Stop.{Stop}
use Rattle.shaping.specs.declared.stop.Stop.TheVariants.{HitLimit, Room}

-- What shaping reads, by the definitions: a table by what it means.
abbrev pub inputs_of : Font → (table : List ℕ) → (plan : List Entry) → (limit room : ℕ) → Inputs
inputs_of font t plan limit room = record { font = font; table = gsub_means t; plan = plan; limit = limit; room = room }

abbrev pub stop_number : Stop → ℕ
stop_number HitLimit = 7
stop_number Room = 8

-- Clusters never fall, and each has one of n marks.
abbrev pub Ready : (n : ℕ) → State → Type 0
Ready n s = Rising s.run × AllByRecursion (λ g. g.cluster < n) s.run

-- A match takes effect, or is stopped: by the hit limit first, then by the room. It is open after that, and told of its own edits, as are the matches around it.
abbrev pub Took : Inputs → Match → (p : ℕ) → State → List Frame → Result (Unit {0}) Stop → State → List Frame → Type 0
Took inputs m p s fs (Ok u) s' fs' =
    (nat_lt s.hits inputs.limit ≡ true) × (nat_le (length (struck m p s).run) inputs.room ≡ true) × (s' ≡ struck m p s)
    × (fs' ≡ map (told (edits m.action m.others p)) (frame_at p m.others ∷ fs))
Took inputs m p s fs (Err HitLimit) s' fs' = nat_lt s.hits inputs.limit ≡ false
Took inputs m p s fs (Err Room) s' fs' = (nat_lt s.hits inputs.limit ≡ true) × (nat_le (length (struck m p s).run) inputs.room ≡ false)

-- An attempt that misses changes nothing; a refused one is stopped by that number; a hit answers the match's end, and every open match is told of its edits.
abbrev pub Comes : Attempt → State → List Frame → Result (Option ℕ) Stop → State → List Frame → Type 0
Comes miss s fs r s' fs' = (r ≡ Ok None) × (s' ≡ s) × (fs' ≡ fs)
Comes (barred n) s fs r s' fs' = (stop : Stop) × (r ≡ Err stop) × (stop_number stop ≡ n)
Comes (hit t e es) s fs r s' fs' = (r ≡ Ok (Some e)) × (s' ≡ t) × (fs' ≡ map (told es) fs)

-- A match in the code, at position p of a run; `met` are the indices of its further input, counted from the glyph behind p.
abbrev pub match_at : List Glyph → (p : ℕ) → (met : List ℕ) → Found → Match
match_at gs p met f =
    record { action = action_of f.action; others = mets_at (drop (suc p) gs) 0 met; own = (glyph_at gs p).cluster; lo = f.span.lo; hi = f.span.hi }

-- What a record comes to, by what the code finds for it to run: nothing, or a lookup at a position.
abbrev pub Inwards : Inputs → LookupRecord → Frame → Option Inner → Type 0
Inwards inputs r f None =
    (depth alternate : ℕ) (s : State) → at_index (λ l p u. cond (inputs.table l).backward miss (attempt inputs depth alternate l p u)) r.lookup (get_elem? f.positions r.index) s ≡ miss
Inwards inputs r f (Some inner) =
    (lookup_of inner.lookup ≡ inputs.table r.lookup)
    × ((depth alternate : ℕ) (s : State) → at_index (λ l p u. cond (inputs.table l).backward miss (attempt inputs depth alternate l p u)) r.lookup (get_elem? f.positions r.index) s ≡ attempt inputs depth alternate r.lookup inner.at s)

-- What a pass or a plan comes to.
abbrev pub ending_of : Result (Unit {0}) Stop → State → Ending
ending_of (Ok u) s = accepted s
ending_of (Err stop) s = stopped (stop_number stop)
