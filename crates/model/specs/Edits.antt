-- Edits: what a match's change does to the run, and to the positions that open matches keep.
use Rattle.std.specs.Prelude.{ℕ, zero, suc, pred, ◌+◌, cond, ◌&&◌, List, [], ◌∷◌, ◌++◌, map, length, take, drop, ◌==◌, nat_le, nat_lt}
use Rattle.model.specs.declared.Glyph.{Glyph}
use Rattle.model.specs.Lookups.{Action, put, join, nest, Met, far}

-- An edit: the glyph at `position` was replaced by `into` glyphs; 0 means that it was removed.
pub record Edit : Type 0 where
  pub position : ℕ
  pub into : ℕ

-- An open match: the positions of its input glyphs, and the position just after the last of them.
pub record Frame : Type 0 where
  pub positions : List ℕ
  pub «end» : ℕ

-- n positions from i on.
abbrev pub up_from : (i n : ℕ) → List ℕ
up_from i zero = []
up_from i (suc n) = i ∷ up_from (suc i) n

-- Under an edit at position i, a position before i stays, i gives way to the new glyphs, and a later one moves along.
abbrev pub moved_all : Edit → List ℕ → List ℕ
moved_all e [] = []
moved_all e (p ∷ ps) =
    cond (nat_lt p e.position) (p ∷ []) (cond (p == e.position) (up_from p e.into) (pred (p + e.into) ∷ [])) ++ moved_all e ps

-- A match's end moves only under changes before it.
abbrev pub moved_end : Edit → ℕ → ℕ
moved_end e p = cond (nat_le p e.position) p (pred (p + e.into))

-- An open match is told of edits, one after the other. It keeps its first 64 positions.
abbrev pub told : List Edit → Frame → Frame
told [] f = f
told (e ∷ es) f = told es (record { positions = take 64 (moved_all e f.positions); «end» = moved_end e f.«end» })

-- The positions of the glyphs met and the position just after the last of them, where the search began at position q.
abbrev pub frame_from : (q : ℕ) → List Met → Frame
frame_from q [] = record { positions = []; «end» = q }
frame_from q (m ∷ ms) =
    record { positions = (q + m.gap) ∷ (frame_from (suc (q + m.gap)) ms).positions; «end» = (frame_from (suc (q + m.gap)) ms).«end» }

-- The open match at position p with further input ms.
abbrev pub frame_at : (p : ℕ) → List Met → Frame
frame_at p ms = record { positions = p ∷ (frame_from (suc p) ms).positions; «end» = (frame_from (suc p) ms).«end» }

abbrev pub at_cluster : (cluster glyph : ℕ) → Glyph
at_cluster c g = record { glyph = g; cluster = c }

-- The glyphs without those met.
abbrev pub without : List Met → List Glyph → List Glyph
without [] gs = gs
without (m ∷ ms) gs = take m.gap gs ++ without ms (drop (suc m.gap) gs)

-- A cluster from lo to hi becomes lo.
abbrev pub merged : (lo hi : ℕ) → Glyph → Glyph
merged lo hi g = at_cluster (cond (nat_le lo g.cluster && nat_le g.cluster hi) lo g.cluster) g.glyph

-- The run after the match's own change at position p. New glyphs have the old one's cluster. A ligature stands at the first component, the others go, and every glyph with a cluster from the first to the last component's, a glyph passed over too, has the first's.
abbrev pub changed : Action → (own : ℕ) → List Met → (p : ℕ) → List Glyph → List Glyph
changed (put gs) own ms p run = take p run ++ (map (at_cluster own) gs ++ drop (suc p) run)
changed (join n) own ms p run = map (merged own (far own ms)) (take p run ++ (at_cluster own n ∷ without ms (drop (suc p) run)))
changed (nest rs) own ms p run = run

-- The glyphs met are removed, the nearest first, so that each edit counts positions after the one before.
abbrev pub removals : (q : ℕ) → List Met → List Edit
removals q [] = []
removals q (m ∷ ms) = record { position = q + m.gap; into = 0 } ∷ removals (q + m.gap) ms

-- The same change as edits.
abbrev pub edits : Action → List Met → (p : ℕ) → List Edit
edits (put gs) ms p = record { position = p; into = length gs } ∷ []
edits (join n) ms p = removals (suc p) ms
edits (nest rs) ms p = []
