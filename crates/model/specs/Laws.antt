-- What shaping promises, as statements. No law asks anything of the lookups, the plan or the limits.
use Rattle.std.specs.Prelude.{◌≡◌, ℕ, ◌+◌, ◌-◌, ◌<◌, ◌≤◌, true, ◌⊎◌, List, [], ◌∷◌, ◌++◌, map, length, take, drop, sum_by, slice_index, slice_range}
use Rattle.std.specs.List.{AllByRecursion}
use Rattle.font.specs.Font.{width}
use Rattle.model.specs.declared.Glyph.{Glyph}
use Rattle.model.specs.Edits.{Edit, at_cluster}
use Rattle.model.specs.declared.Entry.{Entry}
use Rattle.model.specs.Shaping.{Inputs, State, hit, attempt, accepted, Sweeps, Shaped, Outcome, refused, shaped, Shapes}

-- A text has at most one outcome.
abbrev pub AtMostOneOutcome : Type 0
AtMostOneOutcome = (inputs : Inputs) (text : List ℕ) (o o' : Outcome) → Shapes inputs text o → Shapes inputs text o' → o ≡ o'

-- Every text has an outcome.
abbrev pub AlwaysAnOutcome : Type 0
AlwaysAnOutcome = (inputs : Inputs) (text : List ℕ) → (o : Outcome) × Shapes inputs text o

-- No glyph has a cluster below that of a glyph before it.
abbrev pub Rising : List Glyph → Type 0
Rising [] = Unit {0}
Rising (g ∷ gs) = AllByRecursion (λ h. g.cluster ≤ h.cluster) gs × Rising gs

-- The clusters of a shaped run never fall, and lie below the text's length.
abbrev pub ClustersRise : Type 0
ClustersRise = (inputs : Inputs) (text : List ℕ) (r : Shaped) → Shapes inputs text (shaped r) → Rising r.run × AllByRecursion (λ g. g.cluster < length text) r.run

-- What is tied stays tied, through every attempt and every pass.
abbrev pub TiesStay : Type 0
TiesStay =
    ((inputs : Inputs) (depth alternate l p : ℕ) (s s' : State) (e : ℕ) (es : List Edit) (c : ℕ) → attempt inputs depth alternate l p s ≡ hit s' e es → s.tied c ≡ true → s'.tied c ≡ true)
    × ((inputs : Inputs) (x : Entry) (s s' : State) (c : ℕ) → Sweeps inputs x s (accepted s') → s.tied c ≡ true → s'.tied c ≡ true)

-- Hits never exceed the limit, nor the run the room; each character has a mark.
abbrev pub LimitsHold : Type 0
LimitsHold = (inputs : Inputs) (text : List ℕ) (r : Shaped) → Shapes inputs text (shaped r) → (r.hits ≤ inputs.limit) × (length r.run ≤ inputs.room) × (length r.marks ≡ length text)

-- A refusal is 7 or 8.
abbrev pub RefusalsAreTwo : Type 0
RefusalsAreTwo = (inputs : Inputs) (text : List ℕ) (n : ℕ) → Shapes inputs text (refused n) → (n ≡ 7) ⊎ (n ≡ 8)

-- A glyph as it stands where its text begins at character a of another.
abbrev pub raise : (a : ℕ) → Glyph → Glyph
raise a g = at_cluster (a + g.cluster) g.glyph

-- The text may be broken before character c: its mark is 0, or c is the text's end, where no mark stands.
abbrev pub Free : (marks : List ℕ) → (c : ℕ) → Type 0
Free marks c = slice_index marks c ≡ 0

-- l, of a text of b characters, with r behind it.
abbrev pub joined : (b : ℕ) → Shaped → Shaped → Shaped
joined b l r = record { run = l.run ++ map (raise b) r.run; marks = l.marks ++ r.marks; hits = l.hits + r.hits }

-- THE CUTTING LAW. Where a shaped text may be broken, its two parts shaped alone, with the same limit and room, are accepted, and joined they are the whole: run, marks and hits.
abbrev pub CutInTwo : Type 0
CutInTwo =
    (inputs : Inputs) (t u : List ℕ) (w : Shaped) → Shapes inputs (t ++ u) (shaped w) → Free w.marks (length t)
    → (l : Shaped) × (r : Shaped) × Shapes inputs t (shaped l) × Shapes inputs u (shaped r) × (w ≡ joined (length t) l r)

-- Places to cut at, from `from` to `to`: in rising order, and each free. (One may stand twice; the piece between is then empty.)
abbrev pub Cuts : (marks : List ℕ) → (from to : ℕ) → List ℕ → Type 0
Cuts marks from to [] = Unit {0}
Cuts marks from to (c ∷ cs) = (from ≤ c) × (c ≤ to) × Free marks c × Cuts marks c to cs

-- The pieces of a text that begins at character a, between the cuts.
abbrev pub pieces : (a : ℕ) → List ℕ → (text : List ℕ) → List (List ℕ)
pieces a [] text = text ∷ []
pieces a (c ∷ cs) text = take (c - a) text ∷ pieces c cs (drop (c - a) text)

-- The pieces shaped alone are the parts.
abbrev pub Alone : Inputs → (pieces : List (List ℕ)) → (parts : List Shaped) → Type 0
Alone inputs [] [] = Unit {0}
Alone inputs [] (p ∷ ps) = ⊥
Alone inputs (t ∷ ts) [] = ⊥
Alone inputs (t ∷ ts) (p ∷ ps) = Shapes inputs t (shaped p) × Alone inputs ts ps

-- Parts in order, each raised by its start.
abbrev pub together : (starts : List ℕ) → (parts : List Shaped) → Shaped
together (a ∷ bs) (p ∷ ps) =
    record { run = map (raise a) p.run ++ (together bs ps).run; marks = p.marks ++ (together bs ps).marks; hits = p.hits + (together bs ps).hits }
together [] ps = record { run = []; marks = []; hits = 0 }
together (a ∷ bs) [] = record { run = []; marks = []; hits = 0 }

-- The same for any list of cuts: the pieces shaped alone are accepted, and together they are the whole.
abbrev pub CutInPieces : Type 0
CutInPieces =
    (inputs : Inputs) (text : List ℕ) (w : Shaped) (cuts : List ℕ) → Shapes inputs text (shaped w) → Cuts w.marks 0 (length text) cuts
    → (parts : List Shaped) × Alone inputs (pieces 0 cuts text) parts × (w ≡ together (0 ∷ cuts) parts)

-- A line inside a longer text: the characters a to b shaped alone are the records with clusters from a to before b, lowered by a, and the marks from a to before b.
abbrev pub LineAlone : Type 0
LineAlone =
    (inputs : Inputs) (text : List ℕ) (w : Shaped) (a b : ℕ) → Shapes inputs text (shaped w) → a ≤ b → b ≤ length text → Free w.marks a → Free w.marks b
    → (before : List Glyph) × (line : Shaped) × (after : List Glyph) × Shapes inputs (slice_range text a b) (shaped line)
    × (w.run ≡ before ++ (map (raise a) line.run ++ after)) × (line.marks ≡ slice_range w.marks a b)
    × AllByRecursion (λ g. g.cluster < a) before × AllByRecursion (λ g. a + g.cluster < b) line.run × AllByRecursion (λ g. b ≤ g.cluster) after

-- The width of a run, by the advance of each glyph.
abbrev pub run_width : (advance : ℕ → ℕ) → List Glyph → ℕ
run_width advance run = width advance (map (λ g. g.glyph) run)

-- Glyph count, hits and width of the whole are the sums of the pieces'.
abbrev pub SumsOfPieces : Type 0
SumsOfPieces =
    (inputs : Inputs) (text : List ℕ) (w : Shaped) (cuts : List ℕ) (parts : List Shaped) → Shapes inputs text (shaped w) → Cuts w.marks 0 (length text) cuts → Alone inputs (pieces 0 cuts text) parts
    → (length w.run ≡ sum_by (λ p. length p.run) parts) × (w.hits ≡ sum_by (λ p. p.hits) parts)
    × ((advance : ℕ → ℕ) → run_width advance w.run ≡ sum_by (λ p. run_width advance p.run) parts)
