-- THE CUTTING LAW over every history of calls: however a paragraph was used, its lines are what shaping them alone would give.
use Rattle.std.specs.Prelude.{◌≡◌, ℕ, ◌-◌, List, [], ◌∷◌, ◌++◌, drop, length, map, slice_range, sum_by, take}
use Rattle.std.specs.List.{AllByRecursion}
use Rattle.model.specs.Laws.{Cuts, pieces, raise, run_width, together}
use Rattle.model.specs.Shaping.{Shaped as ShapedText, shaped}
use Rattle.paragraph.specs.declared.shaped.Shaped.{Shaped}
use Rattle.paragraph.specs.Calls.{Answer, Call, Comes, Inputs, Line, Memory, Paragraph, denied, done, gives, is_blank, is_shaped, kept, owes, paid, returned, unpaid}
use Rattle.paragraph.specs.Step.{Step, glyphs_of, marks_of}

-- What has gone on since an accepted shape: its inputs; the paragraph's memory as it left it, and as the last call left it; and the lines given out.
pub record Course : Type 0 where
  pub inputs : Inputs
  pub filled : Memory
  pub memory : Memory
  pub lines : List Line

abbrev pub Since : Paragraph → Type 0
Since (is_blank n) = Unit {0}
Since (is_shaped k) = Course

-- Until the next accepted clear, each call gets that shape's inputs, and the paragraph's memory.
abbrev pub Gets : (p : Paragraph) → Since p → Inputs → Memory → Type 0
Gets (is_blank n) s x m = Unit {0}
Gets (is_shaped k) s x m = (x ≡ s.inputs) × (m ≡ s.memory)

abbrev pub given_out : Answer → List Line
given_out done = []
given_out (gives l) = l ∷ []
given_out (owes s) = []
given_out (denied n) = []
given_out (returned n s) = []
given_out (unpaid n s own) = []

-- What has gone on after one more call, with inputs x, that answered r and left paragraph p' and memory m.
abbrev pub onward : (p : Paragraph) → Since p → Inputs → Answer → (p' : Paragraph) → (m : Memory) → Since p'
onward p s x r (is_blank n) m = tt
onward (is_blank n) s x r (is_shaped k) m = record { inputs = x; filled = m; memory = m; lines = [] }
onward (is_shaped k₀) s x r (is_shaped k) m = record { inputs = s.inputs; filled = s.filled; memory = m; lines = given_out r ++ s.lines }

-- Any list of calls on the paragraph that was made with a number, the last call first: however long and mixed, repeated calls and refused ones included. Each starts from what the last one left.
pub data History (number : ℕ) : (calls : List (Call × Answer)) → (p : Paragraph) → Since p → Type 0 where
  made : History number [] (is_blank number) tt
  next : {calls : List (Call × Answer)} {p : Paragraph} {s : Since p} (x : Inputs) (m : Memory) (c : Call) (r : Answer) (p' : Paragraph) (m' : Memory)
      → History number calls p s → Gets p s x m → Step x m p c r p' m' → History number ((c, r) ∷ calls) p' (onward p s x r p' m')

-- Characters a to b, as a text of their own, are shaped to w: the other inputs are the same, and the memory is as long as m.
abbrev pub ShapedAlone : Inputs → Memory → (a b : ℕ) → ShapedText → Type 0
ShapedAlone x m a b w = Comes x x.limit (slice_range x.text a b) m (shaped w)

-- a) A line has exactly the glyphs, clusters and marks of its characters shaped alone, its clusters counted from its start.
abbrev pub Right : Inputs → Memory → Line → Type 0
Right x m (kept a b first count) =
    (w : ShapedText) × ShapedAlone x m a b w × (count ≡ length w.run) × (take count (drop first m.run) ≡ map (raise a) w.run) × (slice_range m.marks a b ≡ w.marks)
Right x m (paid a b count hits own) =
    (w : ShapedText) × ShapedAlone x own a b w × (count ≡ length w.run) × (take count own.run ≡ w.run) × (take (b - a) own.marks ≡ w.marks) × (hits ≡ w.hits)

-- Each piece shaped alone is accepted, and these are what they are shaped to.
abbrev pub EachAlone : Inputs → Memory → (pieces : List (List ℕ)) → (parts : List ShapedText) → Type 0
EachAlone x m [] [] = Unit {0}
EachAlone x m [] (p ∷ ps) = ⊥
EachAlone x m (t ∷ ts) [] = ⊥
EachAlone x m (t ∷ ts) (p ∷ ps) = Comes x x.limit t m (shaped p) × EachAlone x m ts ps

-- What holds of a shaped paragraph.
abbrev pub Outlasts : Shaped → Course → Type 0
Outlasts k s =
    -- no call has written to the paragraph's memory
    (s.memory ≡ s.filled)
    -- a) of every line given out, kept or paid
    × AllByRecursion (Right s.inputs s.memory) s.lines
    -- b) at every rising list of free places: the pieces between them, shaped alone and joined, each raised by its start, are the paragraph's glyphs, clusters and marks
    × ((cuts : List ℕ) → Cuts (marks_of k s.memory) 0 k.length cuts
    → (parts : List ShapedText) × EachAlone s.inputs s.memory (pieces 0 cuts s.inputs.text) parts
    × (glyphs_of k s.memory ≡ (together (0 ∷ cuts) parts).run) × (marks_of k s.memory ≡ (together (0 ∷ cuts) parts).marks)
    -- c) the paragraph's glyph count, hits and width are the sums of the pieces'
    × (k.count ≡ sum_by (λ p. length p.run) parts) × (k.hits ≡ sum_by (λ p. p.hits) parts)
    × (run_width s.inputs.source.advance (glyphs_of k s.memory) ≡ sum_by (λ p. run_width s.inputs.source.advance p.run) parts))

-- It holds after each call that leaves the paragraph shaped, whatever the calls were.
abbrev pub CuttingLaw : Type 0
CuttingLaw = (number : ℕ) (calls : List (Call × Answer)) (k : Shaped) (s : Course) → History number calls (is_shaped k) s → Outlasts k s
