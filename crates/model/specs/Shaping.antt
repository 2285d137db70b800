-- Shaping: an attempt at a position, a pass of a lookup over a run, a plan of passes, and what a text is shaped to.
use Rattle.std.specs.Prelude.{◌≡◌, ℕ, zero, suc, ◌<◌, ◌≤◌, Bool, true, false, cond, ◌&&◌, ◌||◌, ◌⊎◌, List, [], ◌∷◌, ◌++◌, reverse, length, take, drop, ◌==◌, nat_le, nat_lt}
use Rattle.std.proofs.Math.Option.{Option, none, some}
use Rattle.std.proofs.Math.ListN.{get_elem?}
use Rattle.font.specs.Font.{Font}
use Rattle.model.specs.declared.Entry.{Entry}
use Rattle.model.specs.declared.Glyph.{Glyph}
use Rattle.model.specs.Lookups.{LookupRecord, Action, put, join, nest, Lookup, passes_over, Met, Match, choose}
use Rattle.model.specs.Edits.{Edit, Frame, told, frame_at, at_cluster, changed, edits}

-- All that shaping reads but the text: the font, the lookups by number, the plan, the hit limit, and the room for glyphs in the run buffer.
pub record Inputs : Type 0 where
  pub font : Font
  pub table : ℕ → Lookup
  pub plan : List Entry
  pub limit : ℕ
  pub room : ℕ

-- What shaping changes: the run, which clusters are tied, and the number of hits. Cluster b is tied where it is unsafe to break the text before character b (HarfBuzz's unsafe-to-break).
pub record State : Type 0 where
  pub run : List Glyph
  pub tied : ℕ → Bool
  pub hits : ℕ

-- A match of glyphs with clusters from lo to hi ties every b with lo < b ≤ hi. A tie is never undone.
abbrev pub tie : (lo hi : ℕ) → (ℕ → Bool) → ℕ → Bool
tie lo hi tied b = tied b || (nat_lt lo b && nat_le b hi)

-- The state after a match's own change at position p, before its records run.
abbrev pub struck : Match → (p : ℕ) → State → State
struck m p s =
    record { run = changed m.action m.own m.others p s.run; tied = tie m.lo m.hi s.tied; hits = suc s.hits }

-- What an attempt comes to: no match; refused (7 by the hit limit, 8 by the room); or a hit, with the state after it, the match's end, and the edits made.
pub data Attempt : Type 0 where
  miss : Attempt
  barred : (number : ℕ) → Attempt
  hit : State → («end» : ℕ) → List Edit → Attempt

-- What follows an attempt, by what it came to.
abbrev pub answer : {A : Type 0} → Attempt → (missed : A) → (refused : (number : ℕ) → A) → (struck : State → («end» : ℕ) → List Edit → A) → A
answer miss m r h = m
answer (barred n) m r h = r n
answer (hit s e es) m r h = h s e es

-- An attempt of a lookup, by number, at a position.
abbrev pub Try : Type 0
Try = (lookup position : ℕ) → State → Attempt

-- A record whose index is past the list of positions does nothing.
abbrev pub at_index : Try → (lookup : ℕ) → Option ℕ → State → Attempt
at_index try l none s = miss
at_index try l (some p) s = try l p s

-- Records in order, each an attempt at the position with its index. The open match hears of every edit made inside it, and so do the matches around it, by the edits answered.
abbrev pub records : Try → List LookupRecord → Frame → List Edit → State → Attempt
records try [] f es s = hit s f.«end» es
records try (r ∷ rs) f es s =
    answer (at_index try r.lookup (get_elem? f.positions r.index) s)
    (records try rs f es s) barred (λ s' e es'. records try rs (told es' f) (es ++ es') s')

-- What follows a match's own change: its records, if it has any to run.
abbrev pub finish : Try → Action → List Met → (p : ℕ) → State → Attempt
finish try (put gs) ms p s = hit s (told (edits (put gs) ms p) (frame_at p ms)).«end» (edits (put gs) ms p)
finish try (join n) ms p s = hit s (told (edits (join n) ms p) (frame_at p ms)).«end» (edits (join n) ms p)
finish try (nest rs) ms p s = records try rs (frame_at p ms) [] s

-- What a pass comes to: a state, or a refusal.
pub data Ending : Type 0 where
  accepted : State → Ending
  stopped : (number : ℕ) → Ending

module _ (inputs : Inputs) where
  -- A match takes effect, unless the hit limit is spent or the run grows too long; the limit is tested first.
  abbrev pub applied : Try → Option Match → (p : ℕ) → State → Attempt
  applied try none p s = miss
  applied try (some m) p s =
      cond (nat_lt s.hits inputs.limit)
      (cond (nat_le (length (struck m p s).run) inputs.room) (finish try m.action m.others p (struck m p s)) (barred 8))
      (barred 7)

  -- An attempt at the first glyph of `rest`, with `before` the glyphs before it, nearest first. It fails at a glyph that the lookup passes over.
  abbrev pub try_on : Try → Lookup → (alternate : ℕ) → (before rest : List Glyph) → (p : ℕ) → State → Attempt
  try_on try k alt before [] p s = miss
  try_on try k alt before (g ∷ after) p s =
      cond (passes_over inputs.font k g.glyph) miss
      (applied try (choose (passes_over inputs.font k) (k.candidates alt g.glyph) before g.cluster after) p s)

  -- An attempt by the depth that is left: the plan's attempts have 6, records one less each, and with 0 nothing runs. A record that names a backward lookup does nothing.
  abbrev pub attempt : (depth alternate : ℕ) → Try
  attempt zero alt l p s = miss
  attempt (suc d) alt l p s =
      try_on (λ l' p' s'. cond (inputs.table l').backward miss (attempt d alt l' p' s'))
      (inputs.table l) alt (reverse (take p s.run)) (drop p s.run) p s

  -- The plan's attempt at position i.
  abbrev pub planned : Entry → (i : ℕ) → State → Attempt
  planned x i s = attempt 6 x.alternate x.lookup i s

  -- A forward pass from position i on. It is over at the run's end or at a refusal; after a miss it goes on at the next glyph, after a hit at the match's end.
  pub data Pass (x : Entry) : (i : ℕ) → State → Ending → Type 0 where
    ends : {i : ℕ} {s : State} {z : Ending} → nat_lt i (length s.run) ≡ false → z ≡ accepted s → Pass x i s z
    stops : {i : ℕ} {s : State} {z : Ending} {n : ℕ} → nat_lt i (length s.run) ≡ true → planned x i s ≡ barred n → z ≡ stopped n → Pass x i s z
    misses : {i : ℕ} {s : State} {z : Ending} → nat_lt i (length s.run) ≡ true → planned x i s ≡ miss → Pass x (suc i) s z → Pass x i s z
    hits : {i : ℕ} {s : State} {z : Ending} {s' : State} {e : ℕ} {es : List Edit} → nat_lt i (length s.run) ≡ true → planned x i s ≡ hit s' e es → Pass x e s' z → Pass x i s z

  -- A backward pass over the first i glyphs, the last of them first.
  abbrev pub back_pass : Entry → (i : ℕ) → State → Ending
  back_pass x zero s = accepted s
  back_pass x (suc i) s = answer (planned x i s) (back_pass x i s) stopped (λ s' e es. back_pass x i s')

  -- The pass of a plan entry over the whole run.
  abbrev pub Sweeps : Entry → State → Ending → Type 0
  Sweeps x s e = cond (inputs.table x.lookup).backward (e ≡ back_pass x (length s.run) s) (Pass x 0 s e)

  -- The entries in order, until one is refused.
  abbrev pub Runs : List Entry → State → Ending → Type 0
  Runs [] s e = e ≡ accepted s
  Runs (x ∷ xs) s e = ((s' : State) × Sweeps x s (accepted s') × Runs xs s' e) ⊎ ((n : ℕ) × Sweeps x s (stopped n) × (e ≡ stopped n))

-- The glyphs of characters, with clusters that count from n.
abbrev pub laid : Font → (n : ℕ) → (text : List ℕ) → List Glyph
laid font n [] = []
laid font n (c ∷ cs) = at_cluster n (font.glyph c) ∷ laid font (suc n) cs

-- The first run of a text: each character's glyph, with the character's number from 0 as its cluster.
abbrev pub start : Font → (text : List ℕ) → State
start font text = record { run = laid font 0 text; tied = λ b. false; hits = 0 }

-- Whether some glyph has cluster c.
abbrev pub has : (c : ℕ) → List Glyph → Bool
has c [] = false
has c (g ∷ gs) = g.cluster == c || has c gs

-- The break marks of n clusters from c on: 0 if a cluster is not tied, so that the text may be broken before its character; 1 if it is tied and some glyph has it; else 2.
abbrev pub marks : State → (c n : ℕ) → List ℕ
marks s c zero = []
marks s c (suc n) = cond (s.tied c) (cond (has c s.run) 1 2) 0 ∷ marks s (suc c) n

-- A shaped text: its run, the break mark of each of its characters, and the hits that it took.
pub record Shaped : Type 0 where
  pub run : List Glyph
  pub marks : List ℕ
  pub hits : ℕ

-- Refusal 7: the hit limit is spent. Refusal 8: the run buffer is too short.
pub data Outcome : Type 0 where
  refused : (number : ℕ) → Outcome
  shaped : Shaped → Outcome

-- The outcome of a text: refusal 8 where the first run is longer than the room, else what the plan makes of the first run.
abbrev pub Shapes : Inputs → (text : List ℕ) → Outcome → Type 0
Shapes inputs text (refused n) =
    ((inputs.room < length text) × (n ≡ 8)) ⊎ ((length text ≤ inputs.room) × Runs inputs inputs.plan (start inputs.font text) (stopped n))
Shapes inputs text (shaped r) =
    (s : State) × (length text ≤ inputs.room) × Runs inputs inputs.plan (start inputs.font text) (accepted s)
    × (r ≡ record { run = s.run; marks = marks s 0 (length text); hits = s.hits })
