-- What a lookup is: for the glyph at a position, an ordered list of candidates (types 1 to 8 differ only in which they list), and how one is chosen.
use Rattle.std.specs.Prelude.{ℕ, suc, ◌/◌, Bool, true, false, cond, not, ◌&&◌, List, [], ◌∷◌, ◌++◌, length, take, ◌==◌, bit_and}
use Rattle.std.proofs.Math.Option.{Option, none, some, map}
use Rattle.font.specs.Font.{Font}
use Rattle.model.specs.declared.Glyph.{Glyph}

-- What must stand around the glyph at the position. An entry is a test of a glyph: equal glyph, equal class, or coverage. In each list entry 0 is the nearest; `input` leaves out the glyph at the position itself.
pub record Pattern : Type 0 where
  pub backtrack : List (ℕ → Bool)
  pub input : List (ℕ → Bool)
  pub lookahead : List (ℕ → Bool)

-- A sequence lookup record: run a lookup at the input glyph with this index.
pub record LookupRecord : Type 0 where
  pub index : ℕ
  pub lookup : ℕ

-- What a match does: put glyphs in place of the glyph at the position (types 1, 2, 3, 8), join the input into a ligature (type 4), or run records (types 5, 6).
pub data Action : Type 0 where
  put : (glyphs : List ℕ) → Action
  join : (ligature : ℕ) → Action
  nest : (records : List LookupRecord) → Action

pub record Candidate : Type 0 where
  pub pattern : Pattern
  pub action : Action

-- `backward` holds of type 8, which goes from the last glyph to the first. A glyph outside the coverage has no candidates, and so has type 3 where the alternate value exceeds the set.
pub record Lookup : Type 0 where
  pub flag : ℕ
  pub mark_set : ℕ
  pub backward : Bool
  pub candidates : (alternate glyph : ℕ) → List Candidate

-- Whether a bit of the lookup flag is set.
abbrev pub flagged : Lookup → (bit : ℕ) → Bool
flagged k bit = not (bit_and k.flag bit == 0)

-- Whether the lookup passes over a glyph: bases (class 1) under flag 2, ligatures (class 2) under flag 4, marks (class 3) under flag 8; without it, by flag 0x10 the marks outside the lookup's mark set; without both, by a high byte other than 0 the marks of another mark class.
abbrev pub passes_over : Font → Lookup → (glyph : ℕ) → Bool
passes_over font k g =
    cond (font.class g == 1) (flagged k 2)
    (cond (font.class g == 2) (flagged k 4)
    (cond (font.class g == 3)
    (cond (flagged k 8) true
    (cond (flagged k 16) (not (font.in_mark_set k.mark_set g))
    (not (k.flag / 256 == 0) && not (font.mark_class g == k.flag / 256))))
    false))

-- A glyph that an entry met: how many glyphs were passed over just before it, and its cluster.
pub record Met : Type 0 where
  pub gap : ℕ
  pub cluster : ℕ

-- One more glyph was passed over.
abbrev pub later : Option (List Met) → Option (List Met)
later none = none
later (some []) = some []
later (some (m ∷ ms)) = some (record { gap = suc m.gap; cluster = m.cluster } ∷ ms)

-- Walks the glyphs outward from a position and answers where the entries were met, each by the next glyph that is not passed over.
abbrev pub seek : (skips : ℕ → Bool) → List (ℕ → Bool) → List Glyph → Option (List Met)
seek skips [] gs = some []
seek skips (e ∷ es) [] = none
seek skips (e ∷ es) (g ∷ gs) =
    cond (skips g.glyph) (later (seek skips (e ∷ es) gs))
    (cond (e g.glyph) (map (λ ms. record { gap = 0; cluster = g.cluster } ∷ ms) (seek skips es gs)) none)

-- The cluster of the farthest glyph met; of the position's own glyph if there is none.
abbrev pub far : (own : ℕ) → List Met → ℕ
far own [] = own
far own (m ∷ ms) = far m.cluster ms

-- A match: the action, the further input glyphs, the cluster of the glyph at the position, and the clusters of the leftmost and the rightmost glyph matched, context included.
pub record Match : Type 0 where
  pub action : Action
  pub others : List Met
  pub own : ℕ
  pub lo : ℕ
  pub hi : ℕ

-- A candidate matches where both searches succeed: input and lookahead in one search ahead, backtrack in one search back.
abbrev pub matched : Candidate → (own : ℕ) → (ahead back : Option (List Met)) → Option Match
matched c own none back = none
matched c own (some ms) none = none
matched c own (some ms) (some bs) =
    some (record { action = c.action; others = take (length c.pattern.input) ms; own = own; lo = far own bs; hi = far own ms })

abbrev pub or_else : Option Match → Option Match → Option Match
or_else none o = o
or_else (some m) o = some m

-- The first candidate that matches. `before` are the glyphs before the position, nearest first; `after` those after it.
abbrev pub choose : (skips : ℕ → Bool) → List Candidate → (before : List Glyph) → (own : ℕ) → (after : List Glyph) → Option Match
choose skips [] before own after = none
choose skips (c ∷ cs) before own after =
    or_else
    (matched c own (seek skips (c.pattern.input ++ c.pattern.lookahead) after) (seek skips c.pattern.backtrack before))
    (choose skips cs before own after)
