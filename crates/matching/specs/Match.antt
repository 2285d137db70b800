-- A pattern around a position, and what a match of it spans.
use Rattle.std.specs.Prelude.{ℕ, suc, Bool, List, ◌++◌, drop, take, reverse, Some, None, Option}
use Rattle.std.proofs.Math.Option.{Option as Perhaps, none, some}
use Rattle.model.specs.declared.Glyph.{Glyph}
use Rattle.model.specs.Lookups.{Pattern, Action, Match, matched, seek}
use Rattle.matching.specs.declared.pattern.Span.{Span}
use Rattle.matching.specs.Seek.{glyph_at}

-- Whether a candidate with this pattern matches at position p of a run.
abbrev pub matched_at : (skips : ℕ → Bool) → Pattern → Action → List Glyph → (p : ℕ) → Perhaps Match
matched_at skips pattern action gs p =
    matched (record { pattern = pattern; action = action }) (glyph_at gs p).cluster
    (seek skips (pattern.input ++ pattern.lookahead) (drop (suc p) gs))
    (seek skips pattern.backtrack (reverse (take p gs)))

-- The clusters of the leftmost and the rightmost glyph of a match.
abbrev pub spanned : Perhaps Match → Option Span
spanned none = None
spanned (some m) = Some (record { lo = m.lo; hi = m.hi })
