-- The first candidate of a list that matches at position p of a run.
use Rattle.std.specs.Prelude.{ℕ, suc, Bool, List, drop, take, reverse}
use Rattle.std.proofs.Math.Option.{Option as Perhaps}
use Rattle.model.specs.declared.Glyph.{Glyph}
use Rattle.model.specs.Lookups.{Candidate, Match, choose}
use Rattle.matching.specs.Seek.{glyph_at}

abbrev pub chosen : (skips : ℕ → Bool) → List Candidate → List Glyph → (p : ℕ) → Perhaps Match
chosen skips cs gs p = choose skips cs (reverse (take p gs)) (glyph_at gs p).cluster (drop (suc p) gs)
