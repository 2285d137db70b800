-- Where a search for entries met its glyphs, and where it ended.
use Rattle.std.specs.Prelude.{ℕ, suc, ◌+◌, ◌-◌, ◌<◌, ◌≤◌, Bool, false, List, [], ◌∷◌, Some, None, Option, slice_index_or}
use Rattle.std.proofs.Math.Option.{Option as Perhaps, none, some}
use Rattle.model.specs.declared.Glyph.{Glyph}
use Rattle.model.specs.Lookups.{Met, far}
use Rattle.matching.specs.declared.seek.Reached.{Reached}

-- What entry k asks of a glyph; nothing meets an entry that is not there.
abbrev pub meets : List (ℕ → Bool) → (k glyph : ℕ) → Bool
meets tests k = slice_index_or tests k (λ g. false)

-- The glyph at an index.
abbrev pub glyph_at : List Glyph → ℕ → Glyph
glyph_at gs i = slice_index_or gs i (record { glyph = 0; cluster = 0 })

-- Glyphs that were met, by their indices in a list, in a search from index i on.
abbrev pub mets_at : List Glyph → (i : ℕ) → (indices : List ℕ) → List Met
mets_at gs i [] = []
mets_at gs i (q ∷ qs) = record { gap = q - i; cluster = (glyph_at gs q).cluster } ∷ mets_at gs (suc q) qs

-- Indices from i on that rise and lie before n.
abbrev pub Outward : (i n : ℕ) → List ℕ → Type 0
Outward i n [] = Unit {0}
Outward i n (q ∷ qs) = (i ≤ q) × (q < n) × Outward (suc q) n qs

-- The index behind the last glyph met, in a search from index i on.
abbrev pub ends : (i : ℕ) → List Met → ℕ
ends i [] = i
ends i (m ∷ ms) = ends (i + m.gap + 1) ms

-- Where a search ended that went on from somewhere: there, and at the same cluster, if there was nothing to meet.
abbrev pub reached_by : Reached → Perhaps (List Met) → Option Reached
reached_by from none = None
reached_by from (some ms) = Some (record { at = ends from.at ms; far = far from.far ms })
