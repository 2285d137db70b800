-- The records of a line, of any kind of record that has a cluster.
use Rattle.std.specs.Prelude.{ℕ, ◌-◌, Bool, ◌&&◌, List, drop, nat_le, nat_lt}
use Rattle.std.specs.List.{prefix_len}
use Rattle.pick.specs.declared.line.Stretch.{Stretch}

module _ {R : Type 0} (cluster_of : R → ℕ) where
  abbrev pub before : (a : ℕ) → R → Bool
  before a r = nat_lt (cluster_of r) a

  abbrev pub within : (a b : ℕ) → R → Bool
  within a b r = nat_le a (cluster_of r) && nat_lt (cluster_of r) b

  -- How many leading records have a cluster below a, and how many follow them with one from a to below b.
  abbrev pub stretch : (a b : ℕ) → List R → Stretch
  stretch a b rs = record { first = prefix_len (before a) rs; count = prefix_len (within a b) (drop (prefix_len (before a) rs) rs) }

  -- A record as it stands in a text that begins at character a.
  abbrev pub lowered : (copy_at : R → ℕ → R) → (a : ℕ) → R → R
  lowered copy_at a r = copy_at r (cluster_of r - a)
