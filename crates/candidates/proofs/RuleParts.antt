-- The arrays of rules, seen from a part of the table, and how many inputs rules without faults have.
use Rattle.std.proofs.Common.{◌≡◌, ℕ, ◌+◌, ◌≤◌, Bool, true, false, List, drop, None, refl, ap, arith}
use Rattle.layout.specs.Bytes.{u16_at}
use Rattle.layout.specs.Faults.{first_in, extent}
use Rattle.layout.proofs.Firsts.{none-parts}
use Rattle.gsub.specs.declared.arrays.Array.{Array}
use Rattle.gsub.specs.declared.arrays.Entries.{Entries}
use Rattle.gsub.specs.declared.arrays.Entries.TheVariants.{All}
use Rattle.gsub.specs.declared.rules.RuleArrays.{RuleArrays}
use Rattle.gsub.specs.Follow.{count_faults}
use Rattle.gsub.specs.Rules.{listed, fields_for, past, array_at, counted_array, rule_of, counts_of}
use Rattle.candidates.proofs.Follows.{count-none}
use Rattle.candidates.proofs.Parts.{u16-part}

pub counted-count : (t : List ℕ) (s i low : ℕ) (entries : Entries) → first_in (counted_array t s i low entries) ≡ None → (low ≤ u16_at t i) × (u16_at t i ≤ 64)
unfolding counted_array
counted-count t s i low entries e = count-none t s i low (none-parts (count_faults t s i low) (extent t s (i + 2) 2 (fields_for entries (u16_at t i))) e).0

array-count : (t : List ℕ) (i : ℕ) (entries : Entries) → (array_at t i entries).count ≡ listed entries (u16_at t i)
unfolding array_at
array-count t i entries = refl

-- a rule without faults has from 1 to 64 input glyphs
pub inputs-between : (chain : Bool) (t : List ℕ) (s i : ℕ) (entries : Entries) → first_in (counts_of chain t s i entries) ≡ None → (n : ℕ) × ((rule_of chain t i entries).input.count ≡ listed entries n) × (1 ≤ n) × (n ≤ 64)
inputs-between false t s i entries e =
    let p = none-parts (count_faults t s i 1) _ e in
    let b = count-none t s i 1 p.0 in
    (u16_at t i, refl, b.0, b.1)
inputs-between true t s i entries e =
    let q = past (array_at t i All) in
    let p = none-parts (counted_array t s i 0 All) _ e in
    let r = none-parts (counted_array t s q 1 entries) _ p.1 in
    let b = counted-count t s q 1 entries r.0 in
    (u16_at t q, array-count t q entries, b.0, b.1)

module _ (t : List ℕ) (s : ℕ) where
  -- an array of the table, and the same in the part
  pub record Moved (a b : Array) : Type 0 where
    pub at : a.at ≡ s + b.at
    pub count : a.count ≡ b.count

  pub record MovedRule (r q : RuleArrays) : Type 0 where
    pub backtrack : Moved r.backtrack q.backtrack
    pub input : Moved r.input q.input
    pub lookahead : Moved r.lookahead q.lookahead

  moved-past : (a b : Array) → Moved a b → past a ≡ s + past b
  moved-past a b m =
      let x = m.at in
      let y = m.count in
      omega arith

  pub array-moved : (i j : ℕ) (entries : Entries) → j ≡ s + i → Moved (array_at t j entries) (array_at (drop s t) i entries)
  unfolding array_at
  array-moved i j entries e = record { at = omega arith; count = ap (listed entries) (u16-part t s i j e) }

  pub array-behind : (a b : Array) (entries : Entries) → Moved a b → Moved (array_at t (past a) entries) (array_at (drop s t) (past b) entries)
  array-behind a b entries m = array-moved (past b) (past a) entries (moved-past a b m)

  pub rule-moved : (chain : Bool) (i j : ℕ) (entries : Entries) → j ≡ s + i → MovedRule (rule_of chain t j entries) (rule_of chain (drop s t) i entries)
  rule-moved false i j entries e =
      record {
        backtrack = record { at = e; count = refl };
        input = record { at = omega arith; count = ap (listed entries) (u16-part t s i j e) };
        lookahead = record { at = e; count = refl };
      }
  rule-moved true i j entries e =
      let back = array-moved i j All e in
      let inputs = array-behind (array_at t j All) (array_at (drop s t) i All) entries back in
      record {
        backtrack = back;
        input = inputs;
        lookahead = array-behind (array_at t (past (array_at t j All)) entries) (array_at (drop s t) (past (array_at (drop s t) i All)) entries) All inputs;
      }
