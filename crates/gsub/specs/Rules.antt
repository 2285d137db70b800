-- Rules of context lookups: which glyphs must stand before, in and after the input, and the records that a match runs.
use Rattle.std.specs.Prelude.{ℕ, ◌+◌, ◌-◌, ◌*◌, ◌^◌, ◌<◌, ◌≤◌, Bool, true, false, List, ◌++◌, nat_lt}
use Rattle.layout.specs.Bytes.{u16_at}
use Rattle.layout.specs.Coverages.{coverage_faults}
use Rattle.layout.specs.declared.fault.Fault.{Fault}
use Rattle.layout.specs.Faults.{unless, extent, in_turn}
use Rattle.gsub.specs.declared.arrays.Entries.{Entries}
use Rattle.gsub.specs.declared.arrays.Entries.TheVariants.{All, ButFirst, Records}
use Rattle.gsub.specs.declared.arrays.Array.{Array}
use Rattle.gsub.specs.declared.rules.RuleArrays.{RuleArrays}
use Rattle.gsub.specs.declared.rules.RulePlace.{RulePlace}
use Rattle.gsub.specs.declared.rules.RulePlace.TheVariants.{InSet, BehindFormat}
use Rattle.gsub.specs.Follow.{count_faults, each_behind}

-- How many entries an array lists, by its count, and how many fields they take: one each, but a record has two. Rules do not list the first input entry.
abbrev pub listed : Entries → (count : ℕ) → ℕ
listed All n = n
listed ButFirst n = n - 1
listed Records n = n

abbrev pub fields_for : Entries → (count : ℕ) → ℕ
fields_for All n = n
fields_for ButFirst n = n - 1
fields_for Records n = 2 * n

-- The array behind the count at byte i.
unfoldable pub array_at : (table : List ℕ) → (i : ℕ) → Entries → Array
array_at t i entries = record { at = i + 2; count = listed entries (u16_at t i) }

-- Just past an array of entries of one field.
abbrev pub past : Array → ℕ
past a = a.at + 2 * a.count

-- The faults of such an array: the count, from `low` to 64, and the extent.
unfoldable pub counted_array : (table : List ℕ) → (s i low : ℕ) → Entries → List Fault
counted_array t s i low entries = count_faults t s i low ++ extent t s (i + 2) 2 (fields_for entries (u16_at t i))

-- Where the arrays of a rule of type 5 stand, from byte i on: input count, record count, the input entries, the records. A rule leaves the first input entry out; format 3 lists it.
abbrev pub plain_rule : (table : List ℕ) → (i : ℕ) → Entries → RuleArrays
plain_rule t i entries =
    let input : Array = record { at = i + 4; count = listed entries (u16_at t i) } in
    record { backtrack = record { at = i; count = 0 }; input = input; lookahead = record { at = i; count = 0 }; records = record { at = past input; count = u16_at t (i + 2) } }

-- The same of type 6: each array behind its count, in the order backtrack, input, lookahead, records.
abbrev pub chain_rule : (table : List ℕ) → (i : ℕ) → Entries → RuleArrays
chain_rule t i entries =
    let backtrack : Array = array_at t i All in
    let input : Array = array_at t (past backtrack) entries in
    let lookahead : Array = array_at t (past input) All in
    record { backtrack = backtrack; input = input; lookahead = lookahead; records = array_at t (past lookahead) Records }

-- Their counts and extents, in the structure at s: input counts are 1 to 64, the others 0 to 64.
abbrev pub plain_counts : (table : List ℕ) → (s i : ℕ) → Entries → List Fault
plain_counts t s i entries =
    count_faults t s i 1 ++ (count_faults t s (i + 2) 0 ++ extent t s (i + 4) 2 (fields_for entries (u16_at t i) + 2 * u16_at t (i + 2)))

abbrev pub chain_counts : (table : List ℕ) → (s i : ℕ) → Entries → List Fault
chain_counts t s i entries =
    counted_array t s i 0 All
    ++ (counted_array t s (past (chain_rule t i entries).backtrack) 1 entries
    ++ (counted_array t s (past (chain_rule t i entries).input) 0 All ++ counted_array t s (past (chain_rule t i entries).lookahead) 0 Records))

-- The lookup numbers of n records from byte i on, and of a rule's records: each names one of the table's lookups.
abbrev pub record_faults : (table : List ℕ) → (lookups s i n : ℕ) → List Fault
record_faults t lookups s i n = in_turn (λ k b. unless (nat_lt (u16_at t (b + 2)) lookups) 5 s (b + 2)) 4 0 i n

abbrev pub records_of : (table : List ℕ) → (lookups s : ℕ) → RuleArrays → List Fault
records_of t lookups s r = record_faults t lookups s r.records.at r.records.count

-- The same by whether the rule chains: it is of type 6 if so, else of type 5.
abbrev pub rule_of : (chain : Bool) → (table : List ℕ) → (i : ℕ) → Entries → RuleArrays
rule_of false t i entries = plain_rule t i entries
rule_of true t i entries = chain_rule t i entries

abbrev pub counts_of : (chain : Bool) → (table : List ℕ) → (s i : ℕ) → Entries → List Fault
counts_of false t s i entries = plain_counts t s i entries
counts_of true t s i entries = chain_counts t s i entries

-- Where the rule of the structure at s stands, and how it lists its input.
abbrev pub rule_byte : RulePlace → (s : ℕ) → ℕ
rule_byte InSet s = s
rule_byte BehindFormat s = s + 2

abbrev pub inputs_of : RulePlace → Entries
inputs_of InSet = ButFirst
inputs_of BehindFormat = All

-- The faults of a rule of a rule set.
abbrev pub rule_faults : (chain : Bool) → (table : List ℕ) → (lookups s : ℕ) → List Fault
rule_faults chain t lookups s = counts_of chain t s s ButFirst ++ records_of t lookups s (rule_of chain t s ButFirst)

-- Coverages that an array lists, counted from the subtable at s; and those of the rule of a format 3.
abbrev pub coverages : (table : List ℕ) → (s : ℕ) → Array → List Fault
coverages t s a = each_behind false t s a.at a.count (coverage_faults t)

abbrev pub context_coverages : (table : List ℕ) → (s : ℕ) → RuleArrays → List Fault
context_coverages t s r = coverages t s r.backtrack ++ (coverages t s r.input ++ coverages t s r.lookahead)

-- Entries of one field.
abbrev pub NotRecords : Entries → Type 0
NotRecords All = Unit {0}
NotRecords ButFirst = Unit {0}
NotRecords Records = ⊥

-- All arrays of a rule stand behind the start of its structure, and no table reaches to where their ends would not fit.
pub record Lies (s : ℕ) (r : RuleArrays) : Type 0 where
  pub backtrack : (s ≤ r.backtrack.at) × (past r.backtrack < 2 ^ 64)
  pub input : (s ≤ r.input.at) × (past r.input < 2 ^ 64)
  pub lookahead : (s ≤ r.lookahead.at) × (past r.lookahead < 2 ^ 64)
  pub records : r.records.at + 4 * r.records.count < 2 ^ 64
