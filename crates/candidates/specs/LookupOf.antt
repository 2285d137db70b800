-- A lookup in the code, in the words of the definitions.
use Rattle.std.specs.Prelude.{ℕ, ◌+◌, ◌*◌, List, drop, ◌==◌}
use Rattle.layout.specs.Bytes.{u16_at}
use Rattle.model.specs.Lookups.{Lookup as ModelLookup}
use Rattle.gsub.specs.Candidates.{fields}
use Rattle.gsub.specs.Meaning.{candidates_of, subtable_at}
use Rattle.candidates.specs.declared.lookup.Lookup.{Lookup}

abbrev pub lookup_of : Lookup → ModelLookup
lookup_of k = record {
  flag = k.flag;
  mark_set = k.mark_set;
  backward = (k.lookup_type == 8);
  candidates = λ v g. candidates_of k.gsub.table.now k.start v g (fields k.gsub.table.now (k.start + 6) k.subtables);
}

-- The part of the table of its subtable number j.
abbrev pub part_of : Lookup → (j : ℕ) → List ℕ
part_of k j =
    let t : List ℕ = k.gsub.table.now in
    drop (subtable_at t k.start (u16_at t (k.start + 6 + 2 * j))) t
