use Rattle.std.proofs.Common.{◌^◌, ◌≤◌, length, rules, arith}
use Rattle.std.proofs.lemmas.Iterator.{YieldsList-from_range}
use Rattle.std.proofs.lemmas.Iterator.Adapters.{fits_from_length, at_most_from_yields_List}
use Rattle.std.proofs.lemmas.List.FromFn.{length-range_with_len}
use Rattle.std.specs.List.{range_with_len}
use Rattle.gsub.proofs.table.Gsub.subtables.Goals as goal

-- at most 65,535 lookups with at most 65,535 subtables each
pub sum-requires-clause-fits : goal.sum-requires-clause-fits
sum-requires-clause-fits c =
    let n = c.lookup_count.result in
    let few : length (range_with_len 0 n) ≤ 65535 = omega (arith, length-range_with_len 0 n) in
    let road = YieldsList-from_range 0 n n c.map.ensures.source (omega arith) in
    fits_from_length _ _ 65535 (2 ^ 64) (at_most_from_yields_List road few) c.map.ensures.closure (omega arith) (λ x r q k. search rules)
