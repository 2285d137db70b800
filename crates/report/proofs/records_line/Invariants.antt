use Rattle.std.proofs.Common.{◌≡◌, ◌++◌, take, string_bytes, codes, decimal}
use Rattle.std.specs.List.{flat_map}
use Rattle.report.proofs.records_line.Given as goal

abbrev pub invariant-loop-record : goal.invariant-loop-record
invariant-loop-record l = string_bytes l.line ≡ l.title ++ flat_map (λ r. codes " " ++ decimal r.glyph ++ codes ":" ++ decimal r.cluster) (take l.record-index l.records)
