use Rattle.std.proofs.Common.{◌+◌, sym, ◌∙◌}
use Rattle.layout.specs.Bytes.{u16_at}
use Rattle.candidates.specs.Sets.{rule_made}
use Rattle.candidates.proofs.Fields.{length-rules}
use Rattle.candidates.proofs.listed.Listed.len.Goals as goal

pub returns-in-Rules : goal.returns-in-Rules
returns-in-Rules c =
    let s = c.in-Rules.set in
    rw c.in-Rules.is (c.count.ensures ∙ sym (length-rules (rule_made s.part.now s.rules) s.start s.part.now (s.start + 2) (u16_at s.part.now s.start)))
