use Rattle.std.proofs.Common.{◌+◌, ◌<◌, length, subst, arith}
use Rattle.layout.specs.Bytes.{u16_at}
use Rattle.candidates.specs.Views.{list_of, rules_in}
use Rattle.candidates.specs.Sets.{rule_made}
use Rattle.candidates.proofs.Fields.{length-rules, rules-at}
use Rattle.candidates.proofs.listed.Listed.get.Goals as goal

pub rule-requires : goal.rule-requires
rule-requires c =
    let s = c.in-Rules.set in
    let n = length-rules (rule_made s.part.now s.rules) s.start s.part.now (s.start + 2) (u16_at s.part.now s.start) in
    let h : c.args.k < length (rules_in s) = subst (λ l. c.args.k < length (list_of l)) c.in-Rules.is c.requires in
    omega arith

pub returns-in-Rules : goal.returns-in-Rules
returns-in-Rules c =
    let s = c.in-Rules.set in
    let n = length-rules (rule_made s.part.now s.rules) s.start s.part.now (s.start + 2) (u16_at s.part.now s.start) in
    let h : c.args.k < length (rules_in s) = subst (λ l. c.args.k < length (list_of l)) c.in-Rules.is c.requires in
    let at = rules-at (rule_made s.part.now s.rules) s.start s.part.now (s.start + 2) (u16_at s.part.now s.start) c.args.k (omega arith) in
    rw (c.in-Rules.is, c.rule.ensures) at
