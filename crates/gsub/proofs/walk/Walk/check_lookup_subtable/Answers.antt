use Rattle.std.proofs.Common.{◌≡◌, ◌+◌, false, eqb, sym, ap, cond, ◌∙◌, arith}
use Rattle.std.proofs.lemmas.Bool.Decides.{nat_tests}
use Rattle.layout.specs.Bytes.{u16_at}
use Rattle.gsub.proofs.walk.Walk.check_lookup_subtable.Goals as goal

-- a type with a kind of its own does not move
pub returns-in-Some-clause-answer : goal.returns-in-Some-clause-answer
returns-in-Some-clause-answer c =
    let t = c.args.self.now.table in
    let own : eqb (u16_at t c.args.lookup.byte) 7 ≡ false = grind (arith, nat_tests) in
    let ty : c.read-lookup_type.result ≡ u16_at t c.args.lookup.byte = grind (arith, nat_tests) in
    rw own (rw ty at c.check_once.ensures.answer)
