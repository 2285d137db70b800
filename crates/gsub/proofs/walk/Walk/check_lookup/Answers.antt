use Rattle.std.proofs.Common.{◌≡◌, ◌+◌, None}
use Rattle.layout.specs.Bytes.{u16_at}
use Rattle.layout.specs.Faults.{first_in, in_turn, reports}
use Rattle.layout.proofs.Firsts.{none-join}
use Rattle.gsub.specs.Tables.{in_lookup, lookup_fields, subtable_faults_at}
use Rattle.gsub.proofs.Placed.{lookup-placed, lookup-bare}
use Rattle.gsub.proofs.walk.Walk.check_lookup.Goals as goal

pub returns-then-is_remembered-clause-answer : goal.returns-then-is_remembered-clause-answer
returns-then-is_remembered-clause-answer c = lookup-placed c.args.self.now.table c.args.self.now.lookups c.args.lookup.number c.args.lookup.start.byte (c.is_remembered.ensures c.if-is_remembered.true)

pub remember-requires : goal.remember-requires
remember-requires c =
    let t = c.args.self.now.table in
    let n = c.args.self.now.lookups in
    let k = c.args.lookup.number in
    let s = c.args.lookup.start.byte in
    let fields : None ≡ first_in (reports (in_lookup k None) (lookup_fields t s)) =
    rw (c.place.ensures, c.structure-structure.ensures.table, c.structure-structure.ensures.start) at (c.in_ok-hold.ensures.told _ c.check_lookup_fields.ensures) in
    let subtables : None ≡ first_in (in_turn (subtable_faults_at t n k s) 2 0 (s + 6) (u16_at t (s + 4))) =
    rw (c.u16_in.ensures, c.structure-structure.ensures.table, c.structure-structure.ensures.start) at c.in_ok-check_subtables.ensures.answer in
    rw c.in_ok-check_subtables.ensures.same (lookup-bare t n k s (none-join (reports (in_lookup k None) (lookup_fields t s)) _ fields subtables))
