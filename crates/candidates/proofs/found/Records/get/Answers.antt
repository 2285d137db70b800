use Rattle.std.proofs.Common.{sym, arith}
use Rattle.candidates.proofs.Fields.{length-records, records-get, records-past}
use Rattle.candidates.proofs.found.Records.get.Goals as goal

pub returns-then-i-len : goal.returns-then-i-len
returns-then-i-len c =
    let rs = c.args.self.now in
    let n = length-records rs.part.now rs.at rs.count in
    sym (records-past rs.part.now rs.at rs.count c.args.i (omega arith))

pub returns : goal.returns
returns c =
    let rs = c.args.self.now in
    let n = length-records rs.part.now rs.at rs.count in
    rw (c.u16_at.ensures, c.u16_at-2.ensures) (sym (records-get rs.part.now rs.at rs.count c.args.i (omega arith)))

pub overflow_mul-at : goal.overflow_mul-at
overflow_mul-at c =
    let rs = c.args.self.now in
    let n = length-records rs.part.now rs.at rs.count in
    let near = rs.near in
    omega arith

pub overflow_add-at : goal.overflow_add-at
overflow_add-at c =
    let rs = c.args.self.now in
    let n = length-records rs.part.now rs.at rs.count in
    let near = rs.near in
    omega arith

pub overflow_add-at-2 : goal.overflow_add-at-2
overflow_add-at-2 c =
    let rs = c.args.self.now in
    let n = length-records rs.part.now rs.at rs.count in
    let near = rs.near in
    omega arith
