use Rattle.std.proofs.Common.{◌≡◌, length, sym, arith}
use Rattle.candidates.specs.Actions.{action_of}
use Rattle.candidates.specs.Asked.{test_of}
use Rattle.candidates.specs.Views.{asked}
use Rattle.candidates.proofs.Fields.{length-tests}
use Rattle.candidates.proofs.candidate.Candidate.attempt.Goals as goal

pub returns-clause-found : goal.returns-clause-found
returns-clause-found g c = λ here.
    let e = c.args.self.now.input in
    let n : length (asked e) ≡ e.array.count = length-tests (test_of e.part.now e.asks) e.part.now e.array.at e.array.count in
    let few = c.args.self.now.few in
    sym (rw n at (c.in_ok-span.ensures.input (action_of c.args.self.now.action) (rw n (omega arith))))

pub returns-clause-outward : goal.returns-clause-outward
returns-clause-outward g c =
    let e = c.args.self.now.input in
    let n : length (asked e) ≡ e.array.count = length-tests (test_of e.part.now e.asks) e.part.now e.array.at e.array.count in
    let few = c.args.self.now.few in
    (few, rw n at (c.in_ok-span.ensures.outward (rw n (omega arith))))

pub returns-clause-left : goal.returns-clause-left
returns-clause-left g c =
    let e = c.args.self.now.input in
    let n : length (asked e) ≡ e.array.count = length-tests (test_of e.part.now e.asks) e.part.now e.array.at e.array.count in
    rw n at c.in_ok-span.ensures.rest
