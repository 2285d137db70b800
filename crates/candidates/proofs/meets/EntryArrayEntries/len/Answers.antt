use Rattle.std.proofs.Common.{sym}
use Rattle.candidates.specs.Asked.{test_of}
use Rattle.candidates.proofs.Fields.{length-tests}
use Rattle.candidates.proofs.meets.EntryArrayEntries.len.Goals as goal

pub returns : goal.returns
returns c =
    let e = c.args.self.now in
    sym (length-tests (test_of e.part.now e.asks) e.part.now e.array.at e.array.count)
