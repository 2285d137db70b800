use Rattle.std.proofs.Common.{◌+◌, ◌++◌, ◌∙◌, take, arith}
use Rattle.std.proofs.lemmas.List.{length-set}
use Rattle.model.specs.Edits.{up_from}
use Rattle.editing.proofs.Adds.{add-full, add-more, add-all}
use Rattle.editing.proofs.frame.Frame.add.Goals as goal

pub returns-then-self-eq64-clause-positions : goal.returns-then-self-eq64-clause-positions
returns-then-self-eq64-clause-positions c =
    let old = c.args.self.now in
    add-full c.loop-k.self.positions c.loop-k.self.count c.args.first c.args.n c.loop-k.k (take old.count old.positions ++ up_from c.args.first c.args.n) c.loop-k.invariant.long c.loop-k.invariant.positions (omega arith)

pub loop-k-preserved : goal.loop-k-preserved
loop-k-preserved c =
    let old = c.args.self.now in
    record {
      long = length-set c.loop-k.self.positions c.loop-k.self.count (c.args.first + c.loop-k.k) ∙ c.loop-k.invariant.long;
      few = omega arith;
      positions = add-more c.loop-k.self.positions c.loop-k.self.count c.args.first c.args.n c.loop-k.k (take old.count old.positions ++ up_from c.args.first c.args.n) c.loop-k.invariant.long c.loop-k.invariant.positions (omega arith) (omega arith);
      stays = c.loop-k.invariant.stays;
    }

pub returns-clause-positions : goal.returns-clause-positions
returns-clause-positions c =
    let old = c.args.self.now in
    add-all c.loop-k.self.positions c.loop-k.self.count c.args.first c.args.n c.loop-k.k (take old.count old.positions ++ up_from c.args.first c.args.n) c.loop-k.invariant.long c.loop-k.invariant.positions (omega arith) (omega arith)
