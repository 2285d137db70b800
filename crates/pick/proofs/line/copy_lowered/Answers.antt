use Rattle.std.proofs.Common.{◌-◌, ap, ◌∙◌, set, arith}
use Rattle.pick.specs.Lines.{lowered}
use Rattle.pick.proofs.Copies.{copied-more}
use Rattle.pick.proofs.line.copy_lowered.Goals as goal

pub loop-i-preserved : goal.loop-i-preserved
loop-i-preserved g c =
    let f = lowered g.R.HasCluster.cluster_of g.R.TakesCluster.copy_at c.args.a in
    let r = c.index-records-i.result in
    ap (set c.loop-i.buffer c.loop-i.i) (c.copy_at.ensures ∙ ap (λ k. g.R.TakesCluster.copy_at r (k - c.args.a)) c.cluster.ensures ∙ ap f c.index-records-i.is)
    ∙ copied-more f c.loop-i.i c.args.records.now c.loop-i.buffer c.args.buffer.now r (omega arith) (omega (arith, c.requires.fits)) c.loop-i.invariant
