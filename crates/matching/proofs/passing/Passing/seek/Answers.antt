use Rattle.std.proofs.Common.{sym, ◌∙◌, arith}
use Rattle.matching.proofs.Seeks.{sought-first, sought-none, sought-not, sought-on}
use Rattle.matching.proofs.passing.Passing.seek.Goals as goal

pub loop-k-init : goal.loop-k-init
loop-k-init g c = sought-first _ (g.E.Entries.tests c.args.entries.now) (g.G.Glyphs.glyphs c.args.glyphs.now) c.args.from

pub returns-in_err-next : goal.returns-in_err-next
returns-in_err-next g c =
    c.from_residual.ensures ∙ sought-none _ _ _ c.args.from c.loop-k.so_far c.loop-k.k c.loop-k.invariant (omega arith) (sym c.in_err-next.was ∙ c.next.ensures.next)

pub returns-then-not-meets : goal.returns-then-not-meets
returns-then-not-meets g c =
    sought-not _ _ _ c.args.from c.loop-k.so_far c.loop-k.k c.loop-k.invariant (omega arith) c.in_ok-next.next (sym c.next.ensures.next ∙ c.in_ok-next.was) (sym c.meets.ensures ∙ c.if-not-meets.true)

pub loop-k-preserved : goal.loop-k-preserved
loop-k-preserved g c =
    sought-on _ _ _ c.args.from c.loop-k.so_far c.loop-k.k c.loop-k.invariant (omega arith) c.in_ok-next.next (sym c.next.ensures.next ∙ c.in_ok-next.was) (sym c.meets.ensures ∙ c.if-not-meets.false)
