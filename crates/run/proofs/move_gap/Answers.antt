use Rattle.std.proofs.Common.{arith}
use Rattle.run.proofs.Gap.{moved_down, moved_up}
use Rattle.run.proofs.move_gap.Goals as goal

pub returns-then-at-front-clause-glyphs : goal.returns-then-at-front-clause-glyphs
returns-then-at-front-clause-glyphs c =
    moved_down c.args.slots.now c.args.front c.args.back c.args.at c.requires.gap _ (omega arith) c.requires.inside c.copy_within.ensures.after

pub returns-else-at-front-clause-glyphs : goal.returns-else-at-front-clause-glyphs
returns-else-at-front-clause-glyphs c =
    moved_up c.args.slots.now c.args.front c.args.back c.args.at c.requires.gap _ (omega arith) (omega arith) c.copy_within-else-at-front.ensures.after
