use Rattle.editing.specs.Contents.{room_of}
use Rattle.shaping.specs.Attempts.{inputs_of}
use Rattle.shaping.specs.Work.{Idle, Lent, state_of}
use Rattle.shaping.proofs.Passing.{Planned}
use Rattle.shaping.proofs.shape.Inputs.passes.Given as goal

-- what comes of the plan's rest comes of the whole
abbrev pub invariant-loop-entry : goal.invariant-loop-entry
invariant-loop-entry g l =
    record {
      on : Planned (inputs_of (g.S.FontSource.means l.fn.self.source.now) l.fn.self.table.table.now l.fn.self.plan.now l.fn.self.limit (room_of l.fn.work.editing)) l.fn.self.plan.now (state_of l.fn.work) l.entry-index (state_of l.work);
      idle : Idle l.work;
      lent : Lent l.work l.fn.work;
    }
