use Rattle.std.proofs.Common.{◌≡◌}
use Rattle.candidates.specs.LookupOf.{lookup_of}
use Rattle.editing.specs.Contents.{room_of}
use Rattle.gsub.specs.Meaning.{gsub_means}
use Rattle.model.specs.declared.Entry.{Entry}
use Rattle.shaping.specs.Attempts.{inputs_of}
use Rattle.shaping.specs.Work.{Idle, Lent, state_of}
use Rattle.shaping.proofs.Passing.{Onward, left}
use Rattle.shaping.proofs.shape.Inputs.forward.Given as goal

abbrev pub decreases-loop-i : goal.decreases-loop-i
decreases-loop-i g l = left l.self.limit (room_of l.work.editing) (state_of l.work) l.i

-- what comes of the rest of the pass comes of the whole
abbrev pub invariant-loop-i : goal.invariant-loop-i
invariant-loop-i g l =
    record {
      on : (x : Entry) → x.alternate ≡ l.alternate → lookup_of l.lookup ≡ gsub_means l.fn.self.table.table.now x.lookup
          → Onward (inputs_of (g.S.FontSource.means l.fn.self.source.now) l.fn.self.table.table.now l.fn.self.plan.now l.fn.self.limit (room_of l.fn.work.editing)) x (state_of l.fn.work) l.i (state_of l.work);
      idle : Idle l.work;
      lent : Lent l.work l.fn.work;
    }
