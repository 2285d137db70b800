use Rattle.std.proofs.Common.{◌≡◌, ◌+◌, ◌-◌, ◌≤◌, ◌∷◌, List, length}
use Rattle.model.specs.Edits.{Frame}
use Rattle.model.specs.Shaping.{attempt}
use Rattle.model.proofs.Chain.{inner}
use Rattle.editing.specs.Contents.{open_of, room_of}
use Rattle.shaping.specs.Attempts.{Ready, inputs_of}
use Rattle.candidates.specs.Actions.{records_of}
use Rattle.shaping.specs.Work.{Lent, state_of}
use Rattle.shaping.proofs.Attempts.{Ran}
use Rattle.shaping.proofs.shape.Inputs.+attempt.Given as goal

abbrev pub decreases-attempt : goal.decreases-attempt
decreases-attempt g l = l.depth

-- the records so far have run inside the match that is open
abbrev pub invariant-loop-i : goal.invariant-loop-i
invariant-loop-i g l =
    let inputs = inputs_of (g.S.FontSource.means l.fn.self.source.now) l.fn.self.table.table.now l.fn.self.plan.now l.fn.self.limit (room_of l.fn.work.editing) in
    record {
      ran : (f₀ : Frame) (fs₀ : List Frame) → open_of l.initial.work.editing ≡ f₀ ∷ fs₀
          → Ran (inner inputs (attempt inputs (l.depth - 1) l.alternate)) (records_of l.records) f₀ (state_of l.initial.work) fs₀ l.i (state_of l.work) (open_of l.work.editing);
      ready : Ready (length l.work.ties.now) (state_of l.work);
      lent : Lent l.work l.fn.work;
      deep : length (open_of l.work.editing) + (l.depth - 1) ≤ 6;
    }
