use Rattle.std.proofs.Common.{◌≡◌, take}
use Rattle.model.specs.Edits.{moved_all, moved_end}
use Rattle.editing.specs.Frames.{edited}
use Rattle.editing.proofs.frame.Frame.tell.Given as goal

-- the positions so far are moved
abbrev pub invariant-loop-p : goal.invariant-loop-p
invariant-loop-p l = record {
  positions : take l.moved.count l.moved.positions ≡ take 64 (moved_all (edited l.position l.into) (take l.p-index l.p-items));
  «end» : l.moved.«end» ≡ moved_end (edited l.position l.into) l.fn.self.«end»;
}
