use Rattle.std.proofs.Common.{◌≡◌, length, map, take, drop}
use Rattle.model.specs.Edits.{told}
use Rattle.editing.specs.Frames.{frame_of, edit}
use Rattle.editing.proofs.editing.tell_all.Given as goal

-- those so far are told, the others are as before
abbrev pub invariant-loop-k : goal.invariant-loop-k
invariant-loop-k l = record {
  len : length l.frames ≡ length l.fn.frames;
  done : map frame_of (take l.k l.frames) ≡ map (told (edit l.position l.into)) (map frame_of (take l.k l.fn.frames));
  rest : drop l.k l.frames ≡ drop l.k l.fn.frames;
}
