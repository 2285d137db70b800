use Rattle.std.proofs.Common.{◌≡◌, ◌≤◌, ◌+◌, ◌-◌, length, take}
use Rattle.editing.specs.Contents.{glyphs_of, lender_of, open_of, room_of}
use Rattle.editing.proofs.Opens.{past}
use Rattle.editing.proofs.Removals.{Left}
use Rattle.editing.proofs.editing.Editing.remove.Given as goal

-- the removals that are left give the whole
abbrev pub invariant-loop-k : goal.invariant-loop-k
invariant-loop-k l = record {
  left : Left (glyphs_of l.fn.self) (glyphs_of l.self) (open_of l.fn.self) (open_of l.self) l.from l.k (past 0 (take l.k l.met)) (l.from + past 0 (take l.k l.met) - l.k) l.met;
  fits : length (glyphs_of l.self) ≤ room_of l.self;
  room : room_of l.self ≡ room_of l.fn.self;
  lender : lender_of l.self ≡ lender_of l.fn.self;
}
