use Rattle.std.proofs.Common.{◌≡◌, ℕ, length, take}
use Rattle.model.specs.Shaping.{marks}
use Rattle.run.specs.Contents.{glyphs_of}
use Rattle.ties.specs.Ties.{tied_in}
use Rattle.ties.proofs.settle.Given as goal

-- the glyphs so far are noted
abbrev pub invariant-loop-i : goal.invariant-loop-i
invariant-loop-i l =
    (h : ℕ) → l.marks ≡ marks (record { run = take l.i (glyphs_of l.run); tied = tied_in l.fn.marks; hits = h }) 0 (length l.fn.marks)
