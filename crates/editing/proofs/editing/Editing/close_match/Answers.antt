use Rattle.std.proofs.Common.{◌≡◌, ◌-◌, ◌∙◌, Some, ap, arith}
use Rattle.std.specs.List.{slice_get}
use Rattle.editing.specs.Frames.{frame_of}
use Rattle.editing.proofs.Tables.{prefix, without-last}
use Rattle.editing.proofs.editing.Editing.close_match.Goals as goal

pub invariant_of-self : goal.invariant_of-self
invariant_of-self c = record {
  few = omega (arith, c.args.self.now.few);
  inside = prefix _ c.args.self.now.frames (c.args.self.now.depth - 1) c.args.self.now.depth (omega arith) c.args.self.now.inside;
}

pub returns-clause-closed : goal.returns-clause-closed
returns-clause-closed c = λ f fs e.
    let first : Some (frame_of c.in-Some.frame) ≡ Some f = c.in-Some.ensures.innermost ∙ ap (λ l. slice_get l 0) e in
    let same : frame_of c.in-Some.frame ≡ f = cc in
    (c.end.ensures ∙ ap (λ g. g.«end») same, without-last c.args.self.now.frames c.args.self.now.depth c.in-Some.frame f fs (omega (arith, c.args.self.now.few)) e)
