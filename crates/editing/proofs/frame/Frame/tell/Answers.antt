use Rattle.std.proofs.Common.{◌∙◌, ap, ap₂, take, arith}
use Rattle.std.proofs.lemmas.List.{take_all}
use Rattle.model.specs.Edits.{Frame, moved_all}
use Rattle.editing.specs.Frames.{edited}
use Rattle.editing.proofs.Moves.{moved-more}
use Rattle.editing.proofs.frame.Frame.tell.Goals as goal

pub loop-p-preserved : goal.loop-p-preserved
loop-p-preserved c =
    let old = c.args.self.now in
    record {
      positions = moved-more (edited c.args.position c.args.into) (take old.count old.positions) _ _ c.loop-p.p-index (omega (arith, c.loop-p-test.true)) c.loop-p.invariant.positions c.add_moved.ensures.positions;
      «end» = c.add_moved.ensures.stays ∙ c.loop-p.invariant.«end»;
    }

pub returns : goal.returns
returns c =
    let ps = take c.args.self.now.count c.args.self.now.positions in
    let positions = c.loop-p.invariant.positions ∙ ap (λ l. take 64 (moved_all (edited c.args.position c.args.into) l)) (take_all c.loop-p.p-index ps c.loop-p-test.false) in
    ap₂ {C = Frame} (λ l n. record { positions = l; «end» = n }) positions c.loop-p.invariant.«end»
