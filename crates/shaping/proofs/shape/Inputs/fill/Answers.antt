use Rattle.std.proofs.Common.{length, ap, ◌∙◌, arith}
use Rattle.std.proofs.lemmas.List.{length-replicate}
use Rattle.run.specs.Contents.{glyphs_of, room_of}
use Rattle.shaping.proofs.Firsts.{filled-by, first-ready}
use Rattle.shaping.proofs.shape.Inputs.fill.Goals as goal

pub run_marked-requires : goal.run_marked-requires
run_marked-requires g c =
    record { ready = first-ready (g.S.FontSource.means c.args.self.now.source.now) c.args.text.now (glyphs_of c.lay.new.run) (length c.clear_ties.new.marks) c.lay.ensures.laid (ap length c.clear_ties.ensures ∙ length-replicate (length c.args.marks.now) 0 ∙ c.requires.marked) }

pub returns-clause-outcome : goal.returns-clause-outcome
returns-clause-outcome g c =
    filled-by (g.S.FontSource.means c.args.self.now.source.now) c.args.self.now.table.table.now c.args.self.now.plan.now c.args.self.now.limit (room_of c.args.run.now) (room_of c.lay.new.run) c.lay.ensures.room c.args.text.now (omega (arith, c.if-text-room.false, c.room.ensures))
    (length c.args.marks.now) c.requires.marked (glyphs_of c.lay.new.run) c.lay.ensures.laid c.clear_ties.new.marks c.clear_ties.ensures c.run_marked.result (glyphs_of c.run_marked.new.run) c.run_marked.new.marks c.run_marked.ensures.runs
