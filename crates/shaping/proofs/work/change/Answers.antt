use Rattle.std.proofs.Common.{suc, map, drop, sym, ap, ◌∙◌}
use Rattle.model.specs.Edits.{changed, edits, told}
use Rattle.model.specs.Lookups.{put}
use Rattle.editing.specs.Contents.{glyphs_of, open_of}
use Rattle.matching.specs.Seek.{glyph_at, mets_at}
use Rattle.candidates.specs.Actions.{action_of}
use Rattle.shaping.proofs.Attempts.{told-none}
use Rattle.shaping.proofs.work.change.Goals as goal

pub returns-in-Put-clause-glyphs : goal.returns-in-Put-clause-glyphs
returns-in-Put-clause-glyphs c = λ e.
    let gs = glyphs_of c.args.editing.now in
    let p = c.args.p in
    let others = mets_at (drop (suc p) gs) 0 c.args.met.now in
    c.put.ensures.glyphs e others ∙ ap (λ x. changed x (glyph_at gs p).cluster others p gs) (ap put c.as_slice.ensures.glyphs ∙ sym (ap action_of c.in-Put.is))

pub returns-in-Put-clause-open : goal.returns-in-Put-clause-open
returns-in-Put-clause-open c = λ e.
    let gs = glyphs_of c.args.editing.now in
    let p = c.args.p in
    let others = mets_at (drop (suc p) gs) 0 c.args.met.now in
    c.put.ensures.open e others ∙ ap (λ x. map (told (edits x others p)) (open_of c.args.editing.now)) (ap put c.as_slice.ensures.glyphs ∙ sym (ap action_of c.in-Put.is))

pub returns-in-Nest-clause-open : goal.returns-in-Nest-clause-open
returns-in-Nest-clause-open c = λ e.
    let gs = glyphs_of c.args.editing.now in
    let p = c.args.p in
    let others = mets_at (drop (suc p) gs) 0 c.args.met.now in
    sym (ap (λ x. map (told (edits (action_of x) others p)) (open_of c.args.editing.now)) c.in-Nest.is ∙ told-none (open_of c.args.editing.now))
