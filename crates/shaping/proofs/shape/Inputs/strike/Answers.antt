use Rattle.std.proofs.Common.{◌≡◌, ◌+◌, ◌∷◌, suc, true, drop, length, map, nat_le, sym, ap, ◌∙◌, subst, arith}
use Rattle.std.proofs.Math.Path.{fun_ext}
use Rattle.std.proofs.lemmas.Bool.{lt-ltb}
use Rattle.model.specs.Edits.{changed, edits, frame_at, told}
use Rattle.editing.specs.Contents.{glyphs_of, open_of, room_of}
use Rattle.matching.specs.Seek.{glyph_at, mets_at}
use Rattle.shaping.specs.Attempts.{match_at}
use Rattle.candidates.specs.Actions.{action_of}
use Rattle.shaping.proofs.shape.Inputs.strike.Goals as goal

pub returns-clause-took : goal.returns-clause-took
returns-clause-took g c =
    let gs = glyphs_of c.args.work.now.editing in
    let p = c.args.p in
    let met = c.args.met.now in
    let action = action_of c.args.found.now.action in
    let m = match_at gs p met c.args.found.now in
    let taken : c.change.result ≡ true = c.if-not-change.false in
    let opened = c.open_match.ensures.answer.1 ((c.requires.inside, c.requires.met.1), c.requires.met.0, c.requires.open) in
    let room : nat_le (length (changed action m.own m.others p gs)) (room_of c.args.work.now.editing) ≡ true =
    subst (λ n. nat_le (length (changed action m.own m.others p gs)) n ≡ true) c.open_match.ensures.room
    (subst (λ l. nat_le (length (changed action (glyph_at l p).cluster (mets_at (drop (suc p) l) 0 met) p l)) (room_of c.open_match.new.self) ≡ true) c.open_match.ensures.glyphs (sym c.change.ensures.answer ∙ taken)) in
    let run : glyphs_of c.change.new.editing ≡ changed action m.own m.others p gs =
    c.change.ensures.glyphs taken ∙ ap (λ l. changed action (glyph_at l p).cluster (mets_at (drop (suc p) l) 0 met) p l) c.open_match.ensures.glyphs in
    let frames : open_of c.change.new.editing ≡ map (told (edits action m.others p)) (frame_at p m.others ∷ open_of c.args.work.now.editing) =
    c.change.ensures.open taken ∙ ap (λ l. map (told (edits action (mets_at (drop (suc p) l) 0 met) p)) (open_of c.open_match.new.self)) c.open_match.ensures.glyphs
    ∙ ap (map (told (edits action m.others p))) (c.open_match.ensures.open opened) in
    let one : c.args.work.now.hits + 1 ≡ suc c.args.work.now.hits = omega arith in
    (lt-ltb _ _ (omega (arith, c.if-work-self.false)), room, (λ i. record { run = run i; tied = fun_ext (c.tie.ensures.tied c.requires.far) i; hits = one i }), frames)
