use Rattle.std.proofs.Common.{◌≡◌, pred, ◌+◌, ◌<◌, ◌∙◌, sym, ap, subst, length, take, map, arith}
use Rattle.std.proofs.lemmas.Bool.{and_parts, ltb-true}
use Rattle.std.specs.List.{AllByRecursion}
use Rattle.model.specs.Edits.{told}
use Rattle.run.specs.Contents.{glyphs_of}
use Rattle.editing.specs.Frames.{Inside, edit, frame_of}
use Rattle.editing.proofs.Tables.{all-told, innermost-told, length-put}
use Rattle.editing.proofs.editing.Editing.put.Goals as goal

pub tell_all-requires-clause-inside : goal.tell_all-requires-clause-inside
tell_all-requires-clause-inside c =
    let gs = glyphs_of c.args.self.now.run in
    let l : c.args.p < length gs = ltb-true c.args.p (length gs) (and_parts _ _ (sym c.if-not-replace.ensures.answer)).0 in
    let len : pred (length gs + length c.args.glyphs.now) ≡ length (glyphs_of c.replace.new.self) = length-put _ gs c.args.glyphs.now c.args.p l ∙ sym (ap length c.if-not-replace.ensures.glyphs) in
    (length gs, c.args.self.now.inside, (l, omega (arith, len, c.len.ensures.len, c.len.type_inv)))

pub invariant_of-self-2 : goal.invariant_of-self-2
invariant_of-self-2 c =
    let n = length (glyphs_of c.args.self.now.run) in
    let m = length (glyphs_of c.replace.new.self) in
    let l : c.args.p < n = ltb-true c.args.p n (and_parts _ _ (sym c.if-not-replace.ensures.answer)).0 in
    let len : pred (n + length c.args.glyphs.now) ≡ m = length-put _ (glyphs_of c.args.self.now.run) c.args.glyphs.now c.args.p l ∙ sym (ap length c.if-not-replace.ensures.glyphs) in
    record {
      few = c.args.self.now.few;
      inside = subst (AllByRecursion (Inside m)) (sym c.tell_all.ensures.told) (all-told n c.args.p (length c.args.glyphs.now) m l len (map frame_of (take c.args.self.now.depth c.args.self.now.frames)) c.args.self.now.inside);
    }

pub returns-clause-open : goal.returns-clause-open
returns-clause-open c = λ e others.
    innermost-told (told (edit c.args.p (length c.args.glyphs.now))) (take c.args.self.now.depth c.args.self.now.frames) (take c.args.self.now.depth c.tell_all.new.frames) c.tell_all.ensures.told
