use Rattle.std.proofs.Common.{◌≡◌, ℕ, suc, ◌+◌, ◌-◌, ◌<◌, ◌∙◌, ◌++◌, List, sym, ap, ap₂, subst, length, map, take, drop, arith}
use Rattle.std.specs.List.{AllByRecursion}
use Rattle.model.specs.Lookups.{Met, far}
use Rattle.model.specs.Edits.{without}
use Rattle.matching.specs.Seek.{Outward, glyph_at, mets_at}
use Rattle.run.specs.Contents.{glyphs_of as glyphs_in, room_of as room_in}
use Rattle.run.specs.Runs.{merged_from}
use Rattle.editing.specs.Frames.{Inside, frame_of}
use Rattle.editing.proofs.Joins.{joined-at, joined-changed, length-merged, one-replaced}
use Rattle.editing.proofs.editing.Editing.join.Goals as goal

-- the ligature has replaced the first glyph
pub invariant_of-self : goal.invariant_of-self
invariant_of-self c =
    let gs = glyphs_in c.args.self.now.run in
    let gs1 = glyphs_in c.merge.new.self in
    let same : length gs1 ≡ length gs = ap length c.merge.ensures.glyphs ∙ length-merged c.args.p c.cluster-own.result c.far-far.result gs in
    let l : c.args.p < length gs1 = omega (arith, same, c.if-p-len.false, c.len-len.ensures.len) in
    let one = one-replaced gs1 (glyphs_in c.replace.new.self) c.args.p c.args.ligature (room_in c.merge.new.self) c.replace.result l c.replace.ensures.fits c.replace.ensures.answer c.replace.ensures.glyphs in
    record {
      few = c.args.self.now.few;
      inside = subst (λ n. AllByRecursion (Inside n) (map frame_of (take c.args.self.now.depth c.args.self.now.frames))) (sym (one.1 ∙ same)) c.args.self.now.inside;
    }

pub remove-requires-clause-few : goal.remove-requires-clause-few
remove-requires-clause-few c =
    let gs = glyphs_in c.args.self.now.run in
    let gs1 = glyphs_in c.merge.new.self in
    let same : length gs1 ≡ length gs = ap length c.merge.ensures.glyphs ∙ length-merged c.args.p c.cluster-own.result c.far-far.result gs in
    let l : c.args.p < length gs1 = omega (arith, same, c.if-p-len.false, c.len-len.ensures.len) in
    let one = one-replaced gs1 (glyphs_in c.replace.new.self) c.args.p c.args.ligature (room_in c.merge.new.self) c.replace.result l c.replace.ensures.fits c.replace.ensures.answer c.replace.ensures.glyphs in
    omega (arith, one.1, same, c.len-len.ensures.len, c.len-len.type_inv)

pub remove-requires-clause-rising : goal.remove-requires-clause-rising
remove-requires-clause-rising c =
    let gs = glyphs_in c.args.self.now.run in
    let gs1 = glyphs_in c.merge.new.self in
    let same : length gs1 ≡ length gs = ap length c.merge.ensures.glyphs ∙ length-merged c.args.p c.cluster-own.result c.far-far.result gs in
    let l : c.args.p < length gs1 = omega (arith, same, c.if-p-len.false, c.len-len.ensures.len) in
    let one = one-replaced gs1 (glyphs_in c.replace.new.self) c.args.p c.args.ligature (room_in c.merge.new.self) c.replace.result l c.replace.ensures.fits c.replace.ensures.answer c.replace.ensures.glyphs in
    let left : c.len-len.result - c.args.p - 1 ≡ length (glyphs_in c.replace.new.self) - (c.args.p + 1) = omega (arith, one.1, same, c.len-len.ensures.len) in
    subst (λ n. Outward 0 n c.args.met.now) left (c.rise_within.ensures.rise c.if-not-rise_within.false)

pub returns-clause-glyphs : goal.returns-clause-glyphs
returns-clause-glyphs c = λ e.
    let gs = glyphs_in c.args.self.now.run in
    let gs1 = glyphs_in c.merge.new.self in
    let p = c.args.p in
    let own : ℕ = (glyph_at gs p).cluster in
    let ms : List Met = mets_at (drop (suc p) gs) 0 c.args.met.now in
    let inside : p < length gs = omega (arith, c.if-p-len.false, c.len-len.ensures.len) in
    let behind : p + 1 ≡ suc p = omega arith in
    let far-is : c.far-far.result ≡ far own ms = c.far-far.ensures ∙ ap₂ (λ o k. far o (mets_at (drop k gs) 0 c.args.met.now)) c.cluster-own.ensures behind in
    let merged-is : gs1 ≡ merged_from p own (far own ms) gs = c.merge.ensures.glyphs ∙ ap₂ (λ o h. merged_from p o h gs) c.cluster-own.ensures far-is in
    let same : length gs1 ≡ length gs = ap length c.merge.ensures.glyphs ∙ length-merged p c.cluster-own.result c.far-far.result gs in
    let one = one-replaced gs1 (glyphs_in c.replace.new.self) p c.args.ligature (room_in c.merge.new.self) c.replace.result (omega (arith, same, inside)) c.replace.ensures.fits c.replace.ensures.answer c.replace.ensures.glyphs in
    c.remove.ensures.glyphs (drop (suc p) gs) ∙ ap (λ g. take (p + 1) g ++ without ms (drop (p + 1) g)) one.0 ∙ joined-at gs gs1 p c.args.ligature ms inside merged-is

pub returns-clause-rising : goal.returns-clause-rising
returns-clause-rising c = λ e rising.
    let gs = glyphs_in c.args.self.now.run in
    returns-clause-glyphs c e ∙ joined-changed gs c.args.p c.args.ligature (mets_at (drop (suc c.args.p) gs) 0 c.args.met.now) rising (omega (arith, c.if-p-len.false, c.len-len.ensures.len))
