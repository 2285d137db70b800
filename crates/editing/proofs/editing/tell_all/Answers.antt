use Rattle.std.proofs.Common.{◌<◌, ◌∙◌, sym, subst, length, arith}
use Rattle.std.proofs.lemmas.List.{length-set}
use Rattle.model.specs.Edits.{told}
use Rattle.editing.specs.Frames.{Inside, edit, frame_of}
use Rattle.editing.proofs.Tables.{all-before, next-same, next-rest, next-told}
use Rattle.editing.proofs.editing.tell_all.Goals as goal

pub tell-requires : goal.tell-requires
tell-requires c =
    let old = c.args.frames.now in
    let k = c.loop-k.k in
    let d = c.index-frames-k.result in
    let n = c.requires.inside.0 in
    let same = next-same (told (edit c.args.position c.args.into)) c.loop-k.frames old k c.loop-k.invariant.rest d in
    let within : k < length old = omega (arith, c.requires.few, c.loop-k-test.true) in
    (n, subst (λ x. Inside n (frame_of x)) (sym same) (all-before (Inside n) old k c.args.depth d c.requires.inside.1 c.loop-k-test.true within), c.requires.inside.2)

pub loop-k-preserved : goal.loop-k-preserved
loop-k-preserved c =
    let old = c.args.frames.now in
    let k = c.loop-k.k in
    let T = told (edit c.args.position c.args.into) in
    let within : k < length old = omega (arith, c.requires.few, c.loop-k-test.true) in
    record {
      len = length-set c.loop-k.frames k c.tell.new.self ∙ c.loop-k.invariant.len;
      done = next-told T c.loop-k.frames old k c.loop-k.invariant.rest c.tell.new.self c.index-frames-k.result (omega (arith, c.loop-k.invariant.len, within)) within c.tell.ensures c.loop-k.invariant.done;
      rest = next-rest T c.loop-k.frames old k c.loop-k.invariant.rest c.tell.new.self;
    }
