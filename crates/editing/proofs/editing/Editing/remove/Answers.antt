use Rattle.std.proofs.Common.{◌≡◌, ◌+◌, [], ◌&&◌, ap₂, ◌-◌, ◌<◌, ◌≤◌, ◌∙◌, true, length, take, get_or, arith}
use Rattle.std.proofs.lemmas.Bool.{lt-ltb, le-leb}
use Rattle.editing.specs.Contents.{glyphs_of, open_of, room_of}
use Rattle.editing.proofs.Opens.{outward-at, past}
use Rattle.editing.proofs.Removals.{left-more, left-none, next-place, past-take}
use Rattle.editing.proofs.editing.Editing.remove.Goals as goal

pub overflow_add-from : goal.overflow_add-from
overflow_add-from c =
    let last = outward-at 0 _ c.args.met.now c.loop-k.k c.requires.rising c.loop-k-test.true in
    omega (arith, last.1, c.requires.few, c.requires.inside)

pub loop-k-preserved : goal.loop-k-preserved
loop-k-preserved c =
    let gs = glyphs_of c.args.self.now in
    let now = glyphs_of c.loop-k.self in
    let fs = open_of c.args.self.now in
    let ns = open_of c.loop-k.self in
    let met = c.args.met.now in
    let k = c.loop-k.k in
    let i = past 0 (take k met) in
    let place = next-place gs now fs ns c.args.from k i (c.args.from + i - k) met c.loop-k.invariant.left c.requires.inside c.loop-k-test.true in
    let inside : c.args.from + (get_or met k 0 - k) < length now = place.2 in
    let fits : length now + 0 ≤ room_of c.loop-k.self + 1 = omega (arith, c.loop-k.invariant.fits) in
    let done : c.put.result ≡ true = c.put.ensures.answer ∙ ap₂ (λ s t. s && t) (lt-ltb _ _ inside) (le-leb _ _ fits) in
    record {
      left = left-more gs now fs ns c.args.from k i (c.args.from + i - k) met c.loop-k.invariant.left c.requires.inside c.loop-k-test.true (glyphs_of c.put.new.self) (open_of c.put.new.self) (c.put.ensures.glyphs done []) (c.put.ensures.open done []) (past 0 (take (k + 1) met)) (past-take k met c.loop-k-test.true);
      fits = c.put.ensures.fits;
      room = c.put.ensures.room ∙ c.loop-k.invariant.room;
      lender = c.put.ensures.lender ∙ c.loop-k.invariant.lender;
    }

pub returns-clause-open : goal.returns-clause-open
returns-clause-open c = λ hs.
    let met = c.args.met.now in
    let i = past 0 (take c.loop-k.k met) in
    (left-none (glyphs_of c.args.self.now) (glyphs_of c.loop-k.self) (open_of c.args.self.now) (open_of c.loop-k.self) c.args.from c.loop-k.k i (c.args.from + i - c.loop-k.k) met c.loop-k.invariant.left c.loop-k-test.false hs).1
