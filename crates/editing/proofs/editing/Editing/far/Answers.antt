use Rattle.std.proofs.Common.{◌≡◌, ◌-◌, ◌<◌, ◌∙◌, Some, sym, ap, length, drop, arith}
use Rattle.std.specs.List.{slice_get}
use Rattle.std.proofs.lemmas.List.{get_or-drop}
use Rattle.std.proofs.lemmas.Option.{get_or_from_slice_get, slice_get_within}
use Rattle.matching.specs.Seek.{glyph_at}
use Rattle.editing.specs.Contents.{glyphs_of}
use Rattle.editing.proofs.Opens.{outward-at}
use Rattle.editing.proofs.Joins.{far-last}
use Rattle.editing.proofs.editing.Editing.far.Goals as goal

pub overflow_add-from : goal.overflow_add-from
overflow_add-from c =
    let met = c.args.met.now in
    let at : slice_get met (length met - 1) ≡ Some c.in-Some.field-0.now = sym c.in-Some.ensures.value in
    let last = get_or_from_slice_get met (length met - 1) c.in-Some.field-0.now 0 at in
    let inside = outward-at 0 _ met (length met - 1) c.requires.rising (slice_get_within met (length met - 1) c.in-Some.field-0.now at) in
    omega (arith, inside.1, last, c.requires.few, c.requires.inside)

pub returns-in-Some : goal.returns-in-Some
returns-in-Some c =
    let met = c.args.met.now in
    let gs = glyphs_of c.args.self.now in
    let at : slice_get met (length met - 1) ≡ Some c.in-Some.field-0.now = sym c.in-Some.ensures.value in
    let last = get_or_from_slice_get met (length met - 1) c.in-Some.field-0.now 0 at in
    let some : 0 < length met = omega (arith, slice_get_within met (length met - 1) c.in-Some.field-0.now at) in
    c.cluster.ensures
    ∙ ap (λ g. g.cluster) (sym (get_or-drop c.args.from gs c.in-Some.field-0.now (record { glyph = 0; cluster = 0 })))
    ∙ ap (λ k. (glyph_at (drop c.args.from gs) k).cluster) (sym last)
    ∙ sym (far-last (drop c.args.from gs) c.args.own 0 met some)
