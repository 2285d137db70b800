use Rattle.std.proofs.Common.{◌≡◌, None, sym, subst, ◌∙◌, ◌<◌, length, arith}
use Rattle.std.proofs.lemmas.Grind.{get_or_default_zero}
use Rattle.layout.specs.Faults.{first_in}
use Rattle.gsub.specs.Seen.{faults_of}
use Rattle.gsub.proofs.Remembers.{sound_more}
use Rattle.gsub.proofs.walk.Walk.remember.Goals as goal

pub invariant_of-self : goal.invariant_of-self
invariant_of-self c =
    let w = c.self.inside in
    let s = c.args.start.byte in
    let seen = w.seen.items in
    let inside : s < length seen = omega arith in
    let read = c.index_mut.ensures.value ∙ get_or_default_zero seen s c.index_mut.result.now inside in
    let clean = subst (λ u. first_in (faults_of c.args.kind u.table u.lookups s) ≡ None) (sym c.self.view_is) c.requires in (
      rw (read, c.bit.ensures) (sound_more w.table.now w.lookups seen c.args.kind s inside c.self.invariant.0 clean),
      c.self.invariant.1,
    )
