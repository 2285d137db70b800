use Rattle.std.proofs.Common.{◌≡◌, None, subst, ◌∙◌, arith}
use Rattle.std.proofs.lemmas.Grind.{get_or_default_zero}
use Rattle.layout.specs.Faults.{first_in}
use Rattle.gsub.specs.Seen.{faults_of}
use Rattle.gsub.proofs.Remembers.{sound-at}
use Rattle.gsub.proofs.walk.Walk.is_remembered.Goals as goal

pub returns-then-start-len : goal.returns-then-start-len
returns-then-start-len c = λ e.
    let w = c.self.inside in
    let s = c.args.start.byte in
    let seen = w.seen.items in
    let read = c.index.ensures ∙ get_or_default_zero seen s c.index.result.now (omega arith) in
    subst (λ u. first_in (faults_of c.args.kind u.table u.lookups s) ≡ None) c.self.view_is
    (sound-at w.table.now w.lookups seen c.args.kind s c.self.invariant.0 (rw (read, c.bit.ensures) at e))
