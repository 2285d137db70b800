use Rattle.std.proofs.Common.{List, ℕ, sym, subst}
use Rattle.gsub.specs.Forms.{form_is}
use Rattle.candidates.specs.Sound.{Sound}
use Rattle.candidates.proofs.Accepted.{placed-sound}
use Rattle.candidates.proofs.lookup.Lookup.listed.Goals as goal

pub list-requires : goal.list-requires
list-requires c =
    let k = c.args.self.now in
    let f = form_is c.in_ok-subtable.subtable in
    subst (λ (p : List ℕ). Sound p f) (sym c.in_ok-subtable.ensures.part)
    (placed-sound k.gsub.table.now k.number k.start k.lookup_type k.subtables c.args.j f k.gsub.accepted k.placed c.requires (sym c.in_ok-subtable.ensures.form))
