use Rattle.paragraph.specs.Performs.{still_blank}
use Rattle.paragraph.specs.SaidBy.{inputs_given}
use Rattle.paragraph.proofs.Waives.{of-blank}
use Rattle.paragraph.proofs.perform.waive_all.Goals as goal

pub returns-in-Blank : goal.returns-in-Blank
returns-in-Blank g c = λ advances memory own.
    let b = c.in-Blank.field-0.number in
    let w = of-blank b c.args.hand.now c.args.used memory own c.args.used in
    rw c.in-Blank.is (still_blank b, w.0, w.1, w.2, w.3)

pub returns-in-Shaped : goal.returns-in-Shaped
returns-in-Shaped g c = λ advances memory own. rw c.in-Shaped.is (c.waive_owed.ensures (inputs_given g.S.FontSource.means advances c.in-Shaped.field-1.now) memory own)
