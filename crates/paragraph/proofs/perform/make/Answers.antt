use Rattle.paragraph.specs.SaidBy.{lent}
use Rattle.paragraph.proofs.perform.make.Goals as goal

pub returns-in-Blank : goal.returns-in-Blank
returns-in-Blank g c = λ advances. rw c.in-Blank.is (c.blank_call.ensures advances c.args.hand.now c.args.used.now (lent c.args.own.now))

pub returns-in-Shaped : goal.returns-in-Shaped
returns-in-Shaped g c = λ advances. rw c.in-Shaped.is (c.shaped_call.ensures advances)
