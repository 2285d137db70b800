use Rattle.paragraph.specs.SaidBy.{inputs_given, lent}
use Rattle.paragraph.proofs.perform.shaped_call.Goals as goal

pub returns-in-Line : goal.returns-in-Line
returns-in-Line g c = λ advances.
    let x = inputs_given g.S.FontSource.means advances c.args.given.now in
    rw c.in-Line.is (c.line_call-answer.ensures x (lent c.args.own.now))

pub returns-in-Pay : goal.returns-in-Pay
returns-in-Pay g c = λ advances. rw c.in-Pay.is (c.pay_call-answer.ensures advances c.args.used.now (lent c.args.memory.now))

pub returns-in-Waive : goal.returns-in-Waive
returns-in-Waive g c = λ advances.
    let x = inputs_given g.S.FontSource.means advances c.args.given.now in
    rw c.in-Waive.is (c.waive_call-answer.ensures.takes x c.args.used.now (lent c.args.memory.now) (lent c.args.own.now))

pub returns-in-Clear : goal.returns-in-Clear
returns-in-Clear g c = λ advances. rw c.in-Clear.is (c.clear_call.ensures advances c.args.hand.now c.args.used.now (lent c.args.memory.now) (lent c.args.own.now))
