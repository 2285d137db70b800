use Rattle.std.proofs.Common.{◌==◌, ◌+◌, SomeIff, length, take, drop, subst, ap, sym, ◌∙◌, lit<}
use Rattle.std.specs.List.{AllByRecursion, slice_split}
use Rattle.std.proofs.lemmas.Iterator.Consumers.{YieldsList-end, YieldsList-turn, count_from_yields_List}
use Rattle.std.proofs.lemmas.Iterator.Splits.{YieldsList-from_str_split}
use Rattle.parsing.specs.Items.{items_in}
use Rattle.parsing.specs.Number.{IsNumber}
use Rattle.parsing.proofs.Items.{items_of_some}
use Rattle.parsing.proofs.Places.{parted, one_of_all}
use Rattle.parsing.proofs.list.count_numbers.Goals as goal

pub returns-in_err-number_of : goal.returns-in_err-number_of
returns-in_err-number_of c =
    let items = slice_split (λ b. b == 44) c.args.word.now in
    let road = YieldsList-from_str_split {s = c.into_iter-item-iterator.result} 44 c.args.word.now (lit< tt) (cc) (cc) (cc) in
    let turn = YieldsList-turn road c.loop-item.yielded _ c.loop-item.yielded_by _ _ c.in-Some.item c.in-Some.is c.next.ensures.steps in
    let split = items_of_some c.args.word.now (cc) ∙ parted items (length c.loop-item.yielded) c.in-Some.item.now turn.0 turn.1 in
    let bad : ¬ (AllByRecursion IsNumber (items_in c.args.word.now)) =
    λ all. c.in_err-number_of.ensures (one_of_all IsNumber (take (length c.loop-item.yielded) items) c.in-Some.item.now (drop (length c.loop-item.yielded + 1) items) (subst (AllByRecursion IsNumber) split all)) in
    subst (λ r. SomeIff r (AllByRecursion IsNumber (items_in c.args.word.now)) (length (items_in c.args.word.now))) (sym c.from_residual.ensures) bad

pub returns : goal.returns
returns c =
    let road = YieldsList-from_str_split {s = c.into_iter-item-iterator.result} 44 c.args.word.now (lit< tt) (cc) (cc) (cc) in
    let end = YieldsList-end road c.loop-item.yielded _ c.loop-item.yielded_by _ _ c.in-None.is c.next.ensures.steps in
    let whole = sym (items_of_some c.args.word.now cc) in
    let count = count_from_yields_List c.split.result c.count.result c.count.ensures.ran (YieldsList-from_str_split {s = c.split.result} 44 c.args.word.now (lit< tt) (cc) (cc) (cc)) in
    (subst (AllByRecursion IsNumber) (end.0 ∙ whole) c.loop-item.invariant.numbers, count ∙ ap length whole)
