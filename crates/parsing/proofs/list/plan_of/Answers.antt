use Rattle.std.proofs.Common.{◌≡◌, ◌==◌, ◌+◌, ◌++◌, ◌∷◌, [], Bor, List, ℕ, SomeIff, length, take, drop, map, cond, nat_lt, subst, ap, sym, ◌∙◌, lit<}
use Rattle.std.specs.List.{AllByRecursion, slice_split}
use Rattle.parsing.specs.Items.{IsEntry, entry_in, items_in, plan_in}
use Rattle.std.proofs.lemmas.Iterator.Consumers.{YieldsList-end, YieldsList-turn}
use Rattle.std.proofs.lemmas.Iterator.Splits.{YieldsList-from_str_split}
use Rattle.std.proofs.lemmas.List.{map-append}
use Rattle.model.specs.declared.Entry.{Entry}
use Rattle.parsing.proofs.Items.{items_of_some}
use Rattle.parsing.proofs.Numbered.{one_more}
use Rattle.parsing.proofs.Places.{parted, one_of_all}
use Rattle.parsing.proofs.Put.{push_take}
use Rattle.parsing.proofs.list.plan_of.Goals as goal

pub returns-in_err-entry_of : goal.returns-in_err-entry_of
returns-in_err-entry_of c =
    let items = slice_split (λ b. b == 44) c.args.word.now in
    let road = YieldsList-from_str_split {s = c.into_iter-item-iterator.result} 44 c.args.word.now (lit< tt) (cc) (cc) (cc) in
    let turn = YieldsList-turn road c.loop-item.yielded _ c.loop-item.yielded_by _ _ c.in-Some.item c.in-Some.is c.next.ensures.steps in
    let split = items_of_some c.args.word.now (cc) ∙ parted items (length c.loop-item.yielded) c.in-Some.item.now turn.0 turn.1 in
    let bad : ¬ (AllByRecursion IsEntry (items_in c.args.word.now)) =
    λ all. c.in_err-entry_of.ensures (one_of_all IsEntry (take (length c.loop-item.yielded) items) c.in-Some.item.now (drop (length c.loop-item.yielded + 1) items) (subst (AllByRecursion IsEntry) split all)) in
    subst (λ r. SomeIff r (AllByRecursion IsEntry (items_in c.args.word.now)) (plan_in c.args.word.now)) (sym c.from_residual.ensures) bad

pub loop-item-preserved : goal.loop-item-preserved
loop-item-preserved c =
    let so_far = map (λ (x : Bor (List ℕ)). x.now) c.loop-item.yielded in
    let item = c.in-Some.item.now in
    let more = map-append (λ (x : Bor (List ℕ)). x.now) c.loop-item.yielded (c.in-Some.item ∷ []) in
    let here = c.in_ok-entry_of.ensures in
    let entries = one_more IsEntry so_far item c.loop-item.invariant.entries here.0 in
    let pushed : c.push.new.self ≡ cond (nat_lt (length c.loop-item.plan) 65) (c.loop-item.plan ++ c.in_ok-entry_of.field-0 ∷ []) c.loop-item.plan = c.push.ensures.items in
    let held = ap (λ (p : List Entry). cond (nat_lt (length p) 65) (p ++ c.in_ok-entry_of.field-0 ∷ []) p) c.loop-item.invariant.plan in
    let added = push_take 65 (map entry_in so_far) c.in_ok-entry_of.field-0 in
    let same = ap (λ e. take 65 (map entry_in so_far ++ e ∷ [])) here.1 ∙ ap (take 65) (sym (map-append entry_in so_far (item ∷ []))) in
    record {
      entries = subst (AllByRecursion IsEntry) (sym more) entries;
      plan = pushed ∙ held ∙ added ∙ same ∙ ap (λ ls. take 65 (map entry_in ls)) (sym more);
    }

pub returns : goal.returns
returns c =
    let road = YieldsList-from_str_split {s = c.into_iter-item-iterator.result} 44 c.args.word.now (lit< tt) (cc) (cc) (cc) in
    let end = YieldsList-end road c.loop-item.yielded _ c.loop-item.yielded_by _ _ c.in-None.is c.next.ensures.steps in
    let whole = end.0 ∙ sym (items_of_some c.args.word.now cc) in
    (subst (AllByRecursion IsEntry) whole c.loop-item.invariant.entries, c.loop-item.invariant.plan ∙ ap (λ ls. take 65 (map entry_in ls)) whole)
