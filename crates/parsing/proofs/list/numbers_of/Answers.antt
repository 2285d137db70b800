use Rattle.std.proofs.Common.{◌==◌, ◌≡◌, ◌++◌, ◌∷◌, [], ℕ, List, Bor, length, map, set, subst, ap, sym, ◌∙◌, lit<, arith}
use Rattle.std.specs.List.{AllByRecursion, slice_split}
use Rattle.std.specs.Str.Parse.{digits_value}
use Rattle.std.proofs.lemmas.Iterator.Consumers.{YieldsList-end, YieldsList-so_far, YieldsList-turn, YieldsList-from_enumerate}
use Rattle.std.proofs.lemmas.Iterator.Splits.{YieldsList-from_str_split}
use Rattle.std.proofs.lemmas.List.{map-append, length-map}
use Rattle.parsing.specs.Items.{put_into}
use Rattle.parsing.specs.Number.{IsNumber}
use Rattle.parsing.proofs.Items.{items_of_some}
use Rattle.parsing.proofs.Numbered.{enumerated}
use Rattle.parsing.proofs.Places.{numbered_place, one_of_all}
use Rattle.parsing.proofs.Put.{set_put}
use Rattle.parsing.proofs.list.numbers_of.Goals as goal

pub loop-index-preserved-in-Some-number_of : goal.loop-index-preserved-in-Some-number_of
loop-index-preserved-in-Some-number_of c =
    let items = slice_split (λ b. b == 44) c.args.word.now in
    let so_far = map (λ (x : ℕ × Bor (List ℕ)). x.1.now) c.loop-index.yielded in
    let item = c.in-Some.item.now in
    let road = YieldsList-from_enumerate (YieldsList-from_str_split {s = c.into_iter-index-iterator.result.iter} 44 c.args.word.now (lit< tt) (cc) (cc) (cc)) cc in
    let before = YieldsList-so_far road c.loop-index.yielded _ c.loop-index.yielded_by in
    let here = YieldsList-turn road c.loop-index.yielded _ c.loop-index.yielded_by _ _ (c.in-Some.index, c.in-Some.item) c.in-Some.is c.next.ensures.steps in
    let place = numbered_place (λ (b : Bor (List ℕ)). b.now) c.loop-index.yielded c.in-Some.index c.in-Some.item items before here.0 here.1 in
    let values = map (digits_value 10) so_far in
    let index : c.in-Some.index ≡ length values = omega (arith, place.1, length-map so_far (digits_value 10), length-map c.loop-index.yielded (λ (x : ℕ × Bor (List ℕ)). x.1.now)) in
    let more = map-append (λ (x : ℕ × Bor (List ℕ)). x.1.now) c.loop-index.yielded ((c.in-Some.index, c.in-Some.item) ∷ []) in
    let old = c.args.places.now in
    let written = ap (λ ps. set ps c.in-Some.index c.in-Some-number_of.number) c.loop-index.invariant.put ∙ ap (λ i. set (put_into old values) i c.in-Some-number_of.number) index ∙ set_put old values c.in-Some-number_of.number in
    let same = ap (λ v. put_into old (values ++ v ∷ [])) c.in-Some-number_of.ensures.1 ∙ ap (put_into old) (sym (map-append (digits_value 10) so_far (item ∷ []))) ∙ ap (λ ls. put_into old (map (digits_value 10) ls)) (sym more) in
    record { put = c.put.ensures ∙ written ∙ same }

pub loop-index-preserved : goal.loop-index-preserved
loop-index-preserved c =
    let items = slice_split (λ b. b == 44) c.args.word.now in
    let road = YieldsList-from_enumerate (YieldsList-from_str_split {s = c.into_iter-index-iterator.result.iter} 44 c.args.word.now (lit< tt) (cc) (cc) (cc)) cc in
    let before = YieldsList-so_far road c.loop-index.yielded _ c.loop-index.yielded_by in
    let here = YieldsList-turn road c.loop-index.yielded _ c.loop-index.yielded_by _ _ (c.in-Some.index, c.in-Some.item) c.in-Some.is c.next.ensures.steps in
    let place = numbered_place (λ (b : Bor (List ℕ)). b.now) c.loop-index.yielded c.in-Some.index c.in-Some.item items before here.0 here.1 in
    let all = c.in_ok-count.ensures.0 in
    let split = items_of_some c.args.word.now (cc) ∙ place.0 in
    absurd (c.in_default.ensures (one_of_all IsNumber _ c.in-Some.item.now _ (subst (AllByRecursion IsNumber) split all)))

pub returns-clause-places : goal.returns-clause-places
returns-clause-places c =
    let road = YieldsList-from_enumerate (YieldsList-from_str_split {s = c.into_iter-index-iterator.result.iter} 44 c.args.word.now (lit< tt) (cc) (cc) (cc)) cc in
    let end = YieldsList-end road c.loop-index.yielded _ c.loop-index.yielded_by _ _ c.in-None.is c.next.ensures.steps in
    let whole = enumerated (λ (x : Bor (List ℕ)). x.now) 0 _ _ end.0 ∙ sym (items_of_some c.args.word.now cc) in
    c.loop-index.invariant.put ∙ ap (λ ls. put_into c.args.places.now (map (digits_value 10) ls)) whole
