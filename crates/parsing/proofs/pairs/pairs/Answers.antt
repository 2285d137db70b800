use Rattle.std.proofs.Common.{◌≡◌, ◌<◌, ◌≤◌, nat_lt, ltb-false, ltb-true, length, length-append, arith, ◌+◌, List, ℕ, Bor, map, [], ◌∷◌, ◌++◌, subst, sym, ap, ◌∙◌, rules}
use Rattle.std.specs.List.{AllByRecursion}
use Rattle.std.specs.Str.Lines.{lines}
use Rattle.std.proofs.lemmas.Iterator.Consumers.{YieldsList-end, YieldsList-so_far, YieldsList-turn, YieldsList-from_enumerate}
use Rattle.std.proofs.lemmas.Iterator.Splits.{YieldsList-from_lines}
use Rattle.font.specs.StandIn.{pairs_of}
use Rattle.parsing.specs.Pairs.{Has33Pairs, IsPairLine, NotPairs, pair_in}
use Rattle.std.proofs.lemmas.List.{map-append, length-map}
use Rattle.std.proofs.lemmas.List.FromFn.{length-enumerate_from}
use Rattle.parsing.specs.Faults.{IsFirstBad}
use Rattle.parsing.proofs.Errors.{no_room, one_too_many, room_left, err_and}
use Rattle.parsing.proofs.Places.{first_bad, numbered_place, one_more_good}
use Rattle.parsing.proofs.Numbered.{enumerated, one_more}
use Rattle.parsing.proofs.pairs.pairs.Goals as goal

pub loop-index-preserved : goal.loop-index-preserved
loop-index-preserved c =
    let so_far = map (λ (x : ℕ × Bor (List ℕ)). x.1.now) c.loop-index.yielded in
    let line = c.in-Some.line.now in
    let more = map-append (λ (x : ℕ × Bor (List ℕ)). x.1.now) c.loop-index.yielded ((c.in-Some.index, c.in-Some.line) ∷ []) in
    let here : IsPairLine line = search rules in
    let pair : c.in-Some-pair_of.pair ≡ pair_in line = search rules in
    let added : pairs_of c.add.new.self ≡ pairs_of c.loop-index.table ++ c.in-Some-pair_of.pair ∷ [] = search rules in
    let room : length (pairs_of c.loop-index.table) < 32 = ltb-true (length (pairs_of c.loop-index.table)) 32 (room_left _ c.in_ok-add.ensures.answer) in
    let as_pairs = map-append pair_in so_far (line ∷ []) in
    record {
      lines = subst (AllByRecursion IsPairLine) (sym more) (one_more IsPairLine so_far line c.loop-index.invariant.lines here);
      pairs = cc;
      few = omega (arith, room, ap length added, length-append (pairs_of c.loop-index.table) (c.in-Some-pair_of.pair ∷ []));
    }

pub returns : goal.returns
returns c =
    let road = YieldsList-from_enumerate (YieldsList-from_lines c.in_ok-text.text.now cc) cc in
    let end = YieldsList-end road c.loop-index.yielded _ c.loop-index.yielded_by _ _ c.in-None.is c.next.ensures.steps in
    let all = enumerated (λ (x : Bor (List ℕ)). x.now) 0 _ _ end.0 ∙ ap lines c.in_ok-text.ensures.text in
    record {
      utf8 = c.in_ok-text.ensures.utf8;
      lines = subst (AllByRecursion IsPairLine) all c.loop-index.invariant.lines;
      pairs = subst (λ ls. pairs_of c.loop-index.table ≡ map pair_in ls) all c.loop-index.invariant.pairs;
      not_read = tt;
    }

pub returns-in_default-clause-not_read : goal.returns-in_default-clause-not_read
returns-in_default-clause-not_read c =
    let all = lines c.in_ok-text.text.now in
    let road = YieldsList-from_enumerate (YieldsList-from_lines c.in_ok-text.text.now cc) cc in
    let before = YieldsList-so_far road c.loop-index.yielded _ c.loop-index.yielded_by in
    let here = YieldsList-turn road c.loop-index.yielded _ c.loop-index.yielded_by _ _ (c.in-Some.index, c.in-Some.line) c.in-Some.is c.next.ensures.steps in
    let first = first_bad IsPairLine c.loop-index.yielded c.in-Some.index c.in-Some.line all before here.0 here.1 c.loop-index.invariant.lines c.in_default.ensures in
    let place = numbered_place (λ (b : Bor (List ℕ)). b.now) c.loop-index.yielded c.in-Some.index c.in-Some.line all before here.0 here.1 in
    let held : length (pairs_of c.loop-index.table) ≡ length c.loop-index.yielded = ap length c.loop-index.invariant.pairs ∙ length-map (map (λ (x : ℕ × Bor (List ℕ)). x.1.now) c.loop-index.yielded) pair_in ∙ length-map c.loop-index.yielded (λ (x : ℕ × Bor (List ℕ)). x.1.now) in
    (c.in_ok-text.ensures.utf8, subst (λ ls. IsFirstBad IsPairLine ls (c.in-Some.index + 1)) (ap lines c.in_ok-text.ensures.text) first, omega (arith, held, place.1, c.loop-index.invariant.few))

pub returns-in_err-add-clause-not_read : goal.returns-in_err-add-clause-not_read
returns-in_err-add-clause-not_read c =
    let all = lines c.in_ok-text.text.now in
    let road = YieldsList-from_enumerate (YieldsList-from_lines c.in_ok-text.text.now cc) cc in
    let before = YieldsList-so_far road c.loop-index.yielded _ c.loop-index.yielded_by in
    let here = YieldsList-turn road c.loop-index.yielded _ c.loop-index.yielded_by _ _ (c.in-Some.index, c.in-Some.line) c.in-Some.is c.next.ensures.steps in
    let within : length c.loop-index.yielded < length all = omega (arith, here.0, length-enumerate_from 0 all) in
    let held : length (pairs_of c.loop-index.table) ≡ length c.loop-index.yielded = ap length c.loop-index.invariant.pairs ∙ length-map (map (λ (x : ℕ × Bor (List ℕ)). x.1.now) c.loop-index.yielded) pair_in ∙ length-map c.loop-index.yielded (λ (x : ℕ × Bor (List ℕ)). x.1.now) in
    let full = no_room c.in_err-add.field-0.0 (nat_lt (length (pairs_of c.loop-index.table)) 32) c.in_err-add.ensures.answer in
    let many : 32 ≤ length (pairs_of c.loop-index.table) = ltb-false (length (pairs_of c.loop-index.table)) 32 full in
    let over : 33 ≤ length all = omega (arith, within, held, many) in
    let line : IsPairLine c.in-Some.line.now = c.in-Some-pair_of.ensures.0 in
    let pairs = one_more_good IsPairLine c.loop-index.yielded c.in-Some.index c.in-Some.line all 33 before here.0 here.1 c.loop-index.invariant.lines line (omega (arith, held, many, c.loop-index.invariant.few)) in
    let told = subst Has33Pairs (ap lines c.in_ok-text.ensures.text) (over, pairs) in
    err_and c.from_residual-in_err-add.result (λ e is. subst (NotPairs c.args.bytes.now) (sym is) (c.in_ok-text.ensures.utf8, told, one_too_many c.in_err-add.field-0.0 _ c.in_err-add.ensures.answer)) c.from_residual-in_err-add.ensures.1
