use Rattle.std.proofs.Common.{ℕ, ◌≡◌, ◌+◌, ◌<◌, List, [], ◌∷◌, Bor, map, length, subst, ap, ◌∙◌, arith}
use Rattle.std.specs.List.{AllByRecursion}
use Rattle.std.specs.Str.Lines.{lines}
use Rattle.std.specs.Str.Parse.{digits_value}
use Rattle.std.proofs.lemmas.Iterator.Consumers.{YieldsList-end, YieldsList-so_far, YieldsList-turn, YieldsList-from_enumerate}
use Rattle.std.proofs.lemmas.Iterator.Splits.{YieldsList-from_lines}
use Rattle.std.proofs.lemmas.List.FromFn.{length-enumerate_from}
use Rattle.parsing.specs.Faults.{IsFirstBad}
use Rattle.parsing.specs.Number.{IsNumber}
use Rattle.parsing.proofs.Numbered.{enumerated}
use Rattle.parsing.proofs.Places.{first_bad}
use Rattle.parsing.proofs.text.numbers.Goals as goal

-- a text of some lines is not empty
some_text : (bs : List ℕ) → 0 < length (lines bs) → 0 < length bs
some_text [] l = l
some_text (b ∷ bs) l = omega arith

pub returns-in_default-clause-not_read : goal.returns-in_default-clause-not_read
returns-in_default-clause-not_read c =
    let road = YieldsList-from_enumerate (YieldsList-from_lines c.in_ok-text.text.now cc) cc in
    let before = YieldsList-so_far road c.loop-index.yielded _ c.loop-index.yielded_by in
    let here = YieldsList-turn road c.loop-index.yielded _ c.loop-index.yielded_by _ _ (c.in-Some.index, c.in-Some.line) c.in-Some.is c.next.ensures.steps in
    let first = first_bad IsNumber c.loop-index.yielded c.in-Some.index c.in-Some.line (lines c.in_ok-text.text.now) before here.0 here.1 c.loop-index.invariant.numbers c.in_default.ensures in
    (c.in_ok-text.ensures.utf8, subst (λ ls. IsFirstBad IsNumber ls (c.in-Some.index + 1)) (ap lines c.in_ok-text.ensures.text) first)

pub returns-then-full-2-clause-not_read : goal.returns-then-full-2-clause-not_read
returns-then-full-2-clause-not_read c =
    let road = YieldsList-from_enumerate (YieldsList-from_lines c.in_ok-text.text.now cc) cc in
    let end = YieldsList-end road c.loop-index.yielded _ c.loop-index.yielded_by _ _ c.in-None.is c.next.ensures.steps in
    let all = enumerated (λ (x : Bor (List ℕ)). x.now) 0 _ _ end.0 ∙ ap lines c.in_ok-text.ensures.text in
    let some : 0 < length (lines c.in_ok-text.text.now) = omega (arith, c.loop-index.invariant.some c.if-full-2.true, end.1, length-enumerate_from 0 (lines c.in_ok-text.text.now)) in
    (c.in_ok-text.ensures.utf8, subst (AllByRecursion IsNumber) all c.loop-index.invariant.numbers, subst (λ (bs : List ℕ). 0 < length bs) c.in_ok-text.ensures.text (some_text c.in_ok-text.text.now some))

pub returns : goal.returns
returns c =
    let road = YieldsList-from_enumerate (YieldsList-from_lines c.in_ok-text.text.now cc) cc in
    let end = YieldsList-end road c.loop-index.yielded _ c.loop-index.yielded_by _ _ c.in-None.is c.next.ensures.steps in
    let all = enumerated (λ (x : Bor (List ℕ)). x.now) 0 _ _ end.0 ∙ ap lines c.in_ok-text.ensures.text in
    record {
      utf8 = c.in_ok-text.ensures.utf8;
      numbers = subst (AllByRecursion IsNumber) all c.loop-index.invariant.numbers;
      values = subst (λ ls. c.loop-index.all.items ≡ map (digits_value 10) ls) all (c.loop-index.invariant.values c.if-full-2.false);
      not_read = tt;
    }
