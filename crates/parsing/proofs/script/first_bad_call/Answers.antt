use Rattle.std.proofs.Common.{◌≡◌, List, ℕ, Bor, Option, None, Some, IfSome, Bool, is_some, not, true, false, map, [], ◌∷◌, refl, subst, sym}
use Rattle.std.specs.List.{AllByRecursion}
use Rattle.std.specs.Str.Lines.{lines}
use Rattle.std.proofs.lemmas.Iterator.Consumers.{YieldsList-end, YieldsList-so_far, YieldsList-turn, YieldsList-from_enumerate}
use Rattle.std.proofs.lemmas.Iterator.Splits.{YieldsList-from_lines}
use Rattle.std.proofs.lemmas.List.{map-append}
use Rattle.parsing.specs.Script.{IsCall, Says, ScriptCall, words_in}
use Rattle.parsing.proofs.Numbered.{enumerated, one_more}
use Rattle.parsing.proofs.Places.{first_bad}
use Rattle.parsing.proofs.script.first_bad_call.Goals as goal

none_says_no_call : (line : List ℕ) (r : Option ScriptCall) → (r ≡ None → (call : ScriptCall) → ¬ (Says (words_in line) call)) → (none : Bool) → is_some r ≡ not none → none ≡ true → ¬ (IsCall line)
none_says_no_call line None said none test e = λ is. said refl is.0 is.1
none_says_no_call line (Some call) said none test e = cc

some_is_call : (line : List ℕ) (r : Option ScriptCall) → IfSome r (λ call. Says (words_in line) call) → (none : Bool) → is_some r ≡ not none → none ≡ false → IsCall line
some_is_call line None said none test e = cc
some_is_call line (Some call) said none test e = (call, said)

pub returns-then-is_none : goal.returns-then-is_none
returns-then-is_none c =
    let road = YieldsList-from_enumerate (YieldsList-from_lines c.args.text.now cc) cc in
    let before = YieldsList-so_far road c.loop-index.yielded _ c.loop-index.yielded_by in
    let here = YieldsList-turn road c.loop-index.yielded _ c.loop-index.yielded_by _ _ (c.in-Some.index, c.in-Some.line) c.in-Some.is c.next.ensures.steps in
    let bad : ¬ (IsCall c.in-Some.line.now) = none_says_no_call c.in-Some.line.now c.call_of.result c.call_of.ensures.none c.is_none.result c.is_none.ensures c.if-is_none.true in
    first_bad IsCall c.loop-index.yielded c.in-Some.index c.in-Some.line (lines c.args.text.now) before here.0 here.1 c.loop-index.invariant.calls bad

pub loop-index-preserved : goal.loop-index-preserved
loop-index-preserved c =
    let so_far = map (λ (x : ℕ × Bor (List ℕ)). x.1.now) c.loop-index.yielded in
    let more = map-append (λ (x : ℕ × Bor (List ℕ)). x.1.now) c.loop-index.yielded ((c.in-Some.index, c.in-Some.line) ∷ []) in
    let here : IsCall c.in-Some.line.now = some_is_call c.in-Some.line.now c.call_of.result c.call_of.ensures.says c.is_none.result c.is_none.ensures c.if-is_none.false in
    record { calls = subst (AllByRecursion IsCall) (sym more) (one_more IsCall so_far c.in-Some.line.now c.loop-index.invariant.calls here) }

pub returns : goal.returns
returns c =
    let road = YieldsList-from_enumerate (YieldsList-from_lines c.args.text.now cc) cc in
    let end = YieldsList-end road c.loop-index.yielded _ c.loop-index.yielded_by _ _ c.in-None.is c.next.ensures.steps in
    subst (AllByRecursion IsCall) (enumerated (λ (x : Bor (List ℕ)). x.now) 0 _ _ end.0) c.loop-index.invariant.calls
