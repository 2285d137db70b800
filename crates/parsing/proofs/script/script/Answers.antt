use Rattle.std.proofs.Common.{◌≡◌, ◌+◌, List, ℕ, Bor, map, [], ◌∷◌, ◌++◌, length, take, drop, refl, subst, sym, ap, ◌∙◌, rules}
use Rattle.std.specs.List.{AllZip, AllByRecursion}
use Rattle.std.specs.Str.Lines.{lines}
use Rattle.std.proofs.lemmas.Iterator.Consumers.{YieldsList-end, YieldsList-turn}
use Rattle.std.proofs.lemmas.Iterator.Splits.{YieldsList-from_lines}
use Rattle.std.proofs.lemmas.List.{map-append}
use Rattle.parsing.specs.Script.{IsCall, Says, ScriptCall, words_in}
use Rattle.parsing.proofs.Numbered.{one_pair_more}
use Rattle.parsing.proofs.Places.{parted, one_of_all}
use Rattle.parsing.proofs.script.script.Goals as goal

abbrev LineSays : List ℕ → ScriptCall → Type 0
LineSays line call = Says (words_in line) call

pub loop-line-preserved-in-Continue-branch-2 : goal.loop-line-preserved-in-Continue-branch-2
loop-line-preserved-in-Continue-branch-2 c =
    let so_far = map (λ (x : Bor (List ℕ)). x.now) c.loop-line.yielded in
    let line = c.in-Some-line.line.now in
    let call = c.in-Some-call_of.call in
    let more = map-append (λ (x : Bor (List ℕ)). x.now) c.loop-line.yielded (c.in-Some-line.line ∷ []) in
    let here : LineSays line call = c.in-Some-call_of.ensures.says in
    let all = one_pair_more LineSays so_far c.loop-line.calls.items line call c.loop-line.invariant.calls here in
    let pushed : c.push.new.self.items ≡ c.loop-line.calls.items ++ call ∷ [] = search rules in
    record { calls = subst (λ ls. AllZip LineSays ls c.push.new.self.items) (sym more) (subst (λ cs. AllZip LineSays (so_far ++ line ∷ []) cs) (sym pushed) all) }

-- all lines are calls
pub loop-line-preserved : goal.loop-line-preserved
loop-line-preserved c =
    let all = lines c.in_ok-text.text.now in
    let road = YieldsList-from_lines c.in_ok-text.text.now cc in
    let turn = YieldsList-turn road c.loop-line.yielded _ c.loop-line.yielded_by _ _ c.in-Some-line.line c.in-Some-line.is c.next.ensures.steps in
    let parts = parted all (length c.loop-line.yielded) c.in-Some-line.line.now turn.0 turn.1 in
    let good : AllByRecursion IsCall all = c.in_default.ensures in
    let here : IsCall c.in-Some-line.line.now = one_of_all IsCall (take (length c.loop-line.yielded) all) c.in-Some-line.line.now (drop (length c.loop-line.yielded + 1) all) (subst (AllByRecursion IsCall) parts good) in
    absurd (c.in_default-call_of.ensures.none refl here.0 here.1)

pub returns-clause-calls : goal.returns-clause-calls
returns-clause-calls c =
    let road = YieldsList-from_lines c.in_ok-text.text.now cc in
    let end = YieldsList-end road c.loop-line.yielded _ c.loop-line.yielded_by _ _ c.in-None.is c.next.ensures.steps in
    subst (λ ls. AllZip LineSays ls c.loop-line.calls.items) (end.0 ∙ ap lines c.in_ok-text.ensures.text) c.loop-line.invariant.calls
