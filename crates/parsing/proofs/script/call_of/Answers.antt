use Rattle.std.proofs.Common.{◌∷◌, ap, ◌∙◌, subst, sym}
use Rattle.parsing.specs.Script.{Says}
use Rattle.parsing.proofs.Words.{one_word, parted_words, number_word, one_says, two_says, more_says, some_weaker}
use Rattle.parsing.proofs.script.call_of.Goals as goal

pub returns-in_default-clause-none : goal.returns-in_default-clause-none
returns-in_default-clause-none c =
    let words = one_word c.args.line.now c.in_default.ensures.cases in
    λ none call says. one_says c.args.line.now (c.bare_call.ensures.none none) call (subst (λ ws. Says ws call) words says)

pub returns-in_err-number_of-clause-none : goal.returns-in_err-number_of-clause-none
returns-in_err-number_of-clause-none c =
    let name = c.in-Some.name in
    let rest = c.in-Some.rest in
    let words = parted_words c.args.line.now name rest c.in-Some.ensures.cases ∙ ap (λ ws. name.now ∷ ws) (one_word rest.now c.in_default-split_once.ensures.cases) in
    λ none call says. two_says name.now rest.now (λ n. absurd (c.in_err-number_of.ensures n)) call (subst (λ ws. Says ws call) words says)

pub returns-in_default-split_once-clause-says : goal.returns-in_default-split_once-clause-says
returns-in_default-split_once-clause-says c =
    let name = c.in-Some.name in
    let rest = c.in-Some.rest in
    let words = parted_words c.args.line.now name rest c.in-Some.ensures.cases ∙ ap (λ ws. name.now ∷ ws) (one_word rest.now c.in_default-split_once.ensures.cases) in
    let slip = c.in_ok-number_of.ensures in
    some_weaker c.slip_call.result (λ call said. subst (λ ws. Says ws call) (sym words) (said rest.now (slip.0, sym slip.1))) c.slip_call.ensures.says

pub returns-in_default-split_once-clause-none : goal.returns-in_default-split_once-clause-none
returns-in_default-split_once-clause-none c =
    let name = c.in-Some.name in
    let rest = c.in-Some.rest in
    let words = parted_words c.args.line.now name rest c.in-Some.ensures.cases ∙ ap (λ ws. name.now ∷ ws) (one_word rest.now c.in_default-split_once.ensures.cases) in
    λ none call says. two_says name.now rest.now (λ n. c.slip_call.ensures.none none) call (subst (λ ws. Says ws call) words says)

pub returns-in_err-number_of-2-clause-none : goal.returns-in_err-number_of-2-clause-none
returns-in_err-number_of-2-clause-none c =
    let name = c.in-Some.name in
    let from = c.in-Some-split_once.from in
    let to = c.in-Some-split_once.to in
    let words = parted_words c.args.line.now name c.in-Some.rest c.in-Some.ensures.cases ∙ ap (λ ws. name.now ∷ ws) (parted_words c.in-Some.rest.now from to c.in-Some-split_once.ensures.cases) in
    λ none call says. more_says name.now from.now to.now (λ a b. absurd (c.in_err-number_of-2.ensures a)) call (subst (λ ws. Says ws call) words says)

pub returns-in_err-number_of-3-clause-none : goal.returns-in_err-number_of-3-clause-none
returns-in_err-number_of-3-clause-none c =
    let name = c.in-Some.name in
    let from = c.in-Some-split_once.from in
    let to = c.in-Some-split_once.to in
    let words = parted_words c.args.line.now name c.in-Some.rest c.in-Some.ensures.cases ∙ ap (λ ws. name.now ∷ ws) (parted_words c.in-Some.rest.now from to c.in-Some-split_once.ensures.cases) in
    λ none call says. more_says name.now from.now to.now (λ a b. absurd (c.in_err-number_of-3.ensures b)) call (subst (λ ws. Says ws call) words says)

pub returns-clause-says : goal.returns-clause-says
returns-clause-says c =
    let name = c.in-Some.name in
    let from = c.in-Some-split_once.from in
    let to = c.in-Some-split_once.to in
    let a = c.in_ok-number_of-2.ensures in
    let b = c.in_ok-number_of-3.ensures in
    let words = parted_words c.args.line.now name c.in-Some.rest c.in-Some.ensures.cases ∙ ap (λ ws. name.now ∷ ws) (parted_words c.in-Some.rest.now from to c.in-Some-split_once.ensures.cases ∙ ap (λ ws. from.now ∷ ws) (number_word to.now b.0)) in
    some_weaker c.line_call.result (λ call said. subst (λ ws. Says ws call) (sym words) (said from.now to.now (a.0, sym a.1) (b.0, sym b.1))) c.line_call.ensures.says

pub returns-clause-none : goal.returns-clause-none
returns-clause-none c =
    let name = c.in-Some.name in
    let from = c.in-Some-split_once.from in
    let to = c.in-Some-split_once.to in
    let words = parted_words c.args.line.now name c.in-Some.rest c.in-Some.ensures.cases ∙ ap (λ ws. name.now ∷ ws) (parted_words c.in-Some.rest.now from to c.in-Some-split_once.ensures.cases) in
    λ none call says. more_says name.now from.now to.now (λ a b. c.line_call.ensures.none none) call (subst (λ ws. Says ws call) words says)
