use Rattle.std.proofs.Common.{◌≡◌, ◌==◌, false, None, sym, subst, arith}
use Rattle.std.proofs.lemmas.Str.Pattern.{split_once_first}
use Rattle.parsing.specs.Number.{IsShort}
use Rattle.parsing.specs.Items.{before_equals, has_equals}
use Rattle.parsing.proofs.Items.{none_passes, all_before, entry_without}
use Rattle.parsing.proofs.list.entry_of.Goals as goal

pub returns-in_default : goal.returns-in_default
returns-in_default c =
    let item = c.args.item.now in
    let at = split_once_first 61 item None c.in_default.ensures.cases (omega arith) in
    let none : has_equals item ≡ false = none_passes (λ b. b == 61) item at in
    let whole : before_equals item ≡ item = all_before (λ b. b == 61) item at in
    let short = c.in_ok-short_of.ensures in
    ((subst IsShort (sym whole) short.0, λ h. cc), entry_without item c.in_ok-short_of.field-0 none whole short.1)
