use Rattle.std.proofs.Common.{Ok, IsUtf8, encode_utf8_all, ap, ◌∙◌, rules}
use Rattle.std.proofs.lemmas.Iterator.{YieldsList-from_chars, YieldsList-from_map, items_from_collect}
use Rattle.std.proofs.lemmas.List.{map-id}
use Rattle.std.proofs.lemmas.Str.{encodes-chars}
use Rattle.parsing.proofs.text.characters.Goals as goal

pub returns-clause-characters : goal.returns-clause-characters
returns-clause-characters c =
    let text = c.in_ok-text.text.now in
    let utf8 : IsUtf8 text = search rules in
    let all = items_from_collect {E = Unit} (Ok c.in_ok-collect.field-0) c.in_ok-collect.ensures.ran (YieldsList-from_map _ (λ x. x) (YieldsList-from_chars text utf8 (cc)) c.map.ensures.closure (λ x r q k. search rules)) in
    ap encode_utf8_all (all ∙ map-id _) ∙ encodes-chars _ utf8 ∙ c.in_ok-text.ensures.text
