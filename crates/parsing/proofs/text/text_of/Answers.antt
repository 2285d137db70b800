use Rattle.std.proofs.Common.{◌≡◌, ◌≢◌, ℕ, List, [], ◌∷◌, ◌++◌, Option, Some, None, Bor, MatchOption, unwrap_or, sym, ap, ◌∙◌, arith}
use Rattle.std.specs.Io.BufRead.{strip_last}
use Rattle.std.proofs.lemmas.Str.Pattern.{strip_suffix_char}
use Rattle.parsing.proofs.StripLast.{strip_last-end, strip_last-other}
use Rattle.parsing.proofs.text.text_of.Goals as goal

stripped : (byte : ℕ) (o : Option (Bor (List ℕ))) (d : Bor (List ℕ))
    → MatchOption o ((front : List ℕ) → d.now ≢ front ++ byte ∷ []) (λ x. d.now ≡ x.now ++ byte ∷ [])
    → (unwrap_or o d).now ≡ strip_last byte d.now
stripped byte None d s = sym (strip_last-other byte d.now s)
stripped byte (Some x) d s = sym (strip_last-end byte x.now) ∙ ap (strip_last byte) (sym s)

pub returns-in-Ok-clause-text : goal.returns-in-Ok-clause-text
returns-in-Ok-clause-text c =
    let s = strip_suffix_char 10 c.in-Ok.text.now c.strip_suffix.result c.strip_suffix.ensures.cases (omega arith) in
    ap (λ (y : Bor (List ℕ)). y.now) c.unwrap_or.ensures ∙ stripped 10 c.strip_suffix.result c.in-Ok.text s ∙ ap (strip_last 10) (c.in-Ok.ensures.cases.0)
