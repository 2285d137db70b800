-- Words of a line: how many there are where a space parts it, and what they can say.
use Rattle.std.proofs.Common.{◌≡◌, ◌≢◌, ◌<◌, ◌==◌, ℕ, List, [], ◌∷◌, Bool, true, false, Option, None, Some, IfSome, All, codes, length, Bor, refl, sym, ap, ◌∙◌, subst, ap₂, arith, eqb-true}
use Rattle.std.proofs.lemmas.List.Splits.{slice_split_none, slice_split_first, length-slice_split, join_with_byte-slice_split}
use Rattle.std.proofs.lemmas.List.Elements.{All-cons}
use Rattle.std.proofs.lemmas.List.Sums.{fails_before_first}
use Rattle.std.specs.Char.{digit_value}
use Rattle.std.proofs.lemmas.Str.Pattern.{IsSplitOnceResult, split_once_first}
use Rattle.std.specs.List.{join_with_byte}
use Rattle.std.specs.Str.Parse.{AllDigits}
use Rattle.paragraph.specs.declared.calls.Call.{Call}
use Rattle.parsing.specs.Number.{IsNumber}
use Rattle.parsing.specs.Script.{Says, ScriptCall, words_in}

abbrev IsSpace : ℕ → Bool
IsSpace b = b == 32

pub some_weaker : {X : Type 0} {P Q : X → Type 0} (o : Option X) → ((x : X) → P x → Q x) → IfSome o P → IfSome o Q
some_weaker None f p = tt
some_weaker (Some x) f p = f x p

-- a line that `split_once` does not part is one word
pub one_word : (line : List ℕ) → IsSplitOnceResult 32 line None → words_in line ≡ line ∷ []
one_word line cut =
    let whole = split_once_first 32 line None cut (omega arith) in
    slice_split_none IsSpace line (λ k d l. fails_before_first IsSpace line k d (omega (arith, whole)))

-- a line that it parts has the words of both parts, and the first is one
pub parted_words : (line : List ℕ) (name rest : Bor (List ℕ)) → IsSplitOnceResult 32 line (Some (name, rest)) → words_in line ≡ name.now ∷ words_in rest.now
parted_words line name rest cut =
    let at = split_once_first 32 line (Some (name, rest)) cut (omega arith) in
    slice_split_first IsSpace line 0 at.0 ∙ ap₂ (λ n r. n ∷ words_in r) (sym at.1) (sym at.2)

-- what is one word is the line
pub lone_word : (line word : List ℕ) → words_in line ≡ word ∷ [] → line ≡ word
lone_word line word e = sym (join_with_byte-slice_split 32 line) ∙ ap (join_with_byte 32) e

digit_is_no_space : (d : ℕ) → digit_value d < 10 → IsSpace d ≡ false
digit_is_no_space d l = by (d == 32) refl where
  by : (t : Bool) → (d == 32) ≡ t → (d == 32) ≡ false
  by false e = e
  by true e =
      let space : d ≡ 32 = eqb-true d 32 e in
      let low : digit_value 32 < 10 = subst (λ x. digit_value x < 10) space l in
      absurd (omega (arith, low))

-- a number is one word
pub number_word : (word : List ℕ) → IsNumber word → words_in word ≡ word ∷ []
number_word word n = slice_split_none IsSpace word (no_space word n.0.1) where
  no_space : (ds : List ℕ) → AllDigits 10 ds → All (λ x. IsSpace x ≡ false) ds
  no_space [] all = λ k d l. absurd (omega (arith, l))
  no_space (x ∷ ds) all = All-cons (λ y. IsSpace y ≡ false) x ds (digit_is_no_space x all.0) (no_space ds all.1)

-- one word says only shape and clear
pub one_says : (name : List ℕ) → (name ≢ codes "shape") × (name ≢ codes "clear") → (call : ScriptCall) → ¬ (Says (name ∷ []) call)
one_says name other (Call.Shape u) says = other.0 cc
one_says name other (Call.Line a b) says = absurd cc
one_says name other (Call.Pay slip) says = absurd cc
one_says name other (Call.Waive slip) says = absurd cc
one_says name other Call.Clear says = other.1 cc

-- two words say only pay and waive, with a number
pub two_says : (name word : List ℕ) → (IsNumber word → (name ≢ codes "pay") × (name ≢ codes "waive")) → (call : ScriptCall) → ¬ (Says (name ∷ word ∷ []) call)
two_says name word other (Call.Shape u) says = absurd cc
two_says name word other (Call.Line a b) says = let e = says.2 in absurd cc
two_says name word other (Call.Pay slip) says =
    let w : says.0 ≡ word = let e = says.1 in cc in
    (other (subst IsNumber w says.2.0)).0 (let e = says.1 in cc)
two_says name word other (Call.Waive slip) says =
    let w : says.0 ≡ word = let e = says.1 in cc in
    (other (subst IsNumber w says.2.0)).1 (let e = says.1 in cc)
two_says name word other Call.Clear says = absurd cc

some_words : (line : List ℕ) → words_in line ≢ []
some_words line e = let n : length (words_in line) ≡ 0 = ap length e in absurd (omega (arith, length-slice_split IsSpace line, n))

-- more words say only line, with two numbers
pub more_says : (name from to : List ℕ) → (IsNumber from → IsNumber to → name ≢ codes "line") → (call : ScriptCall) → ¬ (Says (name ∷ from ∷ words_in to) call)
more_says name from to other (Call.Shape u) says = absurd cc
more_says name from to other (Call.Line a b) says =
    let e = says.2 in
    let f : says.0 ≡ from = cc in
    let last : words_in to ≡ says.1 ∷ [] = cc in
    other (subst IsNumber f says.3.0) (subst IsNumber (sym (lone_word to says.1 last)) says.4.0) cc
more_says name from to other (Call.Pay slip) says = some_words to (let e = says.1 in cc)
more_says name from to other (Call.Waive slip) says = some_words to (let e = says.1 in cc)
more_says name from to other Call.Clear says = absurd cc
