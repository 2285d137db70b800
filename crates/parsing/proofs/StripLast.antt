-- A list without the byte that ends it.
use Rattle.std.proofs.Common.{◌≡◌, ◌≢◌, ℕ, ◌+◌, ◌-◌, ◌<◌, List, [], ◌∷◌, ◌++◌, Bool, true, false, cond, refl, sym, ap, ◌∙◌, length, take, drop, get_or, arith}
use Rattle.std.specs.Io.BufRead.{ends_with_byte, strip_last}
use Rattle.std.proofs.lemmas.List.{take-append-drop, drop_more, drop_all, length-append}
use Rattle.std.proofs.Math.Seq.{take-append_seam, get_or-append_seam}

pub strip_last-end : (byte : ℕ) (front : List ℕ) → strip_last byte (front ++ byte ∷ []) ≡ front
strip_last-end byte front =
    let all = front ++ byte ∷ [] in
    let n : length all - 1 ≡ length front = omega (arith, length-append front (byte ∷ [])) in
    let last : get_or all (length all - 1) 0 ≡ byte = ap (λ k. get_or all k 0) n ∙ get_or-append_seam front byte [] 0 in
    let some : 0 < length all = omega (arith, length-append front (byte ∷ [])) in
    let ends : ends_with_byte byte all ≡ true = grind arith in
    ap (λ b. cond b (take (length all - 1) all) all) ends ∙ ap (λ k. take k all) n ∙ take-append_seam front (byte ∷ [])

pub strip_last-other : (byte : ℕ) (bs : List ℕ) → ((front : List ℕ) → bs ≢ front ++ byte ∷ []) → strip_last byte bs ≡ bs
strip_last-other byte bs other = by (ends_with_byte byte bs) refl where
  by : (t : Bool) → ends_with_byte byte bs ≡ t → cond t (take (length bs - 1) bs) bs ≡ bs
  by false e = refl
  by true e =
      let some : 0 < length bs = grind arith in
      let last : get_or bs (length bs - 1) 0 ≡ byte = grind arith in
      let rest : drop (length bs - 1) bs ≡ byte ∷ [] = drop_more bs (length bs - 1) 0 (omega arith) ∙ ap (λ b. b ∷ drop (length bs - 1 + 1) bs) last ∙ ap (λ l. byte ∷ l) (drop_all (length bs - 1 + 1) bs (omega arith)) in
      absurd (other (take (length bs - 1) bs) (sym (take-append-drop (length bs - 1) bs) ∙ ap (λ l. take (length bs - 1) bs ++ l) rest))
