-- What the elements of an array give, one behind the other.
use Rattle.std.proofs.Common.{◌≡◌, ℕ, zero, suc, ◌+◌, ◌*◌, ◌<◌, List, Some, None, sym, ap, ◌∙◌, mul-suc, arith}
use Rattle.layout.specs.Faults.{first_in, in_turn}
use Rattle.layout.proofs.Firsts.{first-before, first-behind, none-parts, none-join}

-- none of the first k gives anything: with element k, which stands w * k bytes on
module _ {X : Type 0} (each : ℕ → ℕ → List X) (w : ℕ) where
  here : (j i k : ℕ) → each ((j + 1) + k) (i + w + w * k) ≡ each (j + suc k) (i + w * suc k)
  here j i k =
      let m = mul-suc w k in
      let a : (j + 1) + k ≡ j + suc k = omega arith in
      let b : (i + w) + w * k ≡ i + w * suc k = omega arith in
      cc

  first : (j i : ℕ) → each (j + 0) (i + w * 0) ≡ each j i
  first j i =
      let a : j + 0 ≡ j = omega arith in
      let b : i + w * 0 ≡ i = omega arith in
      cc

  pub on-from : (j i k : ℕ) → None ≡ first_in (in_turn each w j i k) → None ≡ first_in (each (j + k) (i + w * k)) → None ≡ first_in (in_turn each w j i (suc k))
  on-from j i zero before none = none-join (each j i) _ (none ∙ ap first_in (first j i)) before
  on-from j i (suc k) before none =
      let p = none-parts (each j i) (in_turn each w (j + 1) (i + w) k) (sym before) in
      none-join (each j i) _ (sym p.0) (on-from (j + 1) (i + w) k (sym p.1) (none ∙ ap first_in (sym (here j i k))))

  pub stops-from : (j i k n : ℕ) (x : X) → k < n → None ≡ first_in (in_turn each w j i k) → Some x ≡ first_in (each (j + k) (i + w * k)) → Some x ≡ first_in (in_turn each w j i n)
  stops-from j i k zero x h before some = absurd (omega arith)
  stops-from j i zero (suc n) x h before some = sym (first-before (each j i) _ x (sym (some ∙ ap first_in (first j i))))
  stops-from j i (suc k) (suc n) x h before some =
      let p = none-parts (each j i) (in_turn each w (j + 1) (i + w) k) (sym before) in
      stops-from (j + 1) (i + w) k n x (omega arith) (sym p.1) (some ∙ ap first_in (sym (here j i k))) ∙ sym (first-behind (each j i) _ p.0)

  pub nth-from : (j i n k : ℕ) → k < n → first_in (in_turn each w j i n) ≡ None → first_in (each (j + k) (i + w * k)) ≡ None
  nth-from j i zero k h e = absurd (omega arith)
  nth-from j i (suc n) zero h e = ap first_in (first j i) ∙ (none-parts (each j i) (in_turn each w (j + 1) (i + w) n) e).0
  nth-from j i (suc n) (suc k) h e =
      sym (ap first_in (here j i k)) ∙ nth-from (j + 1) (i + w) n k (omega arith) (none-parts (each j i) (in_turn each w (j + 1) (i + w) n) e).1

  -- where no element gives anything, element k does not
  pub turn-nth : (i n k : ℕ) → k < n → first_in (in_turn each w 0 i n) ≡ None → first_in (each k (i + w * k)) ≡ None
  turn-nth i n k h e = let z : k ≡ 0 + k = omega arith in ap (λ m. first_in (each m (i + w * k))) z ∙ nth-from 0 i n k h e

  pub turn-on : (i k : ℕ) → None ≡ first_in (in_turn each w 0 i k) → None ≡ first_in (each k (i + w * k)) → None ≡ first_in (in_turn each w 0 i (k + 1))
  turn-on i k before none =
      let z : 0 + k ≡ k = omega arith in
      let o : suc k ≡ k + 1 = omega arith in
      on-from 0 i k before (none ∙ ap (λ m. first_in (each m (i + w * k))) (sym z)) ∙ ap (λ m. first_in (in_turn each w 0 i m)) o

  pub turn-stops : (i k n : ℕ) (x : X) → k < n → None ≡ first_in (in_turn each w 0 i k) → Some x ≡ first_in (each k (i + w * k)) → Some x ≡ first_in (in_turn each w 0 i n)
  turn-stops i k n x h before some = let z : 0 + k ≡ k = omega arith in stops-from 0 i k n x h before (some ∙ ap (λ m. first_in (each m (i + w * k))) (sym z))
