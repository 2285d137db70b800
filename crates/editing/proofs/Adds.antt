-- Positions that are added up to 64.
use Rattle.std.proofs.Common.{◌≡◌, ℕ, suc, ◌+◌, ◌-◌, ◌<◌, ◌≤◌, List, [], ◌∷◌, ◌++◌, length, take, set, sym, ap, ap₂, ◌∙◌, append_assoc, arith}
use Rattle.std.proofs.lemmas.List.{append-nil, take_more_set}
use lib.Seq.{take-append-le, take_all, length-take-le}
use Rattle.model.specs.Edits.{up_from}

module _ (ps : List ℕ) (count first n k : ℕ) (whole : List ℕ) (long : length ps ≡ 64) (so_far : take 64 (take count ps ++ up_from (first + k) (n - k)) ≡ take 64 whole) where
  pub add-full : count ≡ 64 → take count ps ≡ take 64 whole
  add-full full =
      let all : length (take count ps) ≡ count = length-take-le count ps (omega arith) in
      sym (take_all 64 (take count ps) (omega arith)) ∙ sym (take-append-le 64 (take count ps) (up_from (first + k) (n - k)) (omega arith)) ∙ so_far

  pub add-more : count < 64 → k < n → take 64 (take (count + 1) (set ps count (first + k)) ++ up_from (first + (k + 1)) (n - (k + 1))) ≡ take 64 whole
  add-more free more =
      let x : ℕ = first + k in
      let left : suc (n - (k + 1)) ≡ n - k = omega arith in
      let next : first + (k + 1) ≡ suc x = omega arith in
      ap₂ (λ l p. take 64 (l ++ up_from p (n - (k + 1)))) (take_more_set ps count x (omega arith)) next
      ∙ ap (take 64) (append_assoc (take count ps) (x ∷ []) (up_from (suc x) (n - (k + 1))))
      ∙ ap (λ m. take 64 (take count ps ++ up_from x m)) left ∙ so_far

  pub add-all : count ≤ 64 → n ≤ k → take count ps ≡ take 64 whole
  add-all few all =
      let none : n - k ≡ 0 = omega arith in
      sym (take_all 64 (take count ps) (omega (arith, length-take-le count ps (omega arith))))
      ∙ sym (ap (λ m. take 64 (take count ps ++ up_from (first + k) m)) none ∙ ap (take 64) (append-nil (take count ps))) ∙ so_far
