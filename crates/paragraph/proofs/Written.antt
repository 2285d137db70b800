-- A list that is written over another, piece by piece.
use Rattle.std.proofs.Common.{◌≡◌, ℕ, zero, ◌-◌, ◌+◌, ◌<◌, ◌≤◌, List, [], ◌++◌, drop, length, min, take, refl, sym, ap, ◌∙◌, subst, inl, inr, ◌⊎◌, arith}
use borrow.Rule.Slice.PartMut.{put_mid}
use Rattle.std.proofs.Math.Seq.{take-append-add}
use Rattle.std.proofs.lemmas.Bool.{cases_lt}
use Rattle.std.proofs.lemmas.List.{append-nil, append_assoc, drop_all, drop_at, drop-drop, length-append, length-drop, length-take, take-append-le, take-take, take_all, take_at, take_min}
use Rattle.paragraph.specs.SaidBy.{laid_over}

module _ {A : Type 0} (list old : List A) where
  whole : length list ≤ length old → laid_over list old ≡ list ++ drop (length list) old
  whole h = take_all (length old) (list ++ drop (length list) old) (simp (length-append, length-drop) (omega (arith, h)))

  cut : length old ≤ length list → laid_over list old ≡ take (length old) list
  cut h = take-append-le (length old) list (drop (length list) old) h

  pub long : length (laid_over list old) ≡ length old
  long = simp (length-take, length-append, length-drop) (omega arith)

module _ {A : Type 0} (there count start n k : ℕ) (list old to from piece : List A) (at : there ≡ min (length list) (length old)) (is : to ≡ laid_over list old)
    (from-start : start ≡ min there (length to)) (so-many : n ≡ min (min count (length from)) (length to - start)) (piece-is : piece ≡ take n from) (k-is : k ≡ n) where
  size : length to ≡ length old
  size = ap length is ∙ long list old

  pub there-is : start + n ≡ min (length (list ++ take count from)) (length old)
  there-is = simp (length-append, length-take) (omega (arith, at, from-start, so-many, size))

  -- where the list ends before the memory does
  front : length list ≤ length old → take start to ≡ list
  front h =
      let st : start ≡ length list = omega (arith, h, at, from-start, size) in
      ap (λ i. take i to) st ∙ ap (take (length list)) (is ∙ whole list old h) ∙ take_at list (drop (length list) old) (length list) refl

  behind : length list ≤ length old → drop n (drop start to) ≡ drop (length list + n) old
  behind h =
      let st : start ≡ length list = omega (arith, h, at, from-start, size) in
      ap (drop n) (ap (λ i. drop i to) st ∙ ap (drop (length list)) (is ∙ whole list old h) ∙ drop_at list (drop (length list) old) (length list) refl) ∙ drop-drop n (length list) old

  fits : length list + min count (length from) ≤ length old → take start to ++ (take n from ++ drop n (drop start to)) ≡ laid_over (list ++ take count from) old
  fits h =
      let all : n ≡ min count (length from) = omega (arith, h, at, from-start, so-many, size) in
      let part : take n from ≡ take count from = ap (λ i. take i from) all ∙ take_min count from in
      let long' : length (list ++ take count from) ≡ length list + n = simp (length-append, length-take) (omega (arith, all)) in
      ap (λ l. l ++ (take n from ++ drop n (drop start to))) (front (omega (arith, h))) ∙ ap (λ l. list ++ (take n from ++ l)) (behind (omega (arith, h))) ∙ ap (λ l. list ++ (l ++ drop (length list + n) old)) part
      ∙ sym (append_assoc list (take count from) (drop (length list + n) old)) ∙ ap (λ i. (list ++ take count from) ++ drop i old) (sym long') ∙ sym (whole (list ++ take count from) old (omega (arith, long', all, h)))

  reaches : length list ≤ length old → length old < length list + min count (length from) → take start to ++ (take n from ++ drop n (drop start to)) ≡ laid_over (list ++ take count from) old
  reaches g h =
      let all : length list + n ≡ length old = omega (arith, g, h, at, from-start, so-many, size) in
      let less : n ≤ count = omega (arith, so-many) in
      let long' : length old ≤ length (list ++ take count from) = simp (length-append, length-take) (omega (arith, h)) in
      let none : drop (length list + n) old ≡ [] = drop_all (length list + n) old (omega (arith, all)) in
      ap (λ l. l ++ (take n from ++ drop n (drop start to))) (front g) ∙ ap (λ l. list ++ (take n from ++ l)) (behind g ∙ none) ∙ ap (λ l. list ++ l) (append-nil (take n from) ∙ sym (take-take n count from less))
      ∙ sym (take-append-add list (take count from) n) ∙ ap (λ i. take i (list ++ take count from)) all ∙ sym (cut (list ++ take count from) old long')

  full : length old < length list → take start to ++ (take n from ++ drop n (drop start to)) ≡ laid_over (list ++ take count from) old
  full h =
      let st : start ≡ length old = omega (arith, h, at, from-start, size) in
      let no : n ≡ 0 = omega (arith, h, at, from-start, so-many, size) in
      let long' : length old ≤ length (list ++ take count from) = simp length-append (omega (arith, h)) in
      let none : drop start to ≡ [] = drop_all start to (omega (arith, st, size)) in
      ap (λ i. take start to ++ (take i from ++ drop i (drop start to))) no ∙ ap (λ l. take start to ++ l) none ∙ append-nil (take start to) ∙ ap (λ i. take i to) st ∙ ap (take (length old)) (is ∙ cut list old (omega (arith, h)))
      ∙ take-take (length old) (length old) list (omega arith) ∙ sym (take-append-le (length old) list (take count from) (omega (arith, h))) ∙ sym (cut (list ++ take count from) old long')

  in-each : (length list ≤ length old) ⊎ (length old < length list) → (length list + min count (length from) ≤ length old) ⊎ (length old < length list + min count (length from))
      → take start to ++ (take n from ++ drop n (drop start to)) ≡ laid_over (list ++ take count from) old
  in-each (inl g) (inl h) = fits h
  in-each (inl g) (inr h) = reaches g h
  in-each (inr g) h = full g

  pub now-is : put_mid start k to piece ≡ laid_over (list ++ take count from) old
  now-is =
      ap (λ i. take start to ++ (piece ++ drop i (drop start to))) k-is ∙ ap (λ l. take start to ++ (l ++ drop n (drop start to))) piece-is
      ∙ in-each (turned (cases_lt (length old) (length list))) (turned (cases_lt (length old) (length list + min count (length from))))
    where
      turned : {a b : ℕ} → (a < b) ⊎ (b ≤ a) → (b ≤ a) ⊎ (a < b)
      turned (inl h) = inr h
      turned (inr h) = inl h
