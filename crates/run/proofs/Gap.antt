-- What moving a gap, and writing at its front, leave of the elements around it.
use Rattle.std.proofs.Common.{◌≡◌, ℕ, suc, ◌+◌, ◌-◌, ◌<◌, ◌≤◌, List, ◌++◌, length, get_or, take, drop, ap, ap₂, sym, ◌∙◌, append_assoc, arith}
use lib.Seq.{paste, take-add, take-append-le, take-take, take_all, take_at, drop_at, drop-drop, length-take-le}
use Rattle.std.specs.List.{copy_within}
use Rattle.std.proofs.lemmas.List.{take-append-drop, length-drop, get_or-drop, get_or-append_right}
use Rattle.std.proofs.lemmas.List.Edits.{take-paste, drop-paste, paste_all}

module _ {X : Type 0} (xs : List X) where
  drop-past_paste : (at : ℕ) (s : List X) (n k : ℕ) → at ≤ length xs → n ≤ length s → at + n ≤ k → drop k (paste xs at s n) ≡ drop k xs
  drop-past_paste at s n k fits long past =
      let on : at + n + (k - (at + n)) ≡ k = omega arith in
      let j : ℕ = k - (at + n) in
      ap (λ m. drop m (paste xs at s n)) (sym on) ∙ sym (drop-drop j (at + n) (paste xs at s n)) ∙ ap (drop j) (drop-paste xs at s n fits long) ∙ drop-drop j (at + n) xs ∙ ap (λ m. drop m xs) on

  module _ (front back at : ℕ) (gap : front ≤ back) (ys : List X) where
    -- the gap moves to the front: what lay from `at` on before it goes to its end
    pub moved_down : at ≤ front → back ≤ length xs → ys ≡ copy_within xs at front (back - (front - at)) → take at ys ++ drop (back - (front - at)) ys ≡ take front xs ++ drop back xs
    moved_down place inside after =
        let m : ℕ = front - at in
        let e : ℕ = back - m in
        let moved : List X = take m (drop at xs) in
        let from : at + m ≡ front = omega arith in
        let to : e + m ≡ back = omega arith in
        let split : ys ≡ take e xs ++ (moved ++ drop back xs) = after ∙ append_assoc (take e xs) moved (drop (e + m) xs) ∙ ap (λ k. take e xs ++ (moved ++ drop k xs)) to in
        let long : length (take e xs) ≡ e = length-take-le e xs (omega arith) in
        let before : take at ys ≡ take at xs = ap (take at) split ∙ take-append-le at (take e xs) (moved ++ drop back xs) (omega arith) ∙ take-take at e xs (omega arith) in
        let behind : drop e ys ≡ moved ++ drop back xs = ap (drop e) split ∙ drop_at (take e xs) (moved ++ drop back xs) e long in
        ap₂ (λ k l. k ++ l) before behind ∙ sym (append_assoc (take at xs) moved (drop back xs)) ∙ ap (λ l. l ++ drop back xs) (sym (take-add at m xs) ∙ ap (λ k. take k xs) from)

    -- the gap moves to the back: as many from behind it go to its front
    pub moved_up : front ≤ at → back + (at - front) ≤ length xs → ys ≡ copy_within xs back (back + (at - front)) front → take at ys ++ drop (back + (at - front)) ys ≡ take front xs ++ drop back xs
    moved_up place inside after =
        let m : ℕ = at - front in
        let moved : List X = take m (drop back xs) in
        let to : front + m ≡ at = omega arith in
        let many : back + m - back ≡ m = omega arith in
        let pasted : ys ≡ paste xs front (drop back xs) m = after ∙ ap (paste xs front (drop back xs)) many in
        let long : m ≤ length (drop back xs) = omega (arith, length-drop back xs) in
        let before : take at ys ≡ take front xs ++ moved = ap (λ k. take k ys) (sym to) ∙ ap (take (front + m)) pasted ∙ take-paste xs front (drop back xs) m (omega arith) long in
        let behind : drop (back + m) ys ≡ drop (back + m) xs = ap (drop (back + m)) pasted ∙ drop-past_paste front (drop back xs) m (back + m) (omega arith) long (omega arith) in
        let rest : moved ++ drop (back + m) xs ≡ drop back xs = ap (λ l. moved ++ l) (sym (drop-drop m back xs)) ∙ take-append-drop m (drop back xs) in
        ap₂ (λ k l. k ++ l) before behind ∙ append_assoc (take front xs) moved (drop (back + m) xs) ∙ ap (λ l. take front xs ++ l) rest

  module _ (i back : ℕ) (ys : List X) (gap : i ≤ back) (inside : back < length xs) (around : take i xs ++ drop back xs ≡ ys) where
    -- the element behind the gap is the one at i
    pub behind_gap : (d : X) → get_or xs back d ≡ get_or ys i d
    behind_gap d =
        let long : length (take i xs) ≡ i = length-take-le i xs (omega arith) in
        let on : back + (i - i) ≡ back = omega arith in
        ap (λ k. get_or xs k d) (sym on) ∙ sym (get_or-drop back xs (i - i) d) ∙ sym (get_or-append_right (take i xs) (drop back xs) i i d long (omega arith)) ∙ ap (λ l. get_or l i d) around

    -- it gives way to what is written from i on, where the gap and its own place have room
    pub gives_way : (new zs : List X) (n : ℕ) → length new ≡ n → i + n ≤ back + 1 → zs ≡ take i xs ++ (new ++ drop (i + n) xs) → take (i + n) zs ++ drop (back + 1) zs ≡ take i ys ++ (new ++ drop (suc i) ys)
    gives_way new zs n many room after =
        let long : length (take i xs) ≡ i = length-take-le i xs (omega arith) in
        let pasted : zs ≡ paste xs i new n = after ∙ sym (paste_all xs i new n (sym many)) in
        let front : take (i + n) zs ≡ take i xs ++ new = ap (take (i + n)) pasted ∙ take-paste xs i new n (omega arith) (omega arith) ∙ ap (λ l. take i xs ++ l) (take_all n new (omega arith)) in
        let behind : drop (back + 1) zs ≡ drop (back + 1) xs = ap (drop (back + 1)) pasted ∙ drop-past_paste i new n (back + 1) (omega arith) (omega arith) room in
        let before : take i xs ≡ take i ys = sym (take_at (take i xs) (drop back xs) i long) ∙ ap (take i) around in
        let on : i + 1 ≡ suc i = omega arith in
        let rest : drop (back + 1) xs ≡ drop (suc i) ys =
        sym (drop-drop 1 back xs) ∙ ap (drop 1) (sym (drop_at (take i xs) (drop back xs) i long) ∙ ap (drop i) around) ∙ drop-drop 1 i ys ∙ ap (λ k. drop k ys) on in
        ap₂ (λ k l. k ++ l) front behind ∙ append_assoc (take i xs) new (drop (back + 1) xs) ∙ ap₂ (λ k l. k ++ (new ++ l)) before rest
