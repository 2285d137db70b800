-- A kept line, in the records and marks of a paragraph.
use Rattle.std.proofs.Common.{◌≡◌, ℕ, zero, suc, ◌+◌, ◌-◌, ◌≤◌, ◌<◌, Bool, true, false, cond, ◌&&◌, ◌||◌, ◌==◌, List, [], ◌∷◌, ◌++◌, map, length, take, drop, get_or, nat_le, nat_lt, slice_range, refl, sym, ap, ◌∙◌, append_assoc, arith}
use Rattle.std.specs.List.{AllByRecursion, prefix_len}
use Rattle.std.proofs.Math.ListN.{get_or-append}
use Rattle.std.proofs.lemmas.Bool.{eqb-true, le-leb, le-ltb, lt-ltb, ltb-true}
use Rattle.std.proofs.lemmas.List.{drop-append-le, drop_at, length-drop, length-map, take-append-le, take_at}
use Rattle.std.proofs.ByRecursion.{All-append, All-map, All-weaker}
use Rattle.model.specs.declared.Glyph.{Glyph}
use Rattle.model.specs.Laws.{Free, raise}

-- as many pass as there are in front, where none passes behind them
prefix-is : (p : Glyph → Bool) (xs ys : List Glyph) → AllByRecursion (λ g. p g ≡ true) xs → AllByRecursion (λ g. p g ≡ false) ys → prefix_len p (xs ++ ys) ≡ length xs
prefix-is p [] [] h k = refl
prefix-is p [] (y ∷ ys) h k = ap (λ t. cond t (1 + prefix_len p ys) 0) k.0
prefix-is p (x ∷ xs) ys h k =
    let one : 1 + length xs ≡ suc (length xs) = omega arith in
    ap (λ t. cond t (1 + prefix_len p (xs ++ ys)) 0) h.0 ∙ ap (λ n. 1 + n) (prefix-is p xs ys h.1 k) ∙ one

module _ (a b : ℕ) (xs ms ys : List Glyph) (low : AllByRecursion (λ g. g.cluster < a) xs) (mid : AllByRecursion (λ g. a + g.cluster < b) ms) (high : AllByRecursion (λ g. b ≤ g.cluster) ys) (order : a ≤ b) where
  abbrev R : List Glyph
  R = map (raise a) ms

  raised : AllByRecursion (λ g. (a ≤ g.cluster) × (g.cluster < b)) R
  raised = All-map _ (raise a) ms (All-weaker _ _ (λ g (h : a + g.cluster < b). (let r : a ≤ a + g.cluster = omega arith in r, h)) ms mid)

  pub first-is : prefix_len (λ g. nat_lt g.cluster a) (xs ++ (R ++ ys)) ≡ length xs
  first-is =
      prefix-is (λ g. nat_lt g.cluster a) xs (R ++ ys) (All-weaker _ _ (λ g h. lt-ltb g.cluster a h) xs low)
      (All-append _ R ys (All-weaker _ _ (λ g (h : (a ≤ g.cluster) × (g.cluster < b)). le-ltb g.cluster a h.0) R raised) (All-weaker _ _ (λ g (h : b ≤ g.cluster). le-ltb g.cluster a (omega (arith, h, order))) ys high))

  pub count-is : prefix_len (λ g. nat_le a g.cluster && nat_lt g.cluster b) (R ++ ys) ≡ length ms
  count-is =
      prefix-is (λ g. nat_le a g.cluster && nat_lt g.cluster b) R ys
      (All-weaker _ _ (λ g (h : (a ≤ g.cluster) × (g.cluster < b)). both (nat_le a g.cluster) (nat_lt g.cluster b) (le-leb a g.cluster h.0) (lt-ltb g.cluster b h.1)) R raised)
      (All-weaker _ _ (λ g (h : b ≤ g.cluster). second (nat_le a g.cluster) (nat_lt g.cluster b) (le-ltb g.cluster b h)) ys high)
      ∙ length-map ms (raise a)
    where
      both : (t u : Bool) → t ≡ true → u ≡ true → (t && u) ≡ true
      both true true e f = refl
      both true false e f = f
      both false u e f = e

      second : (t u : Bool) → u ≡ false → (t && u) ≡ false
      second true u f = f
      second false u f = refl

-- a place that is free by the paragraph's marks
pub free-is : (length_ c : ℕ) (ms marks v : List ℕ) → marks ≡ ms ++ v → length ms ≡ length_ → (c == length_ || (nat_lt c length_ && get_or marks c 0 == 0)) ≡ true → Free ms c
free-is n c ms marks v e l h = by (c == n) (nat_lt c n) refl refl h
  where
    past : (xs : List ℕ) (i : ℕ) → length xs ≤ i → get_or xs i 0 ≡ 0
    past [] i p = refl
    past (x ∷ xs) zero p = absurd (omega (arith, p))
    past (x ∷ xs) (suc i) p = past xs i (omega (arith, p))

    by : (t u : Bool) → (c == n) ≡ t → nat_lt c n ≡ u → (t || (u && get_or marks c 0 == 0)) ≡ true → get_or ms c 0 ≡ 0
    by true u f g k = past ms c (let same = eqb-true c n f in omega (arith, same, l))
    by false true f g k =
        let inside : c < length ms = omega (arith, ltb-true c n g, l) in
        sym (get_or-append ms v 0 c inside) ∙ ap (λ xs. get_or xs c 0) (sym e) ∙ eqb-true (get_or marks c 0) 0 k
    by false false f g k = absurd cc

-- a part of a list, where others stand behind
pub range-is : (xs ys : List ℕ) (a b : ℕ) → a ≤ b → b ≤ length xs → slice_range (xs ++ ys) a b ≡ slice_range xs a b
range-is xs ys a b h k =
    ap (take (b - a)) (drop-append-le a xs ys (omega (arith, h, k))) ∙ take-append-le (b - a) (drop a xs) ys (simp length-drop (omega (arith, k)))

-- the middle one of three
pub middle-is : (xs ms ys zs : List Glyph) → take (length ms) (drop (length xs) ((xs ++ (ms ++ ys)) ++ zs)) ≡ ms
middle-is xs ms ys zs =
    ap (λ l. take (length ms) (drop (length xs) l)) (append_assoc xs (ms ++ ys) zs) ∙ ap (take (length ms)) (drop_at xs ((ms ++ ys) ++ zs) (length xs) refl)
    ∙ ap (take (length ms)) (append_assoc ms ys zs) ∙ take_at ms (ys ++ zs) (length ms) refl
