-- A table of open matches, told one after the other.
use Rattle.std.proofs.Common.{◌≡◌, ℕ, zero, suc, pred, ◌+◌, ◌-◌, ◌<◌, ◌≤◌, List, [], ◌∷◌, ◌++◌, map, length, get_or, reverse, set, take, drop, sym, ap, ap₂, ◌∙◌, arith}
use Rattle.std.proofs.lemmas.List.{drop-drop, drop-set-lt, get_or-drop, take_more_set, take_more}
use Rattle.std.proofs.lemmas.List.{reverse-append}
use mathlib.Core.List.{map-append}
use Rattle.std.specs.List.{AllByRecursion}
use Rattle.std.proofs.lemmas.List.{length-append, length-take, length-map, length-drop}
use Rattle.std.proofs.ByRecursion.{All-weaker}
use Rattle.model.specs.Edits.{Frame, told}
use Rattle.model.proofs.Change.{map-reverse}
use Rattle.model.proofs.Frames.{FrameIn, told_in}
use Rattle.editing.specs.declared.frame.Frame.{Frame as Kept}
use Rattle.editing.specs.Frames.{Inside, edit, frame_of, innermost_first}

pub all-before : (P : Frame → Type 0) (ks : List Kept) (i n : ℕ) (d : Kept) → AllByRecursion P (map frame_of (take n ks)) → i < n → i < length ks → P (frame_of (get_or ks i d))
all-before P [] i n d h k l = absurd (omega arith)
all-before P (k ∷ ks) i zero d h m l = absurd (omega arith)
all-before P (k ∷ ks) zero (suc n) d h m l = h.0
all-before P (k ∷ ks) (suc i) (suc n) d h m l = all-before P ks i n d h.1 (omega arith) (omega arith)

module _ (T : Frame → Frame) (xs ys : List Kept) (i : ℕ) (rest : drop i xs ≡ drop i ys) where
  -- the next one is as before
  pub next-same : (d : Kept) → get_or xs i d ≡ get_or ys i d
  next-same d =
      let z : i + 0 ≡ i = omega arith in
      ap (λ n. get_or xs n d) (sym z) ∙ sym (get_or-drop i xs 0 d) ∙ ap (λ l. get_or l 0 d) rest ∙ get_or-drop i ys 0 d ∙ ap (λ n. get_or ys n d) z

  pub next-rest : (x : Kept) → drop (i + 1) (set xs i x) ≡ drop (i + 1) ys
  next-rest x = drop-set-lt (i + 1) xs i x (omega arith) ∙ sym (drop-drop 1 i xs) ∙ ap (drop 1) rest ∙ drop-drop 1 i ys

  pub next-told : (x d : Kept) → i < length xs → i < length ys → frame_of x ≡ T (frame_of (get_or xs i d)) → map frame_of (take i xs) ≡ map T (map frame_of (take i ys)) → map frame_of (take (i + 1) (set xs i x)) ≡ map T (map frame_of (take (i + 1) ys))
  next-told x d l m is done =
      let k : Kept = get_or ys i d in
      let new : frame_of x ≡ T (frame_of k) = is ∙ ap (λ u. T (frame_of u)) (next-same d) in
      ap (map frame_of) (take_more_set xs i x l) ∙ map-append frame_of (take i xs) (x ∷ [])
      ∙ ap₂ (λ u v. u ++ v ∷ []) done new
      ∙ sym (map-append T (map frame_of (take i ys)) (frame_of k ∷ []))
      ∙ ap (map T) (sym (map-append frame_of (take i ys) (k ∷ [])) ∙ ap (map frame_of) (sym (take_more ys i d m)))

pub prefix : (P : Frame → Type 0) (ks : List Kept) (m n : ℕ) → m ≤ n → AllByRecursion P (map frame_of (take n ks)) → AllByRecursion P (map frame_of (take m ks))
prefix P ks zero n l h = tt
prefix P [] (suc m) n l h = tt
prefix P (k ∷ ks) (suc m) zero l h = absurd (omega arith)
prefix P (k ∷ ks) (suc m) (suc n) l h = (h.0, prefix P ks m n (omega arith) h.1)

-- the last in the table is the innermost
last-first : (ks : List Kept) (m : ℕ) (d : Kept) → m < length ks → innermost_first (take (m + 1) ks) ≡ frame_of (get_or ks m d) ∷ innermost_first (take m ks)
last-first ks m d l =
    ap innermost_first (take_more ks m d l)
    ∙ ap reverse (map-append frame_of (take m ks) (get_or ks m d ∷ []))
    ∙ reverse-append (map frame_of (take m ks)) (frame_of (get_or ks m d) ∷ [])

pub without-last : (ks : List Kept) (n : ℕ) (d : Kept) (f : Frame) (fs : List Frame) → n ≤ length ks → innermost_first (take n ks) ≡ f ∷ fs → innermost_first (take (n - 1) ks) ≡ fs
without-last ks zero d f fs l e = absurd cc
without-last ks (suc m) d f fs l e =
    let next : suc m ≡ m + 1 = omega arith in
    let less : suc m - 1 ≡ m = omega arith in
    let whole : frame_of (get_or ks m d) ∷ innermost_first (take m ks) ≡ f ∷ fs = sym (last-first ks m d (omega arith)) ∙ ap (λ n. innermost_first (take n ks)) (sym next) ∙ e in
    let rest : innermost_first (take m ks) ≡ fs = cc in
    ap (λ n. innermost_first (take n ks)) less ∙ rest

-- told of an edit that fits, an open match lies in the changed run
inside-told : (n p into m : ℕ) → p < n → pred (n + into) ≡ m → (f : Frame) → Inside n f → Inside m (told (edit p into) f)
inside-told n p into m l e f h =
    let in' : FrameIn 0 n f = (All-weaker _ _ (λ q u. (omega arith, u)) f.positions h.0, h.1) in
    let out : FrameIn 0 m (told (edit p into) f) = told_in 0 (edit p into) n m f (omega arith, l, e) in' in
    (All-weaker _ _ (λ q u. u.1) (told (edit p into) f).positions out.0, out.1)

pub all-told : (n p into m : ℕ) → p < n → pred (n + into) ≡ m → (fs : List Frame) → AllByRecursion (Inside n) fs → AllByRecursion (Inside m) (map (told (edit p into)) fs)
all-told n p into m l e [] h = tt
all-told n p into m l e (f ∷ fs) h = (inside-told n p into m l e f h.0, all-told n p into m l e fs h.1)

pub innermost-told : (T : Frame → Frame) (xs ys : List Kept) → map frame_of ys ≡ map T (map frame_of xs) → innermost_first ys ≡ map T (innermost_first xs)
innermost-told T xs ys e = ap reverse e ∙ map-reverse T (map frame_of xs)

-- a glyph gives way to others
pub length-put : {A B : Type 0} (f : B → A) (gs : List A) (new : List B) (p : ℕ) → p < length gs → pred (length gs + length new) ≡ length (take p gs ++ (map f new ++ drop (suc p) gs))
length-put f gs new p l = simp (length-append, length-take, length-map, length-drop) (omega arith)
