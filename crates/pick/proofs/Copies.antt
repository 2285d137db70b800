-- Records written over the front of a buffer, one after the other.
use Rattle.std.proofs.Common.{◌≡◌, ℕ, zero, suc, ◌+◌, ◌-◌, ◌<◌, ◌≤◌, List, [], ◌∷◌, ◌++◌, map, length, take, drop, get_or, set, sym, ap, ◌∙◌, subst, append_assoc, arith}
use Rattle.std.specs.List.{prefix_len}
use Rattle.std.proofs.Math.Seq.{set-append_seam}
use Rattle.std.proofs.lemmas.List.{drop_more, length-map, length-take-le, get_or-take, map_more}
use Rattle.std.proofs.lemmas.List.Sums.{prefix_len_passes}
use Rattle.std.proofs.lemmas.Bool.{and_parts, leb-true}
use Rattle.pick.specs.Lines.{within}

pub copied-more : {R : Type 0} (f : R → R) (i : ℕ) (rs buffer was : List R) (d : R) → i < length rs → i < length was → buffer ≡ map f (take i rs) ++ drop i was
    → set buffer i (f (get_or rs i d)) ≡ map f (take (i + 1) rs) ++ drop (i + 1) was
copied-more f i rs buffer was d h k e =
    let y = f (get_or rs i d) in
    let front : List _ = map f (take i rs) in
    let n : length front ≡ i = length-map (take i rs) f ∙ length-take-le i rs (omega arith) in
    let split : buffer ≡ front ++ get_or was i d ∷ drop (i + 1) was = e ∙ ap (λ l. front ++ l) (drop_more was i d k) in
    ap (λ l. set l i y) split ∙ ap (λ j. set (front ++ get_or was i d ∷ drop (i + 1) was) j y) (sym n) ∙ set-append_seam front (get_or was i d) (drop (i + 1) was) y
    ∙ sym (append_assoc front (y ∷ []) (drop (i + 1) was)) ∙ ap (λ l. l ++ drop (i + 1) was) (sym (map_more f rs i d h))

take-few : {R : Type 0} (n : ℕ) (rs : List R) → length (take n rs) ≤ n
take-few zero rs = omega arith
take-few (suc n) [] = omega arith
take-few (suc n) (r ∷ rs) = let few = take-few n rs in omega arith

-- the records of a line lie from a on
pub from-a : {R : Type 0} (cluster_of : R → ℕ) (a b f : ℕ) (rs : List R) (k : ℕ) (d : R) → k < length (take (f + prefix_len (within cluster_of a b) (drop f rs) - f) (drop f rs))
    → a ≤ cluster_of (get_or (take (f + prefix_len (within cluster_of a b) (drop f rs) - f) (drop f rs)) k d)
from-a cluster_of a b f rs k d h =
    let c = prefix_len (within cluster_of a b) (drop f rs) in
    let n : f + c - f ≡ c = omega arith in
    let inside : k < length (take c (drop f rs)) = subst (λ m. k < length (take m (drop f rs))) n h in
    let few : k < c = omega (arith, inside, take-few c (drop f rs)) in
    subst (λ m. a ≤ cluster_of (get_or (take m (drop f rs)) k d)) (sym n)
    (subst (λ q. a ≤ cluster_of q) (sym (get_or-take c (drop f rs) k d few)) (leb-true a _ (and_parts _ _ (prefix_len_passes (within cluster_of a b) (drop f rs) k d few)).0))
