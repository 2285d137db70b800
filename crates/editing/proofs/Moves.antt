-- What edits make of the positions and the end of an open match.
use Rattle.std.proofs.Common.{◌≡◌, ℕ, zero, suc, ◌+◌, ◌<◌, eqb, ltb, List, [], ◌∷◌, ◌++◌, map, length, get_or, take, refl, sym, ap, ap₂, ◌∙◌, append_assoc}
use Rattle.std.proofs.lemmas.List.{take_more}
use Rattle.model.specs.Edits.{Edit, Frame, moved_all, told}
use Rattle.model.proofs.Shift.{moved_to}

pub take-again : {X : Type 0} (n : ℕ) (xs ys : List X) → take n (take n xs ++ ys) ≡ take n (xs ++ ys)
take-again zero xs ys = refl
take-again (suc n) [] ys = refl
take-again (suc n) (x ∷ xs) ys = ap (λ l. x ∷ l) (take-again n xs ys)

moved_all-append : (e : Edit) (ps qs : List ℕ) → moved_all e (ps ++ qs) ≡ moved_all e ps ++ moved_all e qs
moved_all-append e [] qs = refl
moved_all-append e (p ∷ ps) qs =
    let one : List ℕ = moved_to (ltb p e.position) (eqb p e.position) p e.into in
    ap (λ l. one ++ l) (moved_all-append e ps qs) ∙ sym (append_assoc one (moved_all e ps) (moved_all e qs))

-- one position more
pub moved-more : (e : Edit) (ps moved moved' : List ℕ) (i : ℕ) → i < length ps → moved ≡ take 64 (moved_all e (take i ps)) → moved' ≡ take 64 (moved ++ moved_all e (get_or ps i 0 ∷ [])) → moved' ≡ take 64 (moved_all e (take (i + 1) ps))
moved-more e ps moved moved' i inside so_far more =
    let p : ℕ = get_or ps i 0 in
    more ∙ ap (λ l. take 64 (l ++ moved_all e (p ∷ []))) so_far ∙ take-again 64 (moved_all e (take i ps)) (moved_all e (p ∷ []))
    ∙ ap (take 64) (sym (moved_all-append e (take i ps) (p ∷ [])) ∙ ap (moved_all e) (sym (take_more ps i 0 inside)))

-- edits in two parts
pub told-append : (es es' : List Edit) (f : Frame) → told (es ++ es') f ≡ told es' (told es f)
told-append [] es' f = refl
told-append (e ∷ es) es' f = told-append es es' _

pub told-append_all : (es es' : List Edit) (fs : List Frame) → map (told (es ++ es')) fs ≡ map (told es') (map (told es) fs)
told-append_all es es' [] = refl
told-append_all es es' (f ∷ fs) = ap₂ (λ g gs. g ∷ gs) (told-append es es' f) (told-append_all es es' fs)
