-- What a hand holds once a slip was taken out of a place, or put into one.
use Rattle.std.proofs.Common.{◌≡◌, ℕ, ◌-◌, ◌+◌, ◌<◌, Bool, true, false, cond, ◌==◌, List, ◌∷◌, count_by, drop, get_or, length, set, sum_by, Some, None, Option, refl, sym, ap, ◌∙◌, arith}
use Rattle.std.specs.Prelude.{is_some, slice_get}
use Rattle.std.proofs.lemmas.Bool.{ne_eqb, eqb-true, eqb-false}
use Rattle.std.proofs.lemmas.List.{drop_more, get_or_default, length-drop, set-get_or, set-set}
use Rattle.std.proofs.lemmas.List.Sums.{sum_by-cons, sum_by-set}
use Rattle.std.proofs.lemmas.Option.{get_or_from_slice_get, slice_get-get_or, slice_get_within}
use Rattle.paragraph.specs.declared.slip.Slip.{Slip}
use Rattle.paragraph.specs.Calls.{Answer, Memory, done, returned, unpaid}
use Rattle.model.specs.Shaping.{Outcome, refused, shaped}
use Rattle.paragraph.specs.Step.{pay_answer}
use Rattle.paragraph.specs.Hand.{held, in_hand, slips_in}

-- the place of a slip that is in the hand
held-is : (o : Option (Option Slip)) (s : Slip) → held o ≡ Some s → o ≡ Some (Some s)
held-is None s e = absurd cc
held-is (Some p) s e = ap Some e

pub place-of : (hand : List (Option Slip)) (j : ℕ) (s : Slip) → in_hand hand j ≡ Some s → slice_get hand (j - 1) ≡ Some (Some s)
place-of hand j s e = by (j == 0) e
  where
    by : (t : Bool) → cond t None (held (slice_get hand (j - 1))) ≡ Some s → slice_get hand (j - 1) ≡ Some (Some s)
    by true f = absurd cc
    by false f = held-is (slice_get hand (j - 1)) s f

-- a slip that goes back into its place
pub put-back : (hand : List (Option Slip)) (j : ℕ) (s : Slip) → in_hand hand j ≡ Some s → set (set hand (j - 1) None) (j - 1) (Some s) ≡ hand
put-back hand j s e =
    set-set hand (j - 1) None (Some s) ∙ ap (set hand (j - 1)) (sym (get_or_from_slice_get hand (j - 1) (Some s) None (place-of hand j s e))) ∙ set-get_or hand (j - 1) None

-- with no slip from a place on, that place is empty
pub empty-there : (hand : List (Option Slip)) (u : ℕ) → slips_in (drop u hand) ≡ 0 → u < length hand → slice_get hand u ≡ Some None
empty-there hand u e h = slice_get-get_or hand u None h ∙ ap Some (by (get_or hand u None) (sym (ap slips_in (drop_more hand u None h)) ∙ e))
  where
    by : (p : Option Slip) → slips_in (p ∷ drop (u + 1) hand) ≡ 0 → p ≡ None
    by None f = refl
    by (Some s) f = let g : slips_in (Some s ∷ drop (u + 1) hand) ≡ 1 + slips_in (drop (u + 1) hand) = sum_by-cons (λ q. cond (is_some q) 1 0) (Some s) (drop (u + 1) hand) in absurd (omega (arith, f, g))

-- how many slips of a kind there are then
module _ (p : Option Slip → Bool) (none : p None ≡ false) where
  pub with-one-less : (hand : List (Option Slip)) (i : ℕ) (s : Slip) → slice_get hand i ≡ Some (Some s) → count_by p hand ≡ count_by p (set hand i None) + cond (p (Some s)) 1 0
  with-one-less hand i s e =
      let f : Option Slip → ℕ = λ q. cond (p q) 1 0 in
      let here : f (get_or hand i None) ≡ cond (p (Some s)) 1 0 = ap f (get_or_from_slice_get hand i (Some s) None e) in
      let empty : f None ≡ 0 = ap (λ t. cond t 1 0) none in
      let both = sum_by-set f hand i None None (slice_get_within hand i (Some s) e) in
      omega (arith, here, empty, both)

  pub with-one-more : (hand : List (Option Slip)) (i : ℕ) (s : Slip) → slice_get hand i ≡ Some None → count_by p (set hand i (Some s)) ≡ count_by p hand + cond (p (Some s)) 1 0
  with-one-more hand i s e =
      let f : Option Slip → ℕ = λ q. cond (p q) 1 0 in
      let here : f (get_or hand i None) ≡ 0 = ap f (get_or_from_slice_get hand i None None e) ∙ ap (λ t. cond t 1 0) none in
      let both = sum_by-set f hand i (Some s) None (slice_get_within hand i None e) in
      omega (arith, here, both)

-- a refused waive or pay hands back the slip that it took
pub waive-hands-back : (t : Bool) (n : ℕ) (f s : Slip) → returned n f ≡ cond t (returned 10 s) done → f ≡ s
waive-hands-back true n f s e = cc
waive-hands-back false n f s e = absurd cc

pub pay-hands-back : (o : Outcome) (n : ℕ) (f s : Slip) (own own' : Memory) → unpaid n f own ≡ pay_answer s own' o → f ≡ s
pay-hands-back (refused m) n f s own own' e = cc
pay-hands-back (shaped w) n f s own own' e = absurd cc

-- taken out, and put back
pub back-in : (hand out in_ : List (Option Slip)) (j : ℕ) (s f : Slip) → in_hand hand j ≡ Some s → out ≡ set hand (j - 1) None → f ≡ s → in_ ≡ set out (j - 1) (Some f) → in_ ≡ hand
back-in hand out in_ j s f found taken same put =
    put ∙ ap (λ h. set h (j - 1) (Some f)) taken ∙ ap (λ q. set (set hand (j - 1) None) (j - 1) (Some q)) same ∙ put-back hand j s found
