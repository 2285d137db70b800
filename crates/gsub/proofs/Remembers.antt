-- What is remembered, and one thing more.
use Rattle.std.proofs.Common.{◌≡◌, ℕ, ◌^◌, ◌<◌, Bool, true, false, cond, not, eqb, ltb, List, length, get_or, set, replicate, None, sym, refl, ap, ◌∙◌, subst, arith, get_or-set_other, get_or-set_same}
use lib.Bits.{bit_and, bit_or, and_zero_l}
use lib.ListN.{get_or-replicate, length-replicate}
use Rattle.std.proofs.lemmas.List.{get_or_past}
use Rattle.std.proofs.lemmas.Bool.Decides.{nat_tests}
use Rattle.std.proofs.lemmas.Nat.{and_or_apart, pow_apart}
use Rattle.layout.specs.Faults.{first_in}
use Rattle.gsub.specs.declared.seen.Kind.{Kind}
use Rattle.gsub.specs.declared.seen.Kind.TheVariants.{Coverage, Classes, LigatureSet, RuleSet, ChainRuleSet, Single, Multiple, Alternate, Ligature, Context, Chain, Reverse, Lookup}
use Rattle.gsub.specs.Seen.{NothingSeen, faults_of, index, remembered, Sound}

pub sound-at : (t : List ℕ) (n : ℕ) (seen : List ℕ) (kind : Kind) (s : ℕ) → Sound t n seen → remembered seen kind s ≡ true → first_in (faults_of kind t n s) ≡ None
unfolding Sound
sound-at t n seen kind s sound e = sound kind s e

-- the kind that a bit stands for
abbrev kind_at : ℕ → Kind
kind_at n =
    cond (eqb n 0) Coverage (cond (eqb n 1) Classes (cond (eqb n 2) LigatureSet (cond (eqb n 3) RuleSet (cond (eqb n 4) ChainRuleSet (cond (eqb n 5) Single (cond (eqb n 6) Multiple (cond (eqb n 7) Alternate (cond (eqb n 8) Ligature (cond (eqb n 9) Context (cond (eqb n 10) Chain (cond (eqb n 11) Reverse Lookup)))))))))))

kind-of-index : (k : Kind) → kind_at (index k) ≡ k
kind-of-index Coverage = refl
kind-of-index Classes = refl
kind-of-index LigatureSet = refl
kind-of-index RuleSet = refl
kind-of-index ChainRuleSet = refl
kind-of-index Single = refl
kind-of-index Multiple = refl
kind-of-index Alternate = refl
kind-of-index Ligature = refl
kind-of-index Context = refl
kind-of-index Chain = refl
kind-of-index Reverse = refl
kind-of-index Lookup = refl

same_kind : (j k : Kind) → index j ≡ index k → j ≡ k
same_kind j k e = sym (kind-of-index j) ∙ ap kind_at e ∙ kind-of-index k

-- bit j of x with bit k more is bit j of x
set_before : (x k j : ℕ) → (j ≡ k → ⊥) → not (eqb (bit_and (bit_or x (2 ^ k)) (2 ^ j)) 0) ≡ true → not (eqb (bit_and x (2 ^ j)) 0) ≡ true
set_before x k j apart h = rw (and_or_apart (2 ^ j) x (2 ^ k) (pow_apart k j (λ e. apart (sym e)))) at h

module _ (t : List ℕ) (n : ℕ) (seen : List ℕ) (kind : Kind) (s : ℕ) (inside : s < length seen) (sound : Sound t n seen) (clean : first_in (faults_of kind t n s) ≡ None) where
  here-by : (other : Kind) (b : Bool) → eqb (index other) (index kind) ≡ b → not (eqb (bit_and (bit_or (get_or seen s 0) (2 ^ index kind)) (2 ^ index other)) 0) ≡ true → first_in (faults_of other t n s) ≡ None
  here-by other true e h = subst (λ k. first_in (faults_of k t n s) ≡ None) (sym (same_kind other kind (grind (arith, nat_tests)))) clean
  here-by other false e h =
      sound-at t n seen other s sound (set_before (get_or seen s 0) (index kind) (index other) (grind (arith, nat_tests)) h)

  at-by : (other : Kind) (q : ℕ) (b : Bool) → eqb q s ≡ b → remembered (set seen s (bit_or (get_or seen s 0) (2 ^ index kind))) other q ≡ true → first_in (faults_of other t n q) ≡ None
  at-by other q true e h =
      let same : q ≡ s = grind (arith, nat_tests) in
      let at-s = subst (λ u. remembered (set seen s (bit_or (get_or seen s 0) (2 ^ index kind))) other u ≡ true) same h in
      let read = get_or-set_same seen s (bit_or (get_or seen s 0) (2 ^ index kind)) 0 inside in
      subst (λ u. first_in (faults_of other t n u) ≡ None) (sym same)
      (here-by other (eqb (index other) (index kind)) refl (subst (λ u. not (eqb (bit_and u (2 ^ index other)) 0) ≡ true) read at-s))
  at-by other q false e h =
      let apart : q ≡ s → ⊥ = grind (arith, nat_tests) in
      let read = get_or-set_other seen s q (bit_or (get_or seen s 0) (2 ^ index kind)) 0 apart in
      sound-at t n seen other q sound (subst (λ u. not (eqb (bit_and u (2 ^ index other)) 0) ≡ true) read h)

  pub sound_more : Sound t n (set seen s (bit_or (get_or seen s 0) (2 ^ index kind)))
  unfolding Sound
  sound_more = λ other q h. at-by other q (eqb q s) refl h

-- at first nothing is remembered
pub sound_none : (t : List ℕ) (n : ℕ) (seen : List ℕ) → NothingSeen seen → Sound t n seen
unfolding Sound
sound_none t n seen none = λ kind s h.
    let bits = and_zero_l (2 ^ index kind) in
    let e : not (eqb (bit_and (get_or seen s 0) (2 ^ index kind)) 0) ≡ false = ap (λ u. not (eqb (bit_and u (2 ^ index kind)) 0)) (none s) ∙ ap (λ u. not (eqb u 0)) bits in
    let z : ◌≡◌ {A = Bool} false true = sym e ∙ h in
    absurd cc

-- zeros, and nothing past them
zero-by : (m s : ℕ) (b : Bool) → ltb s m ≡ b → ◌≡◌ {A = ℕ} (get_or (replicate m 0) s 0) 0
zero-by m s true e = get_or-replicate m s 0 0 (grind (arith, nat_tests))
zero-by m s false e = let n : length (replicate {A = ℕ} m 0) ≡ m = length-replicate m 0 in get_or_past (replicate m 0) s 0 (grind (arith, nat_tests))

pub zeros : (m : ℕ) → NothingSeen (replicate m 0)
zeros m = λ s. zero-by m s (ltb s m) refl
