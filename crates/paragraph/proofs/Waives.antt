-- The waives behind a list of calls.
use Rattle.std.proofs.Common.{◌≡◌, ℕ, zero, suc, ◌+◌, cond, count_by, List, [], ◌∷◌, ◌++◌, None, Option, refl, sym, ap, ◌∙◌, subst, arith}
use Rattle.std.proofs.lemmas.List.Sums.{sum_by_push}
use Rattle.paragraph.specs.declared.calls.Call.TheVariants.{Waive}
use Rattle.paragraph.specs.declared.slip.Slip.{Slip}
use Rattle.paragraph.specs.Calls.{Answer, Call, Memory}
use Rattle.paragraph.specs.Performs.{Performs, Said, begun, desk, is_waived, nothing, on, still_blank, unknown, waives}

pub waives-more : (n : ℕ) → waives (n + 1) ≡ waives n ++ Waive (n + 1) ∷ []
waives-more n = let e : n + 1 ≡ suc n = omega arith in subst (λ m. waives m ≡ waives n ++ Waive m ∷ []) (sym e) refl

-- a blank paragraph knows none of them
pub of-blank : (b : ℕ) (hand : List (Option Slip)) (used : ℕ) (m own : Memory) (n : ℕ)
    → (said : List Said) × (hs : List (Call × Answer)) × Performs (desk (still_blank b) hand used m own) (waives n) said hs nothing (desk (still_blank b) hand used m own) × (0 ≡ count_by is_waived said)
of-blank b hand used m own zero = ([], [], begun refl, refl)
of-blank b hand used m own (suc n) =
    let before = of-blank b hand used m own n in
    (before.0 ++ unknown ∷ [], before.1, on (Waive (suc n)) unknown None before.2 (refl, refl) refl refl refl refl, omega (arith, before.3, sum_by_push (λ s. cond (is_waived s) 1 0) before.0 unknown))
