-- From a text's first run to its outcome.
use Rattle.std.proofs.Common.{◌≡◌, ℕ, zero, suc, ◌≤◌, false, not, List, [], length, get_or, replicate, Ok, Err, Result, refl, sym, ap, ◌∙◌, subst, inr, eqb, arith}
use Rattle.std.proofs.Math.Path.{fun_ext}
use Rattle.std.proofs.lemmas.List.{length-replicate}
use Rattle.font.specs.Font.{Font}
use Rattle.model.specs.declared.Entry.{Entry}
use Rattle.model.specs.declared.Glyph.{Glyph}
use Rattle.model.specs.Shaping.{Ending, Runs, accepted, laid, marks, start, stopped}
use Rattle.model.proofs.Cut.{laid_in}
use Rattle.model.proofs.Rises.{laid-rising}
use Rattle.shaping.specs.declared.stop.Stop.{Stop}
use Rattle.shaping.specs.Attempts.{Ready, inputs_of, stop_number}
use Rattle.shaping.specs.First.{Filled, Marked, first_state}

pub first-ready : (font : Font) (text : List ℕ) (run : List Glyph) (n : ℕ) → run ≡ laid font 0 text → n ≡ length text → Ready n (first_state run [])
first-ready font text run n e h =
    subst (λ l. Ready n (first_state l [])) (sym e) (laid-rising font 0 text, laid_in font 0 n text (omega (arith, h)))

-- nothing is tied where all marks are zero
none-tied : (n b : ℕ) → not (eqb (get_or (replicate n 0) b 0) 0) ≡ false
none-tied zero b = refl
none-tied (suc n) zero = refl
none-tied (suc n) (suc b) = none-tied n b

start-is : (font : Font) (text : List ℕ) (run : List Glyph) (n : ℕ) (ms : List ℕ) → run ≡ laid font 0 text → ms ≡ replicate n 0 → first_state run ms ≡ start font text
start-is font text run n ms e z = ap (first_state run) z ∙ λ i. record { run = e i; tied = fun_ext (none-tied n) i; hits = 0 }

module _ (font : Font) (t : List ℕ) (plan : List Entry) (limit room room' : ℕ) (r : room' ≡ room) (text : List ℕ) (fits : length text ≤ room) (n : ℕ) (long : n ≡ length text) (run₀ : List Glyph) (lain : run₀ ≡ laid font 0 text) (ms₀ : List ℕ) (clear : ms₀ ≡ replicate n 0) where
  moved : (z : Ending) → Runs (inputs_of font t plan limit room') plan (first_state run₀ ms₀) z → Runs (inputs_of font t plan limit room) plan (start font text) z
  moved z p = subst (λ q. Runs (inputs_of font t plan limit room) plan q z) (start-is font text run₀ n ms₀ lain clear) (subst (λ q. Runs (inputs_of font t plan limit q) plan (first_state run₀ ms₀) z) r p)

  pub filled-by : (result : Result ℕ Stop) (run : List Glyph) (ms : List ℕ) → Marked (inputs_of font t plan limit room') (first_state run₀ ms₀) (length ms₀) result run ms → Filled (inputs_of font t plan limit room) text result run ms
  filled-by (Err stop) run ms h =
      inr (fits, moved (stopped (stop_number stop)) h)
  filled-by (Ok hits) run ms (s, p, a, b, m) =
      let count : length ms₀ ≡ length text = ap length clear ∙ length-replicate n 0 ∙ long in (
        s,
        fits,
        moved (accepted s) p,
        λ i. record { run = sym a i; marks = (m ∙ ap (marks s 0) count) i; hits = sym b i },
      )

-- by a value between
pub via : {A : Type 0} {x z : A} (y : A) → x ≡ y → y ≡ z → x ≡ z
via y p q = p ∙ q
