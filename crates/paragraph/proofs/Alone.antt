-- A text that is no longer than another is refused no earlier, in memory that is as long.
use Rattle.std.proofs.Common.{◌≡◌, ℕ, zero, suc, ◌-◌, ◌≤◌, Bool, true, false, cond, List, [], ◌∷◌, length, take, drop, slice_range, zero-le, Some, None, Option, refl, sym, ap, ◌∙◌, subst, arith}
use Rattle.std.proofs.lemmas.List.{length-drop}
use Rattle.gsub.specs.Meaning.{gsub_means}
use Rattle.gsub.specs.Tables.{lookup_count}
use Rattle.model.specs.Limits.{plan_fits, sizes_fit}
use Rattle.model.specs.Laws.{Alone, pieces}
use Rattle.model.specs.Shaping.{Inputs as ShapingInputs, Outcome, Shaped, shaped}
use Rattle.paragraph.specs.Calls.{Comes, Inputs, Memory, by_first, first_refusal}
use Rattle.paragraph.specs.Law.{EachAlone}

-- what shaping reads for an inputs' limit and the room of memory
abbrev pub shaping_inputs : Inputs → Memory → ShapingInputs
shaping_inputs x m = record { font = x.source.font; table = gsub_means x.table; plan = x.plan; limit = x.limit; room = length m.run }

by-none : (t u : Bool) → cond {A = Option ℕ} t (cond u None (Some 5)) (Some 6) ≡ None → (t ≡ true) × (u ≡ true)
by-none true true e = (refl, refl)
by-none true false e = absurd cc
by-none false u e = absurd cc

sizes-less : (a b r k l : ℕ) → a ≤ b → sizes_fit b r k l ≡ true → sizes_fit a r k l ≡ true
sizes-less a b r k l h e = grind (arith, h, e)

module _ (x : Inputs) (limit : ℕ) where
  pub none-parts : (text : List ℕ) (m : Memory) → first_refusal x limit text m ≡ None → (sizes_fit (length text) (length m.run) (length m.marks) limit ≡ true) × (plan_fits (lookup_count x.table) x.plan ≡ true)
  none-parts text m e = by-none (sizes_fit (length text) (length m.run) (length m.marks) limit) (plan_fits (lookup_count x.table) x.plan) e

  pub none-less : (text u : List ℕ) (m m' : Memory) → length u ≤ length text → length m'.run ≡ length m.run → length m'.marks ≡ length m.marks → first_refusal x limit text m ≡ None → first_refusal x limit u m' ≡ None
  none-less text u m m' h r k e =
      let p = none-parts text m e in
      let sizes : sizes_fit (length u) (length m'.run) (length m'.marks) limit ≡ true =
      subst (λ n. sizes_fit (length u) n (length m'.marks) limit ≡ true) (sym r) (subst (λ n. sizes_fit (length u) (length m.run) n limit ≡ true) (sym k) (sizes-less (length u) (length text) (length m.run) (length m.marks) limit h p.0)) in
      ap (λ t. cond {A = Option ℕ} t (cond (plan_fits (lookup_count x.table) x.plan) None (Some 5)) (Some 6)) sizes ∙ ap (λ t. cond {A = Option ℕ} t None (Some 5)) p.1

  -- an accepted text was not refused before it was shaped
  pub accepted-parts : (text : List ℕ) (m : Memory) (w : Shaped) → Comes x limit text m (shaped w) → (first_refusal x limit text m ≡ None) × by_first x limit text m None (shaped w)
  accepted-parts text m w c = by (first_refusal x limit text m) refl c
    where
      by : (f : Option ℕ) → first_refusal x limit text m ≡ f → by_first x limit text m f (shaped w) → (first_refusal x limit text m ≡ None) × by_first x limit text m None (shaped w)
      by (Some n) e h = absurd cc
      by None e h = (e, h)

  pub accepted-from : (text : List ℕ) (m : Memory) (o : Outcome) → first_refusal x limit text m ≡ None → by_first x limit text m None o → Comes x limit text m o
  accepted-from text m o e h = subst (λ f. by_first x limit text m f o) (sym e) h

-- none of them is longer
abbrev pub Shorter : List ℕ → List (List ℕ) → Type 0
Shorter text [] = Unit {0}
Shorter text (t ∷ ts) = (length t ≤ length text) × Shorter text ts

shorter-on : (text u : List ℕ) (ts : List (List ℕ)) → length u ≤ length text → Shorter u ts → Shorter text ts
shorter-on text u [] h s = tt
shorter-on text u (t ∷ ts) h s = (let r : length t ≤ length text = omega (arith, h, s.0) in r, shorter-on text u ts h s.1)

take-few : (n : ℕ) (xs : List ℕ) → length (take n xs) ≤ length xs
take-few zero xs = zero-le
take-few (suc n) [] = zero-le
take-few (suc n) (x ∷ xs) = let few = take-few n xs in omega (arith, few)

pub pieces-shorter : (a : ℕ) (cuts : List ℕ) (text : List ℕ) → Shorter text (pieces a cuts text)
pieces-shorter a [] text = (let r : length text ≤ length text = omega arith in r, tt)
pieces-shorter a (c ∷ cuts) text =
    (take-few (c - a) text, shorter-on text (drop (c - a) text) (pieces c cuts (drop (c - a) text)) (simp length-drop (omega arith)) (pieces-shorter c cuts (drop (c - a) text)))

pub range-shorter : (text : List ℕ) (a b : ℕ) → length (slice_range text a b) ≤ length text
range-shorter text a b = let few = take-few (b - a) (drop a text) in let less : length (drop a text) ≤ length text = simp length-drop (omega arith) in omega (arith, few, less)

-- what is shaped alone by the definitions of shaping, is by those of paragraphs
pub each-alone : (x : Inputs) (m : Memory) (text : List ℕ) → first_refusal x x.limit text m ≡ None → (ts : List (List ℕ)) (ps : List Shaped) → Shorter text ts → Alone (shaping_inputs x m) ts ps → EachAlone x m ts ps
each-alone x m text e [] [] s a = tt
each-alone x m text e [] (p ∷ ps) s a = a
each-alone x m text e (t ∷ ts) [] s a = a
each-alone x m text e (t ∷ ts) (p ∷ ps) s a =
    (accepted-from x x.limit t m (shaped p) (none-less x x.limit text t m m s.0 refl refl e) a.0, each-alone x m text e ts ps s.1 a.1)
