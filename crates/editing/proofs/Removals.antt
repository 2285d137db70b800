-- Glyphs that are removed one after the other, the nearest first.
use Rattle.std.proofs.Common.{◌≡◌, ℕ, suc, ◌+◌, ◌-◌, ◌<◌, ◌≤◌, List, [], ◌∷◌, ◌++◌, map, length, get_or, take, drop, refl, sym, ap, ap₂, subst, ◌∙◌, append_assoc, arith, length-append, length-take, length-drop}
use Rattle.std.proofs.lemmas.List.{drop_more, drop_all, drop-drop, take-append-drop, take_more}
use lib.Seq.{take-add, take_at, drop_at, length-take-le}
use Rattle.model.specs.declared.Glyph.{Glyph}
use Rattle.model.specs.Edits.{Frame, removals, told, without}
use Rattle.matching.specs.Seek.{Outward, mets_at}
use Rattle.editing.specs.Frames.{edit}
use Rattle.editing.proofs.Moves.{told-append_all}
use Rattle.editing.proofs.Opens.{past, past-more}

told-none : (fs : List Frame) → map (told []) fs ≡ fs
told-none [] = refl
told-none (f ∷ fs) = ap (λ l. f ∷ l) (told-none fs)

-- gs and fs: the glyphs and the open matches before; now and ns: those after k removals. The next search begins at index i, which stands at position at now.
pub record Left (gs now : List Glyph) (fs ns : List Frame) (from k i at : ℕ) (met : List ℕ) : Type 0 where
  pub place : at + k ≡ from + i
  pub low : k ≤ i
  pub len : length now + k ≡ length gs
  pub rising : Outward i (length gs - from) (drop k met)
  pub glyphs : (hs : List Glyph) → take at now ++ without (mets_at hs i (drop k met)) (drop at now) ≡ take from gs ++ without (mets_at hs 0 met) (drop from gs)
  pub frames : (hs : List Glyph) → map (told (removals at (mets_at hs i (drop k met)))) ns ≡ map (told (removals from (mets_at hs 0 met))) fs

pub left-first : (gs : List Glyph) (fs : List Frame) (from : ℕ) (met : List ℕ) → Outward 0 (length gs - from) met → Left gs gs fs fs from 0 0 (from + 0 - 0) met
left-first gs fs from met o =
    let here : from ≡ from + 0 - 0 = omega arith in
    subst (λ at. Left gs gs fs fs from 0 0 at met) here
    (record { place = omega arith; low = omega arith; len = omega arith; rising = o; glyphs = λ hs. refl; frames = λ hs. refl })

module _ (gs now : List Glyph) (fs ns : List Frame) (from k i at : ℕ) (met : List ℕ) (left : Left gs now fs ns from k i at met) where
  module _ (inside : from ≤ length gs) (more : k < length met) where
    abbrev next : ℕ
    next = get_or met k 0

    split : drop k met ≡ next ∷ drop (k + 1) met
    split = drop_more met k 0 more

    is : (i ≤ next) × (next < length gs - from) × Outward (suc next) (length gs - from) (drop (k + 1) met)
    is = subst (Outward i (length gs - from)) split left.rising

    -- where the next one stands
    pub next-place : (at + (next - i) ≡ from + (next - k)) × (k ≤ next) × (from + (next - k) < length now)
    next-place = (omega (arith, left.place, left.low, is.0), omega (arith, left.low, is.0), omega (arith, left.len, is.1, left.low, is.0, inside))

    module _ (now' : List Glyph) (ns' : List Frame) (removed : now' ≡ take (from + (next - k)) now ++ drop (suc (from + (next - k))) now) (told-next : ns' ≡ map (told (edit (from + (next - k)) 0)) ns) where
      abbrev place' : ℕ
      place' = from + (next - k)

      abbrev gap : ℕ
      gap = next - i

      fits : place' ≤ length now
      fits = omega (arith, next-place.2)

      at-is : at + gap ≡ place'
      at-is = next-place.0

      before : take place' now' ≡ take at now ++ take gap (drop at now)
      before =
          ap (take place') removed ∙ take_at (take place' now) (drop (suc place') now) place' (length-take-le place' now fits)
          ∙ ap (λ n. take n now) (sym at-is) ∙ take-add at gap now

      behind : drop place' now' ≡ drop (suc gap) (drop at now)
      behind =
          let on : at + suc gap ≡ suc place' = omega (arith, at-is) in
          ap (drop place') removed ∙ drop_at (take place' now) (drop (suc place') now) place' (length-take-le place' now fits)
          ∙ ap (λ n. drop n now) (sym on) ∙ sym (drop-drop (suc gap) at now)

      pub left-more : (i' : ℕ) → i' ≡ suc next → Left gs now' fs ns' from (k + 1) i' (from + i' - (k + 1)) met
      left-more i' e =
          let there : from + suc next - (k + 1) ≡ place' = omega (arith, next-place.1) in
          let short : length now' + 1 ≡ length now = ap (λ l. length l + 1) removed ∙ simp (length-append, length-take, length-drop) (omega (arith, next-place.2)) in
          let whole : (hs : List Glyph) → take place' now' ++ without (mets_at hs (suc next) (drop (k + 1) met)) (drop place' now') ≡ take from gs ++ without (mets_at hs 0 met) (drop from gs) = λ hs.
          ap₂ (λ l r. l ++ without (mets_at hs (suc next) (drop (k + 1) met)) r) before behind
          ∙ append_assoc (take at now) (take gap (drop at now)) (without (mets_at hs (suc next) (drop (k + 1) met)) (drop (suc gap) (drop at now)))
          ∙ ap (λ l. take at now ++ without (mets_at hs i l) (drop at now)) (sym split) ∙ left.glyphs hs in
          let all : (hs : List Glyph) → map (told (removals place' (mets_at hs (suc next) (drop (k + 1) met)))) ns' ≡ map (told (removals from (mets_at hs 0 met))) fs = λ hs.
          let ms = mets_at hs (suc next) (drop (k + 1) met) in
          ap (map (told (removals place' ms))) told-next
          ∙ sym (told-append_all (edit place' 0) (removals place' ms) ns)
          ∙ ap (λ a. map (told (edit a 0 ++ removals a ms)) ns) (sym at-is)
          ∙ ap (λ l. map (told (removals at (mets_at hs i l))) ns) (sym split) ∙ left.frames hs in
          let on : Left gs now' fs ns' from (k + 1) (suc next) place' met =
          record { place = omega (arith, next-place.1); low = omega (arith, next-place.1); len = omega (arith, short, left.len); rising = is.2; glyphs = whole; frames = all } in
          subst (λ j. Left gs now' fs ns' from (k + 1) j (from + j - (k + 1)) met) (sym e) (subst (λ a. Left gs now' fs ns' from (k + 1) (suc next) a met) (sym there) on)

  pub left-none : length met ≤ k → (hs : List Glyph) → (now ≡ take from gs ++ without (mets_at hs 0 met) (drop from gs)) × (ns ≡ map (told (removals from (mets_at hs 0 met))) fs)
  left-none all hs =
      let none : drop k met ≡ [] = drop_all k met all in (
        sym (take-append-drop at now) ∙ ap (λ l. take at now ++ without (mets_at hs i l) (drop at now)) (sym none) ∙ left.glyphs hs,
        sym (told-none ns) ∙ ap (λ l. map (told (removals at (mets_at hs i l))) ns) (sym none) ∙ left.frames hs,
      )

-- where the search goes on after one more
pub past-take : (k : ℕ) (met : List ℕ) → k < length met → past 0 (take (k + 1) met) ≡ suc (get_or met k 0)
past-take k met more = ap (past 0) (take_more met k 0 more) ∙ past-more 0 (take k met) (get_or met k 0)
