-- By computation.
use Rattle.std.proofs.Common.{◌≡◌, ℕ, List, [], ◌∷◌, map, length, sum_by, refl, ap, ◌∙◌, inl, arith}
use Rattle.gsub.specs.Rules.{array_at, counted_array}
use Rattle.model.specs.declared.Glyph.{Glyph}
use Rattle.model.specs.Examples.{◌∶◌}
use Rattle.model.specs.Laws.{raise}
use Rattle.model.specs.Shaping.{Shaped as ShapedText, ends, hits, misses, refused, shaped}
use Rattle.model.proofs.Outcomes.{at_most_one}
use Rattle.paragraph.specs.Calls.{clear, denied, done, gives, is_blank, is_shaped, kept, line, owes, paid, pay, returned, shape, unpaid, waive}
use Rattle.paragraph.specs.Step.{Step}
use Rattle.paragraph.specs.Law.{EachAlone, History, Outlasts, Right, ShapedAlone, made, next}
use Rattle.paragraph.specs.Example.{Refuted, Worked, calls, course, fix, fresh, full, no_room, paragraph, room_for_two, slip, untied}
use Rattle.paragraph.proofs.Alone.{shaping_inputs}

pub shapes : Step fix fresh (is_blank 7) shape done (is_shaped (paragraph 0)) full
shapes = (shaped _, (_, omega arith, inl (_, hits refl refl (misses refl refl (ends refl refl)), refl), refl), refl, refl, refl)

pub pays : Step fix full (is_shaped (paragraph 1)) (pay slip (room_for_two (0 ∶ 0) (8 ∷ 8 ∷ []))) (gives (paid 0 1 1 0 (room_for_two (1 ∶ 0) (0 ∷ 0 ∷ [])))) (is_shaped (paragraph 0)) full
pays = (shaped _, (_, omega arith, inl (_, misses refl refl (ends refl refl), refl), refl), refl, refl, refl)

first : History 7 calls (is_shaped (paragraph 0)) (course (paid 0 1 1 0 (room_for_two (1 ∶ 0) (0 ∷ 0 ∷ [])) ∷ kept 0 2 0 1 ∷ []))
first =
    next fix full (waive slip) (returned 10 slip) (is_shaped (paragraph 0)) full
    (next fix full (pay slip (room_for_two (0 ∶ 0) (8 ∷ 8 ∷ []))) (gives (paid 0 1 1 0 (room_for_two (1 ∶ 0) (0 ∷ 0 ∷ [])))) (is_shaped (paragraph 0)) full
    (next fix full (pay slip (no_room 8)) (unpaid 8 slip (no_room 0)) (is_shaped (paragraph 1)) full
    (next fix full clear (denied 11) (is_shaped (paragraph 1)) full
    (next fix full (line 0 1) (owes slip) (is_shaped (paragraph 1)) full
    (next fix full (line 0 2) (gives (kept 0 2 0 1)) (is_shaped (paragraph 0)) full
    (next fix fresh shape done (is_shaped (paragraph 0)) full made tt shapes)
    (refl, refl) (refl, refl, refl))
    (refl, refl) (refl, refl, refl))
    (refl, refl) (refl, refl, refl))
    (refl, refl) (refused 8, inl (omega arith, refl), refl, refl, refl))
    (refl, refl) pays)
    (refl, refl) (refl, refl, refl)

pub worked : Worked
unfolding array_at counted_array
worked = record {
  accepted = refl;
  history = first;
  again = next fix fresh shape done (is_shaped (paragraph 0)) full (next fix full clear done (is_blank 7) full first (refl, refl) (refl, refl, refl)) tt shapes;
  cuts = (omega arith, omega arith, refl, (omega arith, omega arith, refl, (omega arith, omega arith, refl, tt)));
  parts = refl;
  width = refl;
}

-- f alone, and i x alone
f-alone : (w : ShapedText) × ShapedAlone fix untied 0 1 w × (w.run ≡ 1 ∶ 0 ∷ [])
f-alone = (_, (_, omega arith, inl (_, misses refl refl (ends refl refl), refl), refl), refl)

ix-alone : (w : ShapedText) × ShapedAlone fix untied 1 3 w × (length w.run ≡ 2)
ix-alone = (_, (_, omega arith, inl (_, misses refl refl (misses refl refl (ends refl refl)), refl), refl), refl)

one-shaped : (w w' : ShapedText) → shaped w ≡ shaped w' → w ≡ w'
one-shaped w w' e = cc

run-of-f : (w : ShapedText) → ShapedAlone fix untied 0 1 w → w.run ≡ 1 ∶ 0 ∷ []
run-of-f w p = ap (λ u. u.run) (one-shaped w f-alone.0 (at_most_one (shaping_inputs fix untied) (1 ∷ []) (shaped w) (shaped f-alone.0) p f-alone.1)) ∙ f-alone.2

run-of-ix : (w : ShapedText) → ShapedAlone fix untied 1 3 w → length w.run ≡ 2
run-of-ix w p = ap (λ u. length u.run) (one-shaped w ix-alone.0 (at_most_one (shaping_inputs fix untied) (2 ∷ 5 ∷ []) (shaped w) (shaped ix-alone.0) p ix-alone.1)) ∙ ix-alone.2

abbrev first-glyph : List Glyph → ℕ
first-glyph [] = 0
first-glyph (g ∷ gs) = g.glyph

no-line : Right fix full (kept 0 1 0 1) → ⊥
no-line (w, p, n, r, m) =
    let f : 4 ∶ 0 ∷ [] ≡ 1 ∶ 0 ∷ [] = r ∙ ap (map (raise 0)) (run-of-f w p) in
    let z : ◌≡◌ {A = ℕ} 4 1 = ap first-glyph f in
    omega (arith, z)

-- the cut inside the ligature: f and i x have three glyphs, and the paragraph two
too-many : (parts : List ShapedText) → EachAlone fix untied ((1 ∷ []) ∷ (2 ∷ 5 ∷ []) ∷ []) parts → 2 ≡ sum_by (λ p. length p.run) parts → ⊥
too-many [] a n = a
too-many (w ∷ []) a n = a.1
too-many (w ∷ v ∷ []) a n = omega (arith, n, ap length (run-of-f w a.0), run-of-ix v a.1.0)
too-many (w ∷ v ∷ u ∷ ps) a n = a.1.1

no-cut : Outlasts (paragraph 0) (record { inputs = fix; filled = untied; memory = untied; lines = [] }) → ⊥
no-cut (same, right, law) = let l = law (1 ∷ []) (omega arith, omega arith, refl, tt) in too-many l.0 l.1 l.4

pub refuted : Refuted
refuted = record { wrong_line = no-line; no_ties = no-cut }
