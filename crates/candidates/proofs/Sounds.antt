-- A subtable without faults is sound.
use Rattle.std.proofs.Common.{◌≡◌, ◌≢◌, ℕ, ◌+◌, ◌*◌, ◌-◌, ◌<◌, ◌≤◌, Bool, true, false, leb, List, ◌++◌, drop, Some, None, refl, sym, ap, subst, ◌∙◌, arith}
use Rattle.std.proofs.lemmas.Bool.{leb-true}
use Rattle.layout.specs.Bytes.{u16_at}
use Rattle.layout.specs.Classes.{class_faults}
use Rattle.layout.specs.Coverages.{coverage_faults, coverage_ranges}
use Rattle.layout.specs.Faults.{first_in, extent, counted_extent}
use Rattle.layout.specs.Ranges.{size}
use Rattle.layout.proofs.Firsts.{none-parts, unless-none}
use Rattle.gsub.specs.declared.arrays.Array.{Array}
use Rattle.gsub.specs.declared.arrays.Entries.TheVariants.{All, ButFirst}
use Rattle.gsub.specs.Candidates.{entry, index}
use Rattle.gsub.specs.Follow.{Faults, each_behind, list_faults}
use Rattle.gsub.specs.Forms.{Form, delta, single, multiple, alternate, ligature, glyph_rules, class_rules, coverage_rule, reverse, form_of}
use Rattle.gsub.specs.Rules.{past, array_at, rule_of, counts_of, coverages, records_of, rule_faults}
use Rattle.gsub.specs.Subtables.{class_count, class_sets, coverage_of, enough, form_faults, by_form, indexed, ligature_faults, ligature_set_faults, reverse_arrays, reverse_faults, reverse_rule, rule_set_faults, sequence_faults, sets_faults, subtable_faults}
use Rattle.candidates.specs.Asked.{AllCover, Classifies, Covers}
use Rattle.candidates.specs.Sets.{FewInputs, ligature_inputs, rule_inputs}
use Rattle.candidates.specs.Sound.{Classed, Context, Covered, EachSet, IfThere, Sound}
use Rattle.candidates.proofs.Follows.{behind-none, covered-index, each-none, each-null}
use Rattle.candidates.proofs.Parts.{class-part, coverage-part, coverage_ranges-part, u16-part}
use Rattle.candidates.proofs.RuleParts.{Moved, array-behind, array-moved, counted-count, inputs-between, rule-moved}

module _ (t : List ℕ) (n s : ℕ) where
  -- the coverage
  covered : first_in (coverage_of t s) ≡ None → Covered (drop s t)
  covered e =
      let o = u16-part t s 2 (s + 2) refl in
      coverage-part t s (u16_at (drop s t) 2) (s + u16_at t (s + 2)) (ap (λ u. s + u) o) (behind-none t s (s + 2) (coverage_faults t) e)

  -- an index lies in an array that has enough entries
  within : (i : ℕ) → first_in (coverage_of t s) ≡ None → first_in (enough t s i) ≡ None → (g k : ℕ) → index (drop s t) g ≡ Some k → k < u16_at t i
  within i c e g k found =
      let o = u16-part t s 2 (s + 2) refl in
      let lies = covered-index (drop s t) (u16_at (drop s t) 2) g k (covered c) found in
      let same : size (coverage_ranges t (s + u16_at t (s + 2))) ≡ size (coverage_ranges (drop s t) (u16_at (drop s t) 2)) =
      ap size (coverage_ranges-part t s (u16_at (drop s t) 2) (s + u16_at t (s + 2)) (ap (λ u. s + u) o)) in
      let all : leb (size (coverage_ranges t (s + u16_at t (s + 2)))) (u16_at t i) ≡ true = unless-none (leb (size (coverage_ranges t (s + u16_at t (s + 2)))) (u16_at t i)) 4 s i e in
      let le = leb-true (size (coverage_ranges t (s + u16_at t (s + 2)))) (u16_at t i) all in
      omega arith

  indexed-parts : first_in (indexed t s) ≡ None → (first_in (coverage_of t s) ≡ None) × (first_in (enough t s (s + 4)) ≡ None)
  indexed-parts e =
      let p = none-parts (extent t s (s + 2) 2 2) _ e in
      let q = none-parts (extent t s (s + 6) 2 (u16_at t (s + 4))) _ p.1 in
      none-parts (coverage_of t s) _ q.1

  -- the set at an index
  set-at : (i : ℕ) → s + u16_at t ((s + 6) + 2 * i) ≡ s + entry (drop s t) i
  set-at i = ap (λ u. s + u) (u16-part t s (6 + 2 * i) ((s + 6) + 2 * i) (omega arith))

  sets : (faults : Faults) (Set : ℕ → Type 0) → ((i : ℕ) → first_in (faults (s + i)) ≡ None → Set i) → first_in (sets_faults false t s faults) ≡ None → Covered (drop s t) × EachSet (drop s t) Set
  sets faults Set each e =
      let p = none-parts (indexed t s) _ e in
      let c = indexed-parts p.0 in (
        covered c.0,
        λ g i found. each (entry (drop s t) i)
            (subst (λ q. first_in (faults q) ≡ None) (set-at i) (each-none t s (s + 6) (u16_at t (s + 4)) faults p.1 i (within (s + 4) c.0 c.1 g i found))),
      )

  null-sets : (faults : Faults) (Set : ℕ → Type 0) → ((i : ℕ) → first_in (faults (s + i)) ≡ None → Set i) → first_in (sets_faults true t s faults) ≡ None → Covered (drop s t) × EachSet (drop s t) (IfThere (drop s t) Set)
  null-sets faults Set each e =
      let p = none-parts (indexed t s) _ e in
      let c = indexed-parts p.0 in (
        covered c.0,
        λ g i found there.
            let o = u16-part t s (6 + 2 * i) ((s + 6) + 2 * i) (omega arith) in
            each (entry (drop s t) i)
            (subst (λ q. first_in (faults q) ≡ None) (set-at i) (each-null t s (s + 6) (u16_at t (s + 4)) faults p.1 i (within (s + 4) c.0 c.1 g i found) (subst (λ u. u ≢ 0) (sym o) there))),
      )

  -- the rules of a set have few inputs, where each rule without faults has
  few-from : (rule : Faults) (inputs : ℕ → ℕ) → ((i : ℕ) → first_in (rule (s + i)) ≡ None → inputs i ≤ 63) → (i : ℕ) → first_in (list_faults t (s + i) rule) ≡ None → FewInputs (drop s t) inputs i
  few-from rule inputs each i e = λ k h.
      let p = none-parts (counted_extent t (s + i) (s + i) 2) _ e in
      let n = u16-part t s i (s + i) refl in
      let o = u16-part t s (i + 2 + 2 * k) (((s + i) + 2) + 2 * k) (omega arith) in
      let place : (s + i) + u16_at t (((s + i) + 2) + 2 * k) ≡ s + (i + u16_at (drop s t) (i + 2 + 2 * k)) = omega arith in
      each (i + u16_at (drop s t) (i + 2 + 2 * k)) (subst (λ q. first_in (rule q) ≡ None) place (each-none t (s + i) ((s + i) + 2) (u16_at t (s + i)) rule p.1 k (omega arith)))

  few-components : (i : ℕ) → first_in (ligature_faults t (s + i)) ≡ None → ligature_inputs (drop s t) i ≤ 63
  few-components i e =
      let p = none-parts (extent t (s + i) (s + i) 2 1) _ e in
      let b = counted-count t (s + i) ((s + i) + 2) 1 ButFirst p.1 in
      let u = u16-part t s (i + 2) ((s + i) + 2) (omega arith) in
      omega arith

  few-inputs : (chain : Bool) (i : ℕ) → first_in (rule_faults chain t n (s + i)) ≡ None → rule_inputs (drop s t) chain i ≤ 63
  few-inputs chain i e =
      let p = none-parts (counts_of chain t (s + i) (s + i) ButFirst) _ e in
      let b = inputs-between chain t (s + i) (s + i) ButFirst p.0 in
      let m = (rule-moved t s chain i (s + i) ButFirst refl).input.count in
      let c : (rule_of chain t (s + i) ButFirst).input.count ≡ b.0 - 1 = b.1 in
      let few : b.0 ≤ 64 = b.3 in
      omega arith

  few-rules : (chain : Bool) (i : ℕ) → first_in (rule_set_faults (rule_faults chain t n) t (s + i)) ≡ None → FewInputs (drop s t) (rule_inputs (drop s t) chain) i
  few-rules chain = few-from (rule_faults chain t n) (rule_inputs (drop s t) chain) (few-inputs chain)

  -- class definitions and sets of classes
  module _ (m : ℕ) (faults : Faults) (e : first_in (class_sets t s m faults) ≡ None) where
    tail : first_in (coverage_of t s ++ (each_behind true t s (s + 4) m (class_faults t) ++ each_behind true t s (s + 6 + 2 * m) (u16_at t (s + 4 + 2 * m)) faults)) ≡ None
    tail =
        let p = none-parts (extent t s (s + 2) 2 (m + 2)) _ e in
        (none-parts (extent t s (s + 6 + 2 * m) 2 (u16_at t (s + 4 + 2 * m))) _ p.1).1

    classes-covered : Covered (drop s t)
    classes-covered = covered (none-parts (coverage_of t s) _ tail).0

    arrays : (first_in (each_behind true t s (s + 4) m (class_faults t)) ≡ None) × (first_in (each_behind true t s (s + 6 + 2 * m) (u16_at t (s + 4 + 2 * m)) faults) ≡ None)
    arrays = none-parts (each_behind true t s (s + 4) m (class_faults t)) _ (none-parts (coverage_of t s) _ tail).1

    classifies : (k i : ℕ) → k < m → i ≡ 4 + 2 * k → Classifies (drop s t) (u16_at (drop s t) i)
    classifies k i h at = λ there.
        let o = u16-part t s i ((s + 4) + 2 * k) (omega arith) in
        class-part t s (u16_at (drop s t) i) (s + u16_at t ((s + 4) + 2 * k)) (ap (λ u. s + u) o)
        (each-null t s (s + 4) m (class_faults t) arrays.0 k h (subst (λ u. u ≢ 0) (sym o) there))

    class-sets : (Set : ℕ → Type 0) → ((i : ℕ) → first_in (faults (s + i)) ≡ None → Set i) → (k : ℕ) → k < u16_at (drop s t) (4 + 2 * m) → IfThere (drop s t) Set (u16_at (drop s t) (6 + 2 * m + 2 * k))
    class-sets Set each k h = λ there.
        let c = u16-part t s (4 + 2 * m) (s + 4 + 2 * m) (omega arith) in
        let o = u16-part t s (6 + 2 * m + 2 * k) ((s + 6 + 2 * m) + 2 * k) (omega arith) in
        each (u16_at (drop s t) (6 + 2 * m + 2 * k))
        (subst (λ q. first_in (faults q) ≡ None) (ap (λ u. s + u) o)
        (each-null t s (s + 6 + 2 * m) (u16_at t (s + 4 + 2 * m)) faults arrays.1 k (omega arith) (subst (λ u. u ≢ 0) (sym o) there)))

  classed : (chain : Bool) → first_in (class_sets t s (class_count chain) (rule_set_faults (rule_faults chain t n) t)) ≡ None → Classed (drop s t) chain
  classed false e =
      let all = classifies 1 (rule_set_faults (rule_faults false t n) t) e in
      record {
        backtrack = all 0 4 (omega arith) (omega arith);
        input = all 0 4 (omega arith) (omega arith);
        lookahead = all 0 4 (omega arith) (omega arith);
        sets = class-sets 1 (rule_set_faults (rule_faults false t n) t) e (FewInputs (drop s t) (rule_inputs (drop s t) false)) (few-rules false);
      }
  classed true e =
      let all = classifies 3 (rule_set_faults (rule_faults true t n) t) e in
      record {
        backtrack = all 0 4 (omega arith) (omega arith);
        input = all 1 6 (omega arith) (omega arith);
        lookahead = all 2 8 (omega arith) (omega arith);
        sets = class-sets 3 (rule_set_faults (rule_faults true t n) t) e (FewInputs (drop s t) (rule_inputs (drop s t) true)) (few-rules true);
      }

  -- coverages that an array lists
  all-cover : (a b : Array) → Moved t s a b → first_in (coverages t s a) ≡ None → AllCover (drop s t) b
  all-cover a b m e = λ k h.
      let at = m.at in
      let count = m.count in
      let o = u16-part t s (b.at + 2 * k) (a.at + 2 * k) (omega arith) in
      coverage-part t s (u16_at (drop s t) (b.at + 2 * k)) (s + u16_at t (a.at + 2 * k)) (ap (λ u. s + u) o) (each-none t s a.at a.count (coverage_faults t) e k (omega arith))

  first-covers : (b : Array) → 0 < b.count → AllCover (drop s t) b → Covers (drop s t) (u16_at (drop s t) b.at)
  first-covers b h all = let z : b.at + 2 * 0 ≡ b.at = omega arith in subst (λ i. Covers (drop s t) (u16_at (drop s t) i)) z (all 0 h)

  others-cover : (b : Array) → AllCover (drop s t) b → AllCover (drop s t) (record { at = b.at + 2; count = b.count - 1 })
  others-cover b all = λ k h.
      let z : b.at + 2 * (k + 1) ≡ b.at + 2 + 2 * k = omega arith in
      subst (λ i. Covers (drop s t) (u16_at (drop s t) i)) z (all (k + 1) (omega arith))

  context : (chain : Bool) → first_in (form_faults t n s (coverage_rule chain)) ≡ None → Context (drop s t) (rule_of chain (drop s t) 2 All)
  context chain e =
      let r = rule_of chain t (s + 2) All in
      let q = rule_of chain (drop s t) 2 All in
      let p = none-parts (counts_of chain t s (s + 2) All) _ e in
      let c = none-parts (records_of t n s r) _ p.1 in
      let x = none-parts (coverages t s r.backtrack) _ c.1 in
      let y = none-parts (coverages t s r.input) _ x.1 in
      let b = inputs-between chain t s (s + 2) All p.0 in
      let m = rule-moved t s chain 2 (s + 2) All refl in
      let same = m.input.count in
      let is : r.input.count ≡ b.0 = b.1 in
      let low : 1 ≤ b.0 = b.2 in
      let high : b.0 ≤ 64 = b.3 in
      let inputs = all-cover r.input q.input m.input y.0 in
      record {
        few = omega arith;
        backtrack = all-cover r.backtrack q.backtrack m.backtrack x.0;
        own = first-covers q.input (omega arith) inputs;
        input = others-cover q.input inputs;
        lookahead = all-cover r.lookahead q.lookahead m.lookahead y.1;
      }

  reversed : first_in (reverse_faults t s) ≡ None → Covered (drop s t) × AllCover (drop s t) (array_at (drop s t) 4 All) × AllCover (drop s t) (array_at (drop s t) (past (array_at (drop s t) 4 All)) All)
  reversed e =
      let r = reverse_rule t s in
      let p = none-parts (reverse_arrays t s) _ e in
      let c = none-parts (coverage_of t s) _ p.1 in
      let d = none-parts (enough t s (past r.lookahead)) _ c.1 in
      let x = none-parts (coverages t s r.backtrack) _ d.1 in
      let y = none-parts (coverages t s r.input) _ x.1 in
      let back = array-moved t s 4 (s + 4) All refl in
      let ahead = array-behind t s (array_at t (s + 4) All) (array_at (drop s t) 4 All) All back in (
        covered c.0,
        all-cover r.backtrack (array_at (drop s t) 4 All) back x.0,
        all-cover r.lookahead (array_at (drop s t) (past (array_at (drop s t) 4 All)) All) ahead y.1,
      )

  indexed-covered : first_in (indexed t s) ≡ None → Covered (drop s t)
  indexed-covered e = covered (indexed-parts e).0

  few-glyphs : (i : ℕ) → first_in (sequence_faults t (s + i)) ≡ None → u16_at (drop s t) i ≤ 64
  few-glyphs i e = subst (λ u. u ≤ 64) (u16-part t s i (s + i) refl) (counted-count t (s + i) (s + i) 1 All e).1

  form-sound : (f : Form) → first_in (form_faults t n s f) ≡ None → Sound (drop s t) f
  form-sound delta e = covered (none-parts (extent t s (s + 2) 2 2) _ e).1
  form-sound single e = indexed-covered e
  form-sound multiple e = sets (sequence_faults t) (λ i. u16_at (drop s t) i ≤ 64) few-glyphs e
  form-sound alternate e = indexed-covered (none-parts (indexed t s) _ e).0
  form-sound ligature e = sets (ligature_set_faults t) (FewInputs (drop s t) (ligature_inputs (drop s t))) (few-from (ligature_faults t) (ligature_inputs (drop s t)) few-components) e
  form-sound (glyph_rules chain) e = null-sets (rule_set_faults (rule_faults chain t n) t) (FewInputs (drop s t) (rule_inputs (drop s t) chain)) (few-rules chain) e
  form-sound (class_rules chain) e = (classes-covered (class_count chain) (rule_set_faults (rule_faults chain t n) t) e, classed chain e)
  form-sound (coverage_rule chain) e = context chain e
  form-sound reverse e = reversed e

  pub subtable-sound : (ty : ℕ) (f : Form) → first_in (subtable_faults t n s ty) ≡ None → form_of ty (u16_at (drop s t) 0) ≡ Some f → Sound (drop s t) f
  subtable-sound ty f e is =
      let p = none-parts (extent t s s 2 1) _ e in
      let u = u16-part t s 0 s (omega arith) in
      form-sound f (subst (λ o. first_in (by_form t n s o) ≡ None) (ap (form_of ty) u ∙ is) p.1)
