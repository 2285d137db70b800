-- What the code answers to shape and to pay is a step.
use Rattle.std.proofs.Common.{◌≡◌, ℕ, ◌-◌, ◌&&◌, ◌||◌, ◌==◌, true, false, cond, length, nat_le, nat_lt, Ok, Err, refl, sym, ap, ◌∙◌, subst}
use Rattle.model.specs.Shaping.{Outcome, refused, shaped}
use Rattle.shaping.specs.declared.refusal.Refusal.{Refusal as ShapingRefusal}
use Rattle.shaping.specs.declared.refusal.Refusal.TheVariants.{Plan, Size, HitLimit, Room}
use Rattle.shaping.specs.declared.shape.Laid.{Laid}
use Rattle.shaping.specs.Shape.{refusal_number as shaping_number}
use Rattle.paragraph.specs.declared.shaped.Shaped.{Shaped}
use Rattle.paragraph.specs.declared.slip.Slip.{Slip}
use Rattle.paragraph.specs.Calls.{Answer, Comes, Inputs, Memory, denied, done, first_refusal, gives, is_blank, is_shaped, kept, left_by, owes, paid, pay, shape, unpaid}
use Rattle.paragraph.specs.Step.{Pays, Step, characters, foreign, free, line_answer, owing, pay_leaves, records, too_small, wrong_ends}
use Rattle.paragraph.specs.Told.{Filled, of_shaping, refusal_number}

pub same-number : (f : ShapingRefusal) → refusal_number (of_shaping f) ≡ shaping_number f
same-number Plan = refl
same-number Size = refl
same-number HitLimit = refl
same-number Room = refl

module _ (x : Inputs) (m m' : Memory) where
  pub shape-accepted : (n : ℕ) (laid : Laid) → Filled x x.limit x.text m (Ok laid) m'
      → Step x m (is_blank n) shape done (is_shaped (record { number = n; length = length x.text; count = laid.glyphs; hits = laid.hits; limit = x.limit; owed = 0 })) m'
  shape-accepted n laid (o, c, (w, e, g, h), l) = (
    shaped w,
    subst (Comes x x.limit x.text m) e c,
    refl,
    (λ i. is_shaped (record { number = n; length = length x.text; count = g i; hits = h i; limit = x.limit; owed = 0 })),
    l ∙ ap (λ q. left_by (first_refusal x x.limit x.text m) q m) e,
  )

  pub shape-refused : (n : ℕ) (f : ShapingRefusal) → Filled x x.limit x.text m (Err f) m' → Step x m (is_blank n) shape (denied (shaping_number f)) (is_blank n) m'
  shape-refused n f (o, c, e, l) = (refused (shaping_number f), subst (Comes x x.limit x.text m) e c, refl, refl, l ∙ ap (λ q. left_by (first_refusal x x.limit x.text m) q m) e)

module _ (x : Inputs) (k : Shaped) (s : Slip) (own m : Memory) where
  pub pay-foreign : foreign k s ≡ true → Step x m (is_shaped k) (pay s own) (unpaid 10 s own) (is_shaped k) m
  pay-foreign e = (
    refused 10,
    subst (λ t. cond t (refused 10 ≡ refused 10) (cond (wrong_ends x s) (refused 10 ≡ refused 9) (Comes x k.limit (characters x s) own (refused 10)))) (sym e) refl,
    ap (unpaid 10 s) (sym (ap (λ t. cond t own (cond (wrong_ends x s) own (left_by (first_refusal x k.limit (characters x s) own) (refused 10) own))) e)),
    refl,
    refl,
  )

  module _ (e : foreign k s ≡ false) where
    leaves : (o : Outcome) → pay_leaves x k s own o ≡ cond (wrong_ends x s) own (left_by (first_refusal x k.limit (characters x s) own) o own)
    leaves o = ap (λ t. cond t own (cond (wrong_ends x s) own (left_by (first_refusal x k.limit (characters x s) own) o own))) e

    pub pay-ends : wrong_ends x s ≡ true → Step x m (is_shaped k) (pay s own) (unpaid 9 s own) (is_shaped k) m
    pay-ends f = (
      refused 9,
      subst (λ t. cond t (refused 9 ≡ refused 10) (cond (wrong_ends x s) (refused 9 ≡ refused 9) (Comes x k.limit (characters x s) own (refused 9)))) (sym e)
          (subst (λ t. cond t (refused 9 ≡ refused 9) (Comes x k.limit (characters x s) own (refused 9))) (sym f) refl),
      ap (unpaid 9 s) (sym (leaves (refused 9) ∙ ap (λ t. cond t own (left_by (first_refusal x k.limit (characters x s) own) (refused 9) own)) f)),
      refl,
      refl,
    )

    module _ (f : wrong_ends x s ≡ false) (own' : Memory) where
      pays : (o : Outcome) → Comes x k.limit (characters x s) own o → Pays x k s own o
      pays o c =
          subst (λ t. cond t (o ≡ refused 10) (cond (wrong_ends x s) (o ≡ refused 9) (Comes x k.limit (characters x s) own o))) (sym e)
          (subst (λ t. cond t (o ≡ refused 9) (Comes x k.limit (characters x s) own o)) (sym f) c)

      left-is : (o : Outcome) → pay_leaves x k s own o ≡ left_by (first_refusal x k.limit (characters x s) own) o own
      left-is o = leaves o ∙ ap (λ t. cond t own (left_by (first_refusal x k.limit (characters x s) own) o own)) f

      pub pay-refused : (g : ShapingRefusal) → Filled x k.limit (characters x s) own (Err g) own' → Step x m (is_shaped k) (pay s own) (unpaid (shaping_number g) s own') (is_shaped k) m
      pay-refused g (o, c, q, l) = (
        refused (shaping_number g),
        pays (refused (shaping_number g)) (subst (Comes x k.limit (characters x s) own) q c),
        ap (unpaid (shaping_number g) s) (l ∙ ap (λ u. left_by (first_refusal x k.limit (characters x s) own) u own) q ∙ sym (left-is (refused (shaping_number g)))),
        refl,
        refl,
      )

      pub pay-accepted : (laid : Laid) → Filled x k.limit (characters x s) own (Ok laid) own' → Step x m (is_shaped k) (pay s own) (gives (paid s.first s.last laid.glyphs laid.hits own')) (is_shaped (owing k (k.owed - 1))) m
      pay-accepted laid (o, c, (w, q, g, h), l) =
          let left = l ∙ ap (λ u. left_by (first_refusal x k.limit (characters x s) own) u own) q ∙ sym (left-is (shaped w)) in (
            shaped w,
            pays (shaped w) (subst (Comes x k.limit (characters x s) own) q c),
            (λ i. gives (paid s.first s.last (g i) (h i) (left i))),
            refl,
            refl,
          )

-- LINE
module _ (k : Shaped) (m : Memory) (a b : ℕ) (e : (nat_le b a || nat_lt k.length b) ≡ false) (f : too_small k m ≡ false) where
  abbrev last : Answer
  last = cond (k.owed == 65535) (denied 11) (owes (record { number = k.number; first = a; last = b }))

  abbrev keeps : Answer
  keeps = gives (kept a b (records k m a b).first (records k m a b).count)

  by-freedom : line_answer k m a b ≡ cond (free k m a && free k m b) keeps last
  by-freedom =
      ap (λ t. cond t (denied 9) (cond (too_small k m) (denied 6) (cond (free k m a && free k m b) keeps last))) e
      ∙ ap (λ t. cond t (denied 6) (cond (free k m a && free k m b) keeps last)) f

  pub line-kept : (free k m a && free k m b) ≡ true → line_answer k m a b ≡ keeps
  line-kept g = by-freedom ∙ ap (λ t. cond t keeps last) g

  pub line-full : (free k m a && free k m b) ≡ false → (k.owed == 65535) ≡ true → line_answer k m a b ≡ denied 11
  line-full g h = by-freedom ∙ ap (λ t. cond t keeps last) g ∙ ap (λ t. cond t (denied 11) (owes (record { number = k.number; first = a; last = b }))) h

  pub line-owed : (free k m a && free k m b) ≡ false → (k.owed == 65535) ≡ false → line_answer k m a b ≡ owes (record { number = k.number; first = a; last = b })
  line-owed g h = by-freedom ∙ ap (λ t. cond t keeps last) g ∙ ap (λ t. cond t (denied 11) (owes (record { number = k.number; first = a; last = b }))) h
