-- As many slips lie in the hand as at the start and as are owed, and enough of them are the paragraph's own: so nothing is owed once each was waived.
use Rattle.std.proofs.Common.{◌≡◌, ℕ, zero, suc, ◌-◌, ◌+◌, ◌<◌, ◌≤◌, Bool, true, false, cond, not, ◌&&◌, ◌||◌, ◌==◌, count_by, List, [], ◌∷◌, ◌++◌, drop, get_or, length, nat_le, nat_lt, reverse, set, sum_by, Some, None, Option, refl, sym, ap, ◌∙◌, subst, subst₂, inl, inr, ◌⊎◌, arith}
use Rattle.std.specs.Prelude.{is_none, is_some, slice_get, unwrap_or}
use Rattle.std.specs.List.{prefix_len, suffix_len}
use Rattle.std.proofs.lemmas.Bool.{cases_lt, eq-eqb, eqb-true, eqb-false, leb-false, ltb-false, ne_eqb, or_parts}
use Rattle.std.proofs.lemmas.List.{append-nil, append_assoc, drop_all, drop_more, drop-drop, drop-set-add, drop-set-lt, get_or-drop, get_or-reverse, get_or_default, length-append, length-drop, length-reverse, same_from_push, set_past}
use Rattle.std.proofs.lemmas.List.Sums.{prefix_len_passes, suffix_len-le-length, sum_by-cons, sum_by-set}
use Rattle.std.proofs.lemmas.Option.{unwrap_or-slice_get}
use Rattle.model.specs.Shaping.{Outcome, refused, shaped}
use Rattle.paragraph.specs.declared.calls.Call.TheVariants.{Shape, Line as LineOf, Pay, Waive, Clear}
use Rattle.paragraph.specs.declared.shaped.Shaped.{Shaped}
use Rattle.paragraph.specs.declared.slip.Slip.{Slip}
use Rattle.paragraph.specs.Calls.{Answer, Call, Comes, Inputs, Memory, Paragraph, clear, denied, done, gives, is_blank, is_shaped, kept, line, owes, paid, pay, returned, shape, unpaid, waive}
use Rattle.paragraph.specs.Hand.{held, in_hand, is_of, places_used, slips_in, slips_of}
use Rattle.paragraph.specs.Step.{Pays, Step, after, characters, foreign, free, line_answer, pay_answer, pay_leaves, records, shape_answer, shape_leaves, too_small, waive_answer, wrong_ends}
use Rattle.paragraph.specs.Performs.{Asked, Desk, Does, Performs, Run, Said, Subject, asked_of, begun, hand_after, makes, no_place, not_in_hand, on, owed_by, paragraph_of, says, shaped_from, start, still_blank, subject_of, used_after, waives, with_slip}
use Rattle.paragraph.proofs.Hands.{empty-there, place-of, with-one-less, with-one-more}

abbrev number_of : Subject → ℕ
number_of (still_blank n) = n
number_of (shaped_from x k) = k.number

-- COUNTS
none-there : (xs : List (Option Slip)) → ((k : ℕ) → k < length xs → is_none (get_or xs k None) ≡ true) → slips_in xs ≡ 0
none-there [] h = refl
none-there (None ∷ xs) h = omega (arith, sum_by-cons (λ q. cond (is_some q) 1 0) None xs, none-there xs (λ k l. h (suc k) (omega (arith, l))))
none-there (Some s ∷ xs) h = let e : false ≡ true = h 0 (omega arith) in absurd cc

pub none-behind : (hand : List (Option Slip)) → slips_in (drop (places_used hand) hand) ≡ 0
none-behind hand = none-there (drop (places_used hand) hand) (λ k l.
    let empty : ℕ = suffix_len is_none hand in
    let i : ℕ = length hand - 1 - (length hand - empty + k) in
    let some : k < empty = omega (arith, simp length-drop at l) in
    let fits : empty ≤ length hand = suffix_len-le-length is_none hand in
    let from-end : length hand - 1 - i ≡ length hand - empty + k = omega (arith, some, fits) in
    let turned : get_or (reverse hand) i None ≡ get_or hand (length hand - empty + k) None = get_or-reverse hand i None (omega (arith, some, fits)) ∙ ap (λ n. get_or hand n None) from-end in
    ap is_none (get_or-drop (length hand - empty) hand k None ∙ sym turned) ∙ prefix_len_passes is_none (reverse hand) i None (omega (arith, some, fits)))

less-or-same : (p : Option Slip → Bool) → p None ≡ false → (xs : List (Option Slip)) (i : ℕ) → count_by p (set xs i None) ≤ count_by p xs
less-or-same p none xs i = by (cases_lt i (length xs))
  where
    by : (i < length xs) ⊎ (length xs ≤ i) → count_by p (set xs i None) ≤ count_by p xs
    by (inl h) =
        let f : Option Slip → ℕ = λ q. cond (p q) 1 0 in
        let empty : f None ≡ 0 = ap (λ t. cond t 1 0) none in
        omega (arith, empty, sum_by-set f xs i None None h)
    by (inr h) = let e = ap (count_by p) (set_past xs i None h) in omega (arith, e)

-- from one place to the next
one-place : (p : Option Slip → Bool) (hand : List (Option Slip)) (n : ℕ) → n < length hand → count_by p (drop n hand) ≡ cond (p (get_or hand n None)) 1 0 + count_by p (drop (n + 1) hand)
one-place p hand n h = ap (count_by p) (drop_more hand n None h) ∙ sum_by-cons (λ q. cond (p q) 1 0) (get_or hand n None) (drop (n + 1) hand)

-- a slip of that number is a slip
of-number-le : (number : ℕ) (xs : List (Option Slip)) → slips_of number xs ≤ slips_in xs
of-number-le number [] = omega arith
of-number-le number (None ∷ xs) = omega (arith, of-number-le number xs, sum_by-cons (λ q. cond (is_some q) 1 0) None xs, sum_by-cons (λ q. cond (is_of number q) 1 0) None xs)
of-number-le number (Some s ∷ xs) = by (s.number == number) refl (of-number-le number xs)
  where
    by : (t : Bool) → (s.number == number) ≡ t → slips_of number xs ≤ slips_in xs → slips_of number (Some s ∷ xs) ≤ slips_in (Some s ∷ xs)
    by true e h = let f = ap (λ t. cond {A = ℕ} t 1 0) e in omega (arith, f, h, sum_by-cons (λ q. cond (is_some q) 1 0) (Some s) xs, sum_by-cons (λ q. cond (is_of number q) 1 0) (Some s) xs)
    by false e h = let f = ap (λ t. cond {A = ℕ} t 1 0) e in omega (arith, f, h, sum_by-cons (λ q. cond (is_some q) 1 0) (Some s) xs, sum_by-cons (λ q. cond (is_of number q) 1 0) (Some s) xs)

-- WHAT EACH CALL KEEPS
record Safe (number slips at owed : ℕ) (hand : List (Option Slip)) (used : ℕ) : Type 0 where
  same : at ≡ number
  bound : owed ≤ slips_of number hand
  total : slips_in hand ≡ owed + slips
  behind : slips_in (drop used hand) ≡ 0

module _ (number slips : ℕ) where
  abbrev IsSafe : Subject → List (Option Slip) → (used : ℕ) → Type 0
  IsSafe s hand used = Safe number slips (number_of s) (owed_by s) hand used

  -- a slip that is the paragraph's own leaves
  taken-safe : (k : Shaped) (hand : List (Option Slip)) (used j : ℕ) (s : Slip) → Safe number slips k.number k.owed hand used → in_hand hand j ≡ Some s → foreign k s ≡ false
      → Safe number slips k.number (k.owed - 1) (set hand (j - 1) None) used
  taken-safe k hand used j s h found own =
      let parts = or_parts (not (s.number == k.number)) (k.owed == 0) own in
      let place = place-of hand j s found in
      let same : (s.number == number) ≡ true = ap (λ n. s.number == n) (sym h.same) ∙ negated (s.number == k.number) parts.0 in
      let one : ◌≡◌ {A = ℕ} (cond (s.number == number) 1 0) 1 = ap (λ t. cond t 1 0) same in
      let some : k.owed ≡ 0 → ⊥ = eqb-false k.owed 0 parts.1 in
      let mine = with-one-less (is_of number) refl hand (j - 1) s place in
      let all = with-one-less is_some refl hand (j - 1) s place in
      record {
        same = h.same;
        bound = omega (arith, h.bound, mine, one);
        total = omega (arith, h.total, all, some);
        behind = by (cases_lt (j - 1) used);
      }
    where
      negated : (t : Bool) → not t ≡ false → t ≡ true
      negated true e = refl
      negated false e = absurd cc

      by : (j - 1 < used) ⊎ (used ≤ j - 1) → slips_in (drop used (set hand (j - 1) None)) ≡ 0
      by (inl l) = ap slips_in (drop-set-lt used hand (j - 1) None l) ∙ h.behind
      by (inr l) =
          let i : j - 1 ≡ used + (j - 1 - used) = omega (arith, l) in
          let e = ap slips_in (ap (λ i. drop used (set hand i None)) i ∙ drop-set-add used hand (j - 1 - used) None) in
          omega (arith, e, h.behind, less-or-same is_some refl (drop used hand) (j - 1 - used))

  -- a slip is given out into an empty place
  given-safe : (k : Shaped) (hand : List (Option Slip)) (used : ℕ) (s : Slip) → Safe number slips k.number k.owed hand used → used < length hand → s.number ≡ k.number
      → Safe number slips k.number (k.owed + 1) (set hand used (Some s)) (used + 1)
  given-safe k hand used s h room own =
      let here = one-place is_some hand used room in
      let empty : slice_get hand used ≡ Some None = empty-there hand used h.behind room in
      let same : (s.number == number) ≡ true = eq-eqb s.number number (own ∙ h.same) in
      let one : ◌≡◌ {A = ℕ} (cond (s.number == number) 1 0) 1 = ap (λ t. cond t 1 0) same in
      let mine = with-one-more (is_of number) refl hand used s empty in
      let all = with-one-more is_some refl hand used s empty in
      let past = ap slips_in (drop-set-lt (used + 1) hand used (Some s) (omega arith)) in
      record {
        same = h.same;
        bound = omega (arith, h.bound, mine, one);
        total = omega (arith, h.total, all);
        behind = omega (arith, past, here, h.behind);
      }

  shape-safe : (n : ℕ) (x : Inputs) (hand : List (Option Slip)) (used : ℕ) (d : Desk) (y : Inputs) → d.hand ≡ hand → Safe number slips n 0 hand used → (o : Outcome)
      → IsSafe (subject_of x (shape_leaves n x o)) (hand_after d (Shape y) (shape_answer o)) (used_after used (shape_answer o))
  shape-safe n x hand used d y e h (refused j) = subst (λ q. Safe number slips n 0 q used) (sym e) h
  shape-safe n x hand used d y e h (shaped w) = subst (λ q. Safe number slips n 0 q used) (sym e) h

  -- line
  module _ (x : Inputs) (k : Shaped) (d : Desk) (m : Memory) (a b : ℕ) (h : Safe number slips k.number k.owed d.hand d.used) (room : d.used < length d.hand) where
    abbrev After : Answer → Type 0
    After r = IsSafe (subject_of x (is_shaped (after k r))) (hand_after d (LineOf a b) r) (used_after d.used r)

    by-line : (t₁ t₂ t₃ t₄ : Bool) → After (cond t₁ (denied 9) (cond t₂ (denied 6) (cond t₃ (gives (kept a b (records k m a b).first (records k m a b).count)) (cond t₄ (denied 11) (owes (record { number = k.number; first = a; last = b }))))))
    by-line true t₂ t₃ t₄ = h
    by-line false true t₃ t₄ = h
    by-line false false true t₄ = h
    by-line false false false true = h
    by-line false false false false = given-safe k d.hand d.used (record { number = k.number; first = a; last = b }) h room refl

    line-safe : After (line_answer k m a b)
    line-safe = by-line (nat_le b a || nat_lt k.length b) (too_small k m) (free k m a && free k m b) (k.owed == 65535)

  -- pay and waive
  module _ (x : Inputs) (k : Shaped) (d : Desk) (j : ℕ) (s : Slip) (h : Safe number slips k.number k.owed d.hand d.used) (found : in_hand d.hand j ≡ Some s) where
    pay-safe : (y : Inputs) (own own' : Memory) (o : Outcome) → Pays y k s own o → IsSafe (subject_of x (is_shaped (after k (pay_answer s own' o)))) (hand_after d (Pay j) (pay_answer s own' o)) (used_after d.used (pay_answer s own' o))
    pay-safe y own own' (refused n) p = h
    pay-safe y own own' (shaped w) p = taken-safe k d.hand d.used j s h found (by (foreign k s) refl p)
      where
        by : (t : Bool) → foreign k s ≡ t → cond t (shaped w ≡ refused 10) (cond (wrong_ends y s) (shaped w ≡ refused 9) (Comes y k.limit (characters y s) own (shaped w))) → foreign k s ≡ false
        by true e q = absurd cc
        by false e q = e

    waive-safe : (t : Bool) → foreign k s ≡ t → IsSafe (subject_of x (is_shaped (after k (cond t (returned 10 s) done)))) (hand_after d (Waive j) (cond t (returned 10 s) done)) (used_after d.used (cond t (returned 10 s) done))
    waive-safe true e = h
    waive-safe false e = taken-safe k d.hand d.used j s h found e

  clear-safe : (x : Inputs) (k : Shaped) (d : Desk) → Safe number slips k.number k.owed d.hand d.used → (t : Bool) → nat_lt 0 k.owed ≡ t
      → IsSafe (subject_of x (cond t (is_shaped k) (is_blank k.number))) (hand_after d Clear (cond t (denied 11) done)) (used_after d.used (cond t (denied 11) done))
  clear-safe x k d h true e = h
  clear-safe x k d h false e =
      let none : k.owed ≤ 0 = ltb-false 0 k.owed e in
      record { same = h.same; bound = omega arith; total = omega (arith, h.total, none); behind = h.behind }

  -- what a call that was made left
  abbrev LeavesSafe : Desk → Asked → Inputs → Answer → Paragraph → Type 0
  LeavesSafe d c x r p = IsSafe (subject_of x p) (hand_after d c r) (used_after d.used r)

  line-kept : (y x : Inputs) (k : Shaped) (d : Desk) (m : Memory) (a b : ℕ) (call : Call) (r : Answer) (p : Paragraph) (m' : Memory) (t : Bool) → Safe number slips k.number k.owed d.hand d.used
      → nat_le (length d.hand) d.used ≡ t → cond t (says no_place) (makes y (line a b)) ≡ makes x call → Step x m (is_shaped k) call r p m' → LeavesSafe d (LineOf a b) x r p
  line-kept y x k d m a b call r p m' true h e f step = absurd cc
  line-kept y x k d m a b call r p m' false h e f step =
      let is : line a b ≡ call = cc in
      let s = subst (λ q. Step x m (is_shaped k) q r p m') (sym is) step in
      subst₂ (LeavesSafe d (LineOf a b) x) (sym s.0) (sym (s.1 ∙ ap (λ r. is_shaped (after k r)) s.0)) (line-safe x k d m a b h (leb-false (length d.hand) d.used e))

  pay-kept : (y x : Inputs) (k : Shaped) (d : Desk) (m : Memory) (j : ℕ) (call : Call) (r : Answer) (p : Paragraph) (m' : Memory) (o : Option Slip) → Safe number slips k.number k.owed d.hand d.used
      → in_hand d.hand j ≡ o → with_slip y (λ s. pay s d.own) o ≡ makes x call → Step x m (is_shaped k) call r p m' → LeavesSafe d (Pay j) x r p
  pay-kept y x k d m j call r p m' None h e f step = absurd cc
  pay-kept y x k d m j call r p m' (Some s) h e f step =
      let is : pay s d.own ≡ call = cc in
      let t = subst (λ q. Step x m (is_shaped k) q r p m') (sym is) step in
      subst₂ (LeavesSafe d (Pay j) x) (sym t.2) (sym (t.3 ∙ ap (λ r. is_shaped (after k r)) t.2)) (pay-safe x k d j s h e x d.own (pay_leaves x k s d.own t.0) t.0 t.1)

  waive-kept : (y x : Inputs) (k : Shaped) (d : Desk) (m : Memory) (j : ℕ) (call : Call) (r : Answer) (p : Paragraph) (m' : Memory) (o : Option Slip) → Safe number slips k.number k.owed d.hand d.used
      → in_hand d.hand j ≡ o → with_slip y waive o ≡ makes x call → Step x m (is_shaped k) call r p m' → LeavesSafe d (Waive j) x r p
  waive-kept y x k d m j call r p m' None h e f step = absurd cc
  waive-kept y x k d m j call r p m' (Some s) h e f step =
      let is : waive s ≡ call = cc in
      let t = subst (λ q. Step x m (is_shaped k) q r p m') (sym is) step in
      subst₂ (LeavesSafe d (Waive j) x) (sym t.0) (sym (t.1 ∙ ap (λ r. is_shaped (after k r)) t.0)) (waive-safe x k d j s h e (foreign k s) refl)

  keeps : (s : Subject) (d : Desk) (m : Memory) → IsSafe s d.hand d.used → (x : Inputs) (call : Call) (r : Answer) (p : Paragraph) (m' : Memory) (c : Asked)
      → asked_of s d c ≡ makes x call → Step x m (paragraph_of s) call r p m' → LeavesSafe d c x r p
  keeps (still_blank n) d m h x call r p m' (Shape y) e step =
      let is : shape ≡ call = cc in
      let t = subst (λ q. Step x m (is_blank n) q r p m') (sym is) step in
      subst₂ (LeavesSafe d (Shape y) x) (sym t.2) (sym t.3) (shape-safe n x d.hand d.used d y refl h t.0)
  keeps (still_blank n) d m h x call r p m' (LineOf a b) e step = absurd cc
  keeps (still_blank n) d m h x call r p m' (Pay j) e step = absurd cc
  keeps (still_blank n) d m h x call r p m' (Waive j) e step = absurd cc
  keeps (still_blank n) d m h x call r p m' Clear e step = absurd cc
  keeps (shaped_from y k) d m h x call r p m' (Shape z) e step = absurd cc
  keeps (shaped_from y k) d m h x call r p m' (LineOf a b) e step = line-kept y x k d m a b call r p m' (nat_le (length d.hand) d.used) h refl e step
  keeps (shaped_from y k) d m h x call r p m' (Pay j) e step = pay-kept y x k d m j call r p m' (in_hand d.hand j) h refl e step
  keeps (shaped_from y k) d m h x call r p m' (Waive j) e step = waive-kept y x k d m j call r p m' (in_hand d.hand j) h refl e step
  keeps (shaped_from y k) d m h x call r p m' Clear e step =
      let is : clear ≡ call = cc in
      let t = subst (λ q. Step x m (is_shaped k) q r p m') (sym is) step in
      subst₂ (LeavesSafe d Clear x) (sym t.0) (sym t.1) (clear-safe x k d h (nat_lt 0 k.owed) refl)

  abbrev SafeDesk : Desk → Type 0
  SafeDesk d = IsSafe d.subject d.hand d.used

  does-safe : (d e : Desk) (c : Asked) (a : Said) (h : Option (Call × Answer)) → SafeDesk d → Does c a d h e → SafeDesk e
  does-safe d e c a None s (asks, same) = subst SafeDesk (sym same) s
  does-safe d e c a (Some (call, r)) s (x, p, m, asks, step, said, same) = subst SafeDesk (sym same) (keeps d.subject d d.memory s x call r p m c asks step)

  all-safe : {begin : Desk} {cs : List Asked} {said : List Said} {hs : List (Call × Answer)} {gave : Memory} {d : Desk} → SafeDesk begin → Performs begin cs said hs gave d → SafeDesk d
  all-safe s (begun e) = subst SafeDesk (sym e) s
  all-safe s (on {d = d} c a h {e = e} p does i j l g) = does-safe d e c a h (all-safe s p) does

  -- WAIVES: slips of that number from a place on are as many as are owed
  abbrev Bound : (n : ℕ) → Desk → Type 0
  Bound n d = owed_by d.subject ≤ slips_of number (drop n d.hand)

  -- a place that holds no slip of that number counts for nothing
  past-other : (hand : List (Option Slip)) (n owed : ℕ) → owed ≤ slips_of number (drop n hand) → is_of number (get_or hand n None) ≡ false → owed ≤ slips_of number (drop (suc n) hand)
  past-other hand n owed h other = by (cases_lt n (length hand))
    where
      by : (n < length hand) ⊎ (length hand ≤ n) → owed ≤ slips_of number (drop (suc n) hand)
      by (inl l) =
          let none : ◌≡◌ {A = ℕ} (cond (is_of number (get_or hand n None)) 1 0) 0 = ap (λ t. cond t 1 0) other in
          let e : suc n ≡ n + 1 = omega arith in
          let f = ap (λ i. slips_of number (drop i hand)) e in
          omega (arith, h, none, f, one-place (is_of number) hand n l)
      by (inr l) =
          let e = ap (slips_of number) (drop_all n hand l) in
          let none : ◌≡◌ {A = ℕ} (slips_of number []) 0 = refl in
          omega (arith, h, e, none)

  past-own : (hand : List (Option Slip)) (n owed : ℕ) → owed ≤ slips_of number (drop n hand) → owed - 1 ≤ slips_of number (drop (suc n) hand)
  past-own hand n owed h = by (cases_lt n (length hand)) (is_of number (get_or hand n None)) refl
    where
      by : (n < length hand) ⊎ (length hand ≤ n) → (t : Bool) → is_of number (get_or hand n None) ≡ t → owed - 1 ≤ slips_of number (drop (suc n) hand)
      by l false e = let f = past-other hand n owed h e in omega (arith, f)
      by (inl l) true e =
          let one : ◌≡◌ {A = ℕ} (cond (is_of number (get_or hand n None)) 1 0) 1 = ap (λ t. cond t 1 0) e in
          let i : suc n ≡ n + 1 = omega arith in
          let f = ap (λ i. slips_of number (drop i hand)) i in
          omega (arith, h, one, f, one-place (is_of number) hand n l)
      by (inr l) true e =
          let f = ap (slips_of number) (drop_all n hand l) in
          let none : ◌≡◌ {A = ℕ} (slips_of number []) 0 = refl in
          omega (arith, h, f, none)

  -- no slip there
  there-is : (hand : List (Option Slip)) (n : ℕ) (o : Option (Option Slip)) → slice_get hand n ≡ o → get_or hand n None ≡ unwrap_or o None
  there-is hand n o e = sym (unwrap_or-slice_get hand n None) ∙ ap (λ q. unwrap_or q None) e

  empty-place : (hand : List (Option Slip)) (n : ℕ) → in_hand hand (suc n) ≡ None → is_of number (get_or hand n None) ≡ false
  empty-place hand n e = by (slice_get hand n) refl (let i : suc n - 1 ≡ n = omega arith in ap (λ i. held (slice_get hand i)) (sym i) ∙ sym (ap (λ t. cond t None (held (slice_get hand (suc n - 1)))) (ne_eqb (suc n) 0 (λ z. omega (arith, z)))) ∙ e)
    where
      by : (o : Option (Option Slip)) → slice_get hand n ≡ o → held o ≡ None → is_of number (get_or hand n None) ≡ false
      by None f g = ap (is_of number) (there-is hand n None f)
      by (Some None) f g = ap (is_of number) (there-is hand n (Some None) f)
      by (Some (Some s)) f g = absurd cc

  not-made : (s : Subject) (d : Desk) (a : Said) (n : ℕ) → owed_by s ≤ slips_of number (drop n d.hand) → asked_of s d (Waive (suc n)) ≡ says a → owed_by s ≤ slips_of number (drop (suc n) d.hand)
  not-made (still_blank b) d a n h e = omega arith
  not-made (shaped_from x k) d a n h e = by (in_hand d.hand (suc n)) refl e
    where
      by : (o : Option Slip) → in_hand d.hand (suc n) ≡ o → with_slip x waive o ≡ says a → k.owed ≤ slips_of number (drop (suc n) d.hand)
      by None f g = past-other d.hand n k.owed h (empty-place d.hand n f)
      by (Some s) f g = absurd cc

  module _ (k : Shaped) (mine : k.number ≡ number) (hand : List (Option Slip)) (n : ℕ) (h : k.owed ≤ slips_of number (drop n hand)) (q : Slip) (found : in_hand hand (suc n) ≡ Some q) where
    here : slice_get hand n ≡ Some (Some q)
    here = let i : suc n - 1 ≡ n = omega arith in ap (slice_get hand) (sym i) ∙ place-of hand (suc n) q found

    stays-foreign : foreign k q ≡ true → k.owed ≤ slips_of number (drop (suc n) hand)
    stays-foreign e = by (q.number == k.number) (k.owed == 0) refl refl e
      where
        by : (t u : Bool) → (q.number == k.number) ≡ t → (k.owed == 0) ≡ u → (not t || u) ≡ true → k.owed ≤ slips_of number (drop (suc n) hand)
        by t true f g i = let none : k.owed ≡ 0 = eqb-true k.owed 0 g in omega (arith, none)
        by false false f g i = past-other hand n k.owed h (ap (is_of number) (there-is hand n (Some (Some q)) here) ∙ ap (λ m. q.number == m) (sym mine) ∙ f)
        by true false f g i = absurd cc

    goes-own : k.owed - 1 ≤ slips_of number (drop (suc n) (set hand (suc n - 1) None))
    goes-own =
        let e = ap (slips_of number) (drop-set-lt (suc n) hand (suc n - 1) None (omega arith)) in
        let f = past-own hand n k.owed h in
        omega (arith, e, f)

  abbrev Left : Desk → (n : ℕ) → Inputs → Answer → Paragraph → Type 0
  Left d n x r p = owed_by (subject_of x p) ≤ slips_of number (drop (suc n) (hand_after d (Waive (suc n)) r))

  was-made : (s : Subject) (d : Desk) (m₀ : Memory) (n : ℕ) → number_of s ≡ number → owed_by s ≤ slips_of number (drop n d.hand) → (x : Inputs) (call : Call) (r : Answer) (p : Paragraph) (m : Memory)
      → asked_of s d (Waive (suc n)) ≡ makes x call → Step x m₀ (paragraph_of s) call r p m → owed_by (subject_of x p) ≤ slips_of number (drop (suc n) (hand_after d (Waive (suc n)) r))
  was-made (still_blank b) d m₀ n mine h x call r p m e step = absurd cc
  was-made (shaped_from y k) d m₀ n mine h x call r p m e step = by (in_hand d.hand (suc n)) refl e
    where
      either : (q : Slip) → in_hand d.hand (suc n) ≡ Some q → (t : Bool) → foreign k q ≡ t → Left d n x (cond t (returned 10 q) done) (is_shaped (after k (cond t (returned 10 q) done)))
      either q f true g = stays-foreign k mine d.hand n h q f g
      either q f false g = goes-own k mine d.hand n h q f

      by : (o : Option Slip) → in_hand d.hand (suc n) ≡ o → with_slip y waive o ≡ makes x call → Left d n x r p
      by None f g = absurd cc
      by (Some q) f g =
          let is : waive q ≡ call = cc in
          let t = subst (λ c. Step x m₀ (is_shaped k) c r p m) (sym is) step in
          subst₂ (Left d n x) (sym t.0) (sym (t.1 ∙ ap (λ r. is_shaped (after k r)) t.0)) (either q f (foreign k q) refl)

  one-waive : (d e : Desk) (a : Said) (h : Option (Call × Answer)) (n : ℕ) → SafeDesk d → Bound n d → Does (Waive (suc n)) a d h e → Bound (suc n) e
  one-waive d e a None n s b (asks, same) = subst (Bound (suc n)) (sym same) (not-made d.subject d a n b asks)
  one-waive d e a (Some (call, r)) n s b (x, p, m, asks, step, said, same) = subst (Bound (suc n)) (sym same) (was-made d.subject d d.memory n s.same b x call r p m asks step)

  settle : {begin : Desk} (calls : List Asked) → SafeDesk begin → {cs : List Asked} {said : List Said} {hs : List (Call × Answer)} {gave : Memory} {d : Desk} → Performs begin cs said hs gave d
      → (n : ℕ) → cs ≡ calls ++ waives n → Bound n d
  settle calls s p zero e = (all-safe s p).bound
  settle calls s (begun i) (suc n) e = let long = ap length e in absurd (omega (arith, simp length-append at long))
  settle calls s (on {cs = cs} {d = d} c a h {e = d'} p does i j l g) (suc n) e =
      let parts = same_from_push cs (calls ++ waives n) c (Waive (suc n)) (sym i ∙ e ∙ sym (append_assoc calls (waives n) (Waive (suc n) ∷ []))) in
      one-waive d d' a h n (all-safe s p) (settle calls s p n parts.0) (subst (λ q. Does q a d h d') parts.1 does)

module _ (number : ℕ) (hand : List (Option Slip)) (m own : Memory) where
  begins : SafeDesk number (slips_in hand) (start number hand m own)
  begins = record { same = refl; bound = omega arith; total = omega arith; behind = none-behind hand }

  -- behind the places in use no place holds a slip
  pub empty-behind : {cs : List Asked} {said : List Said} {hs : List (Call × Answer)} {gave : Memory} {d : Desk} → Performs (start number hand m own) cs said hs gave d → slips_in (drop d.used d.hand) ≡ 0
  empty-behind p = (all-safe number (slips_in hand) begins p).behind

  module _ (calls : List Asked) (run : Run (start number hand m own) calls) where
    pub settled : owed_by run.last.subject ≡ 0
    settled =
        let bound = settle number (slips_in hand) calls begins run.performs run.last.used refl in
        omega (arith, bound, of-number-le number (drop run.last.used run.last.hand), empty-behind run.performs)

    -- as many slips lie there as before
    pub as-many : slips_in run.last.hand ≡ slips_in hand
    as-many = omega (arith, (all-safe number (slips_in hand) begins run.performs).total, settled)
