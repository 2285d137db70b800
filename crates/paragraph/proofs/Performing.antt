-- A list of calls is a history.
use Rattle.std.proofs.Common.{◌≡◌, ℕ, Bool, true, false, cond, length, nat_le, List, [], ◌∷◌, ◌++◌, Some, None, Option, refl, sym, ap, ◌∙◌, subst}
use Rattle.std.proofs.lemmas.List.{append_assoc, append-nil}
use Rattle.paragraph.specs.declared.calls.Call.TheVariants.{Shape, Line as LineOf, Pay, Waive, Clear}
use Rattle.paragraph.specs.declared.shaped.Shaped.{Shaped}
use Rattle.paragraph.specs.declared.slip.Slip.{Slip}
use Rattle.paragraph.specs.Calls.{Answer, Call, Inputs, Memory, Paragraph, is_blank, is_shaped, line, pay, waive}
use Rattle.paragraph.specs.Hand.{in_hand}
use Rattle.paragraph.specs.Step.{Step}
use Rattle.paragraph.specs.Law.{Course, History, made, next}
use Rattle.paragraph.specs.Performs.{Asked, Desk, Does, Lawful, Made, Performs, Said, Subject, asked_of, begun, given_by, in_front, joined, makes, no_place, nothing, on, paragraph_of, says, shaped_from, still_blank, subject_of, with_slip}
use Rattle.paragraph.proofs.Sound.{law}

-- a shaped paragraph keeps to the inputs of its accepted shape
slip-inputs : (x x' : Inputs) (f : Slip → Call) (o : Option Slip) (call : Call) → with_slip x f o ≡ makes x' call → x' ≡ x
slip-inputs x x' f None call e = absurd cc
slip-inputs x x' f (Some s) call e = cc

line-inputs : (x x' : Inputs) (a b : ℕ) (t : Bool) (call : Call) → cond t (says no_place) (makes x (line a b)) ≡ makes x' call → x' ≡ x
line-inputs x x' a b true call e = absurd cc
line-inputs x x' a b false call e = cc

same-inputs : (x x' : Inputs) (k : Shaped) (d : Desk) (c : Asked) (call : Call) → asked_of (shaped_from x k) d c ≡ makes x' call → x' ≡ x
same-inputs x x' k d (Shape y) call e = absurd cc
same-inputs x x' k d (LineOf a b) call e = line-inputs x x' a b (nat_le (length d.hand) d.used) call e
same-inputs x x' k d (Pay j) call e = slip-inputs x x' (λ s. pay s d.own) (in_hand d.hand j) call e
same-inputs x x' k d (Waive j) call e = slip-inputs x x' waive (in_hand d.hand j) call e
same-inputs x x' k d Clear call e = cc

module _ (number : ℕ) where
  -- those made so far are a history, and this is the memory that they left
  abbrev pub Kept : List (Call × Answer) → Subject → Memory → Type 0
  Kept hs (still_blank n) m = History number hs (is_blank n) tt
  Kept hs (shaped_from x k) m = (s : Course) × History number hs (is_shaped k) s × (s.inputs ≡ x) × (s.memory ≡ m)

  go : (hs : List (Call × Answer)) (s : Subject) (m : Memory) (d : Desk) → Kept hs s m → (x : Inputs) (call : Call) (r : Answer) (p : Paragraph) (m' : Memory) (c : Asked)
      → asked_of s d c ≡ makes x call → Step x m (paragraph_of s) call r p m' → Kept ((call, r) ∷ hs) (subject_of x p) m'
  go hs (still_blank n) m d h x call r (is_blank n') m' c e t = next x m call r (is_blank n') m' h tt t
  go hs (still_blank n) m d h x call r (is_shaped k') m' c e t = (record { inputs = x; filled = m'; memory = m'; lines = [] }, next x m call r (is_shaped k') m' h tt t, refl, refl)
  go hs (shaped_from y k) m d (s, h, i, j) x call r (is_blank n') m' c e t = next x m call r (is_blank n') m' h (same-inputs y x k d c call e ∙ sym i, sym j) t
  go hs (shaped_from y k) m d (s, h, i, j) x call r (is_shaped k') m' c e t =
      (_, next x m call r (is_shaped k') m' h (same-inputs y x k d c call e ∙ sym i, sym j) t, i ∙ sym (same-inputs y x k d c call e), refl)

  one-more : (hs : List (Call × Answer)) (d e : Desk) (c : Asked) (a : Said) (h : Option (Call × Answer)) → Kept hs d.subject d.memory → Does c a d h e → Kept (in_front h hs) e.subject e.memory
  one-more hs d e c a None k (asks, same) = subst (λ (u : Desk). Kept hs u.subject u.memory) (sym same) k
  one-more hs d e c a (Some (call, r)) k (x, p, m, asks, step, said, same) =
      subst (λ (u : Desk). Kept ((call, r) ∷ hs) u.subject u.memory) (sym same) (go hs d.subject d.memory d k x call r p m c asks step)

  module _ (start : Desk) (begins : Kept [] start.subject start.memory) where
    kept : {cs : List Asked} {said : List Said} {hs : List (Call × Answer)} {gave : Memory} {d : Desk} → Performs start cs said hs gave d → Kept hs d.subject d.memory
    kept (begun e) = subst (λ (u : Desk). Kept [] u.subject u.memory) (sym e) begins
    kept (on {hs = hs} {d = d} c a h {e = e} p does i j l g) = subst (λ q. Kept q e.subject e.memory) (sym l) (one-more hs d e c a h (kept p) does)

    with-law : (hs : List (Call × Answer)) (s : Subject) (m : Memory) → Kept hs s m → Lawful number hs s m
    with-law hs (still_blank n) m h = h
    with-law hs (shaped_from x k) m (s, h, i, j) = (s, h, i, j, law number hs k s h)

    pub lawful : {cs : List Asked} {said : List Said} {hs : List (Call × Answer)} {gave : Memory} {d : Desk} → Performs start cs said hs gave d → Lawful number hs d.subject d.memory
    lawful {hs = hs} {d = d} p = with-law hs d.subject d.memory (kept p)

-- ONE LIST BEHIND ANOTHER
module _ {start d : Desk} {cs : List Asked} {said : List Said} {hs : List (Call × Answer)} {gave : Memory} (p : Performs start cs said hs gave d) where
  front-of : (h : Option (Call × Answer)) (l : List (Call × Answer)) → in_front h l ++ hs ≡ in_front h (l ++ hs)
  front-of None l = refl
  front-of (Some c) l = refl

  pub join : {cs' : List Asked} {said' : List Said} {hs' : List (Call × Answer)} {gave' : Memory} {e : Desk} → Performs d cs' said' hs' gave' e → Performs start (cs ++ cs') (said ++ said') (hs' ++ hs) (joined gave gave') e
  join (begun i) =
      subst (λ (u : Desk). Performs start (cs ++ []) (said ++ []) hs (joined gave nothing) u) (sym i)
      (subst (λ m. Performs start (cs ++ []) (said ++ []) hs m d) (λ i. record { run = sym (append-nil gave.run) i; marks = sym (append-nil gave.marks) i })
      (subst (λ (l : List Said). Performs start (cs ++ []) l hs gave d) (sym (append-nil said))
      (subst (λ (l : List Asked). Performs start l said hs gave d) (sym (append-nil cs)) p)))
  join (on {cs = cs₁} {said = said₁} {hs = hs₁} {gave = gave₁} c a h {e = e} q does i j l g) =
      on c a h (join q) does (ap (λ u. cs ++ u) i ∙ sym (append_assoc cs cs₁ (c ∷ []))) (ap (λ u. said ++ u) j ∙ sym (append_assoc said said₁ (a ∷ []))) (ap (λ u. u ++ hs) l ∙ front-of h hs₁)
      (ap (joined gave) g ∙ λ i. record { run = sym (append_assoc gave.run gave₁.run (given_by a e).run) i; marks = sym (append_assoc gave.marks gave₁.marks (given_by a e).marks) i })
