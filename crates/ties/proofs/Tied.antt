-- One mark after clusters were tied.
use Rattle.std.proofs.Common.{◌≡◌, ℕ, ◌+◌, ◌-◌, ◌<◌, ◌≤◌, Bool, true, false, cond, not, ◌&&◌, ◌||◌, nat_le, nat_lt, eqb, List, length, get_or, replicate, min, sym, ap, ap₂, ◌∙◌, arith, rules, ◌⊎◌, inl, inr}
use Rattle.std.proofs.lemmas.Bool.{cases_lt, lt-ltb, le-ltb, le-leb, lt-leb}
use Rattle.std.proofs.Math.Bool.{and-false, or-true, or-false}
use Rattle.std.proofs.Math.ListN.{get_or-eq_default}
use Rattle.std.proofs.lemmas.List.{places}
use borrow.Rule.Slice.PartMut.{put_mid}
use Rattle.model.specs.Shaping.{tie}
use Rattle.ties.specs.Ties.{tied_in, tied_mark}

module _ (marks : List ℕ) (lo hi s e b : ℕ) (start : s ≡ min (lo + 1) e) (stop : e ≡ min (hi + 1) (length marks)) where
  abbrev after : List ℕ
  after = put_mid s (e - s) marks (replicate (e - s) 1)

  before : b < s → get_or after b 0 ≡ get_or marks b 0
  before l = search (rules, places)

  inside : s ≤ b → b < e → get_or after b 0 ≡ 1
  inside l m = search (rules, places)

  behind : e ≤ b → get_or after b 0 ≡ get_or marks b 0
  behind l = search (rules, places)

  abbrev mark : Bool → ℕ
  mark t = cond t 1 (get_or marks b 0)

  by : b < length marks → (hi < b) ⊎ (b ≤ hi) → (lo < b) ⊎ (b ≤ lo) → get_or after b 0 ≡ tied_mark lo hi marks b
  by w (inl h) l =
      behind (omega arith) ∙ ap mark (sym (and-false (nat_lt lo b)) ∙ ap (λ t. nat_lt lo b && t) (sym (lt-leb b hi h)))
  by w (inr h) (inr l) = before (omega arith) ∙ ap (λ t. mark (t && nat_le b hi)) (sym (le-ltb lo b l))
  by w (inr h) (inl l) =
      inside (omega arith) (omega arith) ∙ ap₂ (λ t u. mark (t && u)) (sym (lt-ltb lo b l)) (sym (le-leb b hi h))

  pub one-tied : b < length marks → get_or after b 0 ≡ tied_mark lo hi marks b
  one-tied w = by w (cases_lt hi b) (cases_lt lo b)

-- a mark as a flag
flagged : (t : Bool) (m : ℕ) → not (eqb (cond t 1 m) 0) ≡ (not (eqb m 0) || t)
flagged true m = sym (or-true (not (eqb m 0)))
flagged false m = sym (or-false (not (eqb m 0)))

-- where hi has a mark, the flags are tied as the definitions tie them
module _ (marks new : List ℕ) (lo hi b : ℕ) (long : length new ≡ length marks) (each : b < length marks → get_or new b 0 ≡ tied_mark lo hi marks b) (last : hi < length marks) where
  flags : (b < length marks) ⊎ (length marks ≤ b) → tied_in new b ≡ tie lo hi (tied_in marks) b
  flags (inl w) = ap (λ m. not (eqb m 0)) (each w) ∙ flagged (nat_lt lo b && nat_le b hi) (get_or marks b 0)
  flags (inr w) =
      let none : (nat_lt lo b && nat_le b hi) ≡ false = ap (λ t. nat_lt lo b && t) (lt-leb b hi (omega arith)) ∙ and-false (nat_lt lo b) in
      let past : get_or new b 0 ≡ 0 = get_or-eq_default new 0 (omega arith) in
      let was : get_or marks b 0 ≡ 0 = get_or-eq_default marks 0 w in
      ap (λ m. not (eqb m 0)) past ∙ sym (ap₂ (λ m t. not (eqb m 0) || t) was none)

  pub all-tied : tied_in new b ≡ tie lo hi (tied_in marks) b
  all-tied = flags (cases_lt b (length marks))
