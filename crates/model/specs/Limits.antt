-- What is asked of a text, a plan and the memory lent for them, before anything is shaped.
use Rattle.std.specs.Prelude.{ℕ, suc, Bool, true, cond, ◌&&◌, List, [], ◌∷◌, length, Some, None, Option, nat_le, nat_lt}
use Rattle.model.specs.declared.Entry.{Entry}

-- A text and a run have at most 65,535 items, the hit limit is at most 1,000,000, and there is a mark for each character.
abbrev pub sizes_fit : (text run marks limit : ℕ) → Bool
sizes_fit text run marks limit = nat_le text 65535 && nat_le run 65535 && nat_le limit 1000000 && nat_le text marks

-- Entries rise strictly, from a lookup number on, name lookups that there are, and have an alternate value other than 0.
abbrev pub entries_fit : (lookups «from» : ℕ) → List Entry → Bool
entries_fit n k [] = true
entries_fit n k (x ∷ xs) = (nat_le k x.lookup && nat_lt x.lookup n && nat_le 1 x.alternate) && entries_fit n (suc x.lookup) xs

-- A plan has at most 64 of them.
abbrev pub plan_fits : (lookups : ℕ) → List Entry → Bool
plan_fits n plan = nat_le (length plan) 64 && entries_fit n 0 plan

-- The number of the first refusal: 6 by the sizes, then 5 by the plan.
abbrev pub refused_first : (text run marks limit lookups : ℕ) → (plan : List Entry) → Option ℕ
refused_first text run marks limit n plan = cond (sizes_fit text run marks limit) (cond (plan_fits n plan) None (Some 5)) (Some 6)
