-- Reads past a table's end.
use Rattle.std.proofs.Common.{◌≡◌, ◌≢◌, ℕ, ◌+◌, ◌<◌, ◌≤◌, min, Bool, true, false, leb, ltb, List, length, sym, refl, ap, ◌∙◌, arith}
use Rattle.std.proofs.lemmas.Bool.{leb-true, leb-false}
use Rattle.std.proofs.lemmas.Bool.Decides.{nat_tests}
use Rattle.std.proofs.lemmas.List.{get_or_past}
use Rattle.layout.specs.Bytes.{u16_at, u32_at}

pub u16-past : (t : List ℕ) (i : ℕ) → length t ≤ i → u16_at t i ≡ 0
u16-past t i h =
    let a = get_or_past t i 0 h in
    let b = get_or_past t (i + 1) 0 (omega arith) in
    omega arith

pub u32-past : (t : List ℕ) (i : ℕ) → length t ≤ i → u32_at t i ≡ 0
u32-past t i h =
    let a = u16-past t i h in
    let b = u16-past t (i + 2) (omega arith) in
    omega arith

-- a place that is cut to one past the end
capped-by : (t : List ℕ) (i m : ℕ) (b : Bool) → leb i m ≡ b → length t ≤ m → u16_at t (min i m) ≡ u16_at t i
capped-by t i m true h past = let e : min i m ≡ i = omega (arith, leb-true i m h) in ap (u16_at t) e
capped-by t i m false h past = let l = leb-false i m h in u16-past t (min i m) (omega arith) ∙ sym (u16-past t i (omega arith))

pub u16-capped : (t : List ℕ) (i m : ℕ) → length t ≤ m → u16_at t (min i m) ≡ u16_at t i
u16-capped t i m past = capped-by t i m (leb i m) refl past

-- so a number other than 0 stands in the table
u16-by : (t : List ℕ) (i : ℕ) (b : Bool) → ltb i (length t) ≡ b → u16_at t i ≢ 0 → i < length t
u16-by t i true e h = grind (arith, nat_tests)
u16-by t i false e h = absurd (h (u16-past t i (grind (arith, nat_tests))))

pub u16-inside : (t : List ℕ) (i : ℕ) → u16_at t i ≢ 0 → i < length t
u16-inside t i h = u16-by t i (ltb i (length t)) refl h
