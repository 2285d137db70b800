-- An open match by the indices of its further input.
use Rattle.std.proofs.Common.{◌≡◌, ℕ, zero, suc, ◌+◌, ◌-◌, ◌<◌, ◌≤◌, List, [], ◌∷◌, ◌++◌, map, length, get_or, take, refl, sym, ap, ◌∙◌, arith}
use Rattle.std.proofs.lemmas.List.{length-map, map_more, take_all, take_more}
use Rattle.model.specs.declared.Glyph.{Glyph}
use Rattle.model.specs.Edits.{Frame, frame_at, frame_from}
use Rattle.matching.specs.Seek.{Outward, mets_at}
use Rattle.editing.specs.Frames.{Inside}
use Rattle.editing.proofs.Moves.{take-again}

-- where a search goes on after these indices
abbrev pub past : ℕ → List ℕ → ℕ
past i [] = i
past i (q ∷ qs) = past (suc q) qs

pub past-more : (i : ℕ) (qs : List ℕ) (q : ℕ) → past i (qs ++ q ∷ []) ≡ suc q
past-more i [] q = refl
past-more i (p ∷ qs) q = past-more (suc p) qs q

-- positions counted from r on
abbrev pub at_indices : (r i : ℕ) → List ℕ → Frame
at_indices r i qs = record { positions = map (λ q. r + q) qs; «end» = r + past i qs }

pub from-indices : (gs : List Glyph) (r i n : ℕ) (qs : List ℕ) → Outward i n qs → frame_from (r + i) (mets_at gs i qs) ≡ at_indices r i qs
from-indices gs r i n [] o = refl
from-indices gs r i n (q ∷ qs) o =
    let here : r + i + (q - i) ≡ r + q = omega (arith, o.0) in
    let next : suc (r + q) ≡ r + suc q = omega arith in
    let rest : frame_from (suc (r + q)) (mets_at gs (suc q) qs) ≡ at_indices r (suc q) qs = ap (λ x. frame_from x (mets_at gs (suc q) qs)) next ∙ from-indices gs r (suc q) n qs o.2 in
    ap {B = Frame} (λ x. record { positions = x ∷ (frame_from (suc x) (mets_at gs (suc q) qs)).positions; «end» = (frame_from (suc x) (mets_at gs (suc q) qs)).«end» }) here
    ∙ ap {B = Frame} (λ f. record { positions = (r + q) ∷ f.positions; «end» = f.«end» }) rest

-- the same as the code counts
pub opened-at : (gs : List Glyph) (p n : ℕ) (qs : List ℕ) → Outward 0 n qs → frame_at p (mets_at gs 0 qs) ≡ record { positions = p ∷ map (λ q. p + 1 + q) qs; «end» = p + 1 + past 0 qs }
opened-at gs p n qs o =
    let r : suc p ≡ p + 1 + 0 = omega arith in
    ap {B = Frame} (λ f. record { positions = p ∷ f.positions; «end» = f.«end» }) (ap (λ x. frame_from x (mets_at gs 0 qs)) r ∙ from-indices gs (p + 1) 0 n qs o)

pub indices-inside : (r i n : ℕ) (qs : List ℕ) → i ≤ n → Outward i n qs → Inside (r + n) (at_indices r i qs)
indices-inside r i n [] le o = (tt, omega arith)
indices-inside r i n (q ∷ qs) le o =
    let rest = indices-inside r (suc q) n qs (omega (arith, o.1)) o.2 in
    ((omega (arith, o.1), rest.0), rest.1)

-- an index is not before its place, and lies before n
pub outward-at : (i n : ℕ) (qs : List ℕ) (k : ℕ) → Outward i n qs → k < length qs → (i + k ≤ get_or qs k 0) × (get_or qs k 0 < n)
outward-at i n [] k o h = absurd (omega arith)
outward-at i n (q ∷ qs) zero o h = (omega (arith, o.0), o.1)
outward-at i n (q ∷ qs) (suc k) o h = let rest = outward-at (suc q) n qs k o.2 (omega arith) in (omega (arith, rest.0, o.0), rest.1)

-- the open match so far, as its indices are read one by one
module _ (p k : ℕ) (met positions : List ℕ) (is : positions ≡ take 64 (p ∷ map (λ q. p + 1 + q) (take k met))) where
  pub index-more : (positions' : List ℕ) → k < length met → positions' ≡ take 64 (positions ++ (p + 1 + get_or met k 0) ∷ []) → positions' ≡ take 64 (p ∷ map (λ q. p + 1 + q) (take (k + 1) met))
  index-more positions' inside more =
      let so_far : List ℕ = p ∷ map (λ q. p + 1 + q) (take k met) in
      more ∙ ap (λ l. take 64 (l ++ (p + 1 + get_or met k 0) ∷ [])) is ∙ take-again 64 so_far ((p + 1 + get_or met k 0) ∷ [])
      ∙ ap (λ l. take 64 (p ∷ l)) (sym (map_more (λ q. p + 1 + q) met k 0 inside))

  pub indices-all : length met ≤ 63 → length met ≤ k → positions ≡ p ∷ map (λ q. p + 1 + q) met
  indices-all few all =
      is ∙ ap (λ l. take 64 (p ∷ map (λ q. p + 1 + q) l)) (take_all k met all)
      ∙ take_all 64 (p ∷ map (λ q. p + 1 + q) met) (simp length-map (omega arith))

pub past-next : (p k : ℕ) (met : List ℕ) → k < length met → p + 1 + get_or met k 0 + 1 ≡ p + 1 + past 0 (take (k + 1) met)
past-next p k met inside =
    let next : past 0 (take (k + 1) met) ≡ suc (get_or met k 0) = ap (past 0) (take_more met k 0 inside) ∙ past-more 0 (take k met) (get_or met k 0) in
    omega (arith, next)

pub opened-inside : (p n : ℕ) (qs : List ℕ) → Outward 0 n qs → Inside (p + 1 + n) (record { positions = p ∷ map (λ q. p + 1 + q) qs; «end» = p + 1 + past 0 qs })
opened-inside p n qs o = let rest = indices-inside (p + 1) 0 n qs (omega arith) o in ((omega arith, rest.0), rest.1)
