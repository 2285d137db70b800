-- The subtables of a table that was accepted are sound.
use Rattle.std.proofs.Common.{◌≡◌, ℕ, ◌+◌, ◌*◌, ◌<◌, Bool, true, false, cond, eqb, List, [], ◌∷◌, drop, Some, None, sym, subst, arith}
use Rattle.layout.specs.Bytes.{u16_at, u32_at}
use Rattle.layout.specs.Faults.{first_in, too_long, reports, own_place}
use Rattle.layout.specs.declared.fault.TableName.TheVariants.{Gsub}
use Rattle.layout.proofs.Firsts.{none-parts}
use Rattle.layout.proofs.Turns.{turn-nth}
use Rattle.gsub.specs.Forms.{Form, form_of}
use Rattle.gsub.specs.Meaning.{lookup_at, subtable_at, type_at}
use Rattle.gsub.specs.Subtables.{subtable_faults}
use Rattle.gsub.specs.Tables.{bare_lookup_faults, extension_fields, extension_faults, gsub_faults, header_faults, lookup_count, lookup_fields, lookup_faults_at, lookup_list_faults, lookup_subtable, moved_type}
use Rattle.gsub.proofs.Placed.{lookup-bare}
use Rattle.candidates.specs.Placed.{Placed}
use Rattle.candidates.specs.Sound.{Sound}
use Rattle.candidates.proofs.Follows.{each-none}
use Rattle.candidates.proofs.Sounds.{subtable-sound}

there : {X : Type 0} (b : Bool) (x : X) (xs ys : List X) → first_in (cond b (x ∷ xs) ys) ≡ None → first_in ys ≡ None
there true x xs ys e = absurd cc
there false x xs ys e = e

lookup-none : (t : List ℕ) (k : ℕ) → first_in (gsub_faults t) ≡ None → k < lookup_count t → first_in (bare_lookup_faults t (lookup_count t) (lookup_at t k)) ≡ None
lookup-none t k e h =
    let a = none-parts (too_long Gsub t) _ e in
    let b = none-parts (reports (own_place Gsub) (header_faults t)) _ a.1 in
    let c = none-parts (reports (own_place Gsub) (lookup_list_faults t (u16_at t 8))) _ b.1 in
    let d = turn-nth (lookup_faults_at t (lookup_count t) (u16_at t 8)) 2 (u16_at t 8 + 2) (lookup_count t) k h c.1 in
    lookup-bare t (lookup_count t) k (lookup_at t k) (sym (there (eqb (u16_at t (u16_at t 8 + 2 + 2 * k)) 0) _ [] _ d))

sound-by : (t : List ℕ) (n s o : ℕ) (f : Form) (b : Bool) → first_in (cond b (extension_faults t n (moved_type t s) (s + o)) (subtable_faults t n (s + o) (u16_at t s))) ≡ None
    → form_of (cond b (moved_type t s) (u16_at t s)) (u16_at (drop (cond b (s + o + u32_at t (s + o + 4)) (s + o)) t) 0) ≡ Some f → Sound (drop (cond b (s + o + u32_at t (s + o + 4)) (s + o)) t) f
sound-by t n s o f true e is = subtable-sound t n (s + o + u32_at t (s + o + 4)) (moved_type t s) f (none-parts (extension_fields t (moved_type t s) (s + o)) _ e).1 is
sound-by t n s o f false e is = subtable-sound t n (s + o) (u16_at t s) f e is

-- subtable j of lookup k
pub accepted-sound : (t : List ℕ) (k j : ℕ) (f : Form) → first_in (gsub_faults t) ≡ None → k < lookup_count t → j < u16_at t (lookup_at t k + 4)
    → form_of (type_at t (lookup_at t k)) (u16_at (drop (subtable_at t (lookup_at t k) (u16_at t (lookup_at t k + 6 + 2 * j))) t) 0) ≡ Some f
    → Sound (drop (subtable_at t (lookup_at t k) (u16_at t (lookup_at t k + 6 + 2 * j))) t) f
accepted-sound t k j f e h inside is =
    let s = lookup_at t k in
    let n = lookup_count t in
    let p = none-parts (lookup_fields t s) _ (lookup-none t k e h) in
    let one = each-none t s (s + 6) (u16_at t (s + 4)) (lookup_subtable t n s) p.1 j inside in
    sound-by t n s (u16_at t (s + 6 + 2 * j)) f (eqb (u16_at t s) 7) one is

-- the same by where the lookup stands
pub placed-sound : (t : List ℕ) (k s ty n j : ℕ) (f : Form) → first_in (gsub_faults t) ≡ None → Placed t k s ty n → j < n
    → form_of ty (u16_at (drop (subtable_at t s (u16_at t (s + 6 + 2 * j))) t) 0) ≡ Some f → Sound (drop (subtable_at t s (u16_at t (s + 6 + 2 * j))) t) f
placed-sound t k s ty n j f e placed h is =
    let some : 0 < n = omega arith in
    let has = placed.has some in
    let typed : form_of (type_at t s) (u16_at (drop (subtable_at t s (u16_at t (s + 6 + 2 * j))) t) 0) ≡ Some f =
    subst (λ y. form_of y (u16_at (drop (subtable_at t s (u16_at t (s + 6 + 2 * j))) t) 0) ≡ Some f) (placed.typed some) is in
    let inside : j < u16_at t (s + 4) = omega arith in
    subst
    (λ q. j < u16_at t (q + 4) → form_of (type_at t q) (u16_at (drop (subtable_at t q (u16_at t (q + 6 + 2 * j))) t) 0) ≡ Some f → Sound (drop (subtable_at t q (u16_at t (q + 6 + 2 * j))) t) f)
    (sym (placed.at some)) (accepted-sound t k j f e (placed.exists some)) inside typed
