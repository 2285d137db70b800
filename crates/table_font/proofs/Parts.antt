-- The parts of a GDEF table.
use Rattle.std.proofs.Common.{◌≡◌, ℕ, ◌+◌, false, cond, eqb, List, [], ◌∷◌, ◌++◌, length, None, sym, refl, ap, ◌∙◌, arith}
use Rattle.std.proofs.lemmas.Bool.Decides.{nat_tests}
use Rattle.layout.specs.declared.fault.Fault.{Fault}
use Rattle.layout.specs.declared.fault.TableName.TheVariants.{Gdef as OfGdef}
use Rattle.layout.specs.Faults.{first_in, if_there}
use Rattle.layout.specs.Bytes.{u16_at}
use Rattle.layout.specs.Classes.{class_faults, class_at, class_behind}
use Rattle.layout.proofs.Firsts.{none-parts}
use Rattle.table_font.specs.declared.table.Gdef.{Gdef}
use Rattle.table_font.specs.declared.gdef.Classes.{Classes}
use Rattle.table_font.specs.declared.gdef.Classes.TheVariants.{OfGlyphs, OfMarks}
use Rattle.table_font.specs.Gdef.{classes_offset, header_faults, followed_faults, mark_sets_offset, mark_sets_faults, gdef_faults}
use Rattle.table_font.proofs.Accepted.{accepted}

-- An offset, which is not 0, leads to a structure of the table.
abbrev pub Leads : (offset : ℕ) (t : List ℕ) (table : List ℕ) (start : ℕ) → Type 0
Leads offset t table start = (table ≡ t) × (start ≡ offset) × (offset ≡ 0 → ⊥)

-- what is asked of what the offset leads to is asked of that structure
led : {X : Type 0} (nowhere : X) (f : List ℕ → ℕ → X) (offset : ℕ) (t table : List ℕ) (start : ℕ) → Leads offset t table start → cond (eqb offset 0) nowhere (f t (0 + offset)) ≡ f table start
led nowhere f offset t table start h =
    let there : eqb offset 0 ≡ false = grind (arith, nat_tests) in
    let z : 0 + offset ≡ start = omega (arith, h.1) in
    ap (λ b. cond b nowhere (f t (0 + offset))) there ∙ ap (f t) z ∙ ap (λ u. f u start) (sym h.0)

pub faults-led : (faults : List ℕ → ℕ → List Fault) (offset : ℕ) (t table : List ℕ) (start : ℕ) → Leads offset t table start → first_in (if_there offset 0 (faults t)) ≡ first_in (faults table start)
faults-led faults offset t table start h = ap first_in (led [] faults offset t table start h)

pub class-led : (g offset : ℕ) (t table : List ℕ) (start : ℕ) → Leads offset t table start → class_behind t offset 0 g ≡ class_at table start g
class-led g = led 0 (λ t s. class_at t s g)

pub gdef-there : (t : List ℕ) → false ≡ eqb (length t) 0 → first_in (gdef_faults t) ≡ first_in (header_faults t ++ followed_faults t)
gdef-there t f = ap (λ b. first_in (cond b [] (header_faults t ++ followed_faults t))) (sym f)

-- the parts of a table without faults; one with no bytes has no parts
followed-none : (t : List ℕ) → first_in (gdef_faults t) ≡ None → first_in (followed_faults t) ≡ None
followed-none [] e = refl
followed-none (b ∷ t) e =
    let f : false ≡ eqb (length (b ∷ t)) 0 = grind (arith, nat_tests) in
    (none-parts (header_faults (b ∷ t)) (followed_faults (b ∷ t)) (sym (gdef-there (b ∷ t) f) ∙ e)).1

-- no fault in the class definition that an offset leads to
abbrev pub NoClassFault : (t : List ℕ) (offset : ℕ) → Type 0
NoClassFault t offset = first_in (if_there offset 0 (class_faults t)) ≡ None

pub parts-none : (t : List ℕ) → first_in (gdef_faults t) ≡ None → NoClassFault t (u16_at t 4) × NoClassFault t (u16_at t 10) × (first_in (if_there (mark_sets_offset t) 0 (mark_sets_faults t)) ≡ None)
parts-none t e =
    let a = none-parts (if_there (u16_at t 4) 0 (class_faults t)) _ (followed-none t e) in
    let b = none-parts (if_there (u16_at t 10) 0 (class_faults t)) _ a.1 in
    (a.0, b.0, b.1)

module _ (gdef : Gdef) where
  parts : NoClassFault gdef.table.now (u16_at gdef.table.now 4) × NoClassFault gdef.table.now (u16_at gdef.table.now 10) × (first_in (if_there (mark_sets_offset gdef.table.now) 0 (mark_sets_faults gdef.table.now)) ≡ None)
  parts = parts-none gdef.table.now (accepted OfGdef gdef.table.now (gdef_faults gdef.table.now) gdef.accepted)

  pub classes-none : (of : Classes) → NoClassFault gdef.table.now (classes_offset gdef.table.now of)
  classes-none OfGlyphs = parts.0
  classes-none OfMarks = parts.1

  pub mark-sets-none : first_in (if_there (mark_sets_offset gdef.table.now) 0 (mark_sets_faults gdef.table.now)) ≡ None
  mark-sets-none = parts.2
