-- What a fault tells: its number, where its structure starts, and the byte of the first bad field.
use Rattle.std.specs.Prelude.{ℕ, List, ◌++◌, Some, None, Ok, Err, Option, Result, codes, decimal}
use Rattle.layout.specs.declared.fault.ByteFault.{ByteFault}
use Rattle.layout.specs.declared.fault.Place.{Place}
use Rattle.layout.specs.declared.fault.PlacedFault.{PlacedFault}
use Rattle.layout.specs.declared.fault.Report.{Report}
use Rattle.layout.specs.declared.fault.Rule.{Rule}
use Rattle.layout.specs.declared.fault.Rule.TheVariants.{Unknown, Order, Bounds, Missing}
use Rattle.layout.specs.declared.fault.StructureFault.{StructureFault}
use Rattle.layout.specs.declared.fault.StructureFault.TheVariants.{PastEnd, Broken}
use Rattle.layout.specs.declared.fault.TableName.{TableName}
use Rattle.layout.specs.declared.fault.TableName.TheVariants.{Cmap, Gdef, Hmtx, Gsub}
use Rattle.layout.specs.declared.fault.TableFault.{TableFault}
use Rattle.layout.specs.declared.fault.TableFault.TheVariants.{TooLong, Structure}
use Rattle.layout.specs.declared.fault.Fault.{Fault}
use Rattle.layout.specs.Faults.{own_place, report_at}

abbrev pub wrapped : ByteFault → StructureFault
wrapped b = PastEnd b

abbrev pub placed : Place → StructureFault → PlacedFault
placed p e = record { place = p; fault = e }

abbrev pub placed_table : PlacedFault → TableFault
placed_table p = Structure p

abbrev pub number_of : Rule → ℕ
number_of Unknown = 2
number_of Order = 3
number_of Bounds = 4
number_of Missing = 5

abbrev pub told : StructureFault → Fault
told (PastEnd b) = record { number = 1; start = b.start; byte = b.at }
told (Broken rule start at) = record { number = number_of rule; start = start; byte = at }

abbrev pub placed_told : PlacedFault → Report
placed_told p = report_at p.place (told p.fault)

abbrev pub table_told : TableFault → Report
table_told (TooLong name) = report_at (own_place name) (record { number = 4; start = 0; byte = 0 })
table_told (Structure p) = placed_told p

-- The fault that a check answers, if any.
abbrev pub verdict : {X : Type 0} → Result X StructureFault → Option Fault
verdict (Ok x) = None
verdict (Err e) = Some (told e)

abbrev pub byte_verdict : {X : Type 0} → Result X ByteFault → Option Fault
byte_verdict (Ok x) = None
byte_verdict (Err b) = Some (told (PastEnd b))

abbrev pub placed_verdict : {X : Type 0} → Result X PlacedFault → Option Report
placed_verdict (Ok x) = None
placed_verdict (Err e) = Some (placed_told e)

abbrev pub table_verdict : {X : Type 0} → Result X TableFault → Option Report
table_verdict (Ok x) = None
table_verdict (Err e) = Some (table_told e)

-- A structure's answer, with its fault at a place.
abbrev pub placing : {X : Type 0} → Place → Result X StructureFault → Result X PlacedFault
placing p (Ok x) = Ok x
placing p (Err e) = Err (placed p e)

-- How a table's name, a fault and a report are printed.
abbrev pub name_text : TableName → List ℕ
name_text Cmap = codes "cmap"
name_text Gdef = codes "GDEF"
name_text Hmtx = codes "hmtx"
name_text Gsub = codes "GSUB"

abbrev pub fault_text : Fault → List ℕ
fault_text f = codes "fault " ++ (decimal f.number ++ (codes " structure " ++ (decimal f.start ++ (codes " byte " ++ decimal f.byte))))

-- The number of a lookup or a subtable; 65,535 for none.
abbrev pub number_or_none : Option ℕ → ℕ
number_or_none None = 65535
number_or_none (Some k) = k

abbrev pub report_text : Report → List ℕ
report_text r =
    codes "fault " ++ (decimal r.fault.number ++ (codes " table " ++ (name_text r.place.table ++ (codes " lookup " ++ (decimal (number_or_none r.place.lookup) ++ (codes " subtable "
    ++ (decimal (number_or_none r.place.subtable) ++ (codes " structure " ++ (decimal r.fault.start ++ (codes " byte " ++ decimal r.fault.byte))))))))))
