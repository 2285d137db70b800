use Rattle.std.proofs.Common.{◌≡◌, ◌+◌, cond, length, Ok, Some, refl, ap, subst, arith}
use Rattle.std.proofs.lemmas.Bool.{lt-leb}
use Rattle.paragraph.specs.Calls.{denied, gives, is_shaped, kept, line, owes}
use Rattle.paragraph.specs.declared.line.Line.{Line}
use Rattle.paragraph.specs.Performs.{desk, makes, no_place, says, shaped_from}
use Rattle.paragraph.specs.SaidBy.{lent}
use Rattle.paragraph.specs.Step.{Step}
use Rattle.paragraph.specs.Told.{line_told, memory, refusal_number}
use Rattle.paragraph.proofs.Filling.{same-memory}
use Rattle.paragraph.proofs.Hands.{empty-there}
use Rattle.paragraph.proofs.perform.line_call.Goals as goal

pub put_slip-requires : goal.put_slip-requires
put_slip-requires c = empty-there c.args.hand.now c.args.used.now c.requires.empty (omega arith)

pub returns-in-Ok-Kept : goal.returns-in-Ok-Kept
returns-in-Ok-Kept c = λ x own.
    let room = ap (λ t. cond t (says no_place) (makes x (line c.args.a c.args.b))) (lt-leb (length c.args.hand.now) c.args.used.now (omega arith)) in
    let same : memory c.as_slice.result.now c.as_slice-2.result.now ≡ lent c.args.memory.now = same-memory c.as_slice.ensures.value c.as_slice-2.ensures.value in
    let told = subst (λ m. Step x m (is_shaped c.args.shaped.now) (line c.args.a c.args.b) (line_told c.args.a c.args.b (Ok c.in-Ok-Kept.field-0)) (is_shaped c.line.new.self) m) same (c.in-Ok-Kept.ensures x) in
    let step = subst (λ (l : Line). Step x (lent c.args.memory.now) (is_shaped c.args.shaped.now) (line c.args.a c.args.b) (line_told c.args.a c.args.b (Ok l)) (is_shaped c.line.new.self) (lent c.args.memory.now)) c.in-Ok-Kept.field-0-is told in
    (Some (line c.args.a c.args.b, gives (kept c.args.a c.args.b c.in-Ok-Kept.first c.in-Ok-Kept.count)), (x, is_shaped c.line.new.self, lent c.args.memory.now, room, step, refl, refl))

pub returns-in-Ok-Owed : goal.returns-in-Ok-Owed
returns-in-Ok-Owed c = λ x own.
    let room = ap (λ t. cond t (says no_place) (makes x (line c.args.a c.args.b))) (lt-leb (length c.args.hand.now) c.args.used.now (omega arith)) in
    let same : memory c.as_slice.result.now c.as_slice-2.result.now ≡ lent c.args.memory.now = same-memory c.as_slice.ensures.value c.as_slice-2.ensures.value in
    let told = subst (λ m. Step x m (is_shaped c.args.shaped.now) (line c.args.a c.args.b) (line_told c.args.a c.args.b (Ok c.in-Ok-Owed.field-0)) (is_shaped c.line.new.self) m) same (c.in-Ok-Owed.ensures x) in
    let step = subst (λ (l : Line). Step x (lent c.args.memory.now) (is_shaped c.args.shaped.now) (line c.args.a c.args.b) (line_told c.args.a c.args.b (Ok l)) (is_shaped c.line.new.self) (lent c.args.memory.now)) c.in-Ok-Owed.field-0-is told in
    (Some (line c.args.a c.args.b, owes c.in-Ok-Owed.slip), (x, is_shaped c.line.new.self, lent c.args.memory.now, room, step, refl, ap (λ h. desk (shaped_from x c.line.new.self) h (c.args.used.now + 1) (lent c.args.memory.now) own) c.put_slip.ensures))

pub returns-in-Err : goal.returns-in-Err
returns-in-Err c = λ x own.
    let room = ap (λ t. cond t (says no_place) (makes x (line c.args.a c.args.b))) (lt-leb (length c.args.hand.now) c.args.used.now (omega arith)) in
    let same : memory c.as_slice.result.now c.as_slice-2.result.now ≡ lent c.args.memory.now = same-memory c.as_slice.ensures.value c.as_slice-2.ensures.value in
    let step = subst (λ m. Step x m (is_shaped c.args.shaped.now) (line c.args.a c.args.b) (denied (refusal_number c.in-Err.refusal)) (is_shaped c.line.new.self) m) same (c.in-Err.ensures x) in
    (Some (line c.args.a c.args.b, denied (refusal_number c.in-Err.refusal)), (x, is_shaped c.line.new.self, lent c.args.memory.now, room, step, refl, refl))
