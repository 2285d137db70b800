use Rattle.std.proofs.Common.{◌≡◌, ◌+◌, [], ◌∷◌, ◌++◌, get_or, drop, Ok, Err, sym, ap, ◌∙◌, subst, append-nil, arith}
use Rattle.std.specs.Option.{option_to_list}
use Rattle.std.proofs.lemmas.List.{drop_more, drop_all}
use Rattle.std.proofs.lemmas.Bool.Decides.{nat_tests}
use Rattle.std.proofs.lemmas.Result.{err_from_is_err_and}
use Rattle.label_font.specs.LabelFont.{rows_of}
use Rattle.font.specs.Told.{told, told_with}
use Rattle.label_font.proofs.Reading.{ReadsFrom, turn, faulty, again, finished, knows_start, reads-start, room}
use Rattle.label_font.proofs.table.LabelFont.fill.Goals as goal
use Rattle.label_font.proofs.table.LabelFont.fill.Goals.{in-Some, in_default}

pub loop-byte-init : goal.loop-byte-init
loop-byte-init c = record {
  knows = knows_start _ _ c.requires c.new-reader.ensures;
  left = λ t h. reads-start _ _ _ t c.requires c.new-reader.ensures h;
}

pub returns-in_err-row : goal.returns-in_err-row
returns-in_err-row c =
    let p = err_from_is_err_and c.from_residual.result c.from_residual.ensures.1 in
    let f = faulty (rows_of c.loop-byte.self) c.loop-byte.reader (get_or c.args.bytes.now c.loop-byte.byte-index 0) (drop (c.loop-byte.byte-index + 1) c.args.bytes.now) c.loop-byte.invariant.knows _ c.in_err-row.ensures.answer in
    let d = drop_more c.args.bytes.now c.loop-byte.byte-index 0 (omega arith) in
    rw (p.1, p.2) (c.loop-byte.invariant.left _ (subst (λ u. ReadsFrom (rows_of c.loop-byte.self) c.loop-byte.reader u (told (Err c.in_err-row.field-0.0))) (sym d) f))

pub loop-byte-preserved : goal.loop-byte-preserved
loop-byte-preserved c =
    let above = rows_of c.loop-byte.self in
    let b = get_or c.args.bytes.now c.loop-byte.byte-index 0 in
    let o = c.in_ok-row.field-0 in
    let t = turn above c.loop-byte.reader b c.loop-byte.invariant.knows o c.in_ok-row.ensures.answer _ c.in_ok-row.ensures.reader in
    let rows : rows_of c.match-branch-2.self ≡ above ++ option_to_list o = elim c.match-branch-2.branch [
      | in-Some w ↦
          let space = room above c.loop-byte.reader b w.in-Some.row c.loop-byte.invariant.knows (ap Ok (sym w.in-Some.is) ∙ c.in_ok-row.ensures.answer) in
          let pushed : w.push.new.self ≡ above ++ w.in-Some.row ∷ [] = grind (arith, nat_tests) in
          ap rows_of w.self-is ∙ pushed ∙ ap (λ u. above ++ option_to_list u) (sym w.in-Some.is)
      | in_default w ↦ ap rows_of w.self-is ∙ sym (append-nil above) ∙ ap (λ u. above ++ option_to_list u) (sym w.in_default.is)
    ] in
    let k = again c.args.bytes.now c.loop-byte.byte-index (omega arith) above c.loop-byte.reader c.loop-byte.invariant.left (option_to_list o) c.step.new.self t (rows_of c.match-branch-2.self) rows in
    record { knows = k.0; left = k.1 }

pub returns : goal.returns
returns c =
    let above = rows_of c.loop-byte.self in
    let d = drop_all c.loop-byte.byte-index c.args.bytes.now (omega arith) in
    let f = finished above c.loop-byte.reader c.loop-byte.invariant.knows in
    c.loop-byte.invariant.left _ (subst (λ u. ReadsFrom above c.loop-byte.reader u (told_with above c.finish.result)) (sym d) (subst (λ u. ReadsFrom above c.loop-byte.reader [] (told_with above u)) (sym c.finish.ensures) f))
