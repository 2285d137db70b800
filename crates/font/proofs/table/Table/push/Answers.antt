use Rattle.std.proofs.Common.{◌≡◌, ◌+◌, ◌<◌, [], ◌∷◌, ◌++◌, length, take, set, sym, ap, ◌∙◌, arith}
use Rattle.std.proofs.lemmas.List.{length-take-le, take_more_set}
use Rattle.font.specs.Table.{table_of}
use Rattle.font.proofs.Tables.{table_of-push}
use Rattle.font.proofs.table.Table.push.Goals as goal

pub invariant_of-self : goal.invariant_of-self
invariant_of-self g c =
    let table = c.self.inside in
    let items = take table.count table.places in
    let n : length items ≡ table.count = length-take-le _ table.places (omega arith) in
    let room : length items < g.row.N = let v = ap length c.self.view_is in omega arith in
    let s : take (table.count + 1) (set table.places table.count c.args.item) ≡ items ++ c.args.item ∷ [] = take_more_set table.places table.count c.args.item (omega arith) in (
      omega arith,
      ap (λ places. set places table.count c.args.item) c.self.invariant.1 ∙ ap (λ k. set (table_of g.row.N g.T.Blank.BLANK items) k c.args.item) (sym n)
          ∙ table_of-push g.row.N g.T.Blank.BLANK items c.args.item room ∙ ap (table_of g.row.N g.T.Blank.BLANK) (sym s),
    )
