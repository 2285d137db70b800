use Rattle.std.proofs.Common.{◌≡◌, ◌-◌, get_or, replicate, ap, ◌∙◌, rules}
use borrow.Rule.Slice.PartMut.{put_mid}
use Rattle.std.proofs.lemmas.List.{places}
use Rattle.ties.proofs.Tied.{one-tied, all-tied}
use Rattle.ties.proofs.tie.Goals as goal

pub returns-clause-marks : goal.returns-clause-marks
returns-clause-marks c = λ b inside.
    let s = c.min-start.result in
    let e = c.min-end.result in
    let ones : c.fill.new.self ≡ replicate (e - s) 1 = search rules in
    ap (λ w. get_or (put_mid s (e - s) c.args.marks.now w) b 0) ones
    ∙ one-tied c.args.marks.now c.args.lo c.args.hi s e b c.min-start.ensures c.min-end.ensures inside

pub returns-clause-tied : goal.returns-clause-tied
returns-clause-tied c = λ last b.
    let s = c.min-start.result in
    let e = c.min-end.result in
    all-tied c.args.marks.now (put_mid s (e - s) c.args.marks.now c.fill.new.self) c.args.lo c.args.hi b (search (rules, places)) (returns-clause-marks c b) last
