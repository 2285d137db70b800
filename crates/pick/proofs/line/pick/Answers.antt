use Rattle.std.proofs.Common.{◌+◌, ◌-◌, ℕ, ◌<◌, ◌≤◌, length, take, drop, get_or, sym, subst}
use Rattle.pick.specs.declared.line.Stretch.{Stretch}
use Rattle.pick.specs.Lines.{stretch}
use Rattle.pick.proofs.Copies.{from-a}
use Rattle.pick.proofs.line.pick.Goals as goal

pub copy_lowered-requires-clause-inside : goal.copy_lowered-requires-clause-inside
copy_lowered-requires-clause-inside g c =
    let of = g.R.HasCluster.cluster_of in
    let rs = c.args.records.now in
    let a = c.args.a in
    let line = stretch of a c.args.b rs in
    subst (λ (s : Stretch). (k : ℕ) (d : _) → k < length (take (s.first + s.count - s.first) (drop s.first rs)) → a ≤ of (get_or (take (s.first + s.count - s.first) (drop s.first rs)) k d)) (sym c.find_line-line.ensures.line)
    (λ k d h. from-a of a c.args.b line.first rs k d h)
