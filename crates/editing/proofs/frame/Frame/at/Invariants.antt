use Rattle.std.proofs.Common.{◌≡◌, ◌+◌, ◌∷◌, map, take}
use Rattle.editing.proofs.Opens.{past}
use Rattle.editing.proofs.frame.Frame.at.Given as goal

-- the positions so far, and the end behind them
abbrev pub invariant-loop-index : goal.invariant-loop-index
invariant-loop-index l = record {
  positions : take l.frame.count l.frame.positions ≡ take 64 (l.p ∷ map (λ q. l.p + 1 + q) (take l.index-index l.met));
  «end» : l.frame.«end» ≡ l.p + 1 + past 0 (take l.index-index l.met);
}
