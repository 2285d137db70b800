-- The nine examples, by computation.
use Rattle.std.proofs.Common.{refl, inl, inr, arith}
use Rattle.model.specs.Shaping.{ends, hits, misses, stops}
use Rattle.paragraph.specs.Nine.{KeptAndPaid, NineExamples}
use Rattle.paragraph.proofs.Example.{pays, shapes}

kept-and-paid : KeptAndPaid
kept-and-paid = record { shaped_as = shapes; kept_line = (refl, refl, refl); slip_owed = (refl, refl, refl); slip_paid = pays }

pub nine : NineExamples
nine = record {
  empty = (_, omega arith, inl (_, ends refl refl, refl), refl);
  joins = (_, omega arith, inl (_, hits refl refl (misses refl refl (ends refl refl)), refl), refl);
  joins_over_a_mark = (_, omega arith, inl (_, hits refl refl (ends refl refl), refl), refl);
  kept_and_paid = kept-and-paid;
  record_runs = ((_, omega arith, inl (_, misses refl refl (hits refl refl (ends refl refl)), refl), refl), inr (omega arith, inr (_, misses refl refl (stops refl refl refl), refl)));
  matches_without_record = (_, omega arith, inl (_, misses refl refl (hits refl refl (ends refl refl)), refl), refl);
  next_rule = (_, omega arith, inl (_, hits refl refl (ends refl refl), refl), refl);
  grows = ((_, omega arith, inl (_, hits refl refl (ends refl refl), refl), refl), inr (omega arith, inr (_, stops refl refl refl, refl)));
  goes_backward = (_, omega arith, inl (_, refl, refl), refl);
}
