use Rattle.std.proofs.Common.{◌≡◌, replicate, refl, ap, ◌∙◌}
use Rattle.model.specs.Shaping.{refused as outcome_refused}
use Rattle.run.specs.Runs.{blank}
use Rattle.shaping.specs.declared.stop.Stop.{Stop}
use Rattle.shaping.specs.declared.stop.Stop.TheVariants.{HitLimit, Room}
use Rattle.shaping.specs.Attempts.{stop_number}
use Rattle.shaping.specs.Shape.{of_stop, refusal_number, refused}
use Rattle.shaping.proofs.shape.Inputs.shape.Goals as goal

same-number : (stop : Stop) → refusal_number (of_stop stop) ≡ stop_number stop
same-number HitLimit = refl
same-number Room = refl

pub returns-in-Err-clause-outcome : goal.returns-in-Err-clause-outcome
returns-in-Err-clause-outcome g c = λ none. (
  outcome_refused (stop_number c.in-Err.stop),
  c.in-Err.ensures.refused,
  ap refused (ap refusal_number c.from.ensures ∙ same-number c.in-Err.stop),
  c.clear.ensures ∙ ap (λ n. replicate n blank) c.lay_out.auto.run,
  c.clear_ties.ensures ∙ ap (λ n. replicate n 0) c.lay_out.auto.marks,
)
