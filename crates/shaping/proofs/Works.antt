-- What one call after another leaves of the lent memory.
use Rattle.std.proofs.Common.{◌∙◌}
use Rattle.shaping.specs.declared.work.Work.{Work}
use Rattle.shaping.specs.Work.{Lent}

pub lent-on : (u v w : Work) → Lent u v → Lent v w → Lent u w
lent-on u v w a b = (a.0 ∙ b.0, a.1 ∙ b.1, a.2 ∙ b.2, a.3 ∙ b.3)
