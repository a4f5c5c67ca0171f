use Rattle.std.proofs.Common.{Ok, ap, ◌∙◌}
use Rattle.cursor.specs.Steps.{left_step}
use Rattle.cursor.proofs.left_step.Goals as goal

pub returns-in-Ok-Some : goal.returns-in-Ok-Some
unfolding left_step
returns-in-Ok-Some c = rw (c.in-Ok-Some.is ∙ ap Ok (rw c.in-Ok-Some.is at c.in-Ok-Some.field-0-is), c.numbered.ensures)

pub returns-in-Ok-None : goal.returns-in-Ok-None
unfolding left_step
returns-in-Ok-None c = rw (c.in-Ok-None.is ∙ ap Ok (rw c.in-Ok-None.is at c.in-Ok-None.field-0-is)) c.done.ensures

pub returns-in-Err : goal.returns-in-Err
unfolding left_step
returns-in-Err c = rw c.in-Err.is c.refused.ensures
