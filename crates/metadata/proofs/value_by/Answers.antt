use Rattle.refusal.proofs.Passing.{handed_up}
use Rattle.metadata.specs.Answers.{value_by}
use Rattle.metadata.proofs.value_by.Goals as goal

pub returns-in_err-f : goal.returns-in_err-f
unfolding value_by
returns-in_err-f c = rw c.in_err-f.was (handed_up c.from_residual.ensures)

pub returns : goal.returns
unfolding value_by
returns c = rw c.in_ok-f.was
