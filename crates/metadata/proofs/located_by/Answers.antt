use Rattle.refusal.proofs.Passing.{handed_up}
use Rattle.metadata.specs.Answers.{located_by}
use Rattle.metadata.proofs.located_by.Goals as goal

pub returns-in_err-l : goal.returns-in_err-l
unfolding located_by
returns-in_err-l c = rw c.in_err-l.was (handed_up c.from_residual.ensures)

pub returns : goal.returns
unfolding located_by
returns c = rw c.in_ok-l.was
