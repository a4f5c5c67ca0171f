use Rattle.soundness.specs.Examining.{recorded_at}
use Rattle.soundness.proofs.count_at.Goals as goal

pub returns : goal.returns
unfolding recorded_at
returns c = rw (← c.read_var.ensures) c.unwrap_or.ensures
