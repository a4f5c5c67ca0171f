use Rattle.refusal.proofs.Passing.{handed_up}
use Rattle.store.specs.Examining.{over_children}
use Rattle.store.proofs.examining.over_children.Goals as goal

pub returns-in_err-a : goal.returns-in_err-a
unfolding over_children
returns-in_err-a c = rw c.in_err-a.was (handed_up c.from_residual.ensures)

pub returns : goal.returns
unfolding over_children
returns c = rw c.in_ok-a.was
