use Rattle.refusal.proofs.Passing.{handed_up}
use Rattle.metadata.specs.Descent.{advance_of}
use Rattle.metadata.proofs.descent.advance_at.Goals as goal

pub returns-in_err-location : goal.returns-in_err-location
unfolding advance_of
returns-in_err-location c = rw c.in_err-location.was (handed_up c.from_residual.ensures)

pub returns-in_err-position : goal.returns-in_err-position
unfolding advance_of
returns-in_err-position c =
    rw (c.in_ok-location.was, ← c.step_at.ensures, c.in_err-position.was) (handed_up c.from_residual-in_err-position.ensures)

pub returns-in-Child : goal.returns-in-Child
unfolding advance_of
returns-in-Child c = rw (c.in_ok-location.was, ← c.step_at.ensures, c.in_ok-position.was, c.in-Child.is, ← c.max-need.ensures)

pub returns-in-Leaf : goal.returns-in-Leaf
unfolding advance_of
returns-in-Leaf c = rw (c.in_ok-location.was, ← c.step_at.ensures, c.in_ok-position.was, c.in-Leaf.is, ← c.max-need.ensures)
