use mathlib.Core.Path.{◌∙◌}
use Rattle.refusal.proofs.Passing.{handed_up}
use Rattle.cursor.specs.Steps.{after_of}
use Rattle.cursor.proofs.follow.after_at.Goals as goal

pub returns-in_err-leaf : goal.returns-in_err-leaf
unfolding after_of
returns-in_err-leaf c = rw c.in_err-leaf.was (handed_up c.from_residual.ensures)

pub returns-in-Inner : goal.returns-in-Inner
unfolding after_of
returns-in-Inner c = c.after_child.ensures ∙ rw (c.in_ok-leaf.was, c.in-Inner.is)
