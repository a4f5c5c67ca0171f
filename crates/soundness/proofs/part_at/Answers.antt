use Rattle.refusal.proofs.Passing.{handed_up}
use Rattle.soundness.specs.Examining.{part_of}
use Rattle.soundness.proofs.part_at.Goals as goal

pub returns-in_err-leaf : goal.returns-in_err-leaf
unfolding part_of
returns-in_err-leaf c = rw c.in_err-leaf.was (handed_up c.from_residual.ensures)

pub returns-in_err-report-in-Leaf : goal.returns-in_err-report-in-Leaf
unfolding part_of
returns-in_err-report-in-Leaf c =
    rw (c.in_ok-leaf.was, c.in-Leaf.is, ← c.leaf_of.ensures, c.in_err-report-in-Leaf.was)
    (handed_up c.from_residual-in_err-report-in-Leaf.ensures)

pub returns-in_ok-report-in-Leaf : goal.returns-in_ok-report-in-Leaf
unfolding part_of
returns-in_ok-report-in-Leaf c = rw (c.in_ok-leaf.was, c.in-Leaf.is, ← c.leaf_of.ensures, c.in_ok-report-in-Leaf.was)

pub returns-then-not-separators_lie : goal.returns-then-not-separators_lie
unfolding part_of
returns-then-not-separators_lie c =
    rw (c.in_ok-leaf.was, c.in-Inner.is, ← c.separators_lie.ensures, c.if-not-separators_lie.true)

pub returns-else-not-separators_lie : goal.returns-else-not-separators_lie
unfolding part_of
returns-else-not-separators_lie c =
    rw (c.in_ok-leaf.was, c.in-Inner.is, ← c.separators_lie.ensures, c.if-not-separators_lie.false)
