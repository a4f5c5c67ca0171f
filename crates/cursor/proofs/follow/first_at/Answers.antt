use mathlib.Core.Path.{ap}
use Rattle.std.proofs.Common.{Ok}
use Rattle.refusal.proofs.Passing.{handed_up}
use Rattle.cursor.specs.Steps.{first_of}
use Rattle.cursor.specs.EntryLaws.{entry_or_over}
use Rattle.cursor.proofs.follow.first_at.Goals as goal

pub returns-in_err-leaf : goal.returns-in_err-leaf
unfolding first_of
returns-in_err-leaf c = rw c.in_err-leaf.was (handed_up c.from_residual.ensures)

pub returns-in-Leaf : goal.returns-in-Leaf
unfolding first_of
returns-in-Leaf c =
    rw (c.in_ok-leaf.was, c.in-Leaf.is, ← c.cut-s.ensures)
    (ap Ok (entry_or_over _ c.nth_entry-first.ensures c.map_or.ensures))

pub returns-in-Inner : goal.returns-in-Inner
unfolding first_of
returns-in-Inner c = rw (c.in_ok-leaf.was, c.in-Inner.is, c.child.ensures, c.cut-s-in-Inner.ensures)
