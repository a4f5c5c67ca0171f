use Prim.Native.Nat.{◌-◌}
use lib.ListN.{length}
use Rattle.names.specs.JudgeLaws.{Turning}
use Rattle.names.proofs.are_distinct.Given as goal

abbrev pub invariant-loop-distinct : goal.invariant-loop-distinct
invariant-loop-distinct l = Turning l.line l.tree.places l.tree.kids l.i

abbrev pub decreases-loop-distinct : goal.decreases-loop-distinct
decreases-loop-distinct l = length l.line - l.i
