use Prim.Native.Nat.{◌-◌}
use lib.ListN.{length}
use Rattle.names.specs.Tree.{is_in}
use Rattle.names.specs.JudgeLaws.{Looking}
use Rattle.names.proofs.tree.NameTree.none_in.Given as goal

abbrev pub invariant-loop-next : goal.invariant-loop-next
invariant-loop-next l = Looking l.line (is_in l.line l.self.from l.self.places l.self.kids l.self.used) l.next l.i

abbrev pub decreases-loop-next : goal.decreases-loop-next
decreases-loop-next l = length l.line - l.i
