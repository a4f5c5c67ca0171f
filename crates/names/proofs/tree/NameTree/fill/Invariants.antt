use Prim.Native.Nat.{◌-◌}
use mathlib.Core.Path.{◌≡◌}
use lib.ListN.{length}
use Rattle.names.specs.JudgeLaws.{Judging}
use Rattle.names.proofs.tree.NameTree.fill.Given as goal

abbrev pub invariant-loop-self : goal.invariant-loop-self
invariant-loop-self l = record {
  begins : l.self.from ≡ l.from;
  judging : Judging l.line l.self.from l.self.places l.self.kids l.self.used l.i;
}

abbrev pub decreases-loop-self : goal.decreases-loop-self
decreases-loop-self l = length l.line - l.i
