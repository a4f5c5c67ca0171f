use Prim.Native.Nat.{◌-◌}
use Rattle.names.specs.SeekLaws.{Seeking}
use Rattle.names.proofs.tree.NameTree.seek.Given as goal

abbrev pub invariant-loop-d : goal.invariant-loop-d
invariant-loop-d l = Seeking l.line l.self.from l.self.places l.self.kids l.self.used l.name l.slot (97 - l.d)
