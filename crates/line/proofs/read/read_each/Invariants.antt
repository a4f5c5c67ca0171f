use Prim.Native.Nat.{◌-◌}
use lib.ListN.{length}
use Rattle.line.specs.ApartLaws.{ReadUpTo}
use Rattle.line.proofs.read.read_each.Given as goal

abbrev pub invariant-loop-field : goal.invariant-loop-field
invariant-loop-field l = ReadUpTo l.line l.apart l.fields l.i

abbrev pub decreases-loop-field : goal.decreases-loop-field
decreases-loop-field l = length l.line - l.i
