use Rattle.numeral.specs.HexWriteLaws.{Writing}
use Rattle.numeral.proofs.hex.write_hex.Given as goal

abbrev pub invariant-loop-left : goal.invariant-loop-left
invariant-loop-left l = Writing l.n l.bytes l.start l.left

abbrev pub decreases-loop-left : goal.decreases-loop-left
decreases-loop-left l = l.left
