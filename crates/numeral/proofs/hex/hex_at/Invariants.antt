use Rattle.numeral.specs.HexRunLaws.{Passed}
use Rattle.numeral.proofs.hex.hex_at.Given as goal

abbrev pub invariant-loop-i : goal.invariant-loop-i
invariant-loop-i l = Passed l.s l.at l.i l.value
