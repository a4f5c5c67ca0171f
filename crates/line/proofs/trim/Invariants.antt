use mathlib.Core.Path.{◌≡◌}
use Rattle.line.specs.Line.{trimmed}
use Rattle.line.proofs.trim.Given as goal

abbrev pub invariant-loop-i : goal.invariant-loop-i
invariant-loop-i l = trimmed l.i l.s ≡ trimmed l.n l.s
