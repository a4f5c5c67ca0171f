use mathlib.Core.Path.{◌≡◌}
use mathlib.Core.List.{◌++◌}
use lib.ListN.{take, drop}
use Rattle.script.specs.Script.{bytes_of}
use Rattle.script.proofs.bytes.Given as goal

abbrev pub invariant-loop-n : goal.invariant-loop-n
invariant-loop-n l = l.area ≡ take l.n (bytes_of l.w) ++ drop l.n l.initial.area
