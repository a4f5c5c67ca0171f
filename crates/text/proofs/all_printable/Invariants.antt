use mathlib.Core.Path.{◌≡◌}
use mathlib.Core.Bool.{true}
use lib.ListN.{take}
use Rattle.text.specs.Text.{every, is_printable}
use Rattle.text.proofs.all_printable.Given as goal

abbrev pub invariant-loop-i : goal.invariant-loop-i
invariant-loop-i l = (every is_printable (take l.i l.s) ≡ true)
