use mathlib.Core.Path.{◌≡◌}
use mathlib.Core.Bool.{true}
use lib.ListN.{length, drop}
use Rattle.text.specs.Text.{every, is_not}
use Rattle.names.specs.Names.{comma}
use Rattle.line.specs.Fields.{last_comma}
use Rattle.line.proofs.sum.right_sum.Given as goal

abbrev pub invariant-loop-n : goal.invariant-loop-n
invariant-loop-n l = (every (is_not comma) (drop l.n l.line) ≡ true) × (last_comma l.n l.line ≡ last_comma (length l.line) l.line)
