use native.Mathlib.Omega.{arith}
use borrow.Author.Tests.{lt-ltb, le-ltb}
use Rattle.script.specs.Script.{digit_of}
use Rattle.script.proofs.digit.Goals as goal

pub returns-then-b-lt97 : goal.returns-then-b-lt97
unfolding digit_of
returns-then-b-lt97 c = (rw (lt-ltb c.args.b 97 (omega arith)), omega arith)

pub returns-else-b-lt97 : goal.returns-else-b-lt97
unfolding digit_of
returns-else-b-lt97 c = (rw (le-ltb c.args.b 97 (omega arith)), omega arith)
