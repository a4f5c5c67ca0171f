use lib.ListN.{length}
use native.Mathlib.Omega.{arith}
use borrow.Author.Tests.{le-leb, lt-leb}
use Prim.Native.Nat.{◌+◌}
use Rattle.key.specs.Key.{key_at}
use Rattle.key.proofs.number_at.Goals as goal

pub returns-then-s-lt8 : goal.returns-then-s-lt8
unfolding key_at
returns-then-s-lt8 c = rw (lt-leb (c.args.at + 8) (length c.args.s.now) (omega arith))

pub returns-then-s-at : goal.returns-then-s-at
unfolding key_at
returns-then-s-at c = rw (lt-leb (c.args.at + 8) (length c.args.s.now) (omega arith))

pub returns : goal.returns
unfolding key_at
returns c = rw (le-leb (c.args.at + 8) (length c.args.s.now) (omega arith))
