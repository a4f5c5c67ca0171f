use native.Mathlib.Nat.{mod-eq_of_lt}
use borrow.Author.Tests.{lt-ltb, le-ltb}
use Rattle.position.specs.Position.{bound_of}
use Rattle.position.specs.Laws.{bound_small}
use Rattle.position.proofs.bound_of.Goals as goal

pub returns-then-code-ge31 : goal.returns-then-code-ge31
unfolding bound_of
returns-then-code-ge31 c = rw (le-ltb _ 31 c.if-code-ge31.true)

pub returns : goal.returns
unfolding bound_of
returns c = rw (lt-ltb _ 31 c.if-code-ge31.false, mod-eq_of_lt (bound_small c.args.code c.if-code-ge31.false))
