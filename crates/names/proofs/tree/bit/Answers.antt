use borrow.Author.Tests.{lt-ltb, le-ltb}
use Rattle.names.specs.Tree.{bit_of}
use Rattle.names.proofs.tree.bit.Goals as goal

pub returns-then-k-name : goal.returns-then-k-name
unfolding bit_of
returns-then-k-name c = rw (lt-ltb _ _ c.if-k-name.true)

pub returns-else-k-name : goal.returns-else-k-name
unfolding bit_of
returns-else-k-name c = rw (le-ltb _ _ c.if-k-name.false)
