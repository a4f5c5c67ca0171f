use borrow.Author.Tests.{le-leb, lt-leb}
use lib.ListN.{length}
use Rattle.key.specs.Key.{well_formed}
use Rattle.key.proofs.well_formed.Goals as goal

pub returns-in-Number : goal.returns-in-Number
unfolding well_formed
returns-in-Number c = rw c.in-Number.is

pub returns-then-key-le1024 : goal.returns-then-key-le1024
unfolding well_formed
returns-then-key-le1024 c = rw (c.in-Text.is, le-leb (length c.args.key.now) 1024 c.if-key-le1024.true) c.all_printable.ensures

pub returns-else-key-le1024 : goal.returns-else-key-le1024
unfolding well_formed
returns-else-key-le1024 c = rw (c.in-Text.is, lt-leb (length c.args.key.now) 1024 c.if-key-le1024.false)
