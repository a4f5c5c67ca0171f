use mathlib.Core.Path.{ap}
use Rattle.std.proofs.Common.{Ok}
use borrow.Author.Tests.{le-leb, lt-leb}
use Rattle.cursor.specs.Steps.{after_of}
use Rattle.cursor.specs.EntryLaws.{entry_or_over}
use Rattle.cursor.proofs.follow.after_entry.Goals.{then-not-last-via-then-not-last, then-not-last-via-else-not-last+then-leaf-i}
use Rattle.cursor.proofs.follow.after_entry.Goals as goal

pub returns-then-not-last : goal.returns-then-not-last
unfolding after_of
returns-then-not-last c =
    elim c.then-not-last.branch [
      | then-not-last-via-then-not-last b ↦ rw b.if-not-last.true
      | then-not-last-via-else-not-last+then-leaf-i b ↦ rw (b.if-not-last.false, le-leb c.args.leaf.n c.args.i b.if-leaf-i.true)
    ]

pub returns : goal.returns
unfolding after_of
returns c =
    rw (c.if-not-last.false, lt-leb c.args.leaf.n c.args.i c.if-leaf-i.false, ← c.cut-s.ensures)
    (ap Ok (entry_or_over _ c.nth_entry-next.ensures c.map_or.ensures))
