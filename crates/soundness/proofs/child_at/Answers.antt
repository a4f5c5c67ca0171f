use borrow.Author.Tests.{lt-ltb, le-ltb}
use Rattle.soundness.specs.Examining.{child_of}
use Rattle.soundness.proofs.child_at.Goals as goal

pub returns-then-j-page : goal.returns-then-j-page
unfolding child_of
returns-then-j-page c =
    rw (
      lt-ltb c.args.j c.args.page.n c.if-j-page.true,
      ← c.cut-s.ensures,
      ← c.child-position.ensures,
      ← c.count_at-count.ensures,
      ← c.separator_at-right.ensures,
    )

pub returns-else-j-page : goal.returns-else-j-page
unfolding child_of
returns-else-j-page c =
    rw (
      le-ltb c.args.j c.args.page.n c.if-j-page.false,
      ← c.cut-s.ensures,
      ← c.child-position.ensures,
      ← c.count_at-count.ensures,
    )
