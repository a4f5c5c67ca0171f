use native.Mathlib.Omega.{arith}
use borrow.Author.Tests.{lt-ltb, le-ltb, eq-eqb, ne_eqb}
use Rattle.cursor.specs.Steps.{after_child}
use Rattle.cursor.proofs.follow.after_child.Goals.{then-last-via-then-last, then-last-via-else-last+then-page-i}
use Rattle.cursor.proofs.follow.after_child.Goals as goal

pub returns-then-last : goal.returns-then-last
unfolding after_child
returns-then-last c =
    elim c.then-last.branch [
      | then-last-via-then-last b ↦ rw b.if-last.true
      | then-last-via-else-last+then-page-i b ↦ rw (b.if-last.false, lt-ltb c.args.page.n c.args.i b.if-page-i.true)
    ]

pub returns-then-i-page : goal.returns-then-i-page
unfolding after_child
returns-then-i-page c =
    let i = c.args.i in
    let n = c.args.page.n in
    rw (c.if-last.false, le-ltb n i (omega arith), eq-eqb i n c.if-i-page.true, c.child-position.ensures, c.cut-s.ensures)

pub returns : goal.returns
unfolding after_child
returns c =
    let i = c.args.i in
    let n = c.args.page.n in
    rw (
      c.if-last.false,
      le-ltb n i (omega arith),
      ne_eqb i n c.if-i-page.false,
      c.child-position.ensures,
      c.child.ensures,
      c.cut-s.ensures,
    )
