use lib.ListN.{drop}
use Rattle.text.specs.Text.{span, is_letter}
use native.Mathlib.Omega.{arith}
use borrow.Author.Tests.{le-leb, lt-leb}
use Rattle.names.specs.Tree.{name_end}
use Rattle.names.proofs.tree.name_end.Goals as goal

pub returns-then-to-i-gt16 : goal.returns-then-to-i-gt16
unfolding name_end
returns-then-to-i-gt16 c =
    let a = c.args in
    rw (lt-leb (span is_letter (drop a.i a.line.now)) 16 (omega (arith, c.letters_end-to.ensures, c.if-to-i-gt16.true)))

pub returns : goal.returns
unfolding name_end
returns c =
    let a = c.args in
    rw (le-leb (span is_letter (drop a.i a.line.now)) 16 (omega (arith, c.letters_end-to.ensures, c.if-to-i-gt16.false)))
    c.letters_end-to.ensures
