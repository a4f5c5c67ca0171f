use Prim.Native.Nat.{◌+◌}
use lib.ListN.{length}
use native.Mathlib.Omega.{arith}
use mathlib.Core.Path.{sym, ◌∙◌}
use borrow.Author.Tests.{le-leb, lt-leb}
use Rattle.numeral.specs.VarLaws.{var_at_read}
use Rattle.key.specs.Sized.{sized_at}
use Rattle.key.proofs.sized.sized_at.Goals as goal

pub returns-in_err-n : goal.returns-in_err-n
unfolding sized_at
returns-in_err-n c = rw (← c.read_var.ensures, c.in_err-n.was) c.from_residual.ensures

pub overflow_sub-s : goal.overflow_sub-s
overflow_sub-s c = omega (arith, (var_at_read c.args.limit c.args.s.now c.args.at (sym c.read_var.ensures ∙ c.in_ok-n.was)).inside)

pub returns-then-s-n : goal.returns-then-s-n
unfolding sized_at
returns-then-s-n c = rw (← c.read_var.ensures, c.in_ok-n.was, lt-leb (c.in_ok-n.n.next + c.in_ok-n.n.value) (length c.args.s.now) (omega arith))

pub returns : goal.returns
unfolding sized_at
returns c =
    let read = var_at_read c.args.limit c.args.s.now c.args.at (sym c.read_var.ensures ∙ c.in_ok-n.was) in
    rw (← c.read_var.ensures, c.in_ok-n.was, le-leb (c.in_ok-n.n.next + c.in_ok-n.n.value) (length c.args.s.now) (omega (arith, read.inside)))
