use Prim.Native.Nat.{◌-◌, ◌+◌}
use Rattle.std.proofs.Common.{◌≡◌, arith, ◌∙◌}
use Rattle.item.specs.CountLaws.{sum_begins, sum_none, sum_more, sum_over, sum_bad}
use Rattle.item.proofs.sum_counts.Goals as goal

pub loop-init : goal.loop-init
loop-init c =
    let all : c.args.n - 0 ≡ c.args.n = omega arith in
    record { below = omega arith; summing = rw all (sum_begins _ _ _) }

pub returns-in_err-count : goal.returns-in_err-count
returns-in_err-count c = c.from_residual.ensures ∙ sum_bad c.loop.invariant.summing (omega arith) c.read_var.ensures c.in_err-count.was

pub overflow_sub-total : goal.overflow_sub-total
overflow_sub-total c = omega (arith, c.loop.invariant.below)

pub returns-then-total-count : goal.returns-then-total-count
returns-then-total-count c = sum_over c.loop.invariant.summing (omega arith) c.read_var.ensures c.in_ok-count.was (omega arith)

pub loop-preserved : goal.loop-preserved
loop-preserved c =
    let n = c.args.n in
    let k = c.loop.counter in
    let fewer : n - (k + 1) ≡ n - k - 1 = omega arith in
    record {
      below = omega arith;
      summing = rw fewer (sum_more c.loop.invariant.summing (omega arith) c.read_var.ensures c.in_ok-count.was (omega arith));
    }

pub returns : goal.returns
returns c = sum_none c.loop.invariant.summing (omega arith)
