use Prim.Native.Nat.{◌+◌, ◌-◌}
use native.Mathlib.Omega.{arith}
use mathlib.Core.Path.{◌≡◌, sym, ◌∙◌, ap}
use Rattle.content.specs.Content.{picked_of}
use Rattle.content.specs.PickLaws.{pick_from_lem, pick_none, pick_bad, pick_over, pick_here, pick_on}
use Rattle.content.proofs.pick_child.Goals as goal

pub loop-number-init : goal.loop-number-init
loop-number-init c =
    let a = c.args in
    let all : a.page.n + 1 - 0 ≡ a.page.n + 1 = omega arith in
    record { below = omega arith; picks = rw all (pick_from_lem a.s.now (a.page.n + 1) a.page.counts a.index) }

pub returns-in_err-count : goal.returns-in_err-count
returns-in_err-count c =
    c.from_residual.ensures
    ∙ ap picked_of (sym (pick_bad _ _ _ _ _ _ (sym c.read_var.ensures ∙ c.in_err-count.was)) ∙ c.loop-number.invariant.picks)

pub overflow_sub-sum : goal.overflow_sub-sum
overflow_sub-sum c = omega (arith, c.loop-number.invariant.below)

pub returns-then-sum-count : goal.returns-then-sum-count
returns-then-sum-count c =
    ap picked_of (sym (pick_over _ _ _ _ _ _ (sym c.read_var.ensures ∙ c.in_ok-count.was) (omega arith)) ∙ c.loop-number.invariant.picks)

pub returns-then-rest-count : goal.returns-then-rest-count
returns-then-rest-count c =
    ap picked_of
    (sym (pick_here _ _ _ _ _ _ (sym c.read_var.ensures ∙ c.in_ok-count.was) (omega arith) (omega arith) (omega arith))
    ∙ c.loop-number.invariant.picks)

pub loop-number-preserved : goal.loop-number-preserved
loop-number-preserved c =
    let n = c.args.page.n in
    let k = c.loop-number.number in
    let fewer : n + 1 - (k + 1) ≡ n + 1 - k - 1 = omega arith in
    record {
      below = omega arith;
      picks =
          rw fewer
          (sym (pick_on _ _ _ _ _ _ (sym c.read_var.ensures ∙ c.in_ok-count.was) (omega arith) (omega arith) (omega arith))
          ∙ c.loop-number.invariant.picks);
    }

pub returns : goal.returns
returns c = ap picked_of (sym (pick_none _ _ _ _ _ _ (omega arith)) ∙ c.loop-number.invariant.picks)
