use Prim.Native.Nat.{◌-◌, ◌+◌}
use Rattle.std.proofs.Common.{◌≡◌, arith, refl, ◌∙◌}
use Rattle.item.specs.ItemLaws.{skip_none, skip_more, skip_bad}
use Rattle.item.proofs.skip_each.Goals as goal

pub loop-init : goal.loop-init
loop-init c =
    let all : c.args.n - 0 ≡ c.args.n = omega arith in
    rw all (record { so_far = refl })

pub returns-in_err-i : goal.returns-in_err-i
returns-in_err-i c = c.from_residual.ensures ∙ skip_bad c.loop.invariant (omega arith) c.item_at.ensures c.in_err-i.was

pub loop-preserved : goal.loop-preserved
loop-preserved c =
    let n = c.args.n in
    let k = c.loop.counter in
    let fewer : n - (k + 1) ≡ n - k - 1 = omega arith in
    rw fewer (skip_more c.loop.invariant (omega arith) c.item_at.ensures c.in_ok-i.was)

pub returns : goal.returns
returns c = skip_none c.loop.invariant (omega arith)
