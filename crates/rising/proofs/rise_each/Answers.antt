use Prim.Native.Nat.{◌-◌, ◌+◌}
use Rattle.std.proofs.Common.{◌≡◌, arith}
use Rattle.rising.specs.RisingLaws.{rise_none, rise_bad, rise_more, rise_falls}
use Rattle.rising.proofs.rise_each.Goals as goal

pub loop-init : goal.loop-init
loop-init c =
    let all : c.args.keys.n - 0 ≡ c.args.keys.n = omega arith in
    rw all (record { so_far = rw (c.cut-s.ensures, c.key_form-form.ensures) })

pub returns-in_default : goal.returns-in_default
returns-in_default c = rise_bad c.loop.invariant c.item_at.ensures c.in_default.is

pub returns-then-not-above_bound : goal.returns-then-not-above_bound
returns-then-not-above_bound c =
    rise_falls c.loop.invariant c.item_at.ensures (omega arith) c.in-Some.is c.above_bound.ensures c.if-not-above_bound.true

pub loop-preserved : goal.loop-preserved
loop-preserved c =
    let n = c.args.keys.n in
    let k = c.loop.counter in
    let fewer : n - (k + 1) ≡ n - k - 1 = omega arith in
    rw fewer (rise_more c.loop.invariant c.item_at.ensures (omega arith) c.in-Some.is c.above_bound.ensures c.if-not-above_bound.false)

pub returns : goal.returns
returns c = rise_none c.loop.invariant (omega arith)
