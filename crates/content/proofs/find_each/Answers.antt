use Prim.Native.Nat.{◌-◌, ◌+◌}
use Rattle.std.proofs.Common.{◌≡◌, arith, refl, ◌∙◌}
use Rattle.content.specs.KeyLaws.{find_none, find_bad, find_same, find_less, find_stopped}
use Rattle.content.proofs.find_each.Goals as goal

pub loop-init : goal.loop-init
loop-init c =
    let all : c.args.leaf.n - 0 ≡ c.args.leaf.n = omega arith in
    rw all (record { so_far = refl })

pub returns-in_err-probe : goal.returns-in_err-probe
returns-in_err-probe c =
    c.from_residual.ensures ∙ find_stopped c.loop.invariant (omega arith) c.probe_key.ensures c.in_err-probe.was

pub returns-in_err-value : goal.returns-in_err-value
returns-in_err-value c =
    c.from_residual-in_err-value.ensures ∙ find_bad c.loop.invariant c.item_at.ensures c.in_err-value.was

pub returns-then-probe : goal.returns-then-probe
returns-then-probe c =
    find_same c.loop.invariant (omega arith) c.probe_key.ensures c.in_ok-probe.was c.item_at.ensures c.in_ok-value.was c.if-probe.true

pub loop-preserved : goal.loop-preserved
loop-preserved c =
    let n = c.args.leaf.n in
    let k = c.loop.counter in
    let fewer : n - (k + 1) ≡ n - k - 1 = omega arith in
    rw fewer
    (find_less c.loop.invariant (omega arith) c.probe_key.ensures c.in_ok-probe.was c.item_at.ensures c.in_ok-value.was c.if-probe.false)

pub returns : goal.returns
returns c = find_none c.loop.invariant (omega arith)
