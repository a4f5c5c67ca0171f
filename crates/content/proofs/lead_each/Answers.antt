use Prim.Native.Nat.{◌-◌, ◌+◌}
use Rattle.std.proofs.Common.{◌≡◌, arith, sym, ◌∙◌}
use Rattle.content.specs.KeyLaws.{lead_none, lead_seen, lead_stopped}
use Rattle.content.proofs.lead_each.Goals as goal

pub loop-passed-init : goal.loop-passed-init
loop-passed-init c =
    let all : c.args.page.n - 0 ≡ c.args.page.n = omega arith in
    rw all (record { so_far = omega arith })

pub returns-in_default : goal.returns-in_default
returns-in_default c = lead_stopped c.loop-passed.invariant (omega arith) c.probe_key.ensures c.in_default.is

pub loop-passed-preserved : goal.loop-passed-preserved
loop-passed-preserved c =
    let n = c.args.page.n in
    let k = c.loop-passed.passed in
    let fewer : n - (k + 1) ≡ n - k - 1 = omega arith in
    rw fewer (lead_seen c.loop-passed.invariant (omega arith) c.probe_key.ensures c.in-Some.is)

pub returns : goal.returns
returns c =
    let all : c.loop-passed.passed ≡ c.args.page.n = omega arith in
    sym all ∙ lead_none c.loop-passed.invariant (omega arith)
