use native.Mathlib.Omega.{arith}
use Rattle.refusal.proofs.Passing.{handed_up}
use Rattle.std.proofs.Common.{◌∙◌}
use Rattle.store.specs.TallyLaws.{tallied_refused, tallied_unsound, tallied_sum}
use Rattle.store.proofs.examining.tally.Goals as goal

pub returns-in_err-a : goal.returns-in_err-a
returns-in_err-a c =
    let a = c.args in
    handed_up c.from_residual.ensures ∙ tallied_refused a.r a.count c.in_err-a.was

pub returns-then-a-count : goal.returns-then-a-count
returns-then-a-count c =
    let a = c.args in
    tallied_unsound a.r a.count c.in_ok-a.was c.if-a-count.true

pub returns : goal.returns
returns c =
    let a = c.args in
    tallied_sum a.r a.count c.in_ok-a.was (omega (arith, c.if-a-count.false)) c.max.ensures
