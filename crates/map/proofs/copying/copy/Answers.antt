use mathlib.Core.Path.{◌∙◌}
use native.Mathlib.Omega.{arith}
use lib.ListN.{length}
use Prim.Native.Nat.{◌≤◌}
use Rattle.std.proofs.Common.{ap, Ok}
use Rattle.refusal.proofs.Passing.{handed_up}
use Rattle.map.proofs.MapLaws.{copy_inside, copy_refuses, copy_refused, copy_answers, copy_written, copy_none, copy_kept}
use Rattle.map.proofs.copying.copy.Goals as goal

pub returns-in_err-spot : goal.returns-in_err-spot
returns-in_err-spot c =
    let a = c.args in
    let e = c.lookup.ensures in
    let f = c.in_err-spot.was in
    let room = length a.area.now in
    record {
      answer = handed_up c.from_residual.ensures ∙ copy_none a.image.now a.view a.map a.kind a.key.now room e f tt;
      area = copy_kept a.image.now a.view a.map a.kind a.key.now room e f tt a.area.now;
    }

pub returns-in_default : goal.returns-in_default
returns-in_default c =
    let a = c.args in
    let e = c.lookup.ensures in
    let f = c.in_ok-spot.was ∙ ap Ok c.in_default.is in
    let room = length a.area.now in
    record {
      answer = copy_none a.image.now a.view a.map a.kind a.key.now room e f tt;
      area = copy_kept a.image.now a.view a.map a.kind a.key.now room e f tt a.area.now;
    }

pub returns-then-area-spot : goal.returns-then-area-spot
returns-then-area-spot c =
    let a = c.args in
    let e = c.lookup.ensures in
    let f = c.in_ok-spot.was ∙ ap Ok c.in-Some.is in
    let room = length a.area.now in
    let h = c.if-area-spot.true in
    record {
      answer = copy_refuses a.image.now a.view a.map a.kind a.key.now room e f h;
      area = copy_refused a.image.now a.view a.map a.kind a.key.now room e f h a.area.now;
    }

pub put-requires : goal.put-requires
put-requires c =
    let a = c.args in
    let f = c.in_ok-spot.was ∙ ap Ok c.in-Some.is in
    (copy_inside a.image.now a.view a.map a.kind a.key.now 0 c.lookup.ensures f, omega arith)

pub returns : goal.returns
returns c =
    let a = c.args in
    let e = c.lookup.ensures in
    let f = c.in_ok-spot.was ∙ ap Ok c.in-Some.is in
    let room = length a.area.now in
    let h : c.in-Some.spot.len ≤ room = omega arith in
    record {
      answer = copy_answers a.image.now a.view a.map a.kind a.key.now room e f h;
      area = c.put.ensures ∙ copy_written a.image.now a.view a.map a.kind a.key.now room e f h a.area.now;
    }
