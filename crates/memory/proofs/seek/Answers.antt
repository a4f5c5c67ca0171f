use mathlib.Core.Path.{refl, sym, ◌∙◌}
use native.Mathlib.Omega.{arith}
use Rattle.memory.specs.WayLaws.{sought_met, halved_above, halved_below}
use Rattle.memory.proofs.seek.Goals as goal

pub loop-low-init : goal.loop-low-init
loop-low-init c = (omega arith, (64, omega arith, refl))

pub loop-low-preserved-then-is_below : goal.loop-low-preserved-then-is_below
loop-low-preserved-then-is_below c =
    let a = c.args in
    let l = c.loop-low in
    let (n, few, same) = l.invariant.1 in
    let (m, fewer, on) = halved_above a.memory.now a.c n l.low l.high (omega arith) few (sym c.is_below.ensures ∙ c.if-is_below.true) in
    (omega arith, (m, fewer, sym on ∙ same))

pub loop-low-preserved : goal.loop-low-preserved
loop-low-preserved c =
    let a = c.args in
    let l = c.loop-low in
    let (n, few, same) = l.invariant.1 in
    let (m, fewer, on) = halved_below a.memory.now a.c n l.low l.high (omega arith) few (sym c.is_below.ensures ∙ c.if-is_below.false) in
    (omega arith, (m, fewer, sym on ∙ same))

pub returns : goal.returns
returns c =
    let a = c.args in
    let l = c.loop-low in
    let (n, few, same) = l.invariant.1 in
    sym (sought_met a.memory.now a.c n l.low l.high (omega arith)) ∙ same
