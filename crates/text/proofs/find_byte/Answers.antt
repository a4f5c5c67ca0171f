use mathlib.Core.Path.{ap}
use mathlib.Core.Bool.{not}
use native.Mathlib.Omega.{arith}
use borrow.Author.Tests.{eq-eqb, ne_eqb}
use Rattle.text.specs.Text.{is_not}
use Rattle.text.specs.Laws.{span_on, span_stop, span_end}
use Rattle.text.proofs.find_byte.Goals as goal

pub returns-then-s-i : goal.returns-then-s-i
returns-then-s-i c =
    let l = c.loop-i in
    let a = c.args in
    omega (arith, l.invariant.left, span_stop (is_not a.b) a.s.now l.i (omega arith) (ap not (eq-eqb _ _ c.if-s-i.true)))

pub loop-i-preserved : goal.loop-i-preserved
loop-i-preserved c =
    let l = c.loop-i in
    let a = c.args in
    record {
      none = λ h. absurd (omega arith);
      left = omega (arith, l.invariant.left, span_on (is_not a.b) a.s.now l.i (omega arith) (ap not (ne_eqb _ _ c.if-s-i.false)));
    }

pub returns : goal.returns
returns c =
    let l = c.loop-i in
    let a = c.args in
    grind (arith, l.invariant.left, span_end (is_not a.b) a.s.now l.i (omega arith))
