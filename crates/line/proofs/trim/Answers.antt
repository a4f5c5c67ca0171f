use mathlib.Core.Path.{◌≡◌, sym, ◌∙◌}
use native.Mathlib.Omega.{arith}
use Rattle.line.specs.LineLaws.{trimmed_space, trimmed_other, trimmed_none}
use Rattle.line.proofs.trim.Goals as goal

pub returns-then-s-i-ne32 : goal.returns-then-s-i-ne32
returns-then-s-i-ne32 c =
    let l = c.loop-i in
    omega (arith, sym (trimmed_other l.i c.args.s.now (omega arith) c.if-s-i-ne32.true) ∙ l.invariant)

pub loop-i-preserved : goal.loop-i-preserved
loop-i-preserved c =
    let l = c.loop-i in
    sym (trimmed_space l.i c.args.s.now (omega arith) c.if-s-i-ne32.false) ∙ l.invariant

pub returns : goal.returns
returns c =
    let l = c.loop-i in
    let z : l.i ≡ 0 = omega arith in
    sym (trimmed_none c.args.s.now) ∙ rw z at l.invariant
