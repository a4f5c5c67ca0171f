use Prim.Native.Nat.{◌-◌, ◌+◌}
use mathlib.Core.Path.{◌≡◌, refl, sym, ◌∙◌}
use native.Mathlib.Omega.{arith}
use lib.ListN.{length}
use Rattle.text.specs.Text.{is_not}
use Rattle.text.specs.Laws.{every_end}
use Rattle.names.specs.Names.{comma}
use Rattle.line.specs.SumLaws.{last_here, last_on, alone_on, right_at, right_none}
use Rattle.line.proofs.sum.right_sum.Goals as goal

pub loop-n-init : goal.loop-n-init
loop-n-init c =
    let a = c.args in
    (every_end (is_not comma) a.line.now (length a.line.now) (omega arith), refl)

pub ends_right-requires : goal.ends_right-requires
ends_right-requires c =
    let l = c.loop-n in
    let k : l.n - 1 + 1 ≡ l.n = omega arith in
    (omega arith, rw k l.invariant.0)

pub returns-then-line-n-eq44 : goal.returns-then-line-n-eq44
returns-then-line-n-eq44 c =
    let l = c.loop-n in
    let line = c.args.line.now in
    let last = sym l.invariant.1 ∙ last_here line l.n (omega arith) c.if-line-n-eq44.true in
    c.ends_right.ensures ∙ sym (right_at line (l.n - 1) c.args.edition last)

pub loop-n-preserved : goal.loop-n-preserved
loop-n-preserved c =
    let l = c.loop-n in
    let line = c.args.line.now in (
      alone_on line l.n (omega arith) (omega arith) c.if-line-n-eq44.false l.invariant.0,
      sym (last_on line l.n (omega arith) c.if-line-n-eq44.false) ∙ l.invariant.1,
    )

pub returns : goal.returns
returns c =
    let l = c.loop-n in
    let k : l.n ≡ 0 = omega arith in
    let a = c.args in
    sym (right_none a.edition a.line.now (rw k at l.invariant.1))
