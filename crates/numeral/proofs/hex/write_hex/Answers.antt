use mathlib.Core.Path.{refl}
use native.Mathlib.Omega.{arith}
use Rattle.numeral.specs.HexWriteLaws.{writing_none, writing_more, writing_last}
use borrow.Author.Rules.{rules}
use Rattle.numeral.proofs.hex.write_hex.Goals as goal

pub loop-left-init : goal.loop-left-init
loop-left-init c = writing_none _ _ (search rules) refl

pub overflow_sub-start : goal.overflow_sub-start
overflow_sub-start c = omega (arith, c.loop-left.invariant.room)

pub bounds-bytes-start : goal.bounds-bytes-start
bounds-bytes-start c =
    let w = c.loop-left.invariant in
    omega (arith, w.top, w.room, w.size)

pub loop-left-preserved : goal.loop-left-preserved
loop-left-preserved c = rw c.digit_byte.ensures (writing_more c.loop-left.invariant (omega arith))

pub overflow_sub-start-2 : goal.overflow_sub-start-2
overflow_sub-start-2 c = omega (arith, c.loop-left.invariant.room)

pub bounds-bytes-start-2 : goal.bounds-bytes-start-2
bounds-bytes-start-2 c =
    let w = c.loop-left.invariant in
    omega (arith, w.top, w.room, w.size)

pub returns : goal.returns
returns c = rw c.digit_byte-2.ensures (writing_last c.loop-left.invariant (omega arith))
