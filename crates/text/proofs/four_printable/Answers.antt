use Prim.Native.Nat.{◌+◌}
use native.Mathlib.Omega.{arith}
use Rattle.text.specs.Text.{is_printable}
use Rattle.text.specs.PartsLaws.{every_part, every_one}
use Rattle.text.proofs.four_printable.Goals as goal

pub returns : goal.returns
returns c =
    let a = c.args in
    let s = a.s.now in
    let i = a.i in
    rw (
      every_part is_printable 3 1 s i,
      every_part is_printable 2 1 s i,
      every_part is_printable 1 1 s i,
      every_one is_printable s i (omega arith),
      every_one is_printable s (i + 1) (omega arith),
      every_one is_printable s (i + 2) (omega arith),
      every_one is_printable s (i + 3) (omega arith),
      c.printable.ensures,
      c.printable-2.ensures,
      c.printable-3.ensures,
      c.printable-4.ensures,
    )
