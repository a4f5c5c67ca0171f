use Prim.Native.Nat.{◌-◌}
use native.Mathlib.Omega.{arith}
use lib.ListN.{length, drop, length-drop}
use lib.Seq.{take_all}
use Rattle.text.specs.Text.{is_printable}
use Rattle.text.specs.PartsLaws.{every_both}
use Rattle.text.proofs.few_printable.Goals as goal

pub returns : goal.returns
returns c =
    let s = c.args.s.now in
    let whole = take_all 4 (drop (length s - 4) s) (omega (arith, length-drop (length s - 4) s)) in
    rw (c.four_printable.ensures, c.four_printable-2.ensures, whole) (every_both is_printable (length s - 4) s 4 (omega arith))
