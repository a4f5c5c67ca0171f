use Prim.Native.Nat.{◌-◌}
use native.Mathlib.Omega.{arith}
use lib.ListN.{length, drop, length-drop}
use lib.Seq.{take_all}
use Rattle.text.specs.Text.{is_printable}
use Rattle.text.specs.PartsLaws.{every_both}
use Rattle.text.proofs.short_printable.Goals as goal

pub returns : goal.returns
returns c =
    let s = c.args.s.now in
    let whole = take_all 8 (drop (length s - 8) s) (omega (arith, length-drop (length s - 8) s)) in
    rw (c.eight_printable.ensures, c.eight_printable-2.ensures, whole) (every_both is_printable (length s - 8) s 8 (omega arith))
