use Prim.Native.Nat.{◌+◌, ◌-◌}
use mathlib.Core.Path.{◌≡◌}
use native.Mathlib.Omega.{arith}
use Rattle.key.proofs.texts.compare_at.Goals as goal

pub returns : goal.returns
returns c =
    let i = c.args.i in
    let n : i + 8 - i ≡ 8 = omega arith in
    rw n at c.compare_eight.ensures
