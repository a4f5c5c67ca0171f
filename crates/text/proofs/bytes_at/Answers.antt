use native.Mathlib.Omega.{arith}
use mathlib.Core.Path.{◌≡◌}
use Prim.Native.Nat.{◌+◌, ◌-◌}
use Rattle.text.specs.Laws.{bytes_past, bytes_last}
use Rattle.text.proofs.bytes_at.Goals as goal

pub returns-then-end-at : goal.returns-then-end-at
returns-then-end-at c =
    let a = c.args in
    bytes_past a.s.now a.at a.n c.if-end-at.true

pub returns-then-end-at-2 : goal.returns-then-end-at-2
returns-then-end-at-2 c =
    let a = c.args in
    bytes_last a.s.now a.at a.n c.if-end-at-2.true

pub returns : goal.returns
returns c =
    let c3 = c in
    let n : c3.args.at + c3.args.n - c3.args.at ≡ c3.args.n = omega arith in rw n
