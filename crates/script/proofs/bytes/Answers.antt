use Prim.Native.Nat.{◌≤◌}
use mathlib.Core.Path.{◌≡◌, sym}
use native.Mathlib.Omega.{arith}
use lib.ListN.{length}
use lib.Seq.{length-take-le}
use Rattle.script.specs.Script.{fitting}
use Rattle.script.specs.Laws.{bytes_half, put_byte}
use Rattle.script.proofs.bytes.Goals as goal

pub loop-n-preserved : goal.loop-n-preserved
loop-n-preserved c =
    let a = c.args in
    let l = c.loop-n in
    let w = c.word-w.result.now in
    rw (l.invariant, c.byte.ensures) (put_byte a.area.now w l.n (omega arith) (omega arith))

pub returns : goal.returns
returns c =
    let a = c.args in
    let l = c.loop-n in
    let w = c.word-w in
    let count = c.min-count.result in
    let all : l.n ≡ count = omega arith in
    let n : count ≡ fitting w.result.now a.area.now = omega (arith, bytes_half w.result.now) in
    let inside : count ≤ length l.area = omega arith in
    record { count = rw (← w.ensures) n; area = rw (← w.ensures, ← n, ← all) l.invariant; inside = (inside, sym (length-take-le count l.area inside)) }
