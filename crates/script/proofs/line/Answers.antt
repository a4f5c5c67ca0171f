use Prim.Native.Nat.{◌-◌}
use mathlib.Core.Path.{◌≡◌}
use native.Mathlib.Omega.{arith}
use lib.ListN.{drop, length-drop}
use Rattle.text.specs.Text.{span, is_not}
use Rattle.text.specs.Laws.{span_le}
use Rattle.script.specs.Script.{up_to}
use Rattle.script.specs.Laws.{drop_within}
use Rattle.script.proofs.line.Goals as goal

pub slice_bounds-result-end : goal.slice_bounds-result-end
slice_bounds-result-end c =
    let s = c.args.input.now in
    let from = c.min-from.result in
    omega (arith, c.find_byte.ensures, span_le (is_not 10) (drop from s), length-drop from s)

pub returns : goal.returns
unfolding up_to
returns c =
    let s = c.args.input.now in
    let from = c.min-from.result in
    let n : c.find_byte.result - from ≡ span (is_not 10) (drop from s) = omega (arith, c.find_byte.ensures) in
    let rest : drop from s ≡ drop c.args.at s = rw c.min-from.ensures (drop_within s c.args.at) in
    rw (n, rest)
