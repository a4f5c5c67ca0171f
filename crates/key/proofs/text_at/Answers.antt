use native.Mathlib.Omega.{arith}
use mathlib.Core.Path.{◌≡◌, sym, ◌∙◌}
use Prim.Native.Nat.{◌-◌}
use Rattle.key.specs.Key.{key_at}
use Rattle.key.specs.SizedLaws.{sized_lies}
use Rattle.key.proofs.text_at.Goals as goal

pub returns-in_err-key : goal.returns-in_err-key
unfolding key_at
returns-in_err-key c = rw (← c.sized_at.ensures, c.in_err-key.was) c.from_residual.ensures

pub slice_bounds-all_printable-count : goal.slice_bounds-all_printable-count
slice_bounds-all_printable-count c =
    omega (arith, (sized_lies _ c.args.s.now c.args.at (sym c.sized_at.ensures ∙ c.in_ok-key.was)).ends)

pub slice_bounds-all_printable-start : goal.slice_bounds-all_printable-start
slice_bounds-all_printable-start c =
    omega (arith, (sized_lies _ c.args.s.now c.args.at (sym c.sized_at.ensures ∙ c.in_ok-key.was)).ends)

pub slice_bounds-all_printable-end : goal.slice_bounds-all_printable-end
slice_bounds-all_printable-end c =
    omega (arith, (sized_lies _ c.args.s.now c.args.at (sym c.sized_at.ensures ∙ c.in_ok-key.was)).inside)

pub returns-then-not-all_printable : goal.returns-then-not-all_printable
unfolding key_at
returns-then-not-all_printable c =
    let k = c.in_ok-key.key in
    let p = sized_lies _ c.args.s.now c.args.at (sym c.sized_at.ensures ∙ c.in_ok-key.was) in
    let n : k.next - k.spot.at ≡ k.spot.len = omega (arith, p.ends) in
    rw (← c.sized_at.ensures, c.in_ok-key.was, ← n, ← c.all_printable.ensures, c.if-not-all_printable.true)

pub returns : goal.returns
unfolding key_at
returns c =
    let k = c.in_ok-key.key in
    let p = sized_lies _ c.args.s.now c.args.at (sym c.sized_at.ensures ∙ c.in_ok-key.was) in
    let n : k.next - k.spot.at ≡ k.spot.len = omega (arith, p.ends) in
    rw (← c.sized_at.ensures, c.in_ok-key.was, ← n, ← c.all_printable.ensures, c.if-not-all_printable.false)
