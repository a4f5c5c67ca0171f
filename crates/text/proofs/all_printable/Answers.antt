use Prim.Native.Nat.{ℕ, ◌-◌, ◌+◌}
use mathlib.Core.List.{List}
use mathlib.Core.Bool.{true}
use mathlib.Core.Path.{◌≡◌, refl, sym, ◌∙◌}
use native.Mathlib.Omega.{arith}
use lib.ListN.{length, take, drop, length-drop}
use lib.Seq.{take_all}
use Rattle.text.specs.Text.{every, is_printable}
use Rattle.text.specs.PartsLaws.{every_take, every_not, every_last}
use Rattle.text.proofs.all_printable.Goals as goal
use Rattle.text.proofs.all_printable.Goals.{else-loop-i-test, then-loop-i-test+else-not-sixteen_printable+else-last-i-gt16}

next_sixteen : (s : List ℕ) (i : ℕ) → every is_printable (take i s) ≡ true → every is_printable (take 16 (drop i s)) ≡ true → every is_printable (take (i + 16) s) ≡ true
next_sixteen s i e f = rw (every_take is_printable i 16 s, e) f

pub loop-i-init : goal.loop-i-init
unfolding every
loop-i-init c = refl

pub returns-then-not-sixteen_printable : goal.returns-then-not-sixteen_printable
returns-then-not-sixteen_printable c =
    let s = c.args.s.now in
    sym (every_not is_printable 16 s c.loop-i.i (sym c.sixteen_printable.ensures ∙ c.if-not-sixteen_printable.true))

pub loop-i-preserved : goal.loop-i-preserved
loop-i-preserved c =
    next_sixteen c.args.s.now c.loop-i.i c.loop-i.invariant (sym c.sixteen_printable.ensures ∙ c.if-not-sixteen_printable.false)

pub returns : goal.returns
returns c =
    let s = c.args.s.now in
    let whole = take_all 16 (drop (length s - 16) s) (omega (arith, length-drop (length s - 16) s)) in
    let past = every_last is_printable (length s - 16) s in
    let l = c.loop-i in
    let tested : every is_printable (drop (length s - 16) s) ≡ every is_printable s = elim c.loop-i-test.branch [
      | else-loop-i-test w ↦ past l.i l.invariant (omega arith)
      | then-loop-i-test+else-not-sixteen_printable+else-last-i-gt16 w ↦
          past (l.i + 16) (next_sixteen s l.i l.invariant (sym w.sixteen_printable.ensures ∙ w.if-not-sixteen_printable.false)) (omega arith)
    ] in
    c.sixteen_printable-2.ensures ∙ rw whole tested
