use Prim.Native.Nat.{ℕ, ◌+◌, ◌*◌, ◌-◌, ◌^◌, ◌<◌}
use Rattle.std.specs.Prelude.{◌≡◌, List, length, get_or}
use mathlib.Core.Path.{sym, ◌∙◌}
use Rattle.std.proofs.Math.Nat.{pow-le-pow_right}
use native.Mathlib.Omega.{arith}
use Rattle.numeral.specs.HexLaws.{digit_said_some, digit_of_none}
use Rattle.numeral.specs.HexRunLaws.{Passed, run_stop, run_end, hex_run_at_none}
use Rattle.numeral.specs.HexRunLaws.{passed_first, passed_all, passed_zero, passed_long, passed_more}
use Rattle.numeral.proofs.hex.hex_at.Goals as goal

-- what `passed_fits` says, also of digits after a zero
fits : {s : List ℕ} {at i v : ℕ} → Passed s at i v → (i - at ≡ 16 → ⊥) → v * 16 + 15 < 2 ^ 64
fits {at = at} {i = i} p n = omega (arith, p.small, pow-le-pow_right {n = 16} (omega arith) {i = i - at} {j = 15} (omega (arith, p.few)))

pub returns-in_err-first : goal.returns-in_err-first
returns-in_err-first c = rw (hex_run_at_none _ _ (run_end _ _ c.in_err-first.ensures.lookup.3)) c.from_residual.ensures

pub returns-in_err-value : goal.returns-in_err-value
returns-in_err-value c =
    let first : c.in_ok-first.field-0.now ≡ get_or c.args.s.now c.args.at 0 = c.in_ok-first.ensures.lookup.3.1 0 in
    let none = rw first at (digit_of_none _ (sym c.in_err-value.was ∙ c.digit_value.ensures)) in
    rw (hex_run_at_none _ _ (run_stop _ _ c.in_ok-first.ensures.lookup.3.0 none)) c.from_residual-in_err-value.ensures

pub loop-i-init : goal.loop-i-init
loop-i-init c =
    let first : c.in_ok-first.field-0.now ≡ get_or c.args.s.now c.args.at 0 = c.in_ok-first.ensures.lookup.3.1 0 in
    let digit = digit_said_some _ (sym c.in_ok-value.was ∙ c.digit_value.ensures) in
    rw (digit.1, first) (passed_first c.in_ok-first.ensures.lookup.3.0 (rw first at digit.0))

pub returns-in_default : goal.returns-in_default
returns-in_default c =
    let none = digit_of_none _ (sym c.in_default.is ∙ c.digit_value-in-loop-i.ensures) in
    sym (passed_all c.loop-i.invariant (run_stop _ _ (omega arith) none))

pub returns-then-first-eq48 : goal.returns-then-first-eq48
returns-then-first-eq48 c =
    let first : c.in_ok-first.field-0.now ≡ get_or c.args.s.now c.args.at 0 = c.in_ok-first.ensures.lookup.3.1 0 in
    let digit = digit_said_some _ (sym c.in-Some.is ∙ c.digit_value-in-loop-i.ensures) in
    sym (passed_zero c.loop-i.invariant (omega arith) digit.0 (sym first ∙ c.if-first-eq48.true))

pub returns-then-i-at-eq16 : goal.returns-then-i-at-eq16
returns-then-i-at-eq16 c =
    let digit = digit_said_some _ (sym c.in-Some.is ∙ c.digit_value-in-loop-i.ensures) in
    sym (passed_long c.loop-i.invariant (omega arith) digit.0 (omega arith))

pub overflow_mul-value : goal.overflow_mul-value
overflow_mul-value c = omega (arith, fits c.loop-i.invariant c.if-i-at-eq16.false)

pub overflow_add-value : goal.overflow_add-value
overflow_add-value c =
    let digit = digit_said_some _ (sym c.in-Some.is ∙ c.digit_value-in-loop-i.ensures) in
    omega (arith, fits c.loop-i.invariant c.if-i-at-eq16.false)

pub loop-i-preserved : goal.loop-i-preserved
loop-i-preserved c =
    let first : c.in_ok-first.field-0.now ≡ get_or c.args.s.now c.args.at 0 = c.in_ok-first.ensures.lookup.3.1 0 in
    let digit = digit_said_some _ (sym c.in-Some.is ∙ c.digit_value-in-loop-i.ensures) in
    rw digit.1 (passed_more c.loop-i.invariant (omega arith) digit.0 (λ z. c.if-first-eq48.false (first ∙ z)) c.if-i-at-eq16.false)

pub returns : goal.returns
returns c =
    let all : c.loop-i.i ≡ length c.args.s.now = omega (arith, c.in_ok-first.ensures.lookup.3.0) in
    sym (rw all at (passed_all c.loop-i.invariant (run_end _ _ (omega arith))))
