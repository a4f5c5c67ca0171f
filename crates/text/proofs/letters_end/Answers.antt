use mathlib.Core.Path.{sym, ◌∙◌}
use native.Mathlib.Omega.{arith}
use Rattle.text.specs.Text.{is_letter}
use Rattle.text.specs.Laws.{span_on, span_stop, span_end}
use Rattle.text.proofs.letters_end.Goals as goal

pub returns-then-not-is_ascii_alphabetic : goal.returns-then-not-is_ascii_alphabetic
returns-then-not-is_ascii_alphabetic c =
    let l = c.loop-i in
    let s = c.args.s.now in
    omega (arith, l.invariant.left, span_stop is_letter s l.i (omega arith) (sym c.is_ascii_alphabetic.ensures.value ∙ c.if-not-is_ascii_alphabetic.true))

pub loop-i-preserved : goal.loop-i-preserved
loop-i-preserved c =
    let l = c.loop-i in
    let s = c.args.s.now in
    record {
      none = λ h. absurd (omega arith);
      left = omega (arith, l.invariant.left, span_on is_letter s l.i (omega arith) (sym c.is_ascii_alphabetic.ensures.value ∙ c.if-not-is_ascii_alphabetic.false));
    }

pub returns : goal.returns
returns c =
    let l = c.loop-i in
    grind (arith, l.invariant.left, span_end is_letter c.args.s.now l.i (omega arith))
