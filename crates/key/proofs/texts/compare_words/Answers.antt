use Prim.Native.Nat.{◌+◌, ◌-◌}
use mathlib.Core.Path.{◌≡◌, sym, ◌∙◌}
use native.Mathlib.Omega.{arith}
use lib.ListN.{take}
use Rattle.std.specs.declared.cmp.Ordering.TheVariants.{Equal}
use Rattle.key.specs.Key.{texts_order}
use Rattle.key.specs.TextsLaws.{ne_first, ne_equal, texts_on, texts_fewer, texts_differ_in}
use Rattle.key.proofs.texts.compare_words.Goals as goal
use Rattle.key.proofs.texts.compare_words.Goals.{else-loop-i-test, then-loop-i-test+else-is_ne+else-last-i-gt8}

pub returns-then-is_ne : goal.returns-then-is_ne
returns-then-is_ne c =
    let l = c.loop-i in
    let a = c.args in
    let o = c.compare_at-o in
    let e = texts_on a.a.now a.b.now l.i (omega arith) (omega arith) l.invariant.1 8 ∙ sym o.ensures in
    let ne = ne_first o.result (sym c.is_ne.ensures ∙ c.if-is_ne.true) in
    sym (texts_differ_in a.a.now a.b.now (l.i + 8) (omega arith) (omega arith) o.result ne e a.n (omega arith))

pub loop-i-preserved : goal.loop-i-preserved
loop-i-preserved c =
    let l = c.loop-i in
    let a = c.args in
    let o = c.compare_at-o in
    let e = texts_on a.a.now a.b.now l.i (omega arith) (omega arith) l.invariant.1 8 ∙ sym o.ensures in
    (omega arith, e ∙ ne_equal o.result (sym c.is_ne.ensures ∙ c.if-is_ne.false))

-- the loop ends where it tests, or after a step past the last place but eight
pub returns : goal.returns
returns c =
    let l = c.loop-i in
    let a = c.args in
    let n : a.n - 8 + 8 ≡ a.n = omega arith in
    let same : texts_order (take (a.n - 8) a.a.now) (take (a.n - 8) a.b.now) ≡ Equal = elim c.loop-i-test.branch [
      | else-loop-i-test w ↦ texts_fewer a.a.now a.b.now l.i (omega arith) (omega arith) l.invariant.1 (a.n - 8) (omega arith)
      | then-loop-i-test+else-is_ne+else-last-i-gt8 w ↦
          let o = w.compare_at-o in
          let e = texts_on a.a.now a.b.now l.i (omega arith) (omega arith) l.invariant.1 8 ∙ sym o.ensures in
          let equal = e ∙ ne_equal o.result (sym w.is_ne.ensures ∙ w.if-is_ne.false) in
          texts_fewer a.a.now a.b.now (l.i + 8) (omega arith) (omega arith) equal (a.n - 8) (omega arith)
    ] in
    let on = texts_on a.a.now a.b.now (a.n - 8) (omega arith) (omega arith) same 8 in
    c.compare_at.ensures ∙ sym (rw n at on)
