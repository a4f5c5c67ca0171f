use Prim.Native.Nat.{◌+◌}
use mathlib.Core.Path.{sym, ◌∙◌}
use native.Mathlib.Omega.{arith}
use lib.ListN.{drop, length-drop}
use Rattle.text.specs.Text.{is_letter}
use Rattle.text.specs.Laws.{span_le}
use Rattle.names.specs.PartsLaws.{named_none, named_here, named_on}
use Rattle.names.proofs.named_later.Goals as goal

pub slice_bounds-same_bytes-end : goal.slice_bounds-same_bytes-end
slice_bounds-same_bytes-end c =
    let line = c.args.line.now in
    let from = c.loop-i.i + 1 in
    omega (arith, c.letters_end-to.ensures, span_le is_letter (drop from line), length-drop from line)

pub returns-then-same_bytes : goal.returns-then-same_bytes
returns-then-same_bytes c =
    let a = c.args in
    let l = c.loop-i in
    let letters = c.letters_end-to.ensures in
    let named = sym c.same_bytes.ensures ∙ c.if-same_bytes.true in
    sym (named_here a.line.now a.name.now l.i (omega arith) _ letters named) ∙ l.invariant

pub loop-i-smaller : goal.loop-i-smaller
loop-i-smaller c = omega (arith, c.letters_end-to.ensures, c.find_byte-i.ensures)

pub loop-i-preserved : goal.loop-i-preserved
loop-i-preserved c =
    let a = c.args in
    let l = c.loop-i in
    let letters = c.letters_end-to.ensures in
    let other = sym c.same_bytes.ensures ∙ c.if-same_bytes.false in
    sym (named_on a.line.now a.name.now l.i (omega arith) _ letters c.find_byte-i.ensures other) ∙ l.invariant

pub returns : goal.returns
returns c =
    let a = c.args in
    let l = c.loop-i in
    sym (named_none a.line.now a.name.now l.i (omega arith)) ∙ l.invariant
