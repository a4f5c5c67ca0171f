use native.Mathlib.Omega.{arith}
use mathlib.Core.Path.{sym, ap, ◌∙◌}
use Rattle.position.specs.Position.{of_bits}
use Rattle.content.specs.NumberLaws.{position_of, position_past, position_out}
use Rattle.content.proofs.child.Goals as goal

pub returns-then-page-k : goal.returns-then-page-k
returns-then-page-k c = ap of_bits (sym (position_past _ _ _ _ (omega arith)))

pub returns-in_default : goal.returns-in_default
returns-in_default c =
    let over = c.in_default.ensures in
    ap of_bits (sym (position_out _ _ _ _ (omega arith)))

pub returns : goal.returns
returns c =
    let sum = c.in-Some.ensures in
    ap of_bits (rw sum.1 at c.be64.ensures ∙ sym (position_of _ _ _ _ (omega arith)))
