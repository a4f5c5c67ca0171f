use native.Mathlib.Omega.{arith}
use mathlib.Core.Path.{sym, ◌∙◌}
use Rattle.item.specs.Item.{items}
use Rattle.item.specs.StepLaws.{up_to_past}
use Rattle.item.specs.ItemLaws.{nth_stuck, nth_at, nth_bad}
use Rattle.item.proofs.nth_item.Goals as goal

pub returns-then-n-k : goal.returns-then-n-k
returns-then-n-k c =
    let a = c.args in
    sym (up_to_past (items a.s.now a.form) a.n a.k a.at (omega arith))

pub returns-in_err-i : goal.returns-in_err-i
returns-in_err-i c =
    c.from_residual.ensures ∙ sym (nth_stuck _ _ _ _ _ (omega arith) (sym c.skip_items.ensures ∙ c.in_err-i.was))

pub returns-in_err-item : goal.returns-in_err-item
returns-in_err-item c =
    c.from_residual-in_err-item.ensures
    ∙ sym (nth_bad _ _ _ _ _ (omega arith) (sym c.skip_items.ensures ∙ c.in_ok-i.was) (sym c.item_at.ensures ∙ c.in_err-item.was))

pub returns : goal.returns
returns c =
    sym (nth_at _ _ _ _ _ (omega arith) (sym c.skip_items.ensures ∙ c.in_ok-i.was) (sym c.item_at.ensures ∙ c.in_ok-item.was))
