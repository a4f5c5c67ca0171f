use mathlib.Core.Path.{◌∙◌}
use Rattle.std.proofs.Common.{ap, Ok}
use Rattle.refusal.proofs.Passing.{handed_up}
use Rattle.store.specs.AskLaws.{count_empty, count_root}
use Rattle.position.specs.Laws.{empty_zero, full_other}
use Rattle.store.proofs.asked.Asked.count_from.Goals as goal

pub returns-then-is_empty : goal.returns-then-is_empty
returns-then-is_empty c =
    count_empty _ _ _ _ _ (empty_zero c.is_empty.ensures c.if-is_empty.true)

pub returns-in_err-leaf : goal.returns-in_err-leaf
returns-in_err-leaf c =
    handed_up c.from_residual.ensures
    ∙ count_root _ _ _ _ _ (full_other c.is_empty.ensures c.if-is_empty.false) c.read_page.ensures.1 c.in_err-leaf.was

pub returns-in-Leaf : goal.returns-in-Leaf
returns-in-Leaf c =
    count_root _ _ _ _ _ (full_other c.is_empty.ensures c.if-is_empty.false) c.read_page.ensures.1 (c.in_ok-leaf.was ∙ ap Ok c.in-Leaf.is)

pub returns-in-Inner : goal.returns-in-Inner
returns-in-Inner c =
    count_root _ _ _ _ _ (full_other c.is_empty.ensures c.if-is_empty.false) c.read_page.ensures.1 (c.in_ok-leaf.was ∙ ap Ok c.in-Inner.is)
