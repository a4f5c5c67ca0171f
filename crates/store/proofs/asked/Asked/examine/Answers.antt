use Rattle.std.proofs.Common.{ap, ◌∙◌, Ok}
use Rattle.refusal.proofs.Passing.{handed_up}
use Rattle.store.specs.ExamineLaws.{map_refused, map_empty, map_examined}
use Rattle.position.specs.Laws.{empty_zero, full_other}
use Rattle.store.specs.MemoryLaws.{seen}
use Rattle.store.proofs.asked.Asked.examine.Goals as goal

pub returns-in_err-root : goal.returns-in_err-root
returns-in_err-root c =
    let asked = seen c.self.inside c.self.view_is in
    handed_up c.from_residual.ensures ∙ map_refused _ _ _ _ _ (rw asked.1 at c.root_at.ensures.1) c.in_err-root.was

pub returns-then-is_empty : goal.returns-then-is_empty
returns-then-is_empty c =
    let asked = seen c.self.inside c.self.view_is in
    ap Ok c.none.ensures
    ∙ map_empty _ _ _ _ _ (rw asked.1 at c.root_at.ensures.1) c.in_ok-root.was (empty_zero c.is_empty.ensures c.if-is_empty.true)

pub returns : goal.returns
returns c =
    let asked = seen c.self.inside c.self.view_is in
    rw c.root_at.ensures.0 at c.examine_page.ensures.1
    ∙ map_examined _ _ _ _ _ (rw asked.1 at c.root_at.ensures.1) c.in_ok-root.was (full_other c.is_empty.ensures c.if-is_empty.false)
