use Rattle.std.proofs.Common.{refl, ◌∙◌}
use Rattle.refusal.proofs.Passing.{handed_up}
use Rattle.store.specs.ReadLaws.{judged_zero, judged_there, judged_nowhere}
use Rattle.position.specs.Laws.{empty_zero, full_other}
use Rattle.store.specs.MemoryLaws.{seen}
use Rattle.store.proofs.asked.Asked.read_page.Goals as goal

pub returns-then-is_empty : goal.returns-then-is_empty
returns-then-is_empty c = (refl, judged_zero _ _ _ _ _ (empty_zero c.is_empty.ensures c.if-is_empty.true))

pub returns-in_err-l : goal.returns-in_err-l
returns-in_err-l c =
    let l = c.locate in (
      l.ensures.0,
      handed_up c.from_residual.ensures
          ∙ judged_nowhere _ _ _ _ _ (full_other c.is_empty.ensures c.if-is_empty.false) _ c.chunk.ensures l.ensures.1 c.in_err-l.was,
    )

pub returns : goal.returns
returns c =
    let l = c.locate in
    let read_in = seen c.self.inside (c.self.view_is ∙ l.ensures.0) in (
      l.ensures.0,
      rw (read_in.0, read_in.1) at c.judge.ensures
          ∙ judged_there _ _ _ _ _ (full_other c.is_empty.ensures c.if-is_empty.false) _ c.chunk.ensures l.ensures.1 c.in_ok-l.was,
    )
