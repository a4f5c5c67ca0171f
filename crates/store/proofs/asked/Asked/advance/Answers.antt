use Rattle.store.specs.WalkStepLaws.{step_no_root, step_from}
use Rattle.store.specs.MemoryLaws.{seen}
use Rattle.store.proofs.asked.Asked.advance.Goals as goal

pub returns-in-Err : goal.returns-in-Err
returns-in-Err c =
    let asked = seen c.self.inside c.self.view_is in
    step_no_root _ _ _ _ _ (rw asked.1 at c.root_at.ensures.1) c.in-Err.is c.refused.ensures

pub returns-in-Ok : goal.returns-in-Ok
returns-in-Ok c =
    let asked = seen c.self.inside c.self.view_is in
    step_from _ _ _ _ _ (rw asked.1 at c.root_at.ensures.1) c.in-Ok.is (rw c.root_at.ensures.0 at c.advance_from.ensures)
