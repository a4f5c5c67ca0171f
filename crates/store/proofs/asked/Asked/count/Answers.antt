use Rattle.std.proofs.Common.{◌∙◌}
use Rattle.refusal.proofs.Passing.{handed_up}
use Rattle.store.specs.AskLaws.{count_rooted, count_rootless}
use Rattle.store.specs.MemoryLaws.{seen}
use Rattle.store.proofs.asked.Asked.count.Goals as goal

pub returns-in_err-root : goal.returns-in_err-root
returns-in_err-root c =
    let asked = seen c.self.inside c.self.view_is in
    handed_up c.from_residual.ensures ∙ count_rootless _ _ _ _ _ (rw asked.1 at c.root_at.ensures.1) c.in_err-root.was

pub returns : goal.returns
returns c =
    let asked = seen c.self.inside c.self.view_is in
    rw c.root_at.ensures.0 at c.count_from.ensures ∙ count_rooted _ _ _ _ _ (rw asked.1 at c.root_at.ensures.1) c.in_ok-root.was
