use Rattle.std.proofs.Common.{◌∙◌}
use Rattle.refusal.proofs.Passing.{handed_up}
use Rattle.store.specs.AskLaws.{index_rooted, index_rootless}
use Rattle.store.specs.MemoryLaws.{seen}
use Rattle.store.proofs.asked.Asked.index.Goals as goal

pub returns-in_err-root : goal.returns-in_err-root
returns-in_err-root c =
    let asked = seen c.self.inside c.self.view_is in
    handed_up c.from_residual.ensures ∙ index_rootless _ _ _ _ _ (rw asked.1 at c.root_at.ensures.1) c.in_err-root.was _

pub returns : goal.returns
returns c =
    let asked = seen c.self.inside c.self.view_is in
    rw c.root_at.ensures.0 at c.fetch_from.ensures ∙ index_rooted _ _ _ _ _ (rw asked.1 at c.root_at.ensures.1) c.in_ok-root.was _
