use Rattle.std.proofs.Common.{◌∙◌}
use Rattle.refusal.proofs.Passing.{handed_up}
use Rattle.store.specs.AskLaws.{lookup_rooted, lookup_rootless}
use Rattle.store.specs.MemoryLaws.{seen}
use Rattle.store.proofs.asked.Asked.lookup.Goals as goal

pub returns-in_err-root : goal.returns-in_err-root
returns-in_err-root c =
    let asked = seen c.self.inside c.self.view_is in
    handed_up c.from_residual.ensures ∙ lookup_rootless _ _ _ _ _ (rw asked.1 at c.root_at.ensures.1) c.in_err-root.was _

pub returns : goal.returns
returns c =
    let asked = seen c.self.inside c.self.view_is in
    let found = rw (c.root_at.ensures.0, asked.1) at c.descend.ensures.1 in
    c.value_by.ensures ∙ lookup_rooted _ _ _ _ _ (rw asked.1 at c.root_at.ensures.1) c.in_ok-root.was _ _ found
