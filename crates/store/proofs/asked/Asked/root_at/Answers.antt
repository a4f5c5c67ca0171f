use Rattle.std.proofs.Common.{refl, sym, ◌∙◌}
use Rattle.metadata.specs.Keys.{root_key}
use Rattle.metadata.specs.KeyLaws.{padded_text}
use Rattle.store.specs.AnswerLaws.{root_metadata, root_sought}
use Rattle.store.specs.MemoryLaws.{seen}
use Rattle.store.proofs.asked.Asked.root_at.Goals as goal

pub returns-then-map-eq0 : goal.returns-then-map-eq0
returns-then-map-eq0 c =
    let asked = seen c.self.inside c.self.view_is in
    (refl, rw (c.asked_root-root.ensures, asked.1) (sym (root_metadata _ _ _ c.if-map-eq0.true)))

pub returns : goal.returns
returns c =
    let asked = seen c.self.inside c.self.view_is in
    let after = seen c.self-2.inside (c.self-2.view_is ∙ c.descend-f.ensures.0) in
    let found = rw (c.metadata-m.ensures, c.asked_root-root.ensures, asked.1) at c.descend-f.ensures.1 in
    (c.descend-f.ensures.0, rw after.0 at c.root_by.ensures ∙ root_sought _ _ _ _ found _ c.if-map-eq0.false (rw (c.text.ensures, c.root_key-key.ensures) (padded_text 22 (root_key c.args.map))))
