use Rattle.std.proofs.Common.{◌≡◌, take, sym, ◌∙◌}
use Rattle.std.proofs.lemmas.List.{take_all}
use Rattle.metadata.specs.Keys.{name_key}
use Rattle.metadata.specs.KeyLaws.{padded_text}
use Rattle.store.specs.MemoryLaws.{empty_right}
use Rattle.store.specs.AnswerLaws.{name_long, id_sought}
use Rattle.store.proofs.map_id.Goals as goal

pub returns-then-name-gt-NAME : goal.returns-then-name-gt-NAME
returns-then-name-gt-NAME c = sym (name_long _ _ _ c.if-name-gt-NAME.true)

pub new-asked-requires : goal.new-asked-requires
new-asked-requires c = empty_right _ _ 8192

pub returns : goal.returns
returns c =
    let name = c.args.name.now in
    let short = c.if-name-gt-NAME.false in
    let found = rw (c.new-asked.ensures, c.metadata-m.ensures, c.asked_root-root.ensures) at c.descend-f.ensures.1 in
    let whole : take 1000 name ≡ name = take_all 1000 name short in
    c.id_by.ensures ∙ id_sought _ _ _ _ found name short (rw (c.text.ensures, c.name_key-key.ensures, whole) (padded_text 1005 (name_key name)))
