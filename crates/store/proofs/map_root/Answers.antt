use Rattle.store.specs.MemoryLaws.{empty_right}
use Rattle.store.proofs.map_root.Goals as goal

pub new-asked-requires : goal.new-asked-requires
new-asked-requires c = empty_right _ _ 8192

pub returns : goal.returns
returns c = rw (c.new-asked.ensures, c.metadata.ensures) at c.root_at.ensures.1
