use Rattle.store.specs.MemoryLaws.{empty_right}
use Rattle.store.proofs.ask.count.Goals as goal

pub new-requires : goal.new-requires
new-requires c = empty_right _ _ 8192

pub returns : goal.returns
returns c = rw c.new.ensures at c.count.ensures
