use Rattle.std.proofs.Common.{sym}
use Rattle.store.specs.MemoryLaws.{recalled_right}
use Rattle.store.proofs.asked.Asked.recall.Goals as goal

pub returns : goal.returns
returns c = rw (← c.self.view_is) (recalled_right _ _ c.self.invariant _ _ (sym c.recall.ensures))
