use Rattle.std.proofs.Common.{◌∙◌}
use Rattle.store.specs.MemoryLaws.{empty_right}
use Rattle.store.specs.AnswerLaws.{place_told}
use Rattle.store.proofs.chunk_place.Goals as goal

pub new-asked-requires : goal.new-asked-requires
new-asked-requires c = empty_right _ _ 8192

pub returns : goal.returns
returns c = c.located_by.ensures ∙ place_told _ _ _ _ (rw (c.new-asked.ensures, c.metadata.ensures) at c.locate.ensures.1)
