use Rattle.memory.proofs.recall.Goals as goal

pub returns : goal.returns
returns c = rw (← c.seek.ensures) c.recall_at.ensures
