use mathlib.Core.Path.{refl}
use Rattle.cursor.specs.Walk.{fresh}
use Rattle.cursor.proofs.Walk.fresh.Goals as goal

pub returns : goal.returns
unfolding fresh
returns c = refl
