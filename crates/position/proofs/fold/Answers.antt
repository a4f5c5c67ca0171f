use mathlib.Core.Path.{refl}
use Rattle.position.specs.Position.{folded}
use Rattle.position.proofs.fold.Goals as goal

pub returns : goal.returns
unfolding folded
returns c = refl
