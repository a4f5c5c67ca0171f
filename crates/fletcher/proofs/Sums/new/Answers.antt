use mathlib.Core.Path.{refl}
use Rattle.fletcher.specs.Fletcher.{start}
use Rattle.fletcher.proofs.Sums.new.Goals as goal

pub returns : goal.returns
unfolding start
returns c = refl
