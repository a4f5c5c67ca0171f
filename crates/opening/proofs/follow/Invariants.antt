use mathlib.Core.Path.{◌≡◌}
use Rattle.chunk.specs.Image.{blocks_in}
use Rattle.opening.specs.Opening.{chain}
use Rattle.opening.specs.ChainLaws.{above}
use Rattle.opening.proofs.follow.Given as goal

abbrev pub invariant-loop-d : goal.invariant-loop-d
invariant-loop-d l = chain l.image l.edition (blocks_in l.image) l.newest ≡ chain l.image l.edition (blocks_in l.image) l.initial.newest

abbrev pub decreases-loop-d : goal.decreases-loop-d
decreases-loop-d l = above l.image l.edition l.newest.version (blocks_in l.image)
