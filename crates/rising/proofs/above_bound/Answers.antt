use Rattle.rising.specs.Rising.{bound_key}
use Rattle.rising.proofs.above_bound.Goals as goal

pub returns-in-None : goal.returns-in-None
unfolding bound_key
returns-in-None c = rw c.in-None.is

pub returns-in-Some : goal.returns-in-Some
unfolding bound_key
returns-in-Some c = rw c.in-Some.is c.key_below.ensures
