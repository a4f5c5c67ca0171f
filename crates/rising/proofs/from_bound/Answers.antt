use mathlib.Core.Path.{ap}
use Rattle.std.proofs.Common.{not}
use Rattle.rising.specs.Rising.{bound_key}
use Rattle.rising.proofs.from_bound.Goals as goal

pub returns-in-None : goal.returns-in-None
unfolding bound_key
returns-in-None c = rw c.in-None.is

pub returns-in-Some : goal.returns-in-Some
unfolding bound_key
returns-in-Some c = rw c.in-Some.is (ap not c.key_below.ensures)
