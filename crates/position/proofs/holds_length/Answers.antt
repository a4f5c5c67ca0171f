use Rattle.std.proofs.Common.{rules, tests}
use Rattle.position.specs.Position.{holds}
use Rattle.position.proofs.holds_length.Goals as goal

pub returns : goal.returns
unfolding holds
returns c = let e = c.is_none_or.ensures in rw (← c.bound_of.ensures) (search (rules, tests))
