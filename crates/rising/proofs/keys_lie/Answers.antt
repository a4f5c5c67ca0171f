use Rattle.std.proofs.Common.{◌∙◌}
use Rattle.rising.specs.RisingLaws.{keys_none, keys_rise, keys_low}
use Rattle.rising.proofs.keys_lie.Goals as goal

pub returns-in_default : goal.returns-in_default
returns-in_default c = keys_none _ _ _ _ _ _ _ c.first_key.ensures c.in_default.is

pub returns-then-from_bound : goal.returns-then-from_bound
returns-then-from_bound c = keys_rise _ _ _ _ _ _ _ c.first_key.ensures c.in-Some.is c.from_bound.ensures c.if-from_bound.true c.rise_below.ensures

pub returns-else-from_bound : goal.returns-else-from_bound
returns-else-from_bound c = c.if-from_bound.false ∙ keys_low _ _ _ _ _ _ _ c.first_key.ensures c.in-Some.is c.from_bound.ensures c.if-from_bound.false
