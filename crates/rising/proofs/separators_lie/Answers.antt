use Rattle.std.proofs.Common.{◌∙◌}
use Rattle.rising.specs.RisingLaws.{separators_none, separators_rise, separators_low}
use Rattle.rising.proofs.separators_lie.Goals as goal

pub returns-in_default : goal.returns-in_default
returns-in_default c = separators_none _ _ _ _ _ _ _ c.first_key.ensures c.in_default.is

pub returns-then-above_bound : goal.returns-then-above_bound
returns-then-above_bound c = separators_rise _ _ _ _ _ _ _ c.first_key.ensures c.in-Some.is c.above_bound.ensures c.if-above_bound.true c.rise_below.ensures

pub returns-else-above_bound : goal.returns-else-above_bound
returns-else-above_bound c = c.if-above_bound.false ∙ separators_low _ _ _ _ _ _ _ c.first_key.ensures c.in-Some.is c.above_bound.ensures c.if-above_bound.false
