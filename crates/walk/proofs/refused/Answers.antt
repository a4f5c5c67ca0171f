use Rattle.walk.specs.WalkLaws.{step_refused}
use Rattle.walk.proofs.refused.Goals as goal

pub returns : goal.returns
returns c = step_refused c.args.w c.args.r c.refused-s.ensures
