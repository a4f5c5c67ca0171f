use Rattle.walk.specs.WalkLaws.{step_next}
use Rattle.walk.proofs.step_by.Goals as goal

pub returns : goal.returns
returns c = step_next c.args.image.now c.args.kind c.args.s c.next_by.ensures
