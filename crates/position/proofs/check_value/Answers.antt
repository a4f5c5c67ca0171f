use Rattle.position.specs.Position.{check_of}
use Rattle.position.proofs.check_value.Goals as goal

pub returns : goal.returns
unfolding check_of
returns c = rw (c.fold.ensures, c.fold-2.ensures, c.fold-3.ensures)
