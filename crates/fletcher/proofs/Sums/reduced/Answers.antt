use Rattle.fletcher.specs.Plain.{both_reduced}
use Rattle.fletcher.proofs.Sums.reduced.Goals as goal

pub returns : goal.returns
unfolding both_reduced
returns c = cc
