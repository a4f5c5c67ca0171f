use Rattle.std.proofs.Common.{ap, ◌∙◌}
use Rattle.refusal.proofs.Passing.{handed_up}
use Rattle.numeral.specs.Hex.{hex_of}
use Rattle.metadata.specs.Answers.{root_said, root_of, root_by}
use Rattle.metadata.proofs.root_by.Goals as goal

pub returns-in_err-spot : goal.returns-in_err-spot
unfolding root_by
returns-in_err-spot c = rw c.in_err-spot.was (ap root_said (handed_up c.from_residual.ensures))

pub returns-in-Some : goal.returns-in-Some
unfolding root_by
returns-in-Some c = rw (c.in_ok-spot.was, c.in-Some.is) (c.root_of.ensures ∙ ap root_of (c.read_hex.ensures ∙ ap hex_of c.bytes.ensures))

pub returns-in-None : goal.returns-in-None
unfolding root_by
returns-in-None c = rw (c.in_ok-spot.was, c.in-None.is)
