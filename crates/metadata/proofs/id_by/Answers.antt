use Rattle.std.proofs.Common.{ap, ◌∙◌}
use Rattle.refusal.proofs.Passing.{handed_up}
use Rattle.numeral.specs.Hex.{hex_of}
use Rattle.metadata.specs.Answers.{id_of, id_by}
use Rattle.metadata.proofs.id_by.Goals as goal

pub returns-in_err-spot : goal.returns-in_err-spot
unfolding id_by
returns-in_err-spot c = rw c.in_err-spot.was (handed_up c.from_residual.ensures)

pub returns-in-Some : goal.returns-in-Some
unfolding id_by
returns-in-Some c = rw (c.in_ok-spot.was, c.in-Some.is) (c.id_of.ensures ∙ ap id_of (c.read_hex.ensures ∙ ap hex_of c.bytes.ensures))

pub returns-in-None : goal.returns-in-None
unfolding id_by
returns-in-None c = rw (c.in_ok-spot.was, c.in-None.is)
