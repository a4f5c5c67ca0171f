use Rattle.refusal.proofs.Passing.{handed_up}
use Rattle.metadata.specs.Answers.{location_by}
use Rattle.metadata.proofs.location_by.Goals as goal

pub returns-in_err-answer : goal.returns-in_err-answer
unfolding location_by
returns-in_err-answer c = rw c.in_err-answer.was (handed_up c.from_residual.ensures)

pub returns-in_default : goal.returns-in_default
unfolding location_by
returns-in_default c = rw (c.in_ok-answer.was, c.in_default.is)

pub returns-in_default-standing_by : goal.returns-in_default-standing_by
unfolding location_by
returns-in_default-standing_by c = rw (c.in_ok-answer.was, c.in-Some.is, ← c.standing_by.ensures, c.in_default-standing_by.is)

pub returns : goal.returns
unfolding location_by
returns c = rw (c.in_ok-answer.was, c.in-Some.is, ← c.standing_by.ensures, c.in-Some-standing_by.is, c.place_of.ensures)
