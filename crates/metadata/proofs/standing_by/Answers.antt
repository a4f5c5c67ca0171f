use Rattle.metadata.specs.Answers.{standing_by}
use Rattle.metadata.proofs.standing_by.Goals as goal

pub returns-in_err-fields : goal.returns-in_err-fields
unfolding standing_by
returns-in_err-fields c = rw (← c.bytes.ensures, ← c.read_fields.ensures, c.in_err-fields.was) c.from_residual.ensures

pub returns-in_err-block : goal.returns-in_err-block
unfolding standing_by
returns-in_err-block c =
    rw (← c.bytes.ensures, ← c.read_fields.ensures, c.in_ok-fields.was, ← c.get.ensures, c.in_err-block.was) c.from_residual-in_err-block.ensures

pub returns : goal.returns
unfolding standing_by
returns c =
    rw (← c.bytes.ensures, ← c.read_fields.ensures, c.in_ok-fields.was, ← c.get.ensures, c.in_ok-block.was, ← c.stands_at.ensures) c.with_id.ensures
