use Rattle.refusal.proofs.Passing.{handed_up}
use Rattle.map.specs.Map.{asking, count_of}
use Rattle.map.proofs.count.Goals as goal

pub returns-in_err-id : goal.returns-in_err-id
unfolding count_of asking
returns-in_err-id c = rw (← c.asked.ensures, c.in_err-id.was) (handed_up c.from_residual.ensures)

pub returns-in_err-s : goal.returns-in_err-s
unfolding count_of asking
returns-in_err-s c =
    rw (← c.asked.ensures, c.in_ok-id.was, ← c.open.ensures, c.in_err-s.was) (handed_up c.from_residual-in_err-s.ensures)

pub returns : goal.returns
unfolding count_of asking
returns c = rw (← c.asked.ensures, c.in_ok-id.was, ← c.open.ensures, c.in_ok-s.was) c.count.ensures
