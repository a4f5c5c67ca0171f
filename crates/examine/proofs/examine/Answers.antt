use Rattle.refusal.proofs.Passing.{handed_up}
use Rattle.map.specs.Map.{asking}
use Rattle.examine.specs.Examine.{examine_of}
use Rattle.examine.proofs.examine.Goals as goal

pub returns-in_err-id : goal.returns-in_err-id
unfolding examine_of asking
returns-in_err-id c = rw (← c.asked.ensures, c.in_err-id.was) (handed_up c.from_residual.ensures)

pub returns-in_err-s : goal.returns-in_err-s
unfolding examine_of asking
returns-in_err-s c =
    rw (← c.asked.ensures, c.in_ok-id.was, ← c.open.ensures, c.in_err-s.was) (handed_up c.from_residual-in_err-s.ensures)

pub returns : goal.returns
unfolding examine_of asking
returns c = rw (← c.asked.ensures, c.in_ok-id.was, ← c.open.ensures, c.in_ok-s.was) c.examine.ensures
