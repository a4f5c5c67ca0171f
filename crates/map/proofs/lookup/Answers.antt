use Rattle.refusal.proofs.Passing.{handed_up}
use Rattle.store.specs.Asking.{value_of}
use Rattle.map.specs.Map.{keyed, asking, lookup_of}
use Rattle.map.proofs.lookup.Goals as goal

pub returns-in_err-id : goal.returns-in_err-id
unfolding value_of lookup_of asking
returns-in_err-id c = rw (← c.asked.ensures, c.in_err-id.was) (handed_up c.from_residual.ensures)

pub returns-then-not-well_formed : goal.returns-then-not-well_formed
unfolding value_of lookup_of asking keyed
returns-then-not-well_formed c = rw (← c.asked.ensures, c.in_ok-id.was, ← c.well_formed-2.ensures, c.if-not-well_formed.true)

pub returns-in_err-s : goal.returns-in_err-s
unfolding value_of lookup_of asking keyed
returns-in_err-s c =
    rw (← c.asked.ensures, c.in_ok-id.was, ← c.well_formed-2.ensures, c.if-not-well_formed.false, ← c.open.ensures, c.in_err-s.was)
    (handed_up c.from_residual-in_err-s.ensures)

pub returns : goal.returns
unfolding lookup_of asking keyed
returns c =
    rw (← c.asked.ensures, c.in_ok-id.was, ← c.well_formed-2.ensures, c.if-not-well_formed.false, ← c.open.ensures, c.in_ok-s.was)
    c.lookup.ensures
