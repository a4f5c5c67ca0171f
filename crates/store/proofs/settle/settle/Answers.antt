use Rattle.std.proofs.Common.{refl, sym, ◌∙◌, arith}
use Rattle.refusal.proofs.Passing.{handed_up}
use Rattle.store.specs.Steps.{settled_location, settled_words}
use Rattle.store.specs.SettleLaws.{location_need}
use Rattle.store.proofs.settle.settle.Goals as goal

pub overflow_add-need : goal.overflow_add-need
overflow_add-need c = omega (arith, location_need _ _ _ _ (sym c.location_by.ensures ∙ c.in_ok-l.was), c.requires)

pub returns-in_err-l : goal.returns-in_err-l
unfolding settled_location settled_words
returns-in_err-l c = rw (← c.location_by.ensures, c.in_err-l.was, handed_up c.from_residual.ensures) (refl, refl)

pub returns : goal.returns
unfolding settled_location settled_words
returns c = (rw (← c.location_by.ensures, c.in_ok-l.was), c.remember.ensures)
