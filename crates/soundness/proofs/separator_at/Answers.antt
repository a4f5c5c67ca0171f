use Rattle.soundness.specs.Examining.{separator_at}
use Rattle.soundness.proofs.separator_at.Goals as goal

pub returns-in-Some : goal.returns-in-Some
unfolding separator_at
returns-in-Some c = rw (← c.key_form.ensures, ← c.item_at-item.ensures, c.in-Some.is)

pub returns-in-None : goal.returns-in-None
unfolding separator_at
returns-in-None c = rw (← c.key_form.ensures, ← c.item_at-item.ensures, c.in-None.is)
