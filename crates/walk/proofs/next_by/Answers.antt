use Rattle.std.proofs.Common.{ap, Ok, ◌∙◌}
use Rattle.refusal.proofs.Passing.{handed_up}
use Rattle.walk.specs.WalkLaws.{next_done, next_refused, next_item}
use Rattle.walk.proofs.next_by.Goals as goal

pub returns-in_err-entry : goal.returns-in_err-entry
returns-in_err-entry c = handed_up c.from_residual.ensures ∙ next_refused c.args.image.now c.args.kind c.in_err-entry.was

pub returns-in-Some : goal.returns-in-Some
returns-in-Some c = next_item c.args.image.now c.args.kind (c.in_ok-entry.was ∙ ap Ok c.in-Some.is) c.item_at.ensures

pub returns-in-None : goal.returns-in-None
returns-in-None c = next_done c.args.image.now c.args.kind (c.in_ok-entry.was ∙ ap Ok c.in-None.is)
