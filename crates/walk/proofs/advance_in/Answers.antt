use mathlib.Core.Path.{sym, ◌∙◌}
use Rattle.walk.specs.WalkLaws.{after_shut, after_open}
use Rattle.walk.proofs.advance_in.Goals as goal

pub returns-in-Ok : goal.returns-in-Ok
returns-in-Ok c =
    let a = c.args in
    c.step_by.ensures ∙ after_open a.image.now a.view a.id a.kind a.w (sym c.open.ensures ∙ c.in-Ok.is) c.advance.ensures

pub returns-in-Err : goal.returns-in-Err
returns-in-Err c =
    let a = c.args in
    c.refused.ensures ∙ after_shut a.image.now a.view a.id a.kind a.w (sym c.open.ensures ∙ c.in-Err.is)
