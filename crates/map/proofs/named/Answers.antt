use Rattle.std.proofs.Common.{sym, ◌∙◌}
use Rattle.refusal.proofs.Passing.{handed_up}
use Rattle.map.proofs.MapLaws.{named_bad, named_shut, named_open}
use Rattle.map.proofs.named.Goals as goal

pub returns-then-not-well_named : goal.returns-then-not-well_named
returns-then-not-well_named c =
    let a = c.args in
    sym (named_bad a.name.now a.image.now a.view (sym c.well_named.ensures ∙ c.if-not-well_named.true))

pub returns-in_err-s : goal.returns-in_err-s
returns-in_err-s c =
    let a = c.args in
    handed_up c.from_residual.ensures
    ∙ sym (named_shut a.name.now a.image.now a.view (sym c.well_named.ensures ∙ c.if-not-well_named.false) (sym c.open.ensures ∙ c.in_err-s.was))

pub returns : goal.returns
returns c =
    let a = c.args in
    c.map_id.ensures
    ∙ named_open a.name.now a.image.now a.view (sym c.well_named.ensures ∙ c.if-not-well_named.false) (sym c.open.ensures ∙ c.in_ok-s.was)
