use mathlib.Core.Path.{sym, ◌∙◌, ap}
use Rattle.std.proofs.Common.{Some}
use Rattle.rising.specs.RisingLaws.{end_below, end_below_lem}
use Rattle.rising.proofs.rise_below.Goals as goal

pub returns-in-None : goal.returns-in-None
returns-in-None c =
    let a = c.args in
    ap (end_below a.image.now a.kind a.hi) (sym c.in-None.is ∙ c.rise.ensures)
    ∙ end_below_lem a.image.now a.kind a.hi a.keys.end a.keys.n a.keys.at

pub returns-in-Some-None : goal.returns-in-Some-None
returns-in-Some-None c =
    let a = c.args in
    ap (end_below a.image.now a.kind a.hi) (sym (c.in-Some-None.is ∙ ap Some c.in-Some-None.field-0-is) ∙ c.rise.ensures)
    ∙ end_below_lem a.image.now a.kind a.hi a.keys.end a.keys.n a.keys.at

pub returns-in-Some-Some : goal.returns-in-Some-Some
returns-in-Some-Some c =
    let a = c.args in
    c.below_bound.ensures
    ∙ ap (end_below a.image.now a.kind a.hi) (sym (c.in-Some-Some.is ∙ ap Some c.in-Some-Some.field-0-is) ∙ c.rise.ensures)
    ∙ end_below_lem a.image.now a.kind a.hi a.keys.end a.keys.n a.keys.at
