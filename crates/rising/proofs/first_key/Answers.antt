use native.Mathlib.Omega.{arith}
use mathlib.Core.Path.{sym, ◌∙◌}
use lib.ListN.{take}
use Rattle.rising.specs.RisingLaws.{first_none, first_bad, first_at}
use Rattle.rising.proofs.first_key.Goals as goal

pub returns-then-keys-eq0 : goal.returns-then-keys-eq0
returns-then-keys-eq0 c =
    let a = c.args in
    sym (first_none a.image.now a.kind (take a.keys.end a.image.now) a.keys.n a.keys.at c.if-keys-eq0.true)

pub returns-in_err-item : goal.returns-in_err-item
returns-in_err-item c =
    let a = c.args in
    c.from_residual.ensures
    ∙ sym (first_bad a.image.now a.kind (take a.keys.end a.image.now) a.keys.n a.keys.at
    (rw (c.cut.ensures, c.key_form.ensures) at (sym c.item_at.ensures ∙ c.in_err-item.was)))

pub returns : goal.returns
returns c =
    let a = c.args in
    sym (first_at a.image.now a.kind (take a.keys.end a.image.now) a.keys.n a.keys.at (omega arith)
    (rw (c.cut.ensures, c.key_form.ensures) at (sym c.item_at.ensures ∙ c.in_ok-item.was)))
