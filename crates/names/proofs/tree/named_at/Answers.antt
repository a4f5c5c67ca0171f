use mathlib.Core.Path.{refl, sym, ◌∙◌}
use Rattle.names.specs.NameAtLaws.{named_past, named_other, named_here}
use Rattle.names.proofs.tree.named_at.Goals as goal

pub returns-then-line-to : goal.returns-then-line-to
returns-then-line-to c =
    let a = c.args in
    c.is_empty.ensures ∙ named_past a.line.now a.at a.name.now _ refl c.if-line-to.true

pub returns-then-same_bytes : goal.returns-then-same_bytes
returns-then-same_bytes c =
    let s = c in
    let a = s.args in
    let bytes = sym c.same_bytes.ensures ∙ c.if-same_bytes.true in
    named_here a.line.now a.at a.name.now _ refl c.if-line-to.false s.requires.1 bytes _
    c.letters_end.ensures

pub returns-else-same_bytes : goal.returns-else-same_bytes
returns-else-same_bytes c =
    let a = c.args in
    let bytes = sym c.same_bytes.ensures ∙ c.if-same_bytes.false in
    c.if-same_bytes.false ∙ named_other a.line.now a.at a.name.now _ refl c.if-line-to.false bytes
