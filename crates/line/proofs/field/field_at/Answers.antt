use mathlib.Core.Path.{sym, ◌∙◌}
use native.Mathlib.Omega.{arith}
use Rattle.line.specs.FieldAtLaws.{part_unnamed, part_long, part_cut, part_other, part_numberless, part_followed, part_ends}
use borrow.Author.Rules.{rules}
use Rattle.line.proofs.field.field_at.Goals as goal
use Rattle.line.proofs.field.field_at.Goals.{then-n-lt1-via-then-n-lt1, then-n-lt1-via-else-n-lt1+then-n-gt16}
use Rattle.line.proofs.field.field_at.Goals.{else-end-line-via-then-end-line+else-line-end-ne44, else-end-line-via-else-end-line}

pub returns-then-n-lt1 : goal.returns-then-n-lt1
returns-then-n-lt1 c =
    let a = c.args in
    let letters = c.letters_end-colon.ensures in
    elim c.then-n-lt1.branch [
      | then-n-lt1-via-then-n-lt1 w ↦ sym (part_unnamed a.line.now a.from _ letters w.if-n-lt1.true)
      | then-n-lt1-via-else-n-lt1+then-n-gt16 w ↦ sym (part_long a.line.now a.from _ letters w.if-n-gt16.true)
    ]

pub returns-then-line-colon : goal.returns-then-line-colon
returns-then-line-colon c =
    let a = c.args in
    sym (part_cut a.line.now a.from _ c.letters_end-colon.ensures c.if-line-colon.true)

pub returns-then-line-colon-ne58 : goal.returns-then-line-colon-ne58
returns-then-line-colon-ne58 c =
    let a = c.args in
    sym (part_other a.line.now a.from _ c.letters_end-colon.ensures c.if-line-colon-ne58.true)

pub returns : goal.returns
returns c =
    let a = c.args in
    let letters = c.letters_end-colon.ensures in
    let read = sym c.hex_at.ensures ∙ c.in_ok-digits.was in
    sym (part_ends a.line.now a.from _ letters (omega arith) (omega arith) (search rules) _ read
    (λ h.
    elim c.else-end-line.branch [
      | else-end-line-via-then-end-line+else-line-end-ne44 w ↦ w.if-line-end-ne44.false
      | else-end-line-via-else-end-line w ↦ absurd (omega (arith, h, w.if-end-line.false))
    ]))

pub returns-in_err-digits : goal.returns-in_err-digits
returns-in_err-digits c =
    let a = c.args in
    let letters = c.letters_end-colon.ensures in
    let none = sym c.hex_at.ensures ∙ c.in_err-digits.was in
    c.from_residual.ensures ∙ sym (part_numberless a.line.now a.from _ letters (omega arith) (omega arith) (search rules) none)

pub returns-then-line-end-ne44 : goal.returns-then-line-end-ne44
returns-then-line-end-ne44 c =
    let a = c.args in
    let letters = c.letters_end-colon.ensures in
    let read = sym c.hex_at.ensures ∙ c.in_ok-digits.was in
    let more = c.if-end-line.true in
    sym (part_followed a.line.now a.from _ letters (omega arith) (omega arith) (search rules) _ read more c.if-line-end-ne44.true)
