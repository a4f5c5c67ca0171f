use mathlib.Core.Path.{sym, ◌∙◌}
use native.Mathlib.Omega.{arith}
use lib.Seq.{length-take-le}
use Rattle.line.specs.FieldLaws.{part_placed}
use Rattle.line.specs.SumLaws.{ends_bad, ends_other, ends_sum}
use Rattle.line.proofs.sum.ends_right.Goals as goal

pub returns-in_default : goal.returns-in_default
returns-in_default c =
    let a = c.args in
    let alone = c.requires.1 in
    sym (ends_bad a.edition a.line.now a.n alone (sym c.in_default.is ∙ c.field_at.ensures))

pub slice_bounds-same_bytes-count : goal.slice_bounds-same_bytes-count
slice_bounds-same_bytes-count c = omega (arith, part_placed (sym c.in-Some.is ∙ c.field_at.ensures))

pub slice_bounds-same_bytes-start : goal.slice_bounds-same_bytes-start
slice_bounds-same_bytes-start c = omega (arith, part_placed (sym c.in-Some.is ∙ c.field_at.ensures))

pub slice_bounds-same_bytes-end-2 : goal.slice_bounds-same_bytes-end-2
slice_bounds-same_bytes-end-2 c = omega (arith, part_placed (sym c.in-Some.is ∙ c.field_at.ensures))

pub slice_bounds-sum_text-end : goal.slice_bounds-sum_text-end
slice_bounds-sum_text-end c =
    let within = c.requires.0 in
    let a = c.args in
    sym (length-take-le _ a.line.now (omega arith))

pub returns-then-same_bytes : goal.returns-then-same_bytes
returns-then-same_bytes c =
    let a = c.args in
    let alone = c.requires.1 in
    let p = part_placed (sym c.in-Some.is ∙ c.field_at.ensures) in
    let named = sym c.same_bytes.ensures ∙ c.if-same_bytes.true in
    rw (ends_sum a.edition a.line.now a.n alone p named, ← c.sum_text.ensures)

pub returns-else-same_bytes : goal.returns-else-same_bytes
returns-else-same_bytes c =
    let a = c.args in
    let alone = c.requires.1 in
    let p = part_placed (sym c.in-Some.is ∙ c.field_at.ensures) in
    c.if-same_bytes.false ∙ sym (ends_other a.edition a.line.now a.n alone p (sym c.same_bytes.ensures ∙ c.if-same_bytes.false))
