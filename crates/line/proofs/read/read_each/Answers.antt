use Prim.Native.Nat.{◌-◌}
use lib.ListN.{take, drop}
use mathlib.Core.Path.{◌≡◌, refl, sym, ◌∙◌}
use native.Mathlib.Omega.{arith}
use Rattle.line.specs.Reading.{slot_of, put}
use Rattle.line.specs.FieldLaws.{part_placed}
use Rattle.line.specs.ReadingLaws.{finish_bad, finish_end, finish_seen, finish_put}
use Rattle.line.specs.ApartLaws.{read_start, read_unseen, read_on}
use Rattle.line.specs.FillLaws.{put_known, put_other}
use Rattle.line.proofs.read.read_each.Goals as goal
use Rattle.line.proofs.read.read_each.Goals.{in-Some, in_default}

pub loop-field-init : goal.loop-field-init
loop-field-init c = read_start c.args.line.now c.requires

pub returns-in_err-field : goal.returns-in_err-field
returns-in_err-field c =
    let l = c.loop-field in
    let bad = sym c.in_err-field.was ∙ c.field_at.ensures in
    c.from_residual.ensures ∙ sym (finish_bad l.fields c.args.line.now l.i bad) ∙ l.invariant.rest

pub slice_bounds-name-count : goal.slice_bounds-name-count
slice_bounds-name-count c = omega (arith, part_placed (sym c.in_ok-field.was ∙ c.field_at.ensures))

pub slice_bounds-name-start : goal.slice_bounds-name-start
slice_bounds-name-start c = omega (arith, part_placed (sym c.in_ok-field.was ∙ c.field_at.ensures))

pub slice_bounds-name-end : goal.slice_bounds-name-end
slice_bounds-name-end c = omega (arith, part_placed (sym c.in_ok-field.was ∙ c.field_at.ensures))

pub repeats-requires : goal.repeats-requires
repeats-requires c =
    let p = part_placed (sym c.in_ok-field.was ∙ c.field_at.ensures) in
    record { known = c.slot_of-known.ensures; apart = λ t. read_unseen c.loop-field.invariant p t }

pub returns-then-repeats : goal.returns-then-repeats
returns-then-repeats c =
    let l = c.loop-field in
    let p = part_placed (sym c.in_ok-field.was ∙ c.field_at.ensures) in
    let s = c.repeats.ensures in
    let line = c.args.line.now in
    sym (finish_seen l.fields line l.i p s c.if-repeats.true) ∙ l.invariant.rest

pub returns-then-field-line : goal.returns-then-field-line
returns-then-field-line c =
    let l = c.loop-field in
    let line = c.args.line.now in
    let p = part_placed (sym c.in_ok-field.was ∙ c.field_at.ensures) in
    let name = take (c.in_ok-field.field.colon - l.i) (drop l.i line) in
    let known = c.slot_of-known.ensures in
    -- what is read so far, with this field's value
    let with_value : c.match-known.fields ≡ put l.fields (slot_of name) c.in_ok-field.field.value =
    elim c.match-known.branch [
      | in-Some w ↦ w.fields-is ∙ rw w.index.ensures (sym (put_known l.fields name c.in_ok-field.field.value (sym known ∙ w.in-Some.is)))
      | in_default w ↦ w.fields-is ∙ sym (put_other l.fields name c.in_ok-field.field.value (sym known ∙ w.in_default.is))
    ] in
    rw with_value (sym (finish_end _ line _ (omega arith))) ∙ sym (finish_put l.fields line l.i p c.repeats.ensures c.if-repeats.false) ∙ l.invariant.rest

pub loop-field-preserved : goal.loop-field-preserved
loop-field-preserved c =
    let l = c.loop-field in
    let line = c.args.line.now in
    let p = part_placed (sym c.in_ok-field.was ∙ c.field_at.ensures) in
    let name = take (c.in_ok-field.field.colon - l.i) (drop l.i line) in
    let known = c.slot_of-known.ensures in
    -- what is read so far, with this field's value
    let with_value : c.match-known.fields ≡ put l.fields (slot_of name) c.in_ok-field.field.value =
    elim c.match-known.branch [
      | in-Some w ↦ w.fields-is ∙ rw w.index.ensures (sym (put_known l.fields name c.in_ok-field.field.value (sym known ∙ w.in-Some.is)))
      | in_default w ↦ w.fields-is ∙ sym (put_other l.fields name c.in_ok-field.field.value (sym known ∙ w.in_default.is))
    ] in
    read_on l.invariant p c.repeats.ensures c.if-repeats.false (omega (arith, p.inside, c.if-field-line.false)) with_value refl
