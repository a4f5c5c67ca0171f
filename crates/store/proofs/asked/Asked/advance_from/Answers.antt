use mathlib.Core.Path.{refl, sym}
use native.Mathlib.Omega.{arith}
use Rattle.cursor.specs.StateLaws.{formed_most}
use Rattle.store.specs.WalkStepLaws.{step_unformed, step_empty, step_first}
use Rattle.store.specs.WalkStepLaws.{step_entry, step_on, step_done, step_refused, left_low}
use Rattle.position.specs.Laws.{empty_zero, full_other}
use Rattle.store.proofs.asked.Asked.advance_from.Goals as goal

pub returns-then-not-is_formed : goal.returns-then-not-is_formed
returns-then-not-is_formed c = step_unformed _ _ _ _ _ _ (sym c.if-not-is_formed.ensures.0) c.refused.ensures

pub returns-then-is_empty : goal.returns-then-is_empty
returns-then-is_empty c =
    let formed = c.if-not-is_formed.ensures in
    let most = formed_most c.args.w (sym formed.0) in
    step_empty _ _ _ _ _ _ (sym formed.0) (omega (arith, formed.1 refl)) (empty_zero c.is_empty.ensures c.if-is_empty.true)
    c.in_empty.ensures

pub returns-then-w-eq0 : goal.returns-then-w-eq0
returns-then-w-eq0 c =
    let other = full_other {p = c.args.root.bits} c.is_empty.ensures c.if-is_empty.false in
    step_first _ _ _ _ _ _ (sym c.if-not-is_formed.ensures.0) c.if-w-eq0.true (omega arith) _ c.leftmost_from-first.ensures.1
    c.left_step.ensures

pub down_by-requires : goal.down_by-requires
down_by-requires c =
    let formed = c.if-not-is_formed.ensures in
    let most = formed_most c.args.w (sym formed.0) in
    let other = full_other {p = c.args.root.bits} c.is_empty.ensures c.if-is_empty.false in
    (omega arith, most, omega (arith, formed.1 refl), omega arith)

pub overflow_add-left : goal.overflow_add-left
overflow_add-left c =
    let formed = c.if-not-is_formed.ensures in
    let most = formed_most c.args.w (sym formed.0) in
    let low = left_low _ _ _ _ _ _ (sym formed.0) (omega (arith, formed.1 refl)) c.down_by.ensures.1
    (rw c.in-Ok-Left.field-0-is at c.in-Ok-Left.is) in
    omega arith

pub leftmost_from-first-requires-in-Ok-Left : goal.leftmost_from-first-requires-in-Ok-Left
leftmost_from-first-requires-in-Ok-Left c =
    let formed = c.if-not-is_formed.ensures in
    let most = formed_most c.args.w (sym formed.0) in
    let low = left_low _ _ _ _ _ _ (sym formed.0) (omega (arith, formed.1 refl)) c.down_by.ensures.1
    (rw c.in-Ok-Left.field-0-is at c.in-Ok-Left.is) in
    omega arith

pub returns-in-Ok-Entry : goal.returns-in-Ok-Entry
returns-in-Ok-Entry c =
    let formed = c.if-not-is_formed.ensures in
    let most = formed_most c.args.w (sym formed.0) in
    step_entry _ _ _ _ _ _ (sym formed.0) (omega (arith, formed.1 refl)) c.down_by.ensures.1
    (rw c.in-Ok-Entry.field-0-is at c.in-Ok-Entry.is) most c.numbered.ensures

pub returns-in-Ok-Left : goal.returns-in-Ok-Left
returns-in-Ok-Left c =
    let formed = c.if-not-is_formed.ensures in
    let most = formed_most c.args.w (sym formed.0) in
    step_on _ _ _ _ _ _ (sym formed.0) (omega (arith, formed.1 refl)) c.down_by.ensures.1
    (rw c.in-Ok-Left.field-0-is at c.in-Ok-Left.is) _ (rw c.down_by.ensures.0 at c.leftmost_from-first-in-Ok-Left.ensures.1)
    c.left_step-in-Ok-Left.ensures

pub returns-in-Ok-Over : goal.returns-in-Ok-Over
returns-in-Ok-Over c =
    let formed = c.if-not-is_formed.ensures in
    let most = formed_most c.args.w (sym formed.0) in
    step_done _ _ _ _ _ _ (sym formed.0) (omega (arith, formed.1 refl)) c.down_by.ensures.1
    (rw c.in-Ok-Over.field-0-is at c.in-Ok-Over.is) c.done.ensures

pub returns-in-Err : goal.returns-in-Err
returns-in-Err c =
    let formed = c.if-not-is_formed.ensures in
    let most = formed_most c.args.w (sym formed.0) in
    step_refused _ _ _ _ _ _ (sym formed.0) (omega (arith, formed.1 refl)) c.down_by.ensures.1 c.in-Err.is
    c.refused-in-Err.ensures
