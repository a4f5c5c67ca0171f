use Rattle.std.proofs.Common.{refl, ◌∙◌, arith}
use Rattle.refusal.proofs.Passing.{handed_up}
use Rattle.store.specs.WayLaws.{going_root, going_refused, going_entry, going_over, going_last, going_child}
use Rattle.store.specs.WayLaws.{entry_few, child_few}
use Rattle.store.specs.MemoryLaws.{seen}
use Rattle.store.proofs.asked.Asked.down_by.Goals as goal
use Rattle.store.proofs.asked.Asked.down_by.Goals.{in-Last, in-Child}

pub loop-level-init : goal.loop-level-init
loop-level-init c =
    let pre = c.requires in
    record {
      same = refl;
      way = going_root _ _ _ _ _ _ _ pre.2 pre.1 pre.0 pre.3;
    }

pub returns-in_err-entry : goal.returns-in_err-entry
returns-in_err-entry c =
    let pre = c.requires in
    let read = rw c.loop-level.invariant.same at c.read_page-page.ensures in
    let read_in = seen c.self.inside (c.self.view_is ∙ read.0) in
    let after = rw (read_in.0, read_in.1) at c.after_at.ensures in (
      read.0,
      rw (handed_up c.from_residual.ensures)
          (going_refused _ _ _ _ _ _ _ pre.2 pre.1 c.loop-level.invariant.way read.1 after
          c.in_err-entry.was),
    )

pub overflow_add-result : goal.overflow_add-result
overflow_add-result c =
    let pre = c.requires in
    let read = rw c.loop-level.invariant.same at c.read_page-page.ensures in
    let read_in = seen c.self.inside (c.self.view_is ∙ read.0) in
    let after = rw (read_in.0, read_in.1) at c.after_at.ensures in
    omega (
      arith,
      entry_few _ _ _ _ _ _ _ pre.2 pre.1 c.loop-level.invariant.way read.1 after
          (rw c.in-Entry.is at c.in_ok-entry.was),
    )

pub returns-in-Entry : goal.returns-in-Entry
returns-in-Entry c =
    let pre = c.requires in
    let read = rw c.loop-level.invariant.same at c.read_page-page.ensures in
    let read_in = seen c.self.inside (c.self.view_is ∙ read.0) in
    let after = rw (read_in.0, read_in.1) at c.after_at.ensures in (
      read.0,
      going_entry _ _ _ _ _ _ _ pre.2 pre.1 c.loop-level.invariant.way read.1 after
          (rw c.in-Entry.is at c.in_ok-entry.was),
    )

pub returns-in-Over : goal.returns-in-Over
returns-in-Over c =
    let pre = c.requires in
    let read = rw c.loop-level.invariant.same at c.read_page-page.ensures in
    let read_in = seen c.self.inside (c.self.view_is ∙ read.0) in
    let after = rw (read_in.0, read_in.1) at c.after_at.ensures in (
      read.0,
      going_over _ _ _ _ _ _ _ pre.2 pre.1 c.loop-level.invariant.way read.1 after
          (rw c.in-Over.is at c.in_ok-entry.was) c.over_at.ensures,
    )

pub overflow_add-left : goal.overflow_add-left
overflow_add-left c =
    let pre = c.requires in
    let read = rw c.loop-level.invariant.same at c.read_page-page.ensures in
    let read_in = seen c.self.inside (c.self.view_is ∙ read.0) in
    let after = rw (read_in.0, read_in.1) at c.after_at.ensures in
    omega (
      arith,
      child_few _ _ _ _ _ _ _ pre.2 pre.1 c.loop-level.invariant.way read.1 after
          (rw c.in-Child.is at c.in_ok-entry.was),
    )

pub loop-level-preserved : goal.loop-level-preserved
loop-level-preserved c =
    let pre = c.requires in
    let read = rw c.loop-level.invariant.same at c.read_page-page.ensures in
    let read_in = seen c.self.inside (c.self.view_is ∙ read.0) in
    let after = rw (read_in.0, read_in.1) at c.after_at.ensures in record {
      same = read.0;
      way = elim c.match-branch-2.branch [
        | in-Last w ↦ rw (w.p-is, w.left-is)
            (going_last _ _ _ _ _ _ _ pre.2 pre.1 c.loop-level.invariant.way read.1 after
            (rw w.in-Last.is at c.in_ok-entry.was))
        | in-Child w ↦ rw (w.p-is, w.left-is)
            (going_child _ _ _ _ _ _ _ pre.2 pre.1 c.loop-level.invariant.way read.1 after
            (rw w.in-Child.is at c.in_ok-entry.was))
      ];
    }
