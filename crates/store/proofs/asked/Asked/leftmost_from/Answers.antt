use Rattle.std.proofs.Common.{refl, ◌∙◌, arith}
use Rattle.refusal.proofs.Passing.{handed_up}
use Rattle.store.specs.WayLaws.{lefting_start, lefting_deep, lefting_refused, lefting_entry, lefting_over}
use Rattle.store.specs.WayLaws.{lefting_empty, lefting_on}
use Rattle.store.specs.MemoryLaws.{seen}
use Rattle.store.proofs.asked.Asked.leftmost_from.Goals as goal
use Rattle.store.proofs.asked.Asked.leftmost_from.Goals.{in-Last, in-Last-2}

pub loop-depth-init : goal.loop-depth-init
loop-depth-init c = record {
  same = refl;
  way = lefting_start _ _ _ _ _ _ c.requires;
}

pub returns-in_err-entry : goal.returns-in_err-entry
returns-in_err-entry c =
    let read = rw c.loop-depth.invariant.same at c.read_page-page.ensures in
    let read_in = seen c.self.inside (c.self.view_is ∙ read.0) in
    let first = rw (read_in.0, read_in.1) at c.first_at.ensures in (
      read.0,
      rw (handed_up c.from_residual.ensures)
          (lefting_refused _ _ _ _ c.loop-depth.invariant.way (omega arith) read.1 first c.in_err-entry.was),
    )

pub returns-in-Entry : goal.returns-in-Entry
returns-in-Entry c =
    let read = rw c.loop-depth.invariant.same at c.read_page-page.ensures in
    let read_in = seen c.self.inside (c.self.view_is ∙ read.0) in
    let first = rw (read_in.0, read_in.1) at c.first_at.ensures in (
      read.0,
      lefting_entry _ _ _ _ c.loop-depth.invariant.way (omega arith) read.1 first (rw c.in-Entry.is at c.in_ok-entry.was),
    )

pub returns-in-Over : goal.returns-in-Over
returns-in-Over c =
    let read = rw c.loop-depth.invariant.same at c.read_page-page.ensures in
    let read_in = seen c.self.inside (c.self.view_is ∙ read.0) in
    let first = rw (read_in.0, read_in.1) at c.first_at.ensures in (
      read.0,
      lefting_over _ _ _ _ c.loop-depth.invariant.way (omega arith) read.1 first (rw c.in-Over.is at c.in_ok-entry.was)
          c.if-depth-eq0.true,
    )

pub returns-in-Over-2 : goal.returns-in-Over-2
returns-in-Over-2 c =
    let read = rw c.loop-depth.invariant.same at c.read_page-page.ensures in
    let read_in = seen c.self.inside (c.self.view_is ∙ read.0) in
    let first = rw (read_in.0, read_in.1) at c.first_at.ensures in (
      read.0,
      lefting_empty _ _ _ _ c.loop-depth.invariant.way (omega arith) read.1 first (rw c.in-Over.is at c.in_ok-entry.was)
          c.if-depth-eq0.false,
    )

pub loop-depth-preserved : goal.loop-depth-preserved
loop-depth-preserved c =
    let read = rw c.loop-depth.invariant.same at c.read_page-page.ensures in
    let read_in = seen c.self.inside (c.self.view_is ∙ read.0) in
    let first = rw (read_in.0, read_in.1) at c.first_at.ensures in record {
      same = read.0;
      way = elim c.match-branch-2.branch [
        | in-Last w ↦ rw w.q-is
            (lefting_on _ _ _ _ c.loop-depth.invariant.way (omega arith) read.1 first c.in_ok-entry.was w.in-Last.is)
        | in-Last-2 w ↦ rw w.q-is
            (lefting_on _ _ _ _ c.loop-depth.invariant.way (omega arith) read.1 first c.in_ok-entry.was w.in-Last.is)
      ];
    }

pub returns : goal.returns
returns c = (c.loop-depth.invariant.same, lefting_deep _ _ _ _ c.loop-depth.invariant.way (omega arith))
