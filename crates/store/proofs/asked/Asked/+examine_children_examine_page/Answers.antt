use Prim.Native.Nat.{◌-◌}
use mathlib.Core.Path.{refl, sym, ◌∙◌, ap}
use native.Mathlib.Omega.{arith}
use Rattle.refusal.proofs.Passing.{handed_up}
use Rattle.store.specs.Examining.{over_children}
use Rattle.store.specs.ExamineLaws.{examined_deep, page_refused, page_leaf, page_under}
use Rattle.store.specs.CameLaws.{came_first, came_fits, came_stopped, came_last, came_on, over_fits}
use Rattle.store.specs.MemoryLaws.{seen}
use Rattle.store.proofs.asked.Asked.+examine_children_examine_page.Goals as goal

pub examine_children-loop-r-init : goal.examine_children-loop-r-init
examine_children-loop-r-init t c =
    let g = c.requires in
    let e = c.none-r.ensures in
    (refl, rw e (came_first _ _ _ _ c.args.levels c.args.page c.args.span.lo c.args.span.hi g.1))

pub examine_children-tally-requires : goal.examine_children-tally-requires
examine_children-tally-requires t c =
    let g = c.requires in
    let l = c.loop-r in
    let x = rw l.invariant.0 at c.examine_page-x.ensures in
    let read_in = seen c.self.inside (c.self.view_is ∙ l.invariant.0) in
    let child = rw (read_in.0, read_in.1) at c.child_at-c.ensures in
    came_fits _ _ _ _ c.args.levels c.args.page c.args.span.lo c.args.span.hi g.1 l.j l.counts
    l.keys l.lo l.r l.invariant.1 child
    g.0 x.1

pub examine_children-returns-in_err-r : goal.examine_children-returns-in_err-r
examine_children-returns-in_err-r t c =
    let g = c.requires in
    let l = c.loop-r in
    let x = rw l.invariant.0 at c.examine_page-x.ensures in
    let read_in = seen c.self.inside (c.self.view_is ∙ l.invariant.0) in
    let child = rw (read_in.0, read_in.1) at c.child_at-c.ensures in (
      x.0,
      handed_up c.from_residual.ensures ∙ came_stopped _ _ _ _ c.args.levels c.args.page
          c.args.span.lo c.args.span.hi g.1 l.j l.counts l.keys l.lo l.r l.invariant.1
          child
          x.1 c.tally.ensures c.in_err-r.was,
    )

pub examine_children-returns-then-j-page : goal.examine_children-returns-then-j-page
examine_children-returns-then-j-page t c =
    let g = c.requires in
    let l = c.loop-r in
    let x = rw l.invariant.0 at c.examine_page-x.ensures in
    let read_in = seen c.self.inside (c.self.view_is ∙ l.invariant.0) in
    let child = rw (read_in.0, read_in.1) at c.child_at-c.ensures in (
      x.0,
      came_last _ _ _ _
          c.args.levels c.args.page c.args.span.lo c.args.span.hi g.1 l.j l.counts l.keys l.lo l.r l.invariant.1
          child
          x.1 c.tally.ensures
          c.in_ok-r.was c.if-j-page.true,
    )

pub examine_children-loop-r-preserved : goal.examine_children-loop-r-preserved
examine_children-loop-r-preserved t c =
    let g = c.requires in
    let l = c.loop-r in
    let x = rw l.invariant.0 at c.examine_page-x.ensures in
    let read_in = seen c.self.inside (c.self.view_is ∙ l.invariant.0) in
    let child = rw (read_in.0, read_in.1) at c.child_at-c.ensures in (
      x.0,
      came_on _ _ _ _
          c.args.levels c.args.page c.args.span.lo c.args.span.hi g.1 l.j l.counts l.keys l.lo l.r l.invariant.1
          child
          x.1 c.tally.ensures
          c.in_ok-r.was c.if-j-page.false,
    )

pub examine_page-returns-then-levels-eq0 : goal.examine_page-returns-then-levels-eq0
examine_page-returns-then-levels-eq0 t c = (
  refl,
  examined_deep _ _ _ _ c.args.levels c.args.top c.args.span c.args.p.bits c.if-levels-eq0.true,
)

pub examine_page-returns-in_err-report : goal.examine_page-returns-in_err-report
examine_page-returns-in_err-report t c =
    let e = c.read_page-page.ensures in
    let read_in = seen c.self.inside (c.self.view_is ∙ e.0) in
    let part = rw (read_in.0, read_in.1) at c.part_at.ensures in (
      e.0,
      handed_up c.from_residual.ensures ∙ page_refused _ _ _ _ c.args.levels c.args.top c.args.span c.args.p.bits
          c.if-levels-eq0.false e.1 part c.in_err-report.was,
    )

pub examine_page-returns-in-Leaf : goal.examine_page-returns-in-Leaf
examine_page-returns-in-Leaf t c =
    let e = c.read_page-page.ensures in
    let read_in = seen c.self.inside (c.self.view_is ∙ e.0) in
    let part = rw (read_in.0, read_in.1) at c.part_at.ensures in (
      e.0,
      page_leaf _ _ _ _ c.args.levels c.args.top c.args.span c.args.p.bits
          c.if-levels-eq0.false e.1 part (rw c.in-Leaf.is at c.in_ok-report.was),
    )

pub examine_page-examine_children-requires : goal.examine_page-examine_children-requires
examine_page-examine_children-requires t c =
    let g = c.requires in
    let if1 = c.if-levels-eq0 in
    let e = c.read_page-page.ensures in
    let read_in = seen c.self.inside (c.self.view_is ∙ e.0) in
    let part = rw (read_in.0, read_in.1) at c.part_at.ensures in
    let u = page_under _ _ _ _ c.args.levels c.args.top c.args.span c.args.p.bits
    if1.false e.1 part (rw c.in-Children.is at c.in_ok-report.was) in
    (omega (arith, if1.false), (omega (arith, g, if1.false), rw e.0 u.all))

pub examine_page-over_children-requires : goal.examine_page-over_children-requires
examine_page-over_children-requires t c =
    let if1 = c.if-levels-eq0 in
    let e = c.read_page-page.ensures in
    let read_in = seen c.self.inside (c.self.view_is ∙ e.0) in
    let part = rw (read_in.0, read_in.1) at c.part_at.ensures in
    let u = page_under _ _ _ _ c.args.levels c.args.top c.args.span c.args.p.bits
    if1.false e.1 part (rw c.in-Children.is at c.in_ok-report.was) in
    over_fits _ _ _ _ (c.args.levels - 1) c.in-Children.inner c.args.span.lo c.args.span.hi
    (omega (arith, c.requires, if1.false))
    u.all (rw e.0 at c.examine_children.ensures.1)

pub examine_page-returns-in-Children : goal.examine_page-returns-in-Children
examine_page-returns-in-Children t c =
    let e = c.read_page-page.ensures in
    let read_in = seen c.self.inside (c.self.view_is ∙ e.0) in
    let part = rw (read_in.0, read_in.1) at c.part_at.ensures in
    let f = rw c.read_page-page.ensures.0 at c.examine_children.ensures in
    let u = page_under _ _ _ _ c.args.levels c.args.top c.args.span c.args.p.bits
    c.if-levels-eq0.false e.1 part (rw c.in-Children.is at c.in_ok-report.was) in
    (f.0, c.over_children.ensures ∙ ap over_children f.1 ∙ u.children)
