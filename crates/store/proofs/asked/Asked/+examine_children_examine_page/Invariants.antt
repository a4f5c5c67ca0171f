-- The measure is twice the levels that are left, and one more for the children.
use Rattle.std.proofs.Common.{◌≡◌, ◌+◌, ◌*◌, ◌-◌}
use Rattle.store.specs.CameLaws.{Came}
use Rattle.store.proofs.asked.Asked.+examine_children_examine_page.Given as goal

abbrev pub decreases-examine_children : goal.decreases-examine_children
decreases-examine_children l = 2 * l.levels + 1

abbrev pub decreases-examine_page : goal.decreases-examine_page
decreases-examine_page l = 2 * l.levels

abbrev pub invariant-examine_children-loop-r : goal.invariant-examine_children-loop-r
invariant-examine_children-loop-r l =
    (l.self ≡ l.initial.self)
    × Came l.initial.self.image l.initial.self.map.store l.initial.self.map.id l.initial.self.map.kind l.levels l.page l.fn.span.lo l.fn.span.hi l.j l.counts l.keys l.lo l.r

abbrev pub decreases-examine_children-loop-r : goal.decreases-examine_children-loop-r
decreases-examine_children-loop-r l = l.page.n - l.j
