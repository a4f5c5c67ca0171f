-- The measure is twice the questions that may still be opened, and one more for a descent.
use Rattle.std.proofs.Common.{◌≡◌, ◌+◌, ◌-◌, ◌*◌}
use Rattle.key.specs.Key.{key_of}
use Rattle.store.specs.CycleLaws.{Came}
use Rattle.store.proofs.asked.Asked.+descend_locate.Given as goal

abbrev pub decreases-descend : goal.decreases-descend
decreases-descend l = 2 * l.q + 1

abbrev pub decreases-locate : goal.decreases-locate
decreases-locate l = 2 * l.q

abbrev pub invariant-descend-loop : goal.invariant-descend-loop
invariant-descend-loop l = record {
  same : l.self ≡ l.initial.self;
  came : Came l.initial.self.image l.initial.self.map.store l.map l.kind l.initial.p.bits (key_of l.kind l.key) l.q l.need (16 - l.counter) l.p.bits;
}
