use Rattle.std.proofs.Common.{◌≡◌}
use Rattle.store.specs.WayLaws.{Lefting}
use Rattle.store.proofs.asked.Asked.leftmost_from.Given as goal

abbrev pub invariant-loop-depth : goal.invariant-loop-depth
invariant-loop-depth l = record {
  same : l.self ≡ l.initial.self;
  way : Lefting l.initial.self.image l.initial.self.map.store l.initial.self.map.id l.initial.self.map.kind l.fn.level l.initial.q.bits l.depth l.q.bits;
}
