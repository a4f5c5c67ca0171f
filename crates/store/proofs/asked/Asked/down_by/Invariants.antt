use Rattle.std.proofs.Common.{◌≡◌}
use Rattle.store.specs.WayLaws.{Going}
use Rattle.store.proofs.asked.Asked.down_by.Given as goal

abbrev pub invariant-loop-level : goal.invariant-loop-level
invariant-loop-level l = record {
  same : l.self ≡ l.initial.self;
  way : Going l.initial.self.image l.initial.self.map.store l.initial.self.map.id l.initial.self.map.kind l.w.places l.w.depth l.initial.p.bits l.level l.p.bits l.left;
}
