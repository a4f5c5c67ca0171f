use Rattle.std.proofs.Common.{◌≡◌, ◌-◌}
use Rattle.tree.specs.Asking.{index, map_index}
use Rattle.store.specs.Store.{pages_of}
use Rattle.store.specs.Asking.{fetched_of}
use Rattle.store.proofs.asked.Asked.fetch_from.Given as goal

abbrev pub invariant-loop : goal.invariant-loop
invariant-loop l = record {
  same : l.self ≡ l.initial.self;
  found :
      fetched_of (index (pages_of l.initial.self.image l.initial.self.map) (16 - l.counter) l.left l.p.bits)
      ≡ fetched_of (map_index (pages_of l.initial.self.image l.initial.self.map) l.initial.left l.initial.p.bits);
}
