use Prim.Native.Nat.{◌<◌, ◌-◌}
use Rattle.item.specs.Item.{count_limit, counted}
use Rattle.item.specs.CountLaws.{Summing}
use Rattle.item.proofs.sum_counts.Given as goal

abbrev pub invariant-loop : goal.invariant-loop
invariant-loop l = record {
  below : l.total < count_limit;
  summing : Summing l.s (l.n - l.counter) l.next l.total (counted l.s l.n l.at);
}
