use Prim.Native.Nat.{◌-◌}
use Rattle.item.specs.Item.{skipped}
use Rattle.item.specs.ItemLaws.{Skipping}
use Rattle.item.proofs.skip_each.Given as goal

abbrev pub invariant-loop : goal.invariant-loop
invariant-loop l = Skipping l.s l.form (l.n - l.counter) l.i (skipped l.s l.form l.n l.at)
