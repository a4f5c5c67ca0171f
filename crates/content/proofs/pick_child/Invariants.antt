use Prim.Native.Nat.{◌+◌, ◌-◌, ◌<◌}
use mathlib.Core.Path.{◌≡◌}
use Rattle.item.specs.Item.{count_limit}
use Rattle.content.specs.Content.{counts_in, pick}
use Rattle.content.specs.PickLaws.{pick_from}
use Rattle.content.proofs.pick_child.Given as goal

abbrev pub invariant-loop-number : goal.invariant-loop-number
invariant-loop-number l = record {
  below : l.sum < count_limit;
  picks : pick_from l.s (l.fn.page.n + 1 - l.number) l.i l.sum l.number l.rest ≡ pick 0 l.fn.index (counts_in l.s (l.fn.page.n + 1) l.fn.page.counts);
}
