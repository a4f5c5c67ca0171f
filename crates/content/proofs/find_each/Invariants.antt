use Prim.Native.Nat.{◌-◌}
use Rattle.std.proofs.Common.{option_map}
use Rattle.key.specs.Key.{key_of, compare_keys}
use Rattle.tree.specs.Asking.{find_in}
use Rattle.content.specs.Content.{entries_in}
use Rattle.content.specs.KeyLaws.{Finding}
use Rattle.content.proofs.find_each.Given as goal

abbrev pub invariant-loop : goal.invariant-loop
invariant-loop l =
    Finding l.s l.kind (key_of l.kind l.key) (l.fn.leaf.n - l.counter) l.i l.j
    (option_map (λ e. e.value) (find_in compare_keys (key_of l.kind l.key) (entries_in l.s l.kind l.fn.leaf.n l.fn.leaf.keys l.fn.leaf.values)))
