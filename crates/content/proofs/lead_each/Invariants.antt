use Prim.Native.Nat.{◌-◌}
use Rattle.key.specs.Key.{key_of, compare_keys}
use Rattle.tree.specs.InnerPage.{lead}
use Rattle.content.specs.Content.{keys_in}
use Rattle.content.specs.KeyLaws.{Leading}
use Rattle.content.proofs.lead_each.Given as goal

abbrev pub invariant-loop-passed : goal.invariant-loop-passed
invariant-loop-passed l =
    Leading l.s l.kind (key_of l.kind l.key) (l.page.n - l.passed) l.i l.passed
    (lead compare_keys (key_of l.kind l.key) (keys_in l.s l.kind l.page.n l.page.keys))
