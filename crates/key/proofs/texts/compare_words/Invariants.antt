use Prim.Native.Nat.{◌≤◌}
use mathlib.Core.Path.{◌≡◌}
use lib.ListN.{take}
use Rattle.std.specs.declared.cmp.Ordering.TheVariants.{Equal}
use Rattle.key.specs.Key.{texts_order}
use Rattle.key.proofs.texts.compare_words.Given as goal

abbrev pub invariant-loop-i : goal.invariant-loop-i
invariant-loop-i l = (l.i ≤ l.n) × (texts_order (take l.i l.a) (take l.i l.b) ≡ Equal)
