use Prim.Native.Nat.{ℕ, ◌-◌, ◌≤◌, ◌<◌, ◌^◌}
use mathlib.Core.Path.{◌≡◌}
use Rattle.memory.specs.Words.{places, sought_from, sought_in}
use Rattle.memory.proofs.seek.Given as goal

-- as many halvings as are left find it
abbrev pub invariant-loop-low : goal.invariant-loop-low
invariant-loop-low l =
    (l.high ≤ places l.memory) × ((n : ℕ) × (l.high - l.low < 2 ^ n) × (sought_from n l.low l.high l.memory l.c ≡ sought_in l.memory l.c))

abbrev pub decreases-loop-low : goal.decreases-loop-low
decreases-loop-low l = l.high - l.low
