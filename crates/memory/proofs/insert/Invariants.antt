use Prim.Native.Nat.{◌-◌}
use mathlib.Core.Path.{◌≡◌}
use Rattle.memory.specs.Words.{places, inserted_from, inserted_at}
use Rattle.memory.proofs.insert.Given as goal

abbrev pub invariant-loop-j : goal.invariant-loop-j
invariant-loop-j l =
    inserted_from (places l.initial.memory - l.j) l.j l.memory l.w l.v ≡ inserted_at l.initial.memory l.i l.fn.w l.fn.v
