use Prim.Native.Nat.{◌-◌}
use Rattle.std.proofs.Common.{None, take}
use Rattle.item.specs.Step.{up_to}
use Rattle.item.specs.Item.{items}
use Rattle.page.specs.Judged.{key_form}
use Rattle.rising.specs.Rising.{rise_of}
use Rattle.rising.specs.RisingLaws.{Climbing}
use Rattle.rising.proofs.rise_each.Given as goal

abbrev pub invariant-loop : goal.invariant-loop
invariant-loop l =
    Climbing l.image l.kind l.s l.form l.last (l.fn.keys.n - l.counter) l.i
    (rise_of l.image l.kind None (up_to (items (take l.fn.keys.end l.image) (key_form l.kind)) l.fn.keys.n l.fn.keys.at))
