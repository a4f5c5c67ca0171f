use Prim.Native.Nat.{◌+◌, ◌*◌, ◌-◌}
use mathlib.Core.Path.{◌≡◌, sym, ◌∙◌}
use native.Mathlib.Omega.{arith}
use lib.ListN.{get_or}
use Rattle.std.proofs.Common.{get_or-set_other}
use Rattle.memory.specs.Words.{places}
use Rattle.memory.specs.WayLaws.{inserted_none, inserted_last, inserted_on}
use Rattle.memory.proofs.insert.Goals as goal

pub returns-then-w-eq0 : goal.returns-then-w-eq0
returns-then-w-eq0 c =
    let n = places c.args.memory.now in
    let l = c.loop-j in
    let first = c.swap.ensures in
    let second = c.swap-in-loop-j.ensures in
    let last = inserted_last (n - l.j) l.j l.memory l.w l.v (omega arith) (sym first.y_after ∙ c.if-w-eq0.true) in
    rw (first.x_after, second.x_after) (sym last ∙ l.invariant)

pub loop-j-preserved : goal.loop-j-preserved
loop-j-preserved c =
    let n = places c.args.memory.now in
    let l = c.loop-j in
    let first = c.swap.ensures in
    let second = c.swap-in-loop-j.ensures in
    let e : n - l.j - 1 ≡ n - (l.j + 1) = omega arith in
    let other = get_or-set_other l.memory (2 * l.j) (2 * l.j + 1) c.swap.new.x 0 (λ x. omega arith) in
    let taken = λ (x : get_or l.memory (2 * l.j) 0 ≡ 0). c.if-w-eq0.false (first.y_after ∙ x) in
    let on = inserted_on (n - l.j) l.j l.memory l.w l.v (omega arith) taken in
    rw (second.y_after, other, first.y_after, first.x_after, second.x_after) (rw (← e) (sym on ∙ l.invariant))

pub returns : goal.returns
returns c =
    let n = places c.args.memory.now in
    let l = c.loop-j in
    sym (inserted_none (n - l.j) l.j l.memory l.w l.v (omega arith)) ∙ l.invariant
