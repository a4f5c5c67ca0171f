use Rattle.std.proofs.Common.{ap, Ok}
use Rattle.store.specs.AskLaws.{turn_leaf, turn_inner}
use Rattle.store.proofs.fetch.turn_at.Goals as goal

pub returns-in-Some : goal.returns-in-Some
returns-in-Some c =
    let a = c.args in
    turn_leaf a.image.now a.kind a.index (ap Ok c.in-Leaf.is) c.cut-s.ensures c.nth_entry.ensures c.in-Some.is

pub returns-in-None : goal.returns-in-None
returns-in-None c =
    let a = c.args in
    turn_leaf a.image.now a.kind a.index (ap Ok c.in-Leaf.is) c.cut-s.ensures c.nth_entry.ensures c.in-None.is

pub returns-in-Some-pick_child : goal.returns-in-Some-pick_child
returns-in-Some-pick_child c =
    let a = c.args in
    rw c.child.ensures (turn_inner a.image.now a.kind a.index (ap Ok c.in-Inner.is) c.cut-s-in-Inner.ensures c.pick_child.ensures c.in-Some-pick_child.is)

pub returns-in-None-pick_child : goal.returns-in-None-pick_child
returns-in-None-pick_child c =
    let a = c.args in
    turn_inner a.image.now a.kind a.index (ap Ok c.in-Inner.is) c.cut-s-in-Inner.ensures c.pick_child.ensures c.in-None-pick_child.is
