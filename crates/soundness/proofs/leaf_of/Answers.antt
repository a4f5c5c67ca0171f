use Rattle.soundness.specs.LeafLaws.{full_top, full_some, leaf_empty, leaf_falls, leaf_passed}
use Rattle.soundness.proofs.leaf_of.Goals as goal
use Rattle.soundness.proofs.leaf_of.Goals.{else-leaf-eq0-via-then-leaf-eq0+else-not-top, else-leaf-eq0-via-else-leaf-eq0}

pub returns-then-not-top : goal.returns-then-not-top
returns-then-not-top c =
    let a = c.args in
    leaf_empty a.image.now a.kind a.leaf a.span a.top c.if-leaf-eq0.true c.if-not-top.true

pub returns-then-not-keys_lie : goal.returns-then-not-keys_lie
returns-then-not-keys_lie c =
    let a = c.args in
    leaf_falls a.image.now a.kind a.leaf a.span a.top c.keys_lie.ensures c.if-not-keys_lie.true

pub returns : goal.returns
returns c =
    let a = c.args in
    leaf_passed a.image.now a.kind a.leaf a.span a.top c.keys_lie.ensures
    (elim c.else-leaf-eq0.branch [
      | else-leaf-eq0-via-then-leaf-eq0+else-not-top w ↦ full_top a.leaf.n w.if-not-top.false
      | else-leaf-eq0-via-else-leaf-eq0 w ↦ full_some a.leaf.n a.top w.if-leaf-eq0.false
    ])
    c.if-not-keys_lie.false
