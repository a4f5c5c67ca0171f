use Prim.Native.Nat.{◌-◌, ◌+◌, ◌<◌}
use mathlib.Core.Path.{◌≡◌, refl, sym, ap, ◌∙◌}
use native.Mathlib.Omega.{arith}
use Rattle.names.specs.Tree.{bit_of}
use Rattle.names.specs.SeekLaws.{bit_small, seeking_start, seeking_none, seeking_free, seeking_off, seeking_met, seeking_on}
use Rattle.names.proofs.tree.NameTree.seek.Goals as goal

pub loop-d-init : goal.loop-d-init
loop-d-init c = seeking_start _ _ _ _ _ _

pub returns-then-node-eq0 : goal.returns-then-node-eq0
returns-then-node-eq0 c =
    seeking_free c.loop-d.invariant (omega arith) refl c.if-node-eq0.true

pub returns-then-self-node : goal.returns-then-self-node
returns-then-self-node c =
    seeking_off c.loop-d.invariant (omega arith) refl c.if-node-eq0.false
    c.if-self-node.true

pub overflow_add-self : goal.overflow_add-self
overflow_add-self c =
    let pre = c.requires in
    omega (arith, c.fits-self, pre.1)

pub named_at-requires : goal.named_at-requires
named_at-requires c =
    let pre = c.requires in
    (omega (arith, c.fits-self, pre.1), pre.2)

pub returns-then-named_at : goal.returns-then-named_at
returns-then-named_at c =
    let l = c.loop-d in
    let more : 0 < 97 - l.d = omega arith in
    seeking_met l.invariant more refl c.if-node-eq0.false c.if-self-node.false refl
    (sym c.named_at.ensures ∙ c.if-named_at.true)

pub overflow_add-slot : goal.overflow_add-slot
overflow_add-slot c =
    let l = c.loop-d in
    let u = c.if-self-node.false in
    omega (arith, u, c.requires.0, c.bit.ensures, bit_small c.args.name.now l.d)

pub loop-d-preserved : goal.loop-d-preserved
loop-d-preserved c =
    let l = c.loop-d in
    let more : 0 < 97 - l.d = omega arith in
    let depth : l.d ≡ 96 - (97 - l.d - 1) = omega arith in
    let left : 97 - (l.d + 1) ≡ 97 - l.d - 1 = omega arith in
    let bit = c.bit.ensures ∙ ap (bit_of c.args.name.now) depth in
    let other = sym c.named_at.ensures ∙ c.if-named_at.false in
    rw left (seeking_on l.invariant more refl c.if-node-eq0.false c.if-self-node.false refl other bit)

pub returns : goal.returns
returns c = seeking_none c.loop-d.invariant (omega arith)
