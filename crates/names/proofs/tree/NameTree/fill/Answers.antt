use Prim.Native.Nat.{ℕ, ◌≤◌}
use mathlib.Core.List.{List}
use mathlib.Core.Path.{◌≡◌, refl, ◌∙◌}
use native.Mathlib.Omega.{arith}
use lib.ListN.{length}
use Rattle.names.specs.PartsLaws.{letters_inside, letters_every, part_inside}
use Rattle.names.specs.JudgeLaws.{NamedAt, named_end, judging_start, judging_full, judging_unnamed, judging_stopped, judging_slot, judging_room, judging_right, judging_on}
use Rattle.names.proofs.tree.NameTree.fill.Goals as goal

pub loop-self-init : goal.loop-self-init
loop-self-init c = record { begins = refl; judging = judging_start c.requires.0 c.requires.1 }

-- the name at i, where it ends
name_inside : {line : List ℕ} {i «to» : ℕ} → NamedAt line i «to» → i ≤ length line → «to» ≤ length line
name_inside {line} {i} n h = letters_inside line i _ n.letters h

pub overflow_sub-i : goal.overflow_sub-i
overflow_sub-i c = omega (arith, c.loop-self.invariant.judging.on)

pub returns-else-i-from-le-REACH : goal.returns-else-i-from-le-REACH
returns-else-i-from-le-REACH c =
    let v = c.loop-self.invariant in
    record { room = v.judging.room; begins = v.begins; filled = rw (← v.begins) (judging_full v.judging (omega arith)) }

pub returns-after-loop-self : goal.returns-after-loop-self
returns-after-loop-self c =
    let v = c.loop-self.invariant in
    record { room = v.judging.room; begins = v.begins; filled = rw (← v.begins) (judging_full v.judging (omega arith)) }

pub returns-then-to-i : goal.returns-then-to-i
returns-then-to-i c =
    let v = c.loop-self.invariant in
    record { room = v.judging.room; begins = v.begins; filled = rw (← v.begins) (judging_unnamed v.judging c.name_end-to.ensures c.if-to-i.true) }

pub slice_bounds-seek-count : goal.slice_bounds-seek-count
slice_bounds-seek-count c = let n = named_end c.args.line.now c.loop-self.i c.name_end-to.ensures c.if-to-i.false in omega arith

pub slice_bounds-seek-start : goal.slice_bounds-seek-start
slice_bounds-seek-start c = let n = named_end c.args.line.now c.loop-self.i c.name_end-to.ensures c.if-to-i.false in omega arith

pub slice_bounds-seek-end : goal.slice_bounds-seek-end
slice_bounds-seek-end c =
    let n = named_end c.args.line.now c.loop-self.i c.name_end-to.ensures c.if-to-i.false in name_inside n c.loop-self.invariant.judging.inside

pub seek-requires : goal.seek-requires
seek-requires c =
    let n = named_end c.args.line.now c.loop-self.i c.name_end-to.ensures c.if-to-i.false in
    let j = c.loop-self.invariant.judging in
    (j.few, omega (arith, j.on, n.after, name_inside n j.inside), letters_every c.args.line.now c.loop-self.i _ n.letters)

pub returns-in-Met : goal.returns-in-Met
returns-in-Met c =
    let n = named_end c.args.line.now c.loop-self.i c.name_end-to.ensures c.if-to-i.false in
    let v = c.loop-self.invariant in
    let met = rw c.in-Met.is at (judging_stopped v.judging n c.seek.ensures (λ slot e. cc)) in
    record { room = v.judging.room; begins = v.begins; filled = rw (← v.begins) met }

pub returns-in-Deep : goal.returns-in-Deep
returns-in-Deep c =
    let n = named_end c.args.line.now c.loop-self.i c.name_end-to.ensures c.if-to-i.false in
    let v = c.loop-self.invariant in
    let deep = rw c.in-Deep.is at (judging_stopped v.judging n c.seek.ensures (λ slot e. cc)) in
    record { room = v.judging.room; begins = v.begins; filled = rw (← v.begins) deep }

pub grow-requires : goal.grow-requires
grow-requires c =
    let n = named_end c.args.line.now c.loop-self.i c.name_end-to.ensures c.if-to-i.false in
    let j = c.loop-self.invariant.judging in
    let low = judging_slot j n c.seek.ensures c.in-Free.is in
    let on = j.on in
    (omega arith, omega arith, omega arith, omega arith)

pub returns-then-end-line : goal.returns-then-end-line
returns-then-end-line c =
    let n = named_end c.args.line.now c.loop-self.i c.name_end-to.ensures c.if-to-i.false in
    let v = c.loop-self.invariant in
    let room : c.loop-self.self.used ≡ 2047 → ⊥ = λ e. omega arith in
    let g = c.grow.ensures in
    let right = judging_right v.judging n c.seek.ensures c.in-Free.is room g.place g.slots c.find_byte-end.ensures c.if-end-line.true in
    record {
      room = judging_room v.judging n c.seek.ensures c.in-Free.is room g.place g.slots;
      begins = g.begins ∙ v.begins;
      filled = rw (← v.begins) right;
    }

pub overflow_add-i : goal.overflow_add-i
overflow_add-i c =
    let n = named_end c.args.line.now c.loop-self.i c.name_end-to.ensures c.if-to-i.false in
    let f = c.find_byte-end.ensures in
    omega (arith, part_inside c.args.line.now c.loop-self.i _ n.letters f c.loop-self.invariant.judging.inside, c.if-end-line.false)

pub loop-self-smaller : goal.loop-self-smaller
loop-self-smaller c =
    let n = named_end c.args.line.now c.loop-self.i c.name_end-to.ensures c.if-to-i.false in
    let f = c.find_byte-end.ensures in
    omega (arith, n.after, f, part_inside c.args.line.now c.loop-self.i _ n.letters f c.loop-self.invariant.judging.inside, c.if-end-line.false)

pub loop-self-preserved : goal.loop-self-preserved
loop-self-preserved c =
    let n = named_end c.args.line.now c.loop-self.i c.name_end-to.ensures c.if-to-i.false in
    let v = c.loop-self.invariant in
    let room : c.loop-self.self.used ≡ 2047 → ⊥ = λ e. omega arith in
    let g = c.grow.ensures in
    let on = judging_on v.judging n c.seek.ensures c.in-Free.is room g.place g.slots c.find_byte-end.ensures c.if-end-line.false in
    record { begins = g.begins ∙ v.begins; judging = rw (g.begins, g.count) on }
