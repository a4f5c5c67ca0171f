use mathlib.Core.Path.{◌∙◌}
use native.Mathlib.Omega.{arith}
use Rattle.names.specs.JudgeLaws.{turning_start, turning_stopped, turning_on}
use Rattle.names.proofs.are_distinct.Goals as goal

pub loop-distinct-init : goal.loop-distinct-init
loop-distinct-init c = turning_start c.args.line.now c.new-tree.ensures.room

pub fill-requires : goal.fill-requires
fill-requires c = (c.loop-distinct.invariant.inside, c.loop-distinct.invariant.room)

pub returns-in-Distinct : goal.returns-in-Distinct
returns-in-Distinct c = rw c.in-Distinct.is at c.fill.ensures.filled ∙ c.loop-distinct.invariant.rest

pub none_in-requires : goal.none_in-requires
none_in-requires c =
    let full = rw c.in-Full.is at c.fill.ensures.filled in
    (omega (arith, full.after), full.inside, omega (arith, full.few))

pub loop-distinct-smaller : goal.loop-distinct-smaller
loop-distinct-smaller c =
    let full = rw c.in-Full.is at c.fill.ensures.filled in
    omega (arith, full.after, full.inside)

pub loop-distinct-preserved : goal.loop-distinct-preserved
loop-distinct-preserved c =
    let full = rw c.in-Full.is at c.fill.ensures.filled in
    let none = rw c.fill.ensures.begins at c.none_in.ensures in
    turning_on c.loop-distinct.invariant full none c.if-not-none_in.false c.fill.ensures.room

pub returns-then-not-none_in : goal.returns-then-not-none_in
returns-then-not-none_in c =
    let full = rw c.in-Full.is at c.fill.ensures.filled in
    let none = rw c.fill.ensures.begins at c.none_in.ensures in
    turning_stopped c.loop-distinct.invariant full none c.if-not-none_in.true
