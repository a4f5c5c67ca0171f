use mathlib.Core.Path.{refl, sym, ◌∙◌}
use native.Mathlib.Omega.{arith}
use Rattle.names.specs.PartsLaws.{letters_inside, letters_every}
use Rattle.names.specs.JudgeLaws.{looking_met, looking_right, looking_on}
use Rattle.names.proofs.tree.NameTree.none_in.Goals as goal

pub loop-next-init : goal.loop-next-init
loop-next-init c = record { inside = c.requires.1; on = omega arith; rest = refl }

pub slice_bounds-is_in-end : goal.slice_bounds-is_in-end
slice_bounds-is_in-end c = letters_inside c.args.line.now c.loop-next.i _ c.letters_end-to.ensures c.loop-next.invariant.inside

pub is_in-requires : goal.is_in-requires
is_in-requires c =
    let to_inside = letters_inside c.args.line.now c.loop-next.i _ c.letters_end-to.ensures c.loop-next.invariant.inside in (
      c.requires.2,
      omega (arith, c.requires.0, c.loop-next.invariant.on, to_inside),
      letters_every c.args.line.now c.loop-next.i _ c.letters_end-to.ensures,
    )

pub returns-then-is_in : goal.returns-then-is_in
returns-then-is_in c =
    looking_met c.loop-next.invariant c.letters_end-to.ensures (sym c.is_in.ensures ∙ c.if-is_in.true)

pub returns-then-end-line : goal.returns-then-end-line
returns-then-end-line c =
    let other = sym c.is_in.ensures ∙ c.if-is_in.false in
    looking_right c.loop-next.invariant c.letters_end-to.ensures c.find_byte-end.ensures other c.if-end-line.true

pub loop-next-preserved : goal.loop-next-preserved
loop-next-preserved c =
    let other = sym c.is_in.ensures ∙ c.if-is_in.false in
    looking_on c.loop-next.invariant c.letters_end-to.ensures c.find_byte-end.ensures other c.if-end-line.false

pub overflow_add-i : goal.overflow_add-i
overflow_add-i c = omega (arith, (loop-next-preserved c).inside)

pub loop-next-smaller : goal.loop-next-smaller
loop-next-smaller c = omega (arith, (loop-next-preserved c).inside, c.letters_end-to.ensures, c.find_byte-end.ensures)
