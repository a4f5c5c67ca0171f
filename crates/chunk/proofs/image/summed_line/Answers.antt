use native.Mathlib.Omega.{arith}
use mathlib.Core.Path.{sym, ◌∙◌}
use lib.Seq.{length-take-le}
use Rattle.line.specs.LineLaws.{line_inside}
use Rattle.chunk.proofs.image.summed_line.Goals as goal

pub slice_bounds-right_sum-end : goal.slice_bounds-right_sum-end
slice_bounds-right_sum-end c =
    let area = c.args.area.now in
    let p = line_inside area c.in_ok-l.l (sym c.line_of.ensures ∙ c.in_ok-l.was) in
    sym (length-take-le c.in_ok-l.l.len area (omega (arith, p.before, p.inside)))

pub read_line-requires : goal.read_line-requires
read_line-requires c =
    let p = line_inside c.args.area.now c.in_ok-l.l (sym c.line_of.ensures ∙ c.in_ok-l.was) in
    omega (arith, p.before, p.inside)
