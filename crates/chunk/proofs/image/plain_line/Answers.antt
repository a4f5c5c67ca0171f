use native.Mathlib.Omega.{arith}
use mathlib.Core.Path.{sym, ◌∙◌}
use Rattle.line.specs.LineLaws.{line_inside}
use Rattle.chunk.proofs.image.plain_line.Goals as goal

pub read_line-requires : goal.read_line-requires
read_line-requires c =
    let p = line_inside c.args.area.now c.in_ok-l.l (sym c.line_of.ensures ∙ c.in_ok-l.was) in
    omega (arith, p.before, p.inside)
