use mathlib.Core.Path.{sym, ◌∙◌}
use native.Mathlib.Omega.{arith}
use Rattle.chunk.specs.ImageLaws.{blocks_most}
use Rattle.chunk.specs.ChunkLaws.{said_inside}
use Rattle.chunk.proofs.stands_at.Goals as goal

pub with_footer-requires : goal.with_footer-requires
with_footer-requires c =
    let a = c.args in
    let s = sym c.said_at.ensures ∙ c.in_ok-c.was in
    omega (arith, said_inside a.image.now a.b s, blocks_most a.image.now)
