use mathlib.Core.Path.{sym, ◌∙◌}
use native.Mathlib.Omega.{arith}
use borrow.Author.Tests.{le-leb}
use Rattle.chunk.specs.Chunk.{said_at}
use Rattle.chunk.specs.ImageLaws.{right_some, right_none, newline_small}
use Rattle.chunk.specs.ChunkLaws.{said_header, said_past}
use Rattle.chunk.proofs.said_at.Goals as goal
use Rattle.chunk.proofs.said_at.Goals.{then-b-lt2-via-then-b-lt2, then-b-lt2-via-else-b-lt2+then-blocks-b}

pub returns-in_err-blocks : goal.returns-in_err-blocks
returns-in_err-blocks c =
    let a = c.args in
    c.from_residual.ensures ∙ sym (said_past a.image.now a.b (omega (arith, right_none a.image.now (sym c.right_blocks.ensures ∙ c.in_err-blocks.was))))

pub returns-then-b-lt2 : goal.returns-then-b-lt2
returns-then-b-lt2 c =
    let a = c.args in
    let size = right_some a.image.now (sym c.right_blocks.ensures ∙ c.in_ok-blocks.was) in
    elim c.then-b-lt2.branch [
      | then-b-lt2-via-then-b-lt2 w ↦ sym (said_header a.image.now a.b w.if-b-lt2.true)
      | then-b-lt2-via-else-b-lt2+then-blocks-b w ↦ sym (said_past a.image.now a.b (omega (arith, size, w.if-blocks-b.true)))
    ]

pub chunk_of-requires-clause-small : goal.chunk_of-requires-clause-small
chunk_of-requires-clause-small c =
    let a = c.args in
    rw (sym c.chunk_line.ensures ∙ c.in_ok-r.was) at (newline_small a.image.now a.b)

pub returns : goal.returns
unfolding said_at
returns c =
    let a = c.args in
    rw (
      le-leb 2 a.b c.if-b-lt2.false,
      right_some a.image.now (sym c.right_blocks.ensures ∙ c.in_ok-blocks.was),
      sym c.chunk_line.ensures ∙ c.in_ok-r.was,
    )
    c.chunk_of.ensures
