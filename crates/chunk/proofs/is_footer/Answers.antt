use mathlib.Core.Path.{sym, ◌∙◌}
use Rattle.std.proofs.Common.{true≢false}
use Rattle.chunk.specs.Chunk.{footer_of}
use Rattle.chunk.proofs.is_footer.Goals as goal
use Rattle.chunk.proofs.is_footer.Goals.{then-says, else-says}

pub returns-then-says-2 : goal.returns-then-says-2
unfolding footer_of
returns-then-says-2 c =
    elim c.if-says.branch [
      | then-says w ↦ rw (
        ← c.says.ensures,
        w.if-says.true,
        ← w.says-then-says.ensures,
        sym w.value-is ∙ c.if-says-2.true,
        ← c.says-then-says-2.ensures,
      )
      | else-says w ↦ absurd (true≢false (sym c.if-says-2.true ∙ w.value-is ∙ w.if-says.false))
    ]

pub returns-else-says-2 : goal.returns-else-says-2
unfolding footer_of
returns-else-says-2 c =
    elim c.if-says.branch [
      | then-says w ↦ c.if-says-2.false ∙ rw (
        ← c.says.ensures,
        w.if-says.true,
        ← w.says-then-says.ensures,
        sym w.value-is ∙ c.if-says-2.false,
      )
      | else-says w ↦ rw (← c.says.ensures, w.if-says.false) (w.value-is ∙ w.if-says.false)
    ]
