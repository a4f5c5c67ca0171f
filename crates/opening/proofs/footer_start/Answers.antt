use mathlib.Core.Bool.{Bool, true, false, cond}
use Prim.Native.Nat.{◌+◌}
use borrow.Author.Tests.{ne_eqb}
use mathlib.Core.Path.{◌≡◌, refl, sym, ap, ◌∙◌}
use Rattle.std.specs.Bool.{then_some}
use Rattle.std.specs.Prelude.{Some, None}
use Rattle.chunk.specs.declared.Chunk.{Chunk}
use Rattle.opening.specs.Opening.{footer_start}
use Rattle.chunk.specs.ChunkLaws.{stands_footed}
use Rattle.opening.specs.OpeningLaws.{footed_elsewhere, footed_ending}
use Rattle.opening.proofs.footer_start.Goals as goal
use Rattle.opening.proofs.footer_start.Goals.{then-end-blocks, else-end-blocks}

chosen : (b : Bool) (c : Chunk) → then_some b c ≡ cond b (Some c) None
chosen true c = refl
chosen false c = refl

pub returns : goal.returns
unfolding footer_start
returns c =
    let a = c.args in
    let d = c.in_ok-c.c in
    rw (
      ← c.requires,
      ← c.footer_line.ensures,
      c.in_ok-r.was,
      ← c.get.ensures,
      c.in_ok-block.was,
      stands_footed a.image.now c.in_ok-block.block (sym c.said_at.ensures ∙ c.in_ok-c.was) a.edition,
    )
    (elim c.if-end-blocks.branch [
      | then-end-blocks w ↦ c.then_some.ensures ∙ ap (λ (b : Bool). then_some b d) w.then_some-is ∙ chosen w.is_footer.result d ∙
          sym (footed_ending a.image.now a.edition d a.blocks w.if-end-blocks.true ∙ rw (← c.footer_line.ensures, c.in_ok-r.was, ← w.is_footer.ensures))
      | else-end-blocks w ↦ c.then_some.ensures ∙ rw (w.then_some-is, ne_eqb (d.block + d.len) a.blocks w.if-end-blocks.false) (sym (footed_elsewhere a.image.now a.edition d a.blocks w.if-end-blocks.false))
    ])
