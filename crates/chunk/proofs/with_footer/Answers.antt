use mathlib.Core.Bool.{Bool, true, false, cond}
use mathlib.Core.Path.{◌≡◌, refl, ◌∙◌}
use Rattle.std.specs.Bool.{then_some}
use Rattle.std.specs.Prelude.{Some, None}
use Rattle.chunk.specs.declared.Chunk.{Chunk}
use Rattle.chunk.specs.Chunk.{footed}
use Rattle.chunk.proofs.with_footer.Goals as goal

chosen : (b : Bool) (c : Chunk) → then_some b c ≡ cond b (Some c) None
chosen true c = refl
chosen false c = refl

pub returns : goal.returns
unfolding footed
returns c =
    rw (← c.footer_line-r.ensures, ← c.as_ref.ensures.value, ← c.is_footer.ensures) (c.then_some.ensures ∙ chosen c.is_footer.result c.args.c)
