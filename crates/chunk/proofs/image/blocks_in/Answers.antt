use mathlib.Core.Bool.{Bool, true, false, cond}
use mathlib.Core.Path.{◌≡◌, refl, ◌∙◌}
use Prim.Native.Nat.{ℕ}
use Rattle.std.specs.Prelude.{Some, None, unwrap_or}
use Rattle.chunk.specs.Image.{size_right, blocks_of, blocks_in}
use Rattle.chunk.proofs.image.blocks_in.Goals as goal

chosen : (b : Bool) (n : ℕ) → unwrap_or (cond b (Some n) None) 0 ≡ cond b n 0
chosen true n = refl
chosen false n = refl

pub returns : goal.returns
unfolding blocks_in
returns c =
    let image = c.args.image.now in
    c.unwrap_or.ensures ∙ rw c.right_blocks.ensures (chosen (size_right image) (blocks_of image))
