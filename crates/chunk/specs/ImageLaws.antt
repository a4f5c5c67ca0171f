-- Laws of the image, its blocks and its lines.
use Rattle.std.specs.Prelude.{ℕ, ◌*◌, ◌^◌, ◌<◌, ◌≤◌, ◌≡◌, refl, Bool, cond, true, false, List, Option, Some, None, take, option_map}
use Rattle.std.proofs.Common.{◌∙◌, true≢false, arith}
use Rattle.text.specs.Text.{bytes_at}
use Rattle.text.specs.Laws.{within_true, bytes_length}
use Rattle.line.specs.declared.Line.{Line}
use Rattle.line.specs.declared.read.Fields.{Fields}
use Rattle.line.specs.Fields.{read_of}
use Rattle.line.specs.Line.{line_of}
use Rattle.line.specs.LineLaws.{line_inside}
use Rattle.chunk.specs.Image.{block_bytes, blocks_of, size_right, blocks_in, right_blocks, reading_of, plain, plain_line, chunk_line, newline_of}

-- ## Blocks
module _ (image : List ℕ) where
  pub blocks_right : size_right image ≡ true → blocks_in image ≡ blocks_of image
  unfolding blocks_in
  blocks_right e = rw e

  pub blocks_wrong : size_right image ≡ false → blocks_in image ≡ 0
  unfolding blocks_in
  blocks_wrong e = rw e

  -- an image of right size has blocks, other bytes have none
  pub size_right_lem : (blocks_in image ≡ 0 → ⊥) → size_right image ≡ true
  size_right_lem f = go (size_right image) refl
    where
      go : (t : Bool) → size_right image ≡ t → size_right image ≡ true
      go true e = e
      go false e = absurd (f (blocks_wrong e))

  pub size_wrong : blocks_in image ≡ 0 → size_right image ≡ false
  size_wrong z = go (size_right image) refl
    where
      go : (t : Bool) → size_right image ≡ t → size_right image ≡ false
      go true e = absurd (omega (arith, blocks_right e, (within_true 3 268435456 (blocks_of image) e).0))
      go false e = e

  pub right_some : {n : ℕ} → right_blocks image ≡ Some n → blocks_in image ≡ n
  right_some {n} e = go (size_right image) refl e
    where
      go : (t : Bool) → size_right image ≡ t → cond t (Some (blocks_of image)) None ≡ Some n → blocks_in image ≡ n
      go true q e = let s : blocks_of image ≡ n = cc in blocks_right q ∙ s
      go false q e = absurd (true≢false cc)

  pub right_none : right_blocks image ≡ None → blocks_in image ≡ 0
  right_none e = go (size_right image) refl e
    where
      go : (t : Bool) → size_right image ≡ t → cond t (Some (blocks_of image)) None ≡ None → blocks_in image ≡ 0
      go true q e = absurd (true≢false cc)
      go false q e = blocks_wrong q

  pub blocks_most : blocks_in image ≤ 2 ^ 28
  blocks_most = go (size_right image) refl
    where
      go : (t : Bool) → size_right image ≡ t → blocks_in image ≤ 2 ^ 28
      go true e = omega (arith, blocks_right e, (within_true 3 268435456 (blocks_of image) e).1)
      go false e = omega (arith, blocks_wrong e)

-- "block 524287 starts at byte 2147479552, block 524288 at 2147483648": no 32 bits hold what follows
pub block_524287 : (image : List ℕ) → chunk_line image 524287 ≡ plain_line (bytes_at image 2147479552 1024)
unfolding chunk_line
block_524287 image = refl

pub block_524288 : (image : List ℕ) → chunk_line image 524288 ≡ plain_line (bytes_at image 2147483648 1024)
unfolding chunk_line
block_524288 image = refl

-- ## Lines
-- the pages of a chunk may begin within 1,024 bytes
pub newline_small : (image : List ℕ) (b : ℕ) → newline_of (chunk_line image b) < 1024
unfolding chunk_line
newline_small image b = go (line_of area) refl
  where
    area : List ℕ
    area = bytes_at image (b * block_bytes) 1024

    go : (l : Option Line) → line_of area ≡ l → newline_of (plain area l) < 1024
    go None e = omega arith
    go (Some l) e = read (read_of (take l.len area))
      where
        read : (o : Option Fields) → newline_of (option_map (reading_of l.newline) o) < 1024
        read None = omega arith
        read (Some f) = omega (arith, (line_inside area l e).inside, bytes_length image (b * block_bytes) 1024)
