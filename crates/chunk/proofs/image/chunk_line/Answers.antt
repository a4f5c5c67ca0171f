use Rattle.chunk.specs.Image.{chunk_line}
use Rattle.chunk.proofs.image.chunk_line.Goals as goal

pub returns : goal.returns
unfolding chunk_line
returns c = rw (← c.start_of.ensures, ← c.bytes_at.ensures) c.plain_line.ensures
