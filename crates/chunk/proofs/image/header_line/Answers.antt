use Rattle.chunk.specs.Image.{header_line}
use Rattle.chunk.proofs.image.header_line.Goals as goal

pub returns : goal.returns
unfolding header_line
returns c = rw (← c.start_of.ensures, ← c.bytes_at.ensures) c.summed_line.ensures
