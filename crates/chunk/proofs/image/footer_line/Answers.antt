use Rattle.chunk.specs.Image.{footer_line}
use Rattle.chunk.proofs.image.footer_line.Goals as goal

pub returns : goal.returns
unfolding footer_line
returns c = rw (← c.start_of.ensures, ← c.saturating_sub-at.ensures, ← c.bytes_at.ensures) c.summed_line.ensures
