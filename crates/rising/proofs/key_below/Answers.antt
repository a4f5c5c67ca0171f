use Rattle.content.specs.Content.{key_in}
use Rattle.rising.proofs.key_below.Goals as goal

pub returns : goal.returns
unfolding key_in
returns c = rw (← c.bytes.ensures, ← c.bytes-2.ensures, ← c.compare.ensures) c.is_lt.ensures
