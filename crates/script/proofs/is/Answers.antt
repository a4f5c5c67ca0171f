use mathlib.Core.Path.{◌∙◌}
use Rattle.script.proofs.is.Goals as goal

pub returns : goal.returns
returns c = c.same_bytes.ensures ∙ rw c.word.ensures
