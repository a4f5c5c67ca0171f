use mathlib.Core.Path.{◌∙◌, ap}
use Rattle.mvstore.specs.Exports.{step_out}
use Rattle.mvstore.proofs.mvstore_next.Goals as goal

pub returns : goal.returns
returns c = c.step_out.ensures ∙ ap step_out c.advance.ensures
