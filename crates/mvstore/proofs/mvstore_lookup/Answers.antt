use mathlib.Core.Path.{◌∙◌, ap}
use Rattle.mvstore.specs.Exports.{value_out}
use Rattle.mvstore.proofs.mvstore_lookup.Goals as goal

pub returns : goal.returns
returns c = c.value_out.ensures ∙ ap value_out c.lookup.ensures
