use mathlib.Core.Path.{◌∙◌, ap}
use Rattle.mvstore.specs.Exports.{entry_out}
use Rattle.mvstore.proofs.mvstore_index.Goals as goal

pub returns : goal.returns
returns c = c.entry_out.ensures ∙ ap entry_out c.index.ensures
