use mathlib.Core.Path.{◌∙◌, ap}
use Rattle.mvstore.specs.Exports.{id_out}
use Rattle.mvstore.proofs.mvstore_map.Goals as goal

pub returns : goal.returns
returns c = c.id_out.ensures ∙ ap id_out c.named.ensures
