use mathlib.Core.Path.{◌∙◌, ap}
use Rattle.mvstore.specs.Exports.{count_out}
use Rattle.mvstore.proofs.mvstore_count.Goals as goal

pub returns : goal.returns
returns c = c.count_out.ensures ∙ ap count_out c.count.ensures
