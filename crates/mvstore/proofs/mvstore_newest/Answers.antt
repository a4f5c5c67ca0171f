use mathlib.Core.Path.{◌∙◌, ap}
use Rattle.mvstore.specs.Exports.{newest_out}
use Rattle.mvstore.proofs.mvstore_newest.Goals as goal

pub returns : goal.returns
returns c = c.newest_out.ensures ∙ ap newest_out c.open.ensures
