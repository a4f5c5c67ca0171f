use mathlib.Core.Path.{◌∙◌, ap}
use Rattle.mvstore.specs.Exports.{report_out}
use Rattle.mvstore.proofs.mvstore_examine.Goals as goal

pub returns : goal.returns
returns c = c.report_out.ensures ∙ ap report_out c.examine.ensures
