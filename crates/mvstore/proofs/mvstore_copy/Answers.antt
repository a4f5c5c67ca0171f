use mathlib.Core.Path.{◌∙◌, ap}
use Rattle.mvstore.specs.Exports.{value_out}
use Rattle.mvstore.proofs.mvstore_copy.Goals as goal

pub returns : goal.returns
returns c = record { answer = c.value_out.ensures ∙ ap value_out c.copy.ensures.answer; area = c.copy.ensures.area }
