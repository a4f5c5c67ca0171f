use mathlib.Core.Path.{◌∙◌}
use Rattle.std.proofs.Common.{rules, tests}
use Rattle.std.proofs.lemmas.Iterator.{YieldsList-from_slice}
use Rattle.std.proofs.lemmas.Iterator.Consumers.{fold_from_yields_List}
use Rattle.script.specs.Script.{with_digit}
use Rattle.script.specs.Laws.{fold_digits}
use Rattle.script.proofs.number.Goals as goal

pub returns : goal.returns
returns c =
    let base = c.args.base in
    let w = c.word in
    let road = YieldsList-from_slice w.result.now c.iter.ensures.rest in
    fold_from_yields_List _ (with_digit base) 0 c.fold.result c.fold.ensures.ran road (λ a x b q k. search (rules, tests))
    ∙ fold_digits base 0 w.result.now ∙ rw w.ensures
