use mathlib.Core.Path.{◌≡◌, refl, ◌∙◌}
use lib.Dec.{eqb}
use Rattle.std.specs.Prelude.{ℕ, zero, suc, List, [], ◌∷◌, Option, Some, None, get_or}
use Rattle.std.specs.List.{slice_get}
use Rattle.std.specs.Option.{option_map, unwrap_or}
use Rattle.std.proofs.Common.{ap, rules, tests, Bor}
use Rattle.std.proofs.lemmas.Iterator.Consumers.{nth_from_yields_List}
use Rattle.std.proofs.lemmas.Iterator.Splits.{YieldsList-from_slice_split}
use Rattle.script.specs.Laws.{std_split}
use Rattle.script.specs.Script.{word_of}
use Rattle.script.proofs.word.Goals as goal

-- the part that was found, or another where there are fewer
part_or : (o : Option (Bor (List ℕ))) (d : Bor (List ℕ)) (parts : List (List ℕ)) (k : ℕ) → option_map (λ x. x.now) o ≡ slice_get parts k
    → (unwrap_or o d).now ≡ get_or parts k d.now
part_or None d [] k e = refl
part_or (Some x) d [] k e = cc
part_or None d (p ∷ ps) zero e = cc
part_or (Some x) d (p ∷ ps) zero e = cc
part_or o d (p ∷ ps) (suc k) e = part_or o d ps k e

pub returns : goal.returns
unfolding word_of
returns c =
    let a = c.args in
    let parts = c.split.ensures in
    let nth = nth_from_yields_List c.nth.result c.nth.new.self a.k c.nth.ensures.ran
    (YieldsList-from_slice_split _ (λ b. eqb b 32) a.line.now parts.rest parts.done parts.closure (λ x b q k. search (rules, tests))) in
    let found = rw (std_split 32 a.line.now) at nth in
    ap (λ r. r.now) c.unwrap_or.ensures ∙ part_or c.nth.result _ _ a.k found
