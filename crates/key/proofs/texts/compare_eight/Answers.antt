use mathlib.Core.Path.{◌∙◌}
use native.Mathlib.Omega.{arith}
use Rattle.key.specs.TextsLaws.{std_compare, texts_word}
use Rattle.key.proofs.texts.compare_eight.Goals as goal

pub returns : goal.returns
returns c =
    let a = c.args in
    let word = texts_word a.a.now a.b.now (λ k. omega (arith, c.type_inv.a k)) (λ k. omega (arith, c.type_inv.b k)) 8 (omega arith) (omega arith) in
    rw (word, ← c.be64.ensures, ← c.be64-2.ensures) (c.cmp.ensures ∙ std_compare c.be64.result c.be64-2.result)
