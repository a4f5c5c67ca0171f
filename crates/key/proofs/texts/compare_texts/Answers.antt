use mathlib.Core.Path.{sym, ◌∙◌}
use lib.ListN.{length}
use Rattle.key.specs.TextsLaws.{std_then, std_compare, std_texts, texts_both}
use Rattle.key.proofs.texts.compare_texts.Goals as goal

pub returns-then-n-lt8 : goal.returns-then-n-lt8
returns-then-n-lt8 c = c.cmp.ensures ∙ std_texts c.args.a.now c.args.b.now

pub returns : goal.returns
returns c =
    let a = c.args in
    let words = c.compare_words in
    let lengths = c.cmp-2.ensures ∙ std_compare (length a.a.now) (length a.b.now) in
    c.then.ensures ∙ std_then words.result c.cmp-2.result
    ∙ sym (rw (← words.ensures, ← lengths) at (texts_both a.a.now a.b.now c.min-n.result c.min-n.ensures))
