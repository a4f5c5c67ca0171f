use Rattle.key.specs.Key.{key_of, compare_keys}
use Rattle.key.proofs.compare.Goals as goal

pub returns-in-Number : goal.returns-in-Number
unfolding key_of compare_keys
returns-in-Number c = rw (c.in-Number.is, ← c.be64.ensures, ← c.be64-in-Number.ensures) c.compare_numbers.ensures.signed

pub returns-in-Text : goal.returns-in-Text
unfolding key_of compare_keys
returns-in-Text c = rw c.in-Text.is c.compare_texts.ensures
