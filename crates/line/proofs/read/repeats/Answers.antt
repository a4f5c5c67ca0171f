use mathlib.Core.Path.{sym, ◌∙◌}
use borrow.Author.Tests.{lt-ltb, le-ltb}
use Rattle.line.specs.Reading.{place_of, seen}
use Rattle.line.specs.SlotLaws.{place_slot, place_small, known_some, known_none}
use Rattle.line.proofs.read.repeats.Goals as goal

pub returns-in-Some : goal.returns-in-Some
unfolding seen
returns-in-Some c =
    let k = c.in-Some.k in
    let place = known_some c.args.name.now (sym c.requires.known ∙ c.in-Some.is) in
    rw (place, lt-ltb (place_of k) 11 (place_small k), place_slot k, ← c.get.ensures) c.is_some.ensures

pub returns-in-None : goal.returns-in-None
unfolding seen
returns-in-None c =
    rw (le-ltb _ 11 (known_none c.args.name.now (sym c.requires.known ∙ c.in-None.is)), c.named_later.ensures)
