use Rattle.std.proofs.Common.{rules, refl}
use Rattle.store.proofs.room.with_words.Goals as goal

pub ask-requires : goal.ask-requires
ask-requires g c = let t = c.requires 512 in search rules

pub returns-then-image-lt-SMALL : goal.returns-then-image-lt-SMALL
returns-then-image-lt-SMALL g c =
    (512, _, record { shown = _; shows = refl; left = _; met = c.ask.ensures; leaves = refl })

pub ask-requires-2 : goal.ask-requires-2
ask-requires-2 g c = let t = c.requires 8192 in search rules

pub returns : goal.returns
returns g c = (8192, _, record { shown = _; shows = refl; left = _; met = c.ask-2.ensures; leaves = refl })
