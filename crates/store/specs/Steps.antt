-- Locating a chunk by the metadata's answer, as the code does: the words of its private contracts.
--
--   one_more l                       a location that takes one question more: that which asked for it
--   settled_location, settled_words  locating by the metadata's answer, and the memory after it
use Rattle.std.specs.Prelude.{ℕ, ◌+◌, List, Ok, Err}
use Rattle.fletcher.specs.declared.Edition.{Edition}
use Rattle.refusal.specs.Refusal.{Outcome}
use Rattle.memory.specs.Words.{remembered_in}
use Rattle.metadata.specs.declared.Location.{Location}
use Rattle.metadata.specs.declared.Answer.{Answer}
use Rattle.metadata.specs.Answers.{location_by}

abbrev pub one_more : Outcome Location → Outcome Location
one_more (Err r) = Err r
one_more (Ok l) = Ok (record { place = l.place; need = l.need + 1 })

unfoldable pub settled_location : List ℕ → Edition → ℕ → Outcome Answer → Outcome Location
settled_location image edition n f = one_more (location_by image edition n f)

unfoldable pub settled_words : ℕ → List ℕ → Outcome Location → List ℕ
settled_words n ws (Err r) = ws
settled_words n ws (Ok l) = remembered_in ws n l.place l.need
