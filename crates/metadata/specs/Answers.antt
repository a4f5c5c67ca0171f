-- What the metadata's answers say, after document 01, "Where a chunk is" and "Asking".
--
--   value_bytes image spot                the bytes of the value at a spot
--   standing_by image edition n v         the chunk n that stands where the metadata value at v says, if it does
--   id_of, root_of                        an id and a root by their hex digits
--   named_id, named_root                  the same by the value that the metadata has for a key, or by none
--   need_of f                             the questions that a lookup's answer took, 0 for a refusal
--   location_by image edition n f         where chunk n stands by the answer of its lookup, with the questions that the lookup took
--   located_by, value_by, id_by, root_by  the answers by a chunk's location, or by what a lookup answered
--   root_said                             a root as its bits
use Rattle.std.specs.Prelude.{ℕ, List, Err, None, Ok, Option, Some, option_and_then}
use Rattle.refusal.specs.Refusal.{Outcome, bind, not_located, no_such_name, not_a_number}
use Rattle.text.specs.Text.{bytes_at, within}
use Rattle.numeral.specs.Hex.{hex_of}
use Rattle.fletcher.specs.declared.Edition.{Edition}
use Rattle.line.specs.declared.read.Fields.{Fields}
use Rattle.line.specs.Fields.{name_block, read_of}
use Rattle.line.specs.Reading.{value_of}
use Rattle.tree.specs.Page.{branch}
use Rattle.chunk.specs.declared.Chunk.{Chunk}
use Rattle.chunk.specs.Chunk.{stands_at, kept, has_id}
use Rattle.item.specs.Item.{Spot}
use Rattle.page.specs.declared.Place.{Place}
use Rattle.content.specs.declared.Entry.{Entry}
use Rattle.metadata.specs.declared.Location.{Location}
use Rattle.metadata.specs.declared.Answer.{Answer}
use Rattle.position.specs.declared.Position.{Position}

abbrev pub value_bytes : List ℕ → Spot → List ℕ
value_bytes image s = bytes_at image s.at s.len

-- ## Where a chunk is
-- what a page's rules need of the chunk that it stands in
abbrev pub place_of : Chunk → Place
place_of c = record { block = c.block; len = c.len; first = c.first }

-- "the value's bytes are a line in the sense above, without the newline; its `block` says where chunk N must stand"
abbrev pub stands_by : List ℕ → Edition → ℕ → Option Fields → Option Chunk
stands_by image edition n f = option_and_then (λ b. kept (has_id n) (stands_at image edition b)) (option_and_then (λ x. value_of x name_block) f)

unfoldable pub standing_by : List ℕ → Edition → ℕ → Spot → Option Chunk
standing_by image edition n v = stands_by image edition n (read_of (value_bytes image v))

-- "5: [..] unusable entry, or chunk not standing there"
abbrev pub placed_at : Option Chunk → Outcome Place
placed_at None = Err not_located
placed_at (Some c) = Ok (place_of c)

-- ## A map's id and root
-- "Hex values follow the digits rule of a line; an id is 1 to 2^31-1."
abbrev pub id_of : Option ℕ → Outcome ℕ
id_of (Some v) = branch (within 1 0x7fffffff v) (Ok v) (Err not_a_number)
id_of None = Err not_a_number

abbrev pub root_of : Option ℕ → Outcome ℕ
root_of (Some v) = Ok v
root_of None = Err not_a_number

abbrev pub named_id : List ℕ → Option Entry → Outcome ℕ
named_id image None = Err no_such_name
named_id image (Some e) = id_of (hex_of (value_bytes image e.value))

abbrev pub named_root : List ℕ → Option Entry → Outcome ℕ
named_root image None = Ok 0
named_root image (Some e) = root_of (hex_of (value_bytes image e.value))

-- ## What the code hands back
-- a root is a position: its bits
abbrev pub root_said : Outcome Position → Outcome ℕ
root_said (Ok p) = Ok p.bits
root_said (Err r) = Err r

abbrev pub need_of : Outcome Answer → ℕ
need_of (Ok a) = a.need
need_of (Err r) = 0

abbrev pub location_of : ℕ → Outcome Place → Outcome Location
location_of need (Ok l) = Ok (record { place = l; need = need })
location_of need (Err r) = Err r

-- "5: no entry, [..]"; "A refusal of such a lookup is handed up unchanged."
abbrev pub location_at : List ℕ → Edition → ℕ → ℕ → Option Spot → Outcome Location
location_at image edition n need (Some v) = location_of need (placed_at (standing_by image edition n v))
location_at image edition n need None = Err not_located

unfoldable pub location_by : List ℕ → Edition → ℕ → Outcome Answer → Outcome Location
location_by image edition n f = bind f (λ a. location_at image edition n a.need a.value)

unfoldable pub located_by : Outcome Location → Outcome Place
located_by l = bind l (λ x. Ok x.place)

unfoldable pub value_by : Outcome Answer → Outcome (Option Spot)
value_by f = bind f (λ a. Ok a.value)

abbrev pub id_at : List ℕ → Option Spot → Outcome ℕ
id_at image (Some v) = id_of (hex_of (value_bytes image v))
id_at image None = Err no_such_name

unfoldable pub id_by : List ℕ → Outcome Answer → Outcome ℕ
id_by image f = bind f (λ a. id_at image a.value)

abbrev pub root_at : List ℕ → Option Spot → Outcome ℕ
root_at image (Some v) = root_of (hex_of (value_bytes image v))
root_at image None = Ok 0

unfoldable pub root_by : List ℕ → Outcome Answer → Outcome ℕ
root_by image f = bind f (λ a. root_at image a.value)
