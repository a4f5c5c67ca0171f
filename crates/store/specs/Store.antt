-- A store that is open, after document 01, "Where a chunk is" and "Asking".
--
--   metadata_map store             the metadata as a map that is asked
--   metadata image store           what locating takes, for this image
--   chunk_at image store q n       where chunk n is, with q questions that may still be opened
--   reader image store map kind p  the page at p, due for a map of a kind: 8 questions may be opened
--   pages_of image m p             the same for a map that is asked
--   asked_root store               the root from which maps are asked
--   meta_value image store key     the spot of the metadata's value for a key, or none
--   map_id image store name        "`name.X` gives map X's id in hex"
--   named_map image store name     the same, a name of more than 1,000 bytes refused with 1
--   map_root image store map       "`root.` with the id gives its root, absent meaning 0"
use Rattle.std.specs.Prelude.{ℕ, List, eqb, ltb, length, Err, Ok, Option}
use Rattle.refusal.specs.Refusal.{Outcome, bind, bad_argument}
use Rattle.position.specs.Position.{chunk_of}
use Rattle.key.specs.declared.Kind.{Kind}
use Rattle.key.specs.declared.Kind.TheVariants.{Text}
use Rattle.key.specs.Key.{Key, text, compare_keys}
use Rattle.tree.specs.Page.{branch, Page}
use Rattle.tree.specs.Asking.{map_lookup}
use Rattle.locating.specs.Locating.{Metadata, read_at, located}
use Rattle.opening.specs.declared.Store.{Store}
use Rattle.page.specs.declared.Place.{Place}
use Rattle.content.specs.declared.Entry.{Entry}
use Rattle.content.specs.Content.{page_in}
use Rattle.store.specs.declared.Map.{Map}
use Rattle.metadata.specs.Answers.{place_of, standing_by, placed_at, named_id, named_root}
use Rattle.metadata.specs.Keys.{chunk_key, name_key, root_key}

-- "Metadata is map 0, kind 1"
abbrev pub metadata_map : Store → Map
metadata_map store = record { store = store; id = 0; kind = Text }

-- ## Where a chunk is
-- "The newest stands where opening found it. Chunk N otherwise is found by a metadata lookup of `chunk.` and N in hex";
-- "Metadata is map 0, kind 1, its root in the newest chunk's header."
abbrev pub metadata : List ℕ → Store → Metadata Key Entry Place
metadata image store =
    record {
      compare = compare_keys;
      newest = store.newest.id;
      newest_at = place_of store.newest;
      root = store.newest.root.bits;
      chunk_of = chunk_of;
      key_of = λ n. text (chunk_key n);
      standing = λ n e. placed_at (standing_by image store.edition n e.value);
      page_in = λ l p. page_in image l p 0 Text;
    }

unfoldable pub chunk_at : List ℕ → Store → ℕ → ℕ → Outcome Place
chunk_at image store q n = located (metadata image store) q n

-- "A page judges in this order: depth, child position 0, location, place, check, then the fields": the depth is judged by the descent
unfoldable pub reader : List ℕ → Store → ℕ → Kind → ℕ → Outcome (Page Key Entry)
reader image store map kind p =
    read_at chunk_of (chunk_at image store 8) (λ l q. page_in image l q map kind) p

abbrev pub pages_of : List ℕ → Map → ℕ → Outcome (Page Key Entry)
pages_of image m = reader image m.store m.id m.kind

-- ## A map's id and root
-- "[..] its root in the newest chunk's header": that from which maps are asked. Chunks are located by `metadata`'s.
abbrev pub asked_root : Store → ℕ
asked_root store = store.newest.root.bits

unfoldable pub meta_value : List ℕ → Store → List ℕ → Outcome (Option Entry)
meta_value image store key = map_lookup compare_keys (reader image store 0 Text) (text key) (asked_root store)

unfoldable pub map_id : List ℕ → Store → List ℕ → Outcome ℕ
map_id image store name = bind (meta_value image store (name_key name)) (named_id image)

unfoldable pub map_root : List ℕ → Store → ℕ → Outcome ℕ
map_root image store map =
    branch (eqb map 0) (Ok (asked_root store)) (bind (meta_value image store (root_key map)) (named_root image))

-- "map name not 1 to 1,000 bytes of 32 to 126" is refusal 1
unfoldable pub named_map : List ℕ → Store → List ℕ → Outcome ℕ
named_map image store name = branch (ltb 1000 (length name)) (Err bad_argument) (map_id image store name)
