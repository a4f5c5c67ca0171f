-- What the public calls of a map answer, after document 01, "Asking" and "Numbers given back": "Arguments come first, then opening,
-- then the map."
--
--   asked_map map kind                                a map by its id and kind, as a caller gives them: "1: kind not 0 or 1; map 0 with kind 0; map id above 2^31-1"
--   keyed key m                                       the same with a key: "key badly formed"
--   lookup_of, index_of, count_of, copy_of, named_of  the calls
--   item_of                                           an entry as index gives it; item_at, item_by: by the places of its key and value
--   area_after image o area                           what the lent area holds after a copy with the outcome o
use Rattle.std.specs.Prelude.{ℕ, zero, suc, Bool, ◌&&◌, List, ◌++◌, leb, length, drop, Err, None, Ok, Option, Some}
use Rattle.refusal.specs.Refusal.{Outcome, bind, bad_argument, area_too_small}
use Rattle.text.specs.Text.{within, every, is_printable}
use Rattle.key.specs.declared.Kind.{Kind}
use Rattle.key.specs.declared.Kind.TheVariants.{Number, Text}
use Rattle.key.specs.Key.{Key, number, text, key_of, well_formed}
use Rattle.tree.specs.Page.{branch}
use Rattle.opening.specs.declared.View.{View}
use Rattle.opening.specs.declared.Store.{Store}
use Rattle.content.specs.declared.Entry.{Entry}
use Rattle.content.specs.Content.{key_in}
use Rattle.metadata.specs.Answers.{value_bytes}
use Rattle.store.specs.Store.{map_id}
use Rattle.store.specs.Asking.{lookup_in, index_in, count_in}
use Rattle.viewing.specs.Viewing.{opened_store}
use Rattle.map.specs.declared.entry.Item.{Item}
use Rattle.map.specs.declared.entry.Key.TheVariants as given

-- ## Arguments
-- "kind not 0 or 1"
abbrev pub kind_of : ℕ → Outcome Kind
kind_of zero = Ok Number
kind_of (suc zero) = Ok Text
kind_of (suc (suc n)) = Err bad_argument

-- "map 0 with kind 0; map id above 2^31-1"
abbrev pub asked_id : ℕ → Kind → Outcome (ℕ × Kind)
asked_id map Number = branch (within 1 0x7fffffff map) (Ok (map, Number)) (Err bad_argument)
asked_id map Text = branch (leb map 0x7fffffff) (Ok (map, Text)) (Err bad_argument)

unfoldable pub asked_map : ℕ → ℕ → Outcome (ℕ × Kind)
asked_map map kind = bind (kind_of kind) (asked_id map)

-- "key badly formed (kind 0 given as bytes: not 8)"
unfoldable pub keyed : List ℕ → ℕ × Kind → Outcome (ℕ × Kind)
keyed key m = branch (well_formed m.1 key) (Ok m) (Err bad_argument)

-- "map name not 1 to 1,000 bytes of 32 to 126"
unfoldable pub well_named : List ℕ → Bool
well_named name = within 1 1000 (length name) && every is_printable name

-- ## The calls
-- arguments, then opening, then the map
unfoldable pub asking : {A : Type 0} → Outcome (ℕ × Kind) → List ℕ → View → (Store → ℕ → Kind → Outcome A) → Outcome A
asking m image view ask = bind m (λ x. bind (opened_store image view) (λ s. ask s x.0 x.1))

-- "copy area smaller than the value"
abbrev pub fitting : ℕ → Option Entry → Outcome (Option Entry)
fitting room None = Ok None
fitting room (Some e) = branch (leb e.value.len room) (Ok (Some e)) (Err area_too_small)

module _ (image : List ℕ) (view : View) (map kind : ℕ) where
  unfoldable pub lookup_of : List ℕ → Outcome (Option Entry)
  lookup_of key = asking (bind (asked_map map kind) (keyed key)) image view (λ s id k. lookup_in image s id k (key_of k key))

  unfoldable pub index_of : ℕ → Outcome (Key × Entry)
  index_of i = asking (asked_map map kind) image view (λ s id k. index_in image s id k i)

  unfoldable pub count_of : Outcome ℕ
  count_of = asking (asked_map map kind) image view (λ s id k. count_in image s id k)

  -- "Copy is a lookup that also writes the value."
  unfoldable pub copy_of : List ℕ → ℕ → Outcome (Option Entry)
  copy_of key room = bind (lookup_of key) (fitting room)

-- "One call finds a map's id by name"
unfoldable pub named_of : List ℕ → View → List ℕ → Outcome ℕ
named_of image view name = branch (well_named name) (bind (opened_store image view) (λ s. map_id image s name)) (Err bad_argument)

-- ## What the code hands back
-- "index and walk give the key too, kind 1 by place and length"
abbrev pub entry_item : Key → Entry → Item
entry_item (number z) e = record { key = given.Number z; value = e.value }
entry_item (text t) e = record { key = given.Text e.key; value = e.value }

unfoldable pub item_of : Outcome (Key × Entry) → Outcome Item
item_of (Ok e) = Ok (entry_item e.0 e.1)
item_of (Err r) = Err r

-- an entry by the places of its key and its value: the key is what stands there
unfoldable pub item_at : List ℕ → Kind → Entry → Item
item_at image kind e = entry_item (key_in image kind e.key) e

abbrev pub item_by : List ℕ → Kind → Outcome Entry → Outcome Item
item_by image kind f = bind f (λ e. Ok (item_at image kind e))

-- "A copy writes the value at the area's start and nothing after it."; "lent areas keep their bytes"
unfoldable pub area_after : List ℕ → Outcome (Option Entry) → List ℕ → List ℕ
area_after image (Ok (Some e)) area = value_bytes image e.value ++ drop e.value.len area
area_after image (Ok None) area = area
area_after image (Err r) area = area
