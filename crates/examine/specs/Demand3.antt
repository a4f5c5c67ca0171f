-- Demand 3: "For any image that opens and any map in it: the examination passes exactly when 01 calls the map sound; and if it passes,
-- lookup of any well-formed key, every index, and the count agree with the entry list that 01 defines from the leaves."
--
--   Map image view map kind     what makes an id and a kind a map of an image that opens
--   entry_list m                its entry list
--   SoundMap m                  01's "sound"
--   Passes image view map kind  the examination does not refuse
--   Answers m                   lookup, index and count agree with the entry list
-- The theorem is in Theorem.antt.
use Rattle.std.specs.Prelude.{ℕ, ◌<◌, ◌≤◌, ◌≡◌, true, length, Err, None, Ok, Option, Some, slice_get}
use mathlib.Core.List.{List, Memᴰ}
use Rattle.refusal.specs.Refusal.{bad_index}
use Rattle.key.specs.declared.Kind.{Kind}
use Rattle.key.specs.Key.{Key, key_of, well_formed, compare_keys}
use Rattle.tree.specs.Asking.{map_entries}
use Rattle.tree.specs.Sound.{Sound}
use Rattle.tree.specs.declared.Report.{Report}
use Rattle.opening.specs.declared.View.{View}
use Rattle.opening.specs.declared.Store.{Store}
use Rattle.content.specs.declared.Entry.{Entry}
use Rattle.content.specs.Content.{key_in}
use Rattle.store.specs.Store.{reader, map_root}
use Rattle.viewing.specs.Viewing.{opened_store}
use Rattle.map.specs.Map.{asked_map, lookup_of, index_of, count_of}
use Rattle.examine.specs.Examine.{examine_of}

-- "A map, in an image that opens, is an id and a kind not refused with 1 whose root is found without refusal."
pub record Map (image : List ℕ) (view : View) (map kind : ℕ) : Type 0 where
  pub store : Store
  pub opens : opened_store image view ≡ Ok store
  pub id : ℕ
  pub keys : Kind
  pub asked : asked_map map kind ≡ Ok (id, keys)
  pub root : ℕ
  pub found : map_root image store id ≡ Ok root

-- "The examination passes a map if it doesn't refuse."
abbrev pub Passes : List ℕ → View → ℕ → ℕ → Type 0
Passes image view map kind = (r : Report) × (examine_of image view map kind ≡ Ok r)

module _ {image : List ℕ} {view : View} {map kind : ℕ} (m : Map image view map kind) where
  abbrev pub entry_list : List (Key × Entry)
  entry_list = map_entries (reader image m.store m.id m.keys) m.root

  -- "Sound: all reached pages meet the page rules; leaf keys rise strictly from left to right; [..]"
  abbrev pub SoundMap : Type 0
  SoundMap = Sound compare_keys (reader image m.store m.id m.keys) m.root

  pub record Answers : Type 0 where
    -- "looking up any well-formed key never refuses,"
    pub answered : (key : List ℕ) → well_formed m.keys key ≡ true → (o : Option Entry) × (lookup_of image view map kind key ≡ Ok o)
    -- "gives the entry's value by place and length if the entry list has the key"
    pub present : (key : List ℕ) → well_formed m.keys key ≡ true → (e : Entry) → Memᴰ (key_of m.keys key, e) entry_list
        → lookup_of image view map kind key ≡ Ok (Some e)
    -- "and Absent if not"
    pub absent : (key : List ℕ) → well_formed m.keys key ≡ true → ((e : Entry) → Memᴰ (key_of m.keys key, e) entry_list → ⊥)
        → lookup_of image view map kind key ≡ Ok None
    -- "every index below the list's length fetches that entry, key and value"
    pub indexed : (i : ℕ) → i < length entry_list
        → (e : Key × Entry) × (slice_get entry_list i ≡ Some e) × (index_of image view map kind i ≡ Ok e)
    -- "every other index is refused with 15"
    pub beyond : (i : ℕ) → length entry_list ≤ i → index_of image view map kind i ≡ Err bad_index
    -- "the count is the list's length"
    pub number : count_of image view map kind ≡ Ok (length entry_list)
    -- "and so is the examination's count of entries"
    pub report : (r : Report) → examine_of image view map kind ≡ Ok r → r.entries ≡ length entry_list
    -- "An entry is a key and its value, as index gives them": the key is the one at its place in the image
    pub keys_there : (k : Key) (e : Entry) → Memᴰ (k, e) entry_list → k ≡ key_in image m.keys e.key
