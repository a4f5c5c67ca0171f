-- What is asked of a map in a store that is open, after document 01, "Asking": the map's root is found first.
--
--   judged_by image store map kind p  the page at p as it is judged: `reader` is this page as data
--   in_map image store map ask        what `ask` says of the map's root
--   lookup_in, index_in, count_in     lookup, index and count of a map by its id and kind
--   value_of, fetched_of              what the code hands back
--   turn_of image kind i j            one page of a fetch by index: the child to go on at, or the answer
use Rattle.std.specs.Prelude.{ℕ, ◌+◌, List, get_or, take, Err, None, Ok, Option, Some, slice_get, option_map}
use Rattle.refusal.specs.Refusal.{Outcome, bind, bad_index}
use Rattle.position.specs.Position.{chunk_of, of_bits}
use Rattle.key.specs.declared.Kind.{Kind}
use Rattle.key.specs.Key.{Key, compare_keys}
use Rattle.tree.specs.Asking.{map_lookup, map_index, map_count}
use Rattle.locating.specs.Locating.{read_at}
use Rattle.opening.specs.declared.Store.{Store}
use Rattle.page.specs.declared.Judged.{Judged}
use Rattle.page.specs.declared.Judged.TheVariants as judged
use Rattle.page.specs.Judged.{judged_at}
use Rattle.content.specs.declared.Entry.{Entry}
use Rattle.content.specs.Content.{entries_in, positions_in, counts_in, pick}
use Rattle.text.specs.declared.spot.Spot.{Spot}
use Rattle.store.specs.declared.fetch.Turn.{Turn}
use Rattle.store.specs.declared.fetch.Turn.TheVariants as turn
use Rattle.store.specs.Store.{chunk_at, reader, map_root}

-- ## Pages
unfoldable pub judged_by : List ℕ → Store → ℕ → Kind → ℕ → Outcome Judged
judged_by image store map kind p = read_at chunk_of (chunk_at image store 8) (λ l q. judged_at image l q map kind) p

-- ## Questions
module _ (image : List ℕ) (store : Store) (map : ℕ) where
  abbrev pub in_map : {A : Type 0} → (ℕ → Outcome A) → Outcome A
  in_map ask = bind (map_root image store map) ask

  unfoldable pub lookup_in : Kind → Key → Outcome (Option Entry)
  lookup_in kind k = in_map (map_lookup compare_keys (reader image store map kind) k)

  unfoldable pub index_in : Kind → ℕ → Outcome (Key × Entry)
  index_in kind i = in_map (map_index (reader image store map kind) i)

  unfoldable pub count_in : Kind → Outcome ℕ
  count_in kind = in_map (map_count (reader image store map kind))

-- ## What the code hands back
-- "A found value is given as its place in the image and its length"
unfoldable pub value_of : Outcome (Option Entry) → Outcome (Option Spot)
value_of (Ok o) = Ok (option_map (λ e. e.value) o)
value_of (Err r) = Err r

-- "index and walk give the key too": by place and length
unfoldable pub fetched_of : Outcome (Key × Entry) → Outcome Entry
fetched_of (Ok e) = Ok e.1
fetched_of (Err r) = Err r

-- ## One page of a fetch by index
abbrev pub entry_turn : Option (Key × Entry) → Outcome Turn
entry_turn (Some e) = Ok (turn.Done e.1)
entry_turn None = Err bad_index

abbrev pub child_turn : List ℕ → Option (ℕ × ℕ) → Outcome Turn
child_turn ps (Some c) = Ok (turn.Child (of_bits (get_or ps c.0 0)) c.1)
child_turn ps None = Err bad_index

unfoldable pub turn_of : List ℕ → Kind → ℕ → Outcome Judged → Outcome Turn
turn_of image kind i (Err r) = Err r
turn_of image kind i (Ok (judged.Leaf p)) = entry_turn (slice_get (entries_in (take p.end image) kind p.n p.keys p.values) i)
turn_of image kind i (Ok (judged.Inner p)) =
    let s = take p.end image in
    child_turn (positions_in s (p.n + 1) p.positions) (pick 0 i (counts_in s (p.n + 1) p.counts))
