-- What a judged page holds, after document 01, "Positions and pages" and "Asking". s is the image up to the page's end; n items of a
-- form from a place on.
--
--   Entry                                         "An entry is a key and its value, as index gives them": each by place and length
--   key_in s kind spot                            the key at a spot
--   keys_in, positions_in, counts_in, entries_in  the keys, positions, recorded counts and entries of a page
--   page_of image kind j                          the page as data, of what it was judged to be
--   page_in image c p map kind                    the page at a position in a chunk: its refusal, or the page as data
--   pick j i ns                                   the child that has index i, by the recorded counts ns from number j on, and what is left of the index
--   upto next same                                a key that is not greater, whether it is equal, and the place after it
--   probe_at s kind i k                           the key at a place against the key k
use Rattle.std.specs.Prelude.{ℕ, ◌+◌, ◌-◌, List, [], ◌∷◌, map, true, false, cond, ltb, take, drop, Err, None, Ok, Option, Some, Bool}
use Rattle.refusal.specs.Refusal.{Outcome}
use Rattle.numeral.specs.BigEndian.{big_endian_at}
use Rattle.key.specs.declared.Kind.{Kind}
use Rattle.key.specs.Key.{Key, key_of, compare_keys}
use Rattle.page.specs.declared.Place.{Place}
use Rattle.tree.specs.Page.{Page, leaf, inner}
use Rattle.tree.specs.Asking.{three}
use Rattle.tree.specs.InnerPage.{children_of}
use Rattle.item.specs.declared.Form.TheVariants.{Word, Bytes}
use Rattle.item.specs.Step.{up_to}
use Rattle.item.specs.Item.{Spot, on_sized, item_at, items, count_at}
use Rattle.page.specs.declared.Judged.{Judged}
use Rattle.page.specs.declared.Judged.TheVariants.{Leaf, Inner}
use Rattle.page.specs.Judged.{key_form, judged_at}
use Rattle.content.specs.declared.Probe.{Probe}
use Rattle.content.specs.declared.Picked.{Picked}
use Rattle.content.specs.declared.Entry.{Entry}

unfoldable pub key_in : List ℕ → Kind → Spot → Key
key_in s kind p = key_of kind (take p.len (drop p.at s))

unfoldable pub keys_in : List ℕ → Kind → ℕ → ℕ → List Key
keys_in s kind n i = map (key_in s kind) (up_to (items s (key_form kind)) n i)

unfoldable pub positions_in : List ℕ → ℕ → ℕ → List ℕ
positions_in s n i = map (λ p. big_endian_at 8 s p.at) (up_to (items s Word) n i)

unfoldable pub counts_in : List ℕ → ℕ → ℕ → List ℕ
counts_in s n i = up_to (count_at s) n (i, 0)

-- keys and values side by side
unfoldable pub paired : List ℕ → Kind → List Spot → List Spot → List (Key × Entry)
paired s kind [] vs = []
paired s kind (k ∷ ks) [] = []
paired s kind (k ∷ ks) (v ∷ vs) = (key_in s kind k, record { key = k; value = v }) ∷ paired s kind ks vs

unfoldable pub entries_in : List ℕ → Kind → ℕ → ℕ → ℕ → List (Key × Entry)
entries_in s kind n keys values = paired s kind (up_to (items s (key_form kind)) n keys) (up_to (items s Bytes) n values)

unfoldable pub page_of : List ℕ → Kind → Outcome Judged → Outcome (Page Key Entry)
page_of image kind (Err r) = Err r
page_of image kind (Ok (Leaf p)) = Ok (leaf (entries_in (take p.end image) kind p.n p.keys p.values))
page_of image kind (Ok (Inner p)) =
    let s = take p.end image in
    Ok (inner (children_of (positions_in s (p.n + 1) p.positions) (counts_in s (p.n + 1) p.counts) (keys_in s kind p.n p.keys)))

unfoldable pub page_in : List ℕ → Place → ℕ → ℕ → Kind → Outcome (Page Key Entry)
page_in image c p map kind = page_of image kind (judged_at image c p map kind)

-- "the child is chosen by the recorded counts, left to right"
unfoldable pub pick : ℕ → ℕ → List ℕ → Option (ℕ × ℕ)
pick j i [] = None
pick j i (n ∷ ns) = cond (ltb i n) (Some (j, i)) (pick (j + 1) (i - n) ns)

abbrev pub upto : ℕ → Bool → Option Probe
upto next same = Some (record { next = next; same = same })

unfoldable pub probe_at : List ℕ → Kind → ℕ → Key → Option Probe
probe_at s kind i k =
    on_sized (item_at s (key_form kind) i) None (λ at len next.
    three (compare_keys (key_in s kind (record { at = at; len = len })) k) (upto next false) (upto next true) None)

-- what the code hands back
abbrev pub picked_of : Option (ℕ × ℕ) → Option Picked
picked_of (Some p) = Some (record { number = p.0; rest = p.1 })
picked_of None = None
