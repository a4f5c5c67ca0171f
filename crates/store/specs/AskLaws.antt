-- Laws of lookup, index and count of a map in a store that is open: one for each way that the code takes; and where what they
-- give lies.
--
--   nth_turn e, picked_turn ps c  the turn by the entry that a leaf gave, by the child that an inner page's counts gave
--   went_on child t               a fetch by index after one page: the answer, or what the child answers
--   counted_by j                  how many entries a page that is judged has or records
use Prim.Native.Nat.{ℕ, zero, suc, ◌+◌, ◌-◌, ◌≤◌, ◌<◌}
use Rattle.std.specs.Prelude.{◌≡◌, length, get_or, None, Ok, Option, Some, slice_get, Err, option_map}
use Rattle.std.proofs.Math.Path.{refl, ap}
use Rattle.std.proofs.Common.{sym, ◌∙◌}
use mathlib.Core.List.{List, [], ◌∷◌}
use native.Mathlib.Omega.{arith}
use Rattle.std.proofs.Math.ListN.{take}
use Rattle.refusal.specs.declared.Refusal.{Refusal}
use Rattle.refusal.specs.Refusal.{Outcome, bind, bad_index, too_deep}
use Rattle.position.specs.declared.Position.{Position}
use Rattle.position.specs.Position.{of_bits}
use Rattle.key.specs.declared.Kind.{Kind}
use Rattle.key.specs.Key.{Key, compare_keys}
use Rattle.tree.specs.Page.{nth, All}
use Rattle.tree.specs.Asking.{index_page, count_page, index, map_index, map_count, map_entries}
use Rattle.tree.proofs.ListLaws.{all_imp}
use Rattle.tree.proofs.OutcomeLaws.{bind_ok}
use Rattle.tree.specs.Walk.{map_next}
use Rattle.tree.proofs.WalkHoldsLaws.{Holds, map_next_holds}
use Rattle.tree.proofs.HoldsLaws.{InLeaf, map_lookup_holds, map_index_holds, map_entries_hold}
use Rattle.opening.specs.declared.Store.{Store}
use Rattle.page.specs.declared.Judged.{Judged}
use Rattle.page.specs.declared.Judged.TheVariants as judged
use Rattle.page.specs.declared.Leaf.{Leaf}
use Rattle.page.specs.declared.Inner.{Inner}
use Rattle.content.specs.declared.Picked.{Picked}
use Rattle.content.specs.declared.Entry.{Entry}
use Rattle.content.specs.Content.{key_in, entries_in, positions_in, counts_in, page_of, pick, picked_of}
use Rattle.content.specs.InsideLaws.{EntryIn, page_in_lem}
use Rattle.content.specs.PickLaws.{picked}
use Rattle.content.specs.WholeLaws.{Whole, index_whole, total_whole}
use Rattle.metadata.specs.declared.Answer.{Answer}
use Rattle.metadata.specs.Answers.{root_said, value_by}
use Rattle.store.specs.declared.fetch.Turn.{Turn}
use Rattle.store.specs.declared.fetch.Turn.TheVariants as turn
use Rattle.store.specs.Store.{reader, map_root}
use Rattle.store.specs.Memory.{IsAnswer}
use Rattle.store.specs.Asking.{judged_by, lookup_in, index_in, count_in, value_of, fetched_of, entry_turn, child_turn, turn_of}
use Rattle.store.specs.AnswerLaws.{value_sought}
use Rattle.store.specs.ReadLaws.{reader_judged, judged_all}

-- ## One page of a fetch by index
abbrev pub nth_turn : Option Entry → Outcome Turn
nth_turn (Some e) = Ok (turn.Done e)
nth_turn None = Err bad_index

abbrev pub picked_turn : List ℕ → Option Picked → Outcome Turn
picked_turn ps (Some c) = Ok (turn.Child (of_bits (get_or ps c.number 0)) c.rest)
picked_turn ps None = Err bad_index

nth_turn_lem : (o : Option (Key × Entry)) → nth_turn (option_map (λ e. e.1) o) ≡ entry_turn o
nth_turn_lem (Some e) = refl
nth_turn_lem None = refl

picked_turn_lem : (ps : List ℕ) (o : Option (ℕ × ℕ)) → picked_turn ps (picked_of o) ≡ child_turn ps o
picked_turn_lem ps (Some c) = refl
picked_turn_lem ps None = refl

module _ (image : List ℕ) (kind : Kind) (i : ℕ) where
  pub turn_refused : {j : Outcome Judged} {r : Refusal} → j ≡ Err r → Err r ≡ turn_of image kind i j
  unfolding turn_of
  turn_refused h = rw h

  pub turn_leaf : {j : Outcome Judged} {l : Leaf} {s : List ℕ} {o a : Option Entry} → j ≡ Ok (judged.Leaf l) → s ≡ take l.end image
      → o ≡ option_map (λ e. e.1) (slice_get (entries_in s kind l.n l.keys l.values) i) → o ≡ a → nth_turn a ≡ turn_of image kind i j
  unfolding turn_of
  turn_leaf {l = l} h k f g =
      rw (h, ← g, f, k) (nth_turn_lem (slice_get (entries_in (take l.end image) kind l.n l.keys l.values) i))

  pub turn_inner : {j : Outcome Judged} {q : Inner} {s : List ℕ} {o a : Option Picked} → j ≡ Ok (judged.Inner q) → s ≡ take q.end image
      → o ≡ picked_of (pick 0 i (counts_in s (q.n + 1) q.counts)) → o ≡ a → picked_turn (positions_in s (q.n + 1) q.positions) a ≡ turn_of image kind i j
  unfolding turn_of
  turn_inner {q = q} h k f g =
      let s = take q.end image in
      rw (h, ← g, f, k) (picked_turn_lem (positions_in s (q.n + 1) q.positions) (pick 0 i (counts_in s (q.n + 1) q.counts)))

module _ (child : ℕ → ℕ → Outcome (Key × Entry)) where
  abbrev pub went_on : Outcome Turn → Outcome Entry
  went_on (Ok (turn.Child p rest)) = fetched_of (child rest p.bits)
  went_on (Ok (turn.Done e)) = Ok e
  went_on (Err r) = Err r

  entry_turn_lem : (i : ℕ) (es : List (Key × Entry)) → fetched_of (nth i es) ≡ went_on (entry_turn (slice_get es i))
  unfolding fetched_of
  entry_turn_lem i [] = refl
  entry_turn_lem zero (e ∷ es) = refl
  entry_turn_lem (suc i) (e ∷ es) = entry_turn_lem i es

  child_turn_lem : (ps : List ℕ) (o : Option (ℕ × ℕ)) → fetched_of (picked child ps o) ≡ went_on (child_turn ps o)
  unfolding fetched_of
  child_turn_lem ps (Some c) = refl
  child_turn_lem ps None = refl

  index_turn : (image : List ℕ) (kind : Kind) (i : ℕ) (j : Outcome Judged) → Whole image kind j
      → fetched_of (index_page child i (page_of image kind j)) ≡ went_on (turn_of image kind i j)
  unfolding fetched_of turn_of page_of
  index_turn image kind i (Err r) w = refl
  index_turn image kind i (Ok (judged.Leaf l)) w = entry_turn_lem i (entries_in (take l.end image) kind l.n l.keys l.values)
  index_turn image kind i (Ok (judged.Inner q)) w =
      let s = take q.end image in
      ap fetched_of (index_whole w child i) ∙ child_turn_lem (positions_in s (q.n + 1) q.positions) (pick 0 i (counts_in s (q.n + 1) q.counts))

-- ## How many entries
abbrev pub counted_by : Outcome Judged → Outcome ℕ
counted_by (Err r) = Err r
counted_by (Ok (judged.Leaf p)) = Ok p.n
counted_by (Ok (judged.Inner p)) = Ok p.total

count_judged : (image : List ℕ) (kind : Kind) (j : Outcome Judged) → Whole image kind j → counted_by j ≡ count_page (page_of image kind j)
unfolding page_of
count_judged image kind (Err r) w = refl
count_judged image kind (Ok (judged.Leaf p)) w = ap Ok (sym w.all_entries)
count_judged image kind (Ok (judged.Inner p)) w = ap Ok (sym (total_whole w))

module _ (image : List ℕ) (store : Store) (map : ℕ) (kind : Kind) where
  -- ## Index, from the root down
  module _ (i p : ℕ) where
    pub index_empty : p ≡ 0 → Err bad_index ≡ fetched_of (map_index (reader image store map kind) i p)
    unfolding fetched_of map_index
    index_empty e = rw e

    pub index_root : ¬ (p ≡ 0) → fetched_of (index (reader image store map kind) 16 i p) ≡ fetched_of (map_index (reader image store map kind) i p)
    unfolding map_index
    index_root other = go p other
      where
        go : (q : ℕ) → ¬ (q ≡ 0) → fetched_of (index (reader image store map kind) 16 i q) ≡ fetched_of (map_index (reader image store map kind) i q)
        go zero h = absurd (h refl)
        go (suc q) h = refl

    pub index_deep : (levels : ℕ) → levels ≤ 0
        → Err too_deep ≡ fetched_of (index (reader image store map kind) levels i p)
    unfolding fetched_of index
    index_deep zero h = refl
    index_deep (suc levels) h = absurd (omega arith)

    module _ (levels : ℕ) (h : 0 < levels) (j : Outcome Judged) (e : j ≡ judged_by image store map kind p) (t : Outcome Turn) (f : t ≡ turn_of image kind i j) where
      index_level : fetched_of (index (reader image store map kind) levels i p) ≡ went_on (index (reader image store map kind) (levels - 1)) t
      unfolding index
      index_level = go levels h
        where
          go : (l : ℕ) → 0 < l → fetched_of (index (reader image store map kind) l i p) ≡ went_on (index (reader image store map kind) (l - 1)) t
          go zero k = absurd (omega arith)
          go (suc l) k =
              let less : suc l - 1 ≡ l = omega arith in
              rw (reader_judged image store map kind p, ← e, f, less)
              (index_turn (index (reader image store map kind) l) image kind i j (rw (← e) at (judged_all image store map kind p)))

      pub index_child : {q : Position} {rest : ℕ} → t ≡ Ok (turn.Child q rest)
          → fetched_of (index (reader image store map kind) levels i p) ≡ fetched_of (index (reader image store map kind) (levels - 1) rest q.bits)
      index_child g = rw g at index_level

      pub index_done : {a : Entry} → t ≡ Ok (turn.Done a) → fetched_of (index (reader image store map kind) levels i p) ≡ Ok a
      index_done g = rw g at index_level

      pub index_refused : {r : Refusal} → t ≡ Err r → fetched_of (index (reader image store map kind) levels i p) ≡ Err r
      index_refused g = rw g at index_level

  -- ## Count, at the root
  module _ (p : ℕ) where
    pub count_empty : p ≡ 0 → Ok 0 ≡ map_count (reader image store map kind) p
    unfolding map_count
    count_empty e = rw e

    pub count_root : ¬ (p ≡ 0) → {j k : Outcome Judged} → j ≡ judged_by image store map kind p → j ≡ k
        → counted_by k ≡ map_count (reader image store map kind) p
    unfolding map_count
    count_root other {j} {k} e f = go p other (sym f ∙ e)
      where
        go : (q : ℕ) → ¬ (q ≡ 0) → k ≡ judged_by image store map kind q → counted_by k ≡ map_count (reader image store map kind) q
        go zero h d = absurd (h refl)
        go (suc q) h d =
            rw (d, reader_judged image store map kind (suc q))
            (count_judged image kind (judged_by image store map kind (suc q)) (judged_all image store map kind (suc q)))

  -- ## By the map's root
  module _ (r : Outcome Position) (e : root_said r ≡ map_root image store map) where
    rooted : {A : Type 0} (ask : ℕ → Outcome A) {s : Outcome Position} → r ≡ s → bind (root_said s) ask ≡ bind (map_root image store map) ask
    rooted ask f = rw (← f, e)

    module _ {p : Position} (f : r ≡ Ok p) where
      pub lookup_rooted : (k : Key) (l : Outcome Answer) → IsAnswer image store map kind p.bits k 8 l → value_by l ≡ value_of (lookup_in image store map kind k)
      unfolding lookup_in
      lookup_rooted k l s = value_sought image store map kind p.bits k l s ∙ ap value_of (rooted _ f)

      pub index_rooted : (i : ℕ) → fetched_of (map_index (reader image store map kind) i p.bits) ≡ fetched_of (index_in image store map kind i)
      unfolding index_in
      index_rooted i = ap fetched_of (rooted _ f)

      pub count_rooted : map_count (reader image store map kind) p.bits ≡ count_in image store map kind
      unfolding count_in
      count_rooted = rooted _ f

    module _ {x : Refusal} (f : r ≡ Err x) where
      pub lookup_rootless : (k : Key) → Err x ≡ value_of (lookup_in image store map kind k)
      unfolding lookup_in value_of
      lookup_rootless k = ap value_of (rooted _ f)

      pub index_rootless : (i : ℕ) → Err x ≡ fetched_of (index_in image store map kind i)
      unfolding index_in fetched_of
      index_rootless i = ap fetched_of (rooted _ f)

      pub count_rootless : Err x ≡ count_in image store map kind
      unfolding count_in
      count_rootless = rooted _ f

  -- ## What is given lies in the image
  reader_in : (p : ℕ) → InLeaf (EntryIn image kind) (reader image store map kind p)
  reader_in p = rw (reader_judged image store map kind p) (page_in_lem image kind (judged_by image store map kind p))

  pub lookup_inside : (k : Key) (e : Entry) → lookup_in image store map kind k ≡ Ok (Some e) → e.value.at + e.value.len ≤ length image
  unfolding lookup_in
  lookup_inside k e h =
      let b = bind_ok (map_root image store map) _ _ h in
      let x = map_lookup_holds (EntryIn image kind) (reader image store map kind) reader_in compare_keys k b.0 b.2 in
      x.1.value_inside

  index_in_lem : (i : ℕ) (x : Key × Entry) → index_in image store map kind i ≡ Ok x → EntryIn image kind x
  unfolding index_in
  index_in_lem i x h =
      let b = bind_ok (map_root image store map) _ _ h in
      map_index_holds (EntryIn image kind) (reader image store map kind) reader_in i b.0 b.2

  module _ (i : ℕ) (k : Key) (e : Entry) (h : index_in image store map kind i ≡ Ok (k, e)) where
    pub index_inside : (e.key.at + e.key.len ≤ length image) × (e.value.at + e.value.len ≤ length image)
    index_inside = let x = index_in_lem i (k, e) h in (x.key_inside, x.value_inside)

    pub index_key : k ≡ key_in image kind e.key
    index_key = (index_in_lem i (k, e) h).key_there

  pub entries_in_lem : (p : ℕ) → All (EntryIn image kind) (map_entries (reader image store map kind) p)
  entries_in_lem p = map_entries_hold (EntryIn image kind) (reader image store map kind) reader_in p

  pub next_in_lem : (is : List ℕ) (p : ℕ) → Holds (EntryIn image kind) (map_next (reader image store map kind) is p)
  next_in_lem is p = map_next_holds (EntryIn image kind) (reader image store map kind) reader_in is p

  pub entries_key : (p : ℕ) → All (λ x. x.0 ≡ key_in image kind x.1.key) (map_entries (reader image store map kind) p)
  entries_key p = all_imp (λ x h. h.key_there) (map_entries (reader image store map kind) p) (entries_in_lem p)
