-- Nothing is missing from a judged page: its lists have as many items as its n says, and its recorded counts the sum that it says.
--
--   LeafWhole, InnerWhole    the lists are whole
--   Whole image kind j       the same of what a page was judged to be
--   children_in s kind n ..  the children of an inner page, by the places of its parts
use Prim.Native.Nat.{ℕ, zero, suc, ◌+◌, ◌^◌, ◌≤◌, ◌<◌}
use Rattle.std.specs.Prelude.{◌≡◌, take, None, Ok, Option, Some, Err}
use Rattle.std.proofs.Math.Path.{refl, ap}
use Rattle.std.proofs.Common.{◌∙◌, true≢false}
use mathlib.Core.List.{List, [], ◌∷◌, map}
use native.Mathlib.Omega.{arith}
use Rattle.std.proofs.Math.ListN.{length, length-map}
use Rattle.refusal.specs.Refusal.{Outcome}
use Rattle.key.specs.declared.Kind.{Kind}
use Rattle.key.specs.Key.{Key}
use Rattle.page.specs.declared.Place.{Place}
use Rattle.tree.specs.Page.{Children, leaf, inner, total}
use Rattle.tree.specs.Rising.{keys_of}
use Rattle.tree.specs.Asking.{index_children}
use Rattle.tree.specs.InnerPage.{children_of, sum}
use Rattle.tree.proofs.ChildrenLaws.{total_children_of}
use Rattle.item.specs.declared.Form.TheVariants.{Word, Bytes}
use Rattle.item.specs.declared.Counted.{Counted}
use Rattle.item.specs.Step.{Step, got, bad, on_step, after, up_to}
use Rattle.item.specs.StepLaws.{up_to-length}
use Rattle.item.specs.Item.{Spot, count_limit, items, count_at, counted_of, counted}
use Rattle.item.specs.ItemLaws.{skipped_length}
use Rattle.item.specs.CountLaws.{count_sum}
use Rattle.page.specs.declared.Judged.{Judged}
use Rattle.page.specs.declared.Judged.TheVariants as judged
use Rattle.page.specs.declared.Leaf.{Leaf}
use Rattle.page.specs.declared.Inner.{Inner}
use Rattle.page.specs.Judged.{key_form, judged_at}
use Rattle.page.specs.PassedLaws.{LeafPassed, InnerPassed, Passed, judged_passed}
use Rattle.content.specs.declared.Entry.{Entry}
use Rattle.content.specs.Content.{key_in, keys_in, positions_in, counts_in, paired, entries_in, page_of, page_in, pick}
use Rattle.content.specs.PickLaws.{picked, index_pick}

pub record LeafWhole (s : List ℕ) (kind : Kind) (n keys values : ℕ) : Type 0 where
  pub few : n < 2 ^ 31
  pub all_entries : length (entries_in s kind n keys values) ≡ n

pub record InnerWhole (s : List ℕ) (kind : Kind) (n positions counts keys total : ℕ) : Type 0 where
  pub few : n < 2 ^ 31
  pub all_positions : length (positions_in s (n + 1) positions) ≡ n + 1
  pub all_counts : length (counts_in s (n + 1) counts) ≡ n + 1
  pub all_keys : length (keys_in s kind n keys) ≡ n
  pub sum_total : sum (counts_in s (n + 1) counts) ≡ total
  pub below : total < count_limit

abbrev pub Whole : List ℕ → Kind → Outcome Judged → Type 0
Whole image kind (Err r) = Unit {0}
Whole image kind (Ok (judged.Leaf p)) = LeafWhole (take p.end image) kind p.n p.keys p.values
Whole image kind (Ok (judged.Inner p)) = InnerWhole (take p.end image) kind p.n p.positions p.counts p.keys p.total

-- ## Of a leaf
paired_length : (s : List ℕ) (kind : Kind) (n : ℕ) (ks vs : List Spot) → length ks ≡ n → length vs ≡ n → length (paired s kind ks vs) ≡ n
unfolding paired
paired_length s kind n [] vs h k = h
paired_length s kind n (x ∷ ks) [] h k = absurd (omega arith)
paired_length s kind zero (x ∷ ks) (y ∷ vs) h k = absurd (omega arith)
paired_length s kind (suc n) (x ∷ ks) (y ∷ vs) h k = ap suc (paired_length s kind n ks vs (omega arith) (omega arith))

leaf_whole : (s : List ℕ) (kind : Kind) (l : Leaf) → LeafPassed s kind l → LeafWhole s kind l.n l.keys l.values
unfolding entries_in
leaf_whole s kind l p = record {
  few = p.few;
  all_entries = paired_length s kind l.n _ _ (skipped_length s (key_form kind) l.n l.keys p.key_items) (skipped_length s Bytes l.n l.values p.value_items);
}

up_to_few : {A C : Type 0} (read : C → Step A C) (n : ℕ) (c : C) → length (up_to read n c) ≤ n
unfolding up_to
up_to_few read zero c = omega arith
up_to_few {A} {C} read (suc n) c = go (λ d. up_to_few read n d) (read c)
  where
    go : ((d : C) → length (up_to read n d) ≤ n) → (t : Step A C) → length (on_step t [] (λ a d. a ∷ up_to read n d)) ≤ suc n
    go ih (got a d) = omega (arith, ih d)
    go ih bad = omega arith

paired_keys : (s : List ℕ) (kind : Kind) (ks vs : List Spot) → length ks ≤ length (paired s kind ks vs)
    → keys_of (paired s kind ks vs) ≡ map (key_in s kind) ks
unfolding paired
paired_keys s kind [] vs h = refl
paired_keys s kind (k ∷ ks) [] h = absurd (omega arith)
paired_keys s kind (k ∷ ks) (v ∷ vs) h = ap (key_in s kind k ∷◌) (paired_keys s kind ks vs (omega arith))

-- its keys are its entries'
pub keys_whole : {s : List ℕ} {kind : Kind} {n keys values : ℕ} → LeafWhole s kind n keys values
    → keys_of (entries_in s kind n keys values) ≡ keys_in s kind n keys
unfolding entries_in keys_in
keys_whole {s} {kind} {n} {keys} {values} w =
    paired_keys s kind (up_to (items s (key_form kind)) n keys) (up_to (items s Bytes) n values)
    (omega (arith, w.all_entries, up_to_few (items s (key_form kind)) n keys))

-- ## Of an inner page
module _ (s : List ℕ) where
  -- the sum that the cursor has is the counts'
  counts_sum : (n : ℕ) (c : ℕ × ℕ) {d : ℕ × ℕ} → c.1 < count_limit → after (count_at s) n c ≡ Some d
      → (c.1 + sum (up_to (count_at s) n c) ≡ d.1) × (d.1 < count_limit)
  unfolding after up_to
  counts_sum zero c {d} h e =
      let p : c ≡ d = cc in
      let f : c.1 ≡ d.1 = ap (λ (x : ℕ × ℕ). x.1) p in
      (omega arith, omega arith)
  counts_sum (suc n) c {d} h e = go (λ b. counts_sum n b) (count_at s c) refl e
    where
      Sums : ℕ × ℕ → Type 0
      Sums b = b.1 < count_limit → after (count_at s) n b ≡ Some d → (b.1 + sum (up_to (count_at s) n b) ≡ d.1) × (d.1 < count_limit)

      go : ((b : ℕ × ℕ) → Sums b) → (t : Step ℕ (ℕ × ℕ)) → count_at s c ≡ t → on_step t None (λ a b. after (count_at s) n b) ≡ Some d
          → (c.1 + sum (on_step t [] (λ a b. a ∷ up_to (count_at s) n b)) ≡ d.1) × (d.1 < count_limit)
      go ih (got v b) q k =
          let one = count_sum s c q in
          let rest = ih b one.1 k in
          (omega arith, rest.1)
      go ih bad q k = absurd (true≢false cc)

  counted_whole : (n i : ℕ) {m : Counted} → counted s n i ≡ Some m
      → (length (counts_in s n i) ≡ n) × (sum (counts_in s n i) ≡ m.total) × (m.total < count_limit)
  unfolding counted counts_in
  counted_whole n i {m} e = go (after (count_at s) n (i, 0)) refl e
    where
      go : (o : Option (ℕ × ℕ)) → after (count_at s) n (i, 0) ≡ o → counted_of o ≡ Some m
          → (length (up_to (count_at s) n (i, 0)) ≡ n) × (sum (up_to (count_at s) n (i, 0)) ≡ m.total) × (m.total < count_limit)
      go (Some d) q h =
          let same : record { total = d.1; next = d.0 } ≡ m = cc in
          let f : d.1 ≡ m.total = ap (λ (x : Counted). x.total) same in
          let r = counts_sum n (i, 0) (omega arith) q in
          (up_to-length (count_at s) n (i, 0) q, omega arith, omega arith)
      go None q h = absurd (true≢false cc)

  inner_whole : (kind : Kind) (q : Inner) → InnerPassed s kind q → InnerWhole s kind q.n q.positions q.counts q.keys q.total
  unfolding positions_in keys_in
  inner_whole kind q p =
      let sums = counted_whole (q.n + 1) q.counts p.count_items in
      record {
        few = p.few;
        all_positions = length-map (up_to (items s Word) (q.n + 1) q.positions) _ ∙ skipped_length s Word (q.n + 1) q.positions p.position_items;
        all_counts = sums.0;
        all_keys = length-map (up_to (items s (key_form kind)) q.n q.keys) _ ∙ skipped_length s (key_form kind) q.n q.keys p.key_items;
        sum_total = sums.1;
        below = sums.2;
      }

-- ## The theorem
pub judged_whole : (image : List ℕ) (c : Place) (p map : ℕ) (kind : Kind) → Whole image kind (judged_at image c p map kind)
judged_whole image c p map kind = go (judged_at image c p map kind) (judged_passed image kind c p map)
  where
    go : (j : Outcome Judged) → Passed image kind j → Whole image kind j
    go (Err r) h = tt
    go (Ok (judged.Leaf l)) h = leaf_whole (take l.end image) kind l h
    go (Ok (judged.Inner q)) h = inner_whole (take q.end image) kind q h

-- ## What the tree needs to know of a page
abbrev pub children_in : List ℕ → Kind → ℕ → ℕ → ℕ → ℕ → Children Key
children_in s kind n positions counts keys = children_of (positions_in s (n + 1) positions) (counts_in s (n + 1) counts) (keys_in s kind n keys)

module _ {s : List ℕ} {kind : Kind} {n positions counts keys sum : ℕ} (w : InnerWhole s kind n positions counts keys sum) where
  -- "the sum of its recorded counts"
  pub total_whole : total (children_in s kind n positions counts keys) ≡ sum
  total_whole =
      total_children_of (positions_in s (n + 1) positions) (counts_in s (n + 1) counts) (keys_in s kind n keys)
      (omega (arith, w.all_counts, w.all_keys)) ∙ w.sum_total

  -- "the child is chosen by the recorded counts, left to right"
  pub index_whole : {E : Type 0} (child : ℕ → ℕ → Outcome E) (i : ℕ)
      → index_children child i (children_in s kind n positions counts keys)
      ≡ picked child (positions_in s (n + 1) positions) (pick 0 i (counts_in s (n + 1) counts))
  index_whole child i =
      index_pick child (positions_in s (n + 1) positions) i (counts_in s (n + 1) counts) (keys_in s kind n keys)
      (omega (arith, w.all_counts, w.all_keys))

module _ (image : List ℕ) (c : Place) (p map : ℕ) (kind : Kind) where
  pub leaf_below : {es : List (Key × Entry)} → page_in image c p map kind ≡ Ok (leaf es) → length es < 2 ^ 31
  unfolding page_in page_of
  leaf_below {es} e = go (judged_at image c p map kind) (judged_whole image c p map kind) e
    where
      go : (j : Outcome Judged) → Whole image kind j → page_of image kind j ≡ Ok (leaf es) → length es < 2 ^ 31
      go (Err r) w q = cc
      go (Ok (judged.Leaf l)) w q =
          let f : entries_in (take l.end image) kind l.n l.keys l.values ≡ es = cc in
          omega (arith, w.few, w.all_entries, ap length f)
      go (Ok (judged.Inner y)) w q = cc

  pub inner_below : {cs : Children Key} → page_in image c p map kind ≡ Ok (inner cs) → total cs < 2 ^ 48
  unfolding page_in page_of
  inner_below {cs} e = go (judged_at image c p map kind) (judged_whole image c p map kind) e
    where
      go : (j : Outcome Judged) → Whole image kind j → page_of image kind j ≡ Ok (inner cs) → total cs < 2 ^ 48
      go (Err r) w q = cc
      go (Ok (judged.Leaf l)) w q = cc
      go (Ok (judged.Inner y)) w q =
          let f : children_in (take y.end image) kind y.n y.positions y.counts y.keys ≡ cs = cc in
          omega (arith, w.below, total_whole w, ap total f)
