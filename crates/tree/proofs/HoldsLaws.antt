-- What holds of each entry of each leaf that is read holds of what lookup, index and the entry list give.
--
--   InLeaf P o  P of each entry of the page, where it is a leaf
use Prim.Native.Nat.{ℕ, zero, suc, ◌-◌}
use Rattle.std.specs.Prelude.{◌≡◌, Bool, true, false, List, [], ◌∷◌, ltb, Err, None, Ok, Option, Some}
use Rattle.std.proofs.Common.{subst, true≢false}
use Rattle.refusal.specs.Refusal.{Outcome, too_deep, bad_index}
use Rattle.std.specs.declared.cmp.Ordering.{Ordering}
use Rattle.std.specs.declared.cmp.Ordering.TheVariants.{Less, Equal, Greater}
use Rattle.tree.specs.Page.{branch, Children, last, more, Page, leaf, inner, joined, nth, All}
use Rattle.tree.specs.Asking.{three, child_for, find_in, lookup_page, index_children, index_page, entries_page}
use Rattle.tree.specs.Asking.{lookup, map_lookup, index, map_index, entries, map_entries}
use Rattle.tree.proofs.ListLaws.{all_append}
use Rattle.tree.proofs.OutcomeLaws.{refuse_ok}

module _ {K W : Type 0} (P : K × W → Type 0) where
  abbrev pub InLeaf : Outcome (Page K W) → Type 0
  InLeaf (Err r) = Unit {0}
  InLeaf (Ok (leaf es)) = All P es
  InLeaf (Ok (inner cs)) = Unit {0}

  -- ## One page
  find_holds : (cmp : K → K → Ordering) (k : K) (es : List (K × W)) {w : W} → All P es → find_in cmp k es ≡ Some w → (x : K) × P (x, w)
  find_holds cmp k [] h e = absurd (true≢false cc)
  find_holds cmp k (a ∷ es) {w} h e = go (λ q. find_holds cmp k es h.1 q) (cmp a.0 k) e
    where
      go : (find_in cmp k es ≡ Some w → (x : K) × P (x, w)) → (o : Ordering)
          → three o (find_in cmp k es) (Some a.1) None ≡ Some w → (x : K) × P (x, w)
      go ih Less q = ih q
      go ih Equal q =
          let f : a.1 ≡ w = cc in
          (a.0, subst (λ (y : W). P (a.0, y)) f h.0)
      go ih Greater q = absurd (true≢false cc)

  nth_holds : (i : ℕ) (es : List (K × W)) {x : K × W} → All P es → nth i es ≡ Ok x → P x
  nth_holds i [] {x} h e = refuse_ok bad_index x e
  nth_holds zero (a ∷ es) {x} h e =
      let f : a ≡ x = cc in
      subst P f h.0
  nth_holds (suc i) (a ∷ es) h e = nth_holds i es h.1 e

  index_children_holds : (child : ℕ → ℕ → Outcome (K × W)) {x : K × W} → ((j q : ℕ) → child j q ≡ Ok x → P x)
      → (i : ℕ) (cs : Children K) → index_children child i cs ≡ Ok x → P x
  index_children_holds child {x} f i (last p c) e = go (ltb i c) e
    where
      go : (t : Bool) → branch t (child i p) (Err bad_index) ≡ Ok x → P x
      go true q = f i p q
      go false q = refuse_ok bad_index x q
  index_children_holds child {x} f i (more p c s cs) e = go (λ q. index_children_holds child f (i - c) cs q) (ltb i c) e
    where
      go : (index_children child (i - c) cs ≡ Ok x → P x) → (t : Bool)
          → branch t (child i p) (index_children child (i - c) cs) ≡ Ok x → P x
      go ih true q = f i p q
      go ih false q = ih q

  joined_holds : (list : ℕ → List (K × W)) → ((q : ℕ) → All P (list q)) → (cs : Children K) → All P (joined list cs)
  joined_holds list f (last p c) = f p
  joined_holds list f (more p c s cs) = all_append P (list p) (joined list cs) (f p) (joined_holds list f cs)

  lookup_page_holds : (cmp : K → K → Ordering) (k : K) (child : ℕ → Outcome (Option W)) {w : W} → ((q : ℕ) → child q ≡ Ok (Some w) → (x : K) × P (x, w))
      → (o : Outcome (Page K W)) → InLeaf o → lookup_page cmp k child o ≡ Ok (Some w) → (x : K) × P (x, w)
  lookup_page_holds cmp k child {w} f (Err r) h e = refuse_ok r (Some w) e
  lookup_page_holds cmp k child {w} f (Ok (leaf es)) h e =
      let g : find_in cmp k es ≡ Some w = cc in
      find_holds cmp k es h g
  lookup_page_holds cmp k child f (Ok (inner cs)) h e = f (child_for cmp k cs) e

  index_page_holds : (child : ℕ → ℕ → Outcome (K × W)) {x : K × W} → ((j q : ℕ) → child j q ≡ Ok x → P x)
      → (i : ℕ) (o : Outcome (Page K W)) → InLeaf o → index_page child i o ≡ Ok x → P x
  index_page_holds child {x} f i (Err r) h e = refuse_ok r x e
  index_page_holds child f i (Ok (leaf es)) h e = nth_holds i es h e
  index_page_holds child f i (Ok (inner cs)) h e = index_children_holds child f i cs e

  entries_page_holds : (list : ℕ → List (K × W)) → ((q : ℕ) → All P (list q)) → (o : Outcome (Page K W)) → InLeaf o → All P (entries_page list o)
  entries_page_holds list f (Err r) h = tt
  entries_page_holds list f (Ok (leaf es)) h = h
  entries_page_holds list f (Ok (inner cs)) h = joined_holds list f cs

  -- ## From a page down
  module _ (read : ℕ → Outcome (Page K W)) (holds : (p : ℕ) → InLeaf (read p)) where
    pub lookup_holds : (cmp : K → K → Ordering) (levels : ℕ) (k : K) (p : ℕ) {w : W} → lookup cmp read levels k p ≡ Ok (Some w) → (x : K) × P (x, w)
    unfolding lookup
    lookup_holds cmp zero k p {w} e = refuse_ok too_deep (Some w) e
    lookup_holds cmp (suc levels) k p e =
        lookup_page_holds cmp k (lookup cmp read levels k) (λ q f. lookup_holds cmp levels k q f) (read p) (holds p) e

    pub index_holds : (levels i p : ℕ) {x : K × W} → index read levels i p ≡ Ok x → P x
    unfolding index
    index_holds zero i p {x} e = refuse_ok too_deep x e
    index_holds (suc levels) i p e = index_page_holds (index read levels) (λ j q f. index_holds levels j q f) i (read p) (holds p) e

    pub entries_hold : (levels p : ℕ) → All P (entries read levels p)
    unfolding entries
    entries_hold zero p = tt
    entries_hold (suc levels) p = entries_page_holds (entries read levels) (entries_hold levels) (read p) (holds p)

    -- ## Of a map, by its root
    pub map_lookup_holds : (cmp : K → K → Ordering) (k : K) (p : ℕ) {w : W} → map_lookup cmp read k p ≡ Ok (Some w) → (x : K) × P (x, w)
    unfolding map_lookup
    map_lookup_holds cmp k zero e = absurd (true≢false cc)
    map_lookup_holds cmp k (suc p) e = lookup_holds cmp 16 k (suc p) e

    pub map_index_holds : (i p : ℕ) {x : K × W} → map_index read i p ≡ Ok x → P x
    unfolding map_index
    map_index_holds i zero {x} e = refuse_ok bad_index x e
    map_index_holds i (suc p) e = index_holds 16 i (suc p) e

    pub map_entries_hold : (p : ℕ) → All P (map_entries read p)
    unfolding map_entries
    map_entries_hold zero = tt
    map_entries_hold (suc p) = entries_hold 16 (suc p)
