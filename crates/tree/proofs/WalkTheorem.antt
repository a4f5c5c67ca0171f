-- The walk over a map, over any reading of pages:
--
--   sound_yields  over a sound map, steps from the fresh state yield the entry list in order, one entry a step, and then no more
--   next_fits     the numbers of an entry fit the 16 places of the state, whatever the map
--
--   FitsIn n m  if m yields an entry, at most n numbers lead to it; Fits m for the 16 of the state
--
-- In the proofs, what steps yield is said of any page, with the numbers that lead from that page:
--
--   Runs follow m es          m, and then each time what `follow` says of the last entry's numbers, are the entries es, then no more
--   Walked first next list q  so it is of the page at q and its entry list, which is not empty
use Prim.Native.Nat.{ℕ, zero, suc, ◌+◌, ◌≤◌}
use Rattle.std.specs.Prelude.{◌≡◌, Bool, length, Err, None, Ok, Option, Some, slice_get}
use Rattle.std.proofs.Math.Path.{refl, ap}
use Rattle.std.proofs.Common.{sym, ◌∙◌, arith}
use Rattle.std.proofs.Math.Bool.{true, false}
use mathlib.Core.List.{List, [], ◌∷◌, ◌++◌, append-nil}
use Rattle.refusal.specs.Refusal.{Outcome}
use Rattle.std.specs.declared.cmp.Ordering.{Ordering}
use Rattle.tree.specs.Page.{Children, last, more, Page, leaf, inner, joined, AllChildren}
use Rattle.tree.specs.Asking.{entries_page, entries, map_entries}
use Rattle.tree.specs.Sound.{Sound}
use Rattle.tree.specs.Walk.{Moved, yield, over, stop, child_at, first_child, entry_at, after_entry, leftmost_in, next_over, next_in}
use Rattle.tree.specs.Walk.{first_page, next_page, first, next, map_next, Yields}
use Rattle.tree.specs.Meets.{Filled, MeetsPage, Meets, MeetsMap}
use Rattle.tree.proofs.ListLaws.{children_imp}
use Rattle.tree.proofs.FilledLaws.{meets_filled}
use Rattle.tree.proofs.ReachedLaws.{sound_meets}

-- ## Steps from entry to entry
abbrev Runs : {E : Type 0} → (ℕ → List ℕ → Moved E) → Moved E → List E → Type 0
Runs follow m [] = m ≡ over
Runs follow m (e ∷ es) = (i : ℕ) × (is : List ℕ) × (m ≡ yield e i is) × Runs follow (follow i is) es

runs_same : {E : Type 0} (follow : ℕ → List ℕ → Moved E) {m n : Moved E} (es : List E) → m ≡ n → Runs follow n es → Runs follow m es
runs_same follow [] e r = e ∙ r
runs_same follow (x ∷ es) e r = (r.0, r.1, e ∙ r.2, r.3)

abbrev Walked : {E : Type 0} → (ℕ → Moved E) → (ℕ → List ℕ → ℕ → Moved E) → (ℕ → List E) → ℕ → Type 0
Walked first next list q = Runs (λ i is. next i is q) (first q) (list q) × Filled false (list q)

-- the entries of a leaf from number i on
module _ {E : Type 0} (follow : ℕ → List ℕ → Moved E) (es : List E)
    (leaf_next : (i : ℕ) → follow i [] ≡ after_entry (slice_get es i) (entry_at (suc i) (slice_get es (suc i)))) where
  leaf_runs : (i : ℕ) (ts : List E) → ((j k : ℕ) → k ≡ i + j → slice_get es k ≡ slice_get ts j) → Runs follow (entry_at i (slice_get es i)) ts
  leaf_runs i [] h = ap (entry_at i) (h 0 i (omega arith))
  leaf_runs i (t ∷ ts) h =
      let e : slice_get es i ≡ Some t = h 0 i (omega arith) in
      let then : follow i [] ≡ entry_at (suc i) (slice_get es (suc i)) = leaf_next i ∙ rw e in
      (i, [], ap (entry_at i) e, runs_same follow ts then (leaf_runs (suc i) ts (λ j k w. h (suc j) k (omega arith))))

-- the entries of child number i, and then what comes after them
module _ {E : Type 0} (follow below : ℕ → List ℕ → Moved E) (first : ℕ → Moved E) (i : ℕ) (after : Option ℕ) where
  child_runs : ((j : ℕ) (is : List ℕ) → follow i (j ∷ is) ≡ next_over first i after (below j is)) → (m : Moved E) (es rest : List E)
      → Runs below m es → Runs follow (next_over first i after over) rest → Runs follow (next_over first i after m) (es ++ rest)
  child_runs h m [] rest r k = runs_same follow rest (ap (next_over first i after) r) k
  child_runs h m (e ∷ es) rest r k =
      let then = child_runs h (below r.0 r.1) es rest r.3 k in
      (i, r.0 ∷ r.1, ap (next_over first i after) r.2, runs_same follow (es ++ rest) (h r.0 r.1) then)

  -- where the child has an entry, to go to its leftmost entry is to go on in it
  leftmost_next : (m : Moved E) (es : List E) → Filled false es → Runs below m es → leftmost_in i m ≡ next_over first i after m
  leftmost_next m [] f r = absurd f
  leftmost_next m (e ∷ es) f r = ap (leftmost_in i) r.2 ∙ sym (ap (next_over first i after) r.2)

-- the entries of the children from number i on
module _ {K E : Type 0} (follow : ℕ → List ℕ → Moved E) (first : ℕ → Moved E) (next : ℕ → List ℕ → ℕ → Moved E) (list : ℕ → List E)
    (cs : Children K)
    (inner_next : (i j : ℕ) (is : List ℕ) → follow i (j ∷ is) ≡ next_in first (next j is) i (child_at i cs) (child_at (suc i) cs)) where
  one_runs : (i q : ℕ) (rest : List E) → child_at i cs ≡ Some q → Walked first next list q
      → Runs follow (next_over first i (child_at (suc i) cs) over) rest → Runs follow (leftmost_in i (first q)) (list q ++ rest)
  one_runs i q rest e c r =
      let below : ℕ → List ℕ → Moved E = λ j is. next j is q in
      let after = child_at (suc i) cs in
      let same = leftmost_next follow below first i after (first q) (list q) c.1 c.0 in
      runs_same follow (list q ++ rest) same
      (child_runs follow below first i after (λ j is. inner_next i j is ∙ rw e) (first q) (list q) rest c.0 r)

  children_runs : (i : ℕ) (ts : Children K) → ((j k : ℕ) → k ≡ i + j → child_at k cs ≡ child_at j ts)
      → AllChildren (λ q c. Walked first next list q) ts
      → Runs follow (leftmost_in i (first (first_child ts))) (joined list ts)
  children_runs i (last p c) h a =
      let end : child_at (suc i) cs ≡ None = h 1 (suc i) (omega arith) in
      rw (sym (append-nil (list p))) (one_runs i p [] (h 0 i (omega arith)) a (ap (λ o. next_over first i o over) end))
  children_runs i (more p c s ts) h a =
      let then : child_at (suc i) cs ≡ Some (first_child ts) = h 1 (suc i) (omega arith) ∙ child_first ts in
      let rest = children_runs (suc i) ts (λ j k w. h (suc j) k (omega arith)) a.1 in
      one_runs i p (joined list ts) (h 0 i (omega arith)) a.0
      (runs_same follow (joined list ts) (ap (λ o. next_over first i o over) then) rest)
    where
      child_first : (ts : Children K) → child_at 0 ts ≡ Some (first_child ts)
      child_first (last p c) = refl
      child_first (more p c s ts) = refl

-- ## From a page down
module _ {K W : Type 0} (cmp : K → K → Ordering) (read : ℕ → Outcome (Page K W)) where
  meets_runs : (levels : ℕ) (root : Bool) (p : ℕ) → Meets cmp read levels root p
      → Runs (λ i is. next read levels i is p) (first read levels p) (entries read levels p)
  unfolding Meets entries first next
  meets_runs zero root p m = absurd m
  meets_runs (suc levels) root p m = go (λ q n. (meets_runs levels false q n, meets_filled cmp read levels q n)) (read p) m
    where
      go : ((q : ℕ) → Meets cmp read levels false q → Walked (first read levels) (next read levels) (entries read levels) q)
          → (o : Outcome (Page K W)) → MeetsPage cmp (entries read levels) (Meets cmp read levels false) root o
          → Runs (λ i is. next_page (first read levels) (next read levels) i is o) (first_page (first read levels) o)
          (entries_page (entries read levels) o)
      go ih (Err x) m = absurd m
      go ih (Ok (leaf es)) m =
          leaf_runs (λ i is. next_page (first read levels) (next read levels) i is (Ok (leaf es))) es (λ i. refl) 0 es
          (λ j k w. let same : k ≡ j = omega (arith, w) in ap (slice_get es) same)
      go ih (Ok (inner cs)) m =
          children_runs (λ i is. next_page (first read levels) (next read levels) i is (Ok (inner cs))) (first read levels)
          (next read levels) (entries read levels) cs (λ i j is. refl) 0 cs
          (λ j k w. let same : k ≡ j = omega (arith, w) in ap (λ x. child_at x cs) same)
          (children_imp (λ q c h. ih q h.1) cs m.1)

-- ## Of a map
module _ {K W : Type 0} (read : ℕ → Outcome (Page K W)) where
  runs_yields : (p : ℕ) (m : Moved (K × W)) (es : List (K × W)) → Runs (λ i is. next read 16 i is (suc p)) m es → Yields read (suc p) m es
  unfolding map_next
  runs_yields p m [] r = r
  runs_yields p m (e ∷ es) r = (r.0, r.1, r.2, runs_yields p (next read 16 r.0 r.1 (suc p)) es r.3)

module _ {K W : Type 0} (cmp : K → K → Ordering) (read : ℕ → Outcome (Page K W)) where
  pub sound_yields : (root : ℕ) → Sound cmp read root → Yields read root (map_next read [] root) (map_entries read root)
  unfolding MeetsMap map_entries map_next
  sound_yields zero s = refl
  sound_yields (suc p) s =
      runs_yields read p (first read 16 (suc p)) (entries read 16 (suc p))
      (meets_runs cmp read 16 true (suc p) (sound_meets cmp read (suc p) s).0)

-- ## The numbers fit the places
abbrev pub FitsIn : {E : Type 0} → ℕ → Moved E → Type 0
FitsIn n (yield e i is) = suc (length is) ≤ n
FitsIn n over = Unit {0}
FitsIn n (stop r) = Unit {0}

abbrev pub Fits : {E : Type 0} → Moved E → Type 0
Fits m = FitsIn 16 m

module _ {E : Type 0} (n : ℕ) where
  entry_fits : (i : ℕ) (o : Option E) → FitsIn (suc n) (entry_at i o)
  entry_fits i None = tt
  entry_fits i (Some e) = omega arith

  after_fits : (o after : Option E) (i : ℕ) → FitsIn (suc n) (after_entry o (entry_at i after))
  after_fits None after i = tt
  after_fits (Some e) after i = entry_fits i after

  leftmost_fits : (i : ℕ) (m : Moved E) → FitsIn n m → FitsIn (suc n) (leftmost_in i m)
  leftmost_fits i (yield e j is) h = omega arith
  leftmost_fits i over h = tt
  leftmost_fits i (stop r) h = tt

  module _ (first : ℕ → Moved E) (first_fits : (q : ℕ) → FitsIn n (first q)) (i : ℕ) (after : Option ℕ) where
    over_fits : (m : Moved E) → FitsIn n m → FitsIn (suc n) (next_over first i after m)
    over_fits (yield e j is) h = omega arith
    over_fits over h = go after
      where
        go : (after : Option ℕ) → FitsIn (suc n) (next_over first i after over)
        go None = tt
        go (Some q) = leftmost_fits (suc i) (first q) (first_fits q)
    over_fits (stop r) h = tt

    in_fits : (next : ℕ → Moved E) (o : Option ℕ) → ((q : ℕ) → FitsIn n (next q)) → FitsIn (suc n) (next_in first next i o after)
    in_fits next None h = tt
    in_fits next (Some q) h = over_fits (next q) (h q)

module _ {K W : Type 0} (read : ℕ → Outcome (Page K W)) where
  first_fits : (levels p : ℕ) → FitsIn levels (first read levels p)
  unfolding first
  first_fits zero p = tt
  first_fits (suc levels) p = go (first_fits levels) (read p)
    where
      go : ((q : ℕ) → FitsIn levels (first read levels q)) → (o : Outcome (Page K W))
          → FitsIn (suc levels) (first_page (first read levels) o)
      go ih (Err r) = tt
      go ih (Ok (leaf es)) = entry_fits levels 0 (slice_get es 0)
      go ih (Ok (inner cs)) = leftmost_fits levels 0 (first read levels (first_child cs)) (ih (first_child cs))

  follow_fits : (levels i : ℕ) (is : List ℕ) (p : ℕ) → FitsIn levels (next read levels i is p)
  unfolding next
  follow_fits zero i is p = tt
  follow_fits (suc levels) i is p = go (follow_fits levels) is (read p)
    where
      go : ((j : ℕ) (js : List ℕ) (q : ℕ) → FitsIn levels (next read levels j js q)) → (is : List ℕ) (o : Outcome (Page K W))
          → FitsIn (suc levels) (next_page (first read levels) (next read levels) i is o)
      go ih is (Err r) = tt
      go ih [] (Ok (leaf es)) = after_fits levels (slice_get es i) (slice_get es (suc i)) (suc i)
      go ih (j ∷ is) (Ok (leaf es)) = tt
      go ih [] (Ok (inner cs)) = tt
      go ih (j ∷ is) (Ok (inner cs)) =
          in_fits levels (first read levels) (first_fits levels) i (child_at (suc i) cs) (next read levels j is) (child_at i cs) (ih j is)

  pub next_fits : (nums : List ℕ) (root : ℕ) → Fits (map_next read nums root)
  unfolding map_next
  next_fits [] zero = tt
  next_fits (i ∷ is) zero = tt
  next_fits [] (suc p) = first_fits 16 (suc p)
  next_fits (i ∷ is) (suc p) = follow_fits 16 i is (suc p)
