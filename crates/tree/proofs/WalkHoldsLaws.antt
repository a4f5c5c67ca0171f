-- What holds of each entry of each leaf that is read holds of the entries that the walk yields.
--
--   Holds P m  P of the entry that m yields, if it yields one
use Rattle.std.specs.Prelude.{Err, None, Ok, Option, Some, slice_get}
use Prim.Native.Nat.{ℕ, zero, suc}
use mathlib.Core.List.{List, [], ◌∷◌}
use Rattle.refusal.specs.Refusal.{Outcome}
use Rattle.tree.specs.Page.{Page, leaf, inner, All}
use Rattle.tree.specs.Walk.{Moved, yield, over, stop, child_at, first_child, entry_at, after_entry, leftmost_in, next_over, next_in}
use Rattle.tree.specs.Walk.{first_page, next_page, first, next, map_next}
use Rattle.tree.proofs.HoldsLaws.{InLeaf}

module _ {E : Type 0} (P : E → Type 0) where
  abbrev pub Holds : Moved E → Type 0
  Holds (yield e i is) = P e
  Holds over = Unit {0}
  Holds (stop r) = Unit {0}

  -- ## One page
  entry_holds : (n i : ℕ) (es : List E) → All P es → Holds (entry_at n (slice_get es i))
  entry_holds n i [] h = tt
  entry_holds n zero (e ∷ es) h = h.0
  entry_holds n (suc i) (e ∷ es) h = entry_holds n i es h.1

  after_holds : (o : Option E) (m : Moved E) → Holds m → Holds (after_entry o m)
  after_holds None m h = tt
  after_holds (Some e) m h = h

  leftmost_holds : (i : ℕ) (m : Moved E) → Holds m → Holds (leftmost_in i m)
  leftmost_holds i (yield e j is) h = h
  leftmost_holds i over h = tt
  leftmost_holds i (stop r) h = tt

  over_holds : (first : ℕ → Moved E) → ((q : ℕ) → Holds (first q)) → (i : ℕ) (after : Option ℕ) (m : Moved E) → Holds m
      → Holds (next_over first i after m)
  over_holds first f i after (yield e j is) h = h
  over_holds first f i None over h = tt
  over_holds first f i (Some q) over h = leftmost_holds (suc i) (first q) (f q)
  over_holds first f i after (stop r) h = tt

  in_holds : (first next : ℕ → Moved E) → ((q : ℕ) → Holds (first q)) → ((q : ℕ) → Holds (next q)) → (i : ℕ) (child after : Option ℕ)
      → Holds (next_in first next i child after)
  in_holds first next f g i None after = tt
  in_holds first next f g i (Some p) after = over_holds first f i after (next p) (g p)

module _ {K W : Type 0} (P : K × W → Type 0) where
  first_page_holds : (child : ℕ → Moved (K × W)) → ((q : ℕ) → Holds P (child q)) → (o : Outcome (Page K W)) → InLeaf P o
      → Holds P (first_page child o)
  first_page_holds child f (Err r) h = tt
  first_page_holds child f (Ok (leaf es)) h = entry_holds P 0 0 es h
  first_page_holds child f (Ok (inner cs)) h = leftmost_holds P 0 (child (first_child cs)) (f (first_child cs))

  next_page_holds : (child : ℕ → Moved (K × W)) (follow : ℕ → List ℕ → ℕ → Moved (K × W)) → ((q : ℕ) → Holds P (child q))
      → ((j : ℕ) (is : List ℕ) (q : ℕ) → Holds P (follow j is q)) → (i : ℕ) (is : List ℕ) (o : Outcome (Page K W)) → InLeaf P o
      → Holds P (next_page child follow i is o)
  next_page_holds child follow f g i is (Err r) h = tt
  next_page_holds child follow f g i [] (Ok (leaf es)) h =
      after_holds P (slice_get es i) (entry_at (suc i) (slice_get es (suc i))) (entry_holds P (suc i) (suc i) es h)
  next_page_holds child follow f g i (j ∷ is) (Ok (leaf es)) h = tt
  next_page_holds child follow f g i [] (Ok (inner cs)) h = tt
  next_page_holds child follow f g i (j ∷ is) (Ok (inner cs)) h = in_holds P child (follow j is) f (g j is) i (child_at i cs) (child_at (suc i) cs)

  module _ (read : ℕ → Outcome (Page K W)) (leaves : (p : ℕ) → InLeaf P (read p)) where
    first_holds : (levels p : ℕ) → Holds P (first read levels p)
    unfolding first
    first_holds zero p = tt
    first_holds (suc levels) p = first_page_holds (first read levels) (λ q. first_holds levels q) (read p) (leaves p)

    next_holds : (levels i : ℕ) (is : List ℕ) (p : ℕ) → Holds P (next read levels i is p)
    unfolding next
    next_holds zero i is p = tt
    next_holds (suc levels) i is p =
        next_page_holds (first read levels) (next read levels) (λ q. first_holds levels q) (λ j js q. next_holds levels j js q) i is (read p)
        (leaves p)

    pub map_next_holds : (is : List ℕ) (root : ℕ) → Holds P (map_next read is root)
    unfolding map_next
    map_next_holds [] zero = tt
    map_next_holds (i ∷ is) zero = tt
    map_next_holds [] (suc p) = first_holds 16 (suc p)
    map_next_holds (i ∷ is) (suc p) = next_holds 16 i is (suc p)
