-- The walk over a map's pages, after document 01: "The walk yields entries left to right". What is next is said at one page, given
-- what is next in the children, and by recursion. Numbers lead from the root to an entry: a child's number at each inner page,
-- the entry's number at the leaf. The state that holds them is the store's.
--
--   Moved E                what is next: an entry with the numbers that lead to it from the page, no entry left, or a refusal
--   child_at i cs          the position of child number i, if there is one
--   first .. levels p      the leftmost entry from the page at p down
--   next .. levels i is p  the entry after the one that the numbers i, is lead to from the page at p
--   map_next .. is root    of a map; no numbers are those of the fresh state
--   Yields .. es           stepping on by the numbers yields the entries es, one a step, and then no more
use Rattle.std.specs.Prelude.{ℕ, zero, suc, ◌≡◌, List, [], ◌∷◌, Err, None, Ok, Option, Some, slice_get}
use Rattle.refusal.specs.declared.Refusal.{Refusal}
use Rattle.refusal.specs.Refusal.{Outcome, too_deep, unsound}
use Rattle.tree.specs.Page.{Children, last, more, Page, leaf, inner}

pub data Moved (E : Type 0) : Type 0 where
  yield : E → ℕ → List ℕ → Moved E
  over : Moved E
  stop : Refusal → Moved E

abbrev pub child_at : {K : Type 0} → ℕ → Children K → Option ℕ
child_at zero (last p c) = Some p
child_at (suc i) (last p c) = None
child_at zero (more p c s cs) = Some p
child_at (suc i) (more p c s cs) = child_at i cs

abbrev pub first_child : {K : Type 0} → Children K → ℕ
first_child (last p c) = p
first_child (more p c s cs) = p

module _ {E : Type 0} where
  -- entry number i, if the leaf has it
  abbrev pub entry_at : ℕ → Option E → Moved E
  entry_at i None = over
  entry_at i (Some e) = yield e i []

  -- "a number [..] that doesn't fit [..] the page it is used at, refuses with 12": the entry last yielded must be there
  abbrev pub after_entry : Option E → Moved E → Moved E
  after_entry None m = stop unsound
  after_entry (Some e) m = m

  -- the leftmost entry below child number i: "An empty leaf that is not the root refuses with 12."
  abbrev pub leftmost_in : ℕ → Moved E → Moved E
  leftmost_in i (yield e j is) = yield e i (j ∷ is)
  leftmost_in i over = stop unsound
  leftmost_in i (stop r) = stop r

  -- what is next in child number i; past its end, the leftmost entry of the child after it, if there is one
  abbrev pub next_over : (ℕ → Moved E) → ℕ → Option ℕ → Moved E → Moved E
  next_over first i after (yield e j is) = yield e i (j ∷ is)
  next_over first i None over = over
  next_over first i (Some q) over = leftmost_in (suc i) (first q)
  next_over first i after (stop r) = stop r

  -- the child must be there
  abbrev pub next_in : (ℕ → Moved E) → (ℕ → Moved E) → ℕ → Option ℕ → Option ℕ → Moved E
  next_in first next i None after = stop unsound
  next_in first next i (Some p) after = next_over first i after (next p)

module _ {K W : Type 0} where
  abbrev pub first_page : (ℕ → Moved (K × W)) → Outcome (Page K W) → Moved (K × W)
  first_page first (Err r) = stop r
  first_page first (Ok (leaf es)) = entry_at 0 (slice_get es 0)
  first_page first (Ok (inner cs)) = leftmost_in 0 (first (first_child cs))

  -- "a number or depth that doesn't fit": a leaf takes the last number, an inner page one that is not the last
  abbrev pub next_page : (ℕ → Moved (K × W)) → (ℕ → List ℕ → ℕ → Moved (K × W)) → ℕ → List ℕ → Outcome (Page K W) → Moved (K × W)
  next_page first next i is (Err r) = stop r
  next_page first next i [] (Ok (leaf es)) = after_entry (slice_get es i) (entry_at (suc i) (slice_get es (suc i)))
  next_page first next i (j ∷ is) (Ok (leaf es)) = stop unsound
  next_page first next i [] (Ok (inner cs)) = stop unsound
  next_page first next i (j ∷ is) (Ok (inner cs)) = next_in first (next j is) i (child_at i cs) (child_at (suc i) cs)

module _ {K W : Type 0} (read : ℕ → Outcome (Page K W)) where
  unfoldable pub first : ℕ → ℕ → Moved (K × W)
  first zero p = stop too_deep
  first (suc levels) p = first_page (first levels) (read p)

  unfoldable pub next : ℕ → ℕ → List ℕ → ℕ → Moved (K × W)
  next zero i is p = stop too_deep
  next (suc levels) i is p = next_page (first levels) (next levels) i is (read p)

  -- "The fresh state is all 0; its first step goes to the leftmost entry."; a number does not fit the empty map
  unfoldable pub map_next : List ℕ → ℕ → Moved (K × W)
  map_next [] zero = over
  map_next (i ∷ is) zero = stop unsound
  map_next [] (suc p) = first 16 (suc p)
  map_next (i ∷ is) (suc p) = next 16 i is (suc p)

  abbrev pub Yields : ℕ → Moved (K × W) → List (K × W) → Type 0
  Yields root m [] = m ≡ over
  Yields root m (e ∷ es) = (i : ℕ) × (is : List ℕ) × (m ≡ yield e i is) × Yields root (map_next (i ∷ is) root) es
