-- Lookup, index, count and the entry list, after document 01, "Asking". Each question is what it is at one page, given the
-- answer for the children, and two lines of recursion. `levels` is how many levels of pages there may still be, the page's
-- own counted: the root's is 16, and a page with none left is at depth 17.
--
--   child_for cmp k cs                             the child that a lookup of k takes
--   find_in cmp k es                               the value that a leaf answers for k
--   lookup .. levels k p                           lookup of k from the page at p down: the value, or none for Absent
--   index .. levels i p                            the entry numbered i from the page at p down
--   entries .. levels p                            the entry list of the page at p
--   map_lookup, map_index, map_count, map_entries  the same of a map, by its root
use Rattle.std.specs.Prelude.{ℕ, zero, suc, ◌-◌, List, [], ◌∷◌, ltb, length, Err, None, Ok, Option, Some}
use Rattle.refusal.specs.Refusal.{Outcome, too_deep, bad_index}
use Rattle.std.specs.declared.cmp.Ordering.{Ordering}
use Rattle.std.specs.declared.cmp.Ordering.TheVariants.{Less, Equal, Greater}
use Rattle.order.specs.Order.{below}
use Rattle.tree.specs.Page.{branch, Children, last, more, Page, leaf, inner, total, joined, nth}

abbrev pub three : {A : Type 0} → Ordering → A → A → A → A
three Less a b c = a
three Equal a b c = b
three Greater a b c = c

-- ## Lookup
-- "take the child numbered by how many leading keys, up to the first greater one, are not greater"
abbrev pub child_for : {K : Type 0} → (K → K → Ordering) → K → Children K → ℕ
child_for cmp k (last p c) = p
child_for cmp k (more p c s cs) = branch (below cmp k s) p (child_for cmp k cs)

module _ {K W : Type 0} (cmp : K → K → Ordering) where
  -- "the first equal key that comes before any greater one"
  abbrev pub find_in : K → List (K × W) → Option W
  find_in k [] = None
  find_in k (e ∷ es) = three (cmp e.0 k) (find_in k es) (Some e.1) None

  abbrev pub lookup_page : K → (ℕ → Outcome (Option W)) → Outcome (Page K W) → Outcome (Option W)
  lookup_page k child (Err r) = Err r
  lookup_page k child (Ok (leaf es)) = Ok (find_in k es)
  lookup_page k child (Ok (inner cs)) = child (child_for cmp k cs)

module _ {K W : Type 0} (cmp : K → K → Ordering) (read : ℕ → Outcome (Page K W)) where
  unfoldable pub lookup : ℕ → K → ℕ → Outcome (Option W)
  lookup zero k p = Err too_deep
  lookup (suc levels) k p = lookup_page cmp k (lookup levels k) (read p)

  -- "Position 0 as a root is the empty map."
  unfoldable pub map_lookup : K → ℕ → Outcome (Option W)
  map_lookup k zero = Ok None
  map_lookup k (suc p) = lookup 16 k (suc p)

-- ## Index
-- "the child is chosen by the recorded counts, left to right. If what is left of the index is not below their total [..]
-- refusal 15"
abbrev pub index_children : {K E : Type 0} → (ℕ → ℕ → Outcome E) → ℕ → Children K → Outcome E
index_children child i (last p c) = branch (ltb i c) (child i p) (Err bad_index)
index_children child i (more p c s cs) = branch (ltb i c) (child i p) (index_children child (i - c) cs)

module _ {K W : Type 0} where
  abbrev pub index_page : (ℕ → ℕ → Outcome (K × W)) → ℕ → Outcome (Page K W) → Outcome (K × W)
  index_page child i (Err r) = Err r
  index_page child i (Ok (leaf es)) = nth i es
  index_page child i (Ok (inner cs)) = index_children child i cs

  -- "The count is the root's n or the sum of its recorded counts"
  abbrev pub count_page : Outcome (Page K W) → Outcome ℕ
  count_page (Err r) = Err r
  count_page (Ok (leaf es)) = Ok (length es)
  count_page (Ok (inner cs)) = Ok (total cs)

  -- "for a leaf its n entries in page order; for an inner page its children's lists joined"
  abbrev pub entries_page : (ℕ → List (K × W)) → Outcome (Page K W) → List (K × W)
  entries_page child (Err r) = []
  entries_page child (Ok (leaf es)) = es
  entries_page child (Ok (inner cs)) = joined child cs

module _ {K W : Type 0} (read : ℕ → Outcome (Page K W)) where
  unfoldable pub index : ℕ → ℕ → ℕ → Outcome (K × W)
  index zero i p = Err too_deep
  index (suc levels) i p = index_page (index levels) i (read p)

  -- "so is any index of the empty map"
  unfoldable pub map_index : ℕ → ℕ → Outcome (K × W)
  map_index i zero = Err bad_index
  map_index i (suc p) = index 16 i (suc p)

  -- "0 for the empty map"
  unfoldable pub map_count : ℕ → Outcome ℕ
  map_count zero = Ok 0
  map_count (suc p) = count_page (read (suc p))

  -- 01 defines the list where all reached pages meet the rules; here a page that does not has no entries
  unfoldable pub entries : ℕ → ℕ → List (K × W)
  entries zero p = []
  entries (suc levels) p = entries_page (entries levels) (read p)

  unfoldable pub map_entries : ℕ → List (K × W)
  map_entries zero = []
  map_entries (suc p) = entries 16 (suc p)
