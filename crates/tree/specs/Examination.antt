-- The examination, after document 01: "The examination goes depth first, a page's own rules before its keys, its separators
-- before its children, a child before its recorded count; it refuses at the first fault."
--
--   Report                                what it reports: entries, pages, and the deepest page's depth
--   above_bound, from_bound, below_bound  a key against the nearest separator above on a side, if there is one
--   separators_lie lo hi ks               the test of an inner page's separators
--   keys_lie lo hi previous es            the test of a leaf's keys
--   examine .. levels root lo hi p        the examination from the page at p down; `root` says whether it is the root
--   map_examine                           of a map, by its root
use Rattle.std.specs.Prelude.{ℕ, zero, suc, ◌+◌, max, Bool, true, false, ◌&&◌, not, List, [], ◌∷◌, eqb, length, Err, None, Ok, Option, Some}
use Rattle.refusal.specs.Refusal.{Outcome, bind, too_deep, unsound}
use Rattle.std.specs.declared.cmp.Ordering.{Ordering}
use Rattle.order.specs.Order.{below}
use Rattle.tree.specs.declared.Report.{Report}
use Rattle.tree.specs.Page.{branch, Children, last, more, Page, leaf, inner, separators}

abbrev pub nothing : Report
nothing = record { entries = 0; pages = 0; depth = 0 }

abbrev pub one_leaf : ℕ → Report
one_leaf n = record { entries = n; pages = 1; depth = 1 }

abbrev pub both : Report → Report → Report
both a b = record { entries = a.entries + b.entries; pages = a.pages + b.pages; depth = max a.depth b.depth }

-- of an inner page, from that of its children
abbrev pub over : Report → Report
over a = record { entries = a.entries; pages = suc a.pages; depth = suc a.depth }

-- "each recorded count is the entries under that child"
abbrev pub counted : ℕ → Report → Outcome Report
counted c a = branch (eqb a.entries c) (Ok a) (Err unsound)

-- "only the root may be an empty leaf"
abbrev pub filled : {E : Type 0} → Bool → List E → Bool
filled true es = true
filled false [] = false
filled false (e ∷ es) = true

module _ {K : Type 0} (cmp : K → K → Ordering) where
  abbrev pub above_bound : Option K → K → Bool
  above_bound None k = true
  above_bound (Some b) k = below cmp b k

  abbrev pub from_bound : Option K → K → Bool
  from_bound None k = true
  from_bound (Some b) k = not (below cmp k b)

  abbrev pub below_bound : Option K → K → Bool
  below_bound None k = true
  below_bound (Some b) k = below cmp k b

  -- "Separators are tested to rise strictly and to lie strictly between the nearest separators above on each side": `lo` is the
  -- separator before, for the first the one above
  unfoldable pub separators_lie : Option K → Option K → List K → Bool
  separators_lie lo hi [] = true
  separators_lie lo hi (k ∷ ks) = (above_bound lo k && below_bound hi k) && separators_lie (Some k) hi ks

module _ {K W : Type 0} (cmp : K → K → Ordering) where
  -- "a leaf's keys to rise strictly, not below the nearest on the left, below the nearest on the right"
  unfoldable pub keys_lie : Option K → Option K → Option K → List (K × W) → Bool
  keys_lie lo hi previous [] = true
  keys_lie lo hi previous (e ∷ es) =
      (above_bound cmp previous e.0 && (from_bound cmp lo e.0 && below_bound cmp hi e.0)) && keys_lie lo hi (Some e.0) es

-- "a child before its recorded count"
abbrev pub examine_children : {K : Type 0} → (Option K → Option K → ℕ → Outcome Report) → Option K → Option K → Children K
    → Outcome Report
examine_children child lo hi (last p c) = bind (child lo hi p) (counted c)
examine_children child lo hi (more p c s cs) =
    bind (bind (child lo (Some s) p) (counted c)) (λ a. bind (examine_children child (Some s) hi cs) (λ b. Ok (both a b)))

module _ {K W : Type 0} (cmp : K → K → Ordering) where
  abbrev pub examine_page : (Option K → Option K → ℕ → Outcome Report) → Bool → Option K → Option K → Outcome (Page K W)
      → Outcome Report
  examine_page child root lo hi (Err r) = Err r
  examine_page child root lo hi (Ok (leaf es)) =
      branch (filled root es && keys_lie cmp lo hi None es) (Ok (one_leaf (length es))) (Err unsound)
  examine_page child root lo hi (Ok (inner cs)) =
      branch (separators_lie cmp lo hi (separators cs)) (bind (examine_children child lo hi cs) (λ a. Ok (over a))) (Err unsound)

module _ {K W : Type 0} (cmp : K → K → Ordering) (read : ℕ → Outcome (Page K W)) where
  unfoldable pub examine : ℕ → Bool → Option K → Option K → ℕ → Outcome Report
  examine zero root lo hi p = Err too_deep
  examine (suc levels) root lo hi p = examine_page cmp (examine levels false) root lo hi (read p)

  -- "(0, 0, 0 for the empty map)"
  unfoldable pub map_examine : ℕ → Outcome Report
  map_examine zero = Ok nothing
  map_examine (suc p) = examine 16 true None None (suc p)
