-- Soundness by recursion from a page down, as the proofs go. That it is document 01's soundness is in ReachedLaws.
--
--   Filled root es                     only the root may be an empty leaf
--   AboveBound, FromBound, BelowBound  what the tests of those names tell
--   LeftOfBound                        below the bound, which is there
--   Within cmp lo hi es                keys rise strictly, not below `lo`, below `hi`
--   MeetsChildren, MeetsPage, Meets    the page at p, and each page under it, meets the rules, its separators and counts are right
--   MeetsMap                           the same of a map, by its root, and leaf keys rise strictly
use Rattle.std.specs.Prelude.{ℕ, zero, suc, ◌≡◌, Bool, true, false, List, [], ◌∷◌, length, Err, None, Ok, Option, Some}
use Rattle.refusal.specs.Refusal.{Outcome}
use Rattle.std.specs.declared.cmp.Ordering.{Ordering}
use Rattle.order.specs.Order.{Below, UpTo}
use Rattle.tree.specs.Page.{Children, Page, leaf, inner, All, AllChildren}
use Rattle.tree.specs.Asking.{entries}
use Rattle.tree.specs.Sound.{Rising, Separated}

abbrev pub Filled : {E : Type 0} → Bool → List E → Type 0
Filled true es = Unit {0}
Filled false [] = ⊥
Filled false (e ∷ es) = Unit {0}

module _ {K : Type 0} (cmp : K → K → Ordering) where
  abbrev pub AboveBound : Option K → K → Type 0
  AboveBound None k = Unit {0}
  AboveBound (Some b) k = Below cmp b k

  abbrev pub FromBound : Option K → K → Type 0
  FromBound None k = Unit {0}
  FromBound (Some b) k = UpTo cmp b k

  abbrev pub BelowBound : Option K → K → Type 0
  BelowBound None k = Unit {0}
  BelowBound (Some b) k = Below cmp k b

  abbrev pub LeftOfBound : Option K → K → Type 0
  LeftOfBound None k = ⊥
  LeftOfBound (Some b) k = Below cmp k b

pub record Within {K W : Type 0} (cmp : K → K → Ordering) (lo hi : Option K) (es : List (K × W)) : Type 0 where
  pub rises : Rising cmp es
  pub low : All (λ e. FromBound cmp lo e.0) es
  pub high : All (λ e. BelowBound cmp hi e.0) es

module _ {K W : Type 0} (cmp : K → K → Ordering) where
  -- `left` is what stands to the left of the children cs in the page's subtree
  abbrev pub MeetsChildren : (ℕ → List (K × W)) → (ℕ → Type 0) → List (K × W) → Children K → Type 0
  MeetsChildren list Child left cs = Separated cmp list left cs × AllChildren (λ p c. (c ≡ length (list p)) × Child p) cs

  abbrev pub MeetsPage : (ℕ → List (K × W)) → (ℕ → Type 0) → Bool → Outcome (Page K W) → Type 0
  MeetsPage list Child root (Err r) = ⊥
  MeetsPage list Child root (Ok (leaf es)) = Filled root es
  MeetsPage list Child root (Ok (inner cs)) = MeetsChildren list Child [] cs

module _ {K W : Type 0} (cmp : K → K → Ordering) (read : ℕ → Outcome (Page K W)) where
  unfoldable pub Meets : ℕ → Bool → ℕ → Type 0
  Meets zero root p = ⊥
  Meets (suc levels) root p = MeetsPage cmp (entries read levels) (Meets levels false) root (read p)

  unfoldable pub MeetsMap : ℕ → Type 0
  MeetsMap zero = Unit {0}
  MeetsMap (suc p) = Meets 16 true (suc p) × Rising cmp (entries read 16 (suc p))
