-- The examination's tests of keys and separators as one pass takes them: each key is held against the one before it, and only the
-- first and the last against the bounds. That this is `keys_lie` and `separators_lie`, over a strict total order, is in RisingLaws.
--
--   keys_of es         the keys of entries
--   rises b ks         the keys rise strictly, the first above b, if there is one
--   first_above lo ks  the first key, if there is one, is above lo
--   first_from lo ks   the first key, if there is one, is not below lo
--   last_below hi ks   the last key, if there is one, is below hi
use Rattle.std.specs.Prelude.{Bool, true, ◌&&◌, List, [], ◌∷◌, None, Option, Some}
use Rattle.std.specs.declared.cmp.Ordering.{Ordering}
use Rattle.tree.specs.Examination.{above_bound, from_bound, below_bound}

abbrev pub keys_of : {K W : Type 0} → List (K × W) → List K
keys_of [] = []
keys_of (e ∷ es) = e.0 ∷ keys_of es

module _ {K : Type 0} (cmp : K → K → Ordering) where
  unfoldable pub rises : Option K → List K → Bool
  rises b [] = true
  rises b (k ∷ ks) = above_bound cmp b k && rises (Some k) ks

  unfoldable pub first_above : Option K → List K → Bool
  first_above lo [] = true
  first_above lo (k ∷ ks) = above_bound cmp lo k

  unfoldable pub first_from : Option K → List K → Bool
  first_from lo [] = true
  first_from lo (k ∷ ks) = from_bound cmp lo k

  unfoldable pub last_below : Option K → List K → Bool
  last_below hi [] = true
  last_below hi (k ∷ []) = below_bound cmp hi k
  last_below hi (k ∷ l ∷ ks) = last_below hi (l ∷ ks)

  -- a leaf's keys
  abbrev pub keys_test : Option K → Option K → List K → Bool
  keys_test lo hi ks = first_from lo ks && (rises None ks && last_below hi ks)

  -- an inner page's separators
  abbrev pub separators_test : Option K → Option K → List K → Bool
  separators_test lo hi ks = first_above lo ks && (rises None ks && last_below hi ks)
