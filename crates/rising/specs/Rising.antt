-- The order of a page's keys against the nearest separators above: the words of this crate's contracts. What the tests of keys and
-- separators are is in the tree's `Rising`.
--
--   bound_key image kind b   the nearest separator above on a side, if there is one
--   risen_below b ks         the keys rise strictly and the last of them is below the bound b
--   rise_of image kind b ps  the last of the keys at the spots ps, or b of none; nothing where they do not rise strictly, the first above b
--   first_of ps              the first of them as a bound
use Rattle.std.specs.Prelude.{ℕ, Bool, cond, ◌&&◌, List, [], ◌∷◌, None, Option, Some}
use Rattle.key.specs.declared.Kind.{Kind}
use Rattle.key.specs.Key.{Key, compare_keys}
use Rattle.tree.specs.Examination.{above_bound}
use Rattle.tree.specs.Rising.{rises, last_below}
use Rattle.item.specs.Item.{Spot}
use Rattle.content.specs.Content.{key_in}

unfoldable pub bound_key : List ℕ → Kind → Option Spot → Option Key
bound_key image kind None = None
bound_key image kind (Some p) = Some (key_in image kind p)

abbrev pub risen_below : Option Key → List Key → Bool
risen_below b ks = rises compare_keys None ks && last_below compare_keys b ks

unfoldable pub rise_of : List ℕ → Kind → Option Spot → List Spot → Option (Option Spot)
rise_of image kind b [] = Some b
rise_of image kind b (p ∷ ps) =
    cond (above_bound compare_keys (bound_key image kind b) (key_in image kind p)) (rise_of image kind (Some p) ps) None

abbrev pub first_of : List Spot → Option Spot
first_of [] = None
first_of (p ∷ ps) = Some p
