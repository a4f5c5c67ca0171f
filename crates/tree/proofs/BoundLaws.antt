-- Laws of a key against a bound that may be missing, of rising keys, and of keys within two bounds.
--
-- In names: above, from, under, left for AboveBound, FromBound, BelowBound, LeftOfBound; a-b-c goes from a and b to c; X-true
-- from a test to what it tells, true-X back.
use Rattle.std.specs.Prelude.{ℕ, ◌≡◌, refl, true, List, [], ◌∷◌, ◌++◌, None, Option, Some}
use Rattle.std.proofs.lemmas.Bool.{not-true}
use Rattle.std.specs.declared.cmp.Ordering.{Ordering}
use Rattle.order.specs.Order.{TotalOrder, Below, UpTo, below}
use Rattle.order.proofs.Laws.{below_true, true_below, below_false, false_below, below_upto, below_upto_below, upto_below_below}
use Rattle.tree.specs.Page.{Children, last, more, joined, All, AllChildren}
use Rattle.tree.specs.Sound.{Rising}
use Rattle.tree.specs.Examination.{above_bound, from_bound, below_bound}
use Rattle.tree.specs.Meets.{AboveBound, FromBound, BelowBound, LeftOfBound, Within}
use Rattle.tree.proofs.ListLaws.{all_append, all_left, all_right, all_imp}

-- ## The tests
module _ {K : Type 0} (cmp : K → K → Ordering) where
  pub above_true : (b : Option K) (k : K) → above_bound cmp b k ≡ true → AboveBound cmp b k
  above_true None k e = tt
  above_true (Some b) k e = below_true cmp b k e

  pub true_above : (b : Option K) (k : K) → AboveBound cmp b k → above_bound cmp b k ≡ true
  true_above None k h = refl
  true_above (Some b) k h = true_below cmp b k h

  pub from_true : (b : Option K) (k : K) → from_bound cmp b k ≡ true → FromBound cmp b k
  from_true None k e = tt
  from_true (Some b) k e = below_false cmp k b (not-true (below cmp k b) e)

  pub true_from : (b : Option K) (k : K) → FromBound cmp b k → from_bound cmp b k ≡ true
  true_from None k h = refl
  true_from (Some b) k h = rw (false_below cmp k b h)

  pub under_true : (b : Option K) (k : K) → below_bound cmp b k ≡ true → BelowBound cmp b k
  under_true None k e = tt
  under_true (Some b) k e = below_true cmp k b e

  pub true_under : (b : Option K) (k : K) → BelowBound cmp b k → below_bound cmp b k ≡ true
  true_under None k h = refl
  true_under (Some b) k h = true_below cmp k b h

-- ## From key to key
module _ {K : Type 0} {cmp : K → K → Ordering} (L : TotalOrder K cmp) where
  pub left_above_below : (b : Option K) (k s : K) → LeftOfBound cmp b k → AboveBound cmp b s → Below cmp k s
  left_above_below None k s h a = absurd h
  left_above_below (Some b) k s h a = L.trans k b s h a

  pub above_upto_from : (b : Option K) (s k : K) → AboveBound cmp b s → UpTo cmp s k → FromBound cmp b k
  above_upto_from None s k a u = tt
  above_upto_from (Some b) s k a u = below_upto L b k (below_upto_below L b s k a u)

  pub above_below_above : (b : Option K) (s k : K) → AboveBound cmp b s → Below cmp s k → AboveBound cmp b k
  above_below_above None s k a h = tt
  above_below_above (Some b) s k a h = L.trans b s k a h

  pub from_below_above : (b : Option K) (k s : K) → FromBound cmp b k → Below cmp k s → AboveBound cmp b s
  from_below_above None k s f h = tt
  from_below_above (Some b) k s f h = upto_below_below L b k s f h

  pub below_under_under : (b : Option K) (k s : K) → Below cmp k s → BelowBound cmp b s → BelowBound cmp b k
  below_under_under None k s h u = tt
  below_under_under (Some b) k s h u = L.trans k s b h u

  pub upto_under_under : (b : Option K) (s k : K) → UpTo cmp s k → BelowBound cmp b k → BelowBound cmp b s
  upto_under_under None s k u h = tt
  upto_under_under (Some b) s k u h = upto_below_below L s k b u h

-- ## Rising keys
module _ {K W : Type 0} (cmp : K → K → Ordering) where
  pub rising_left : (a b : List (K × W)) → Rising cmp (a ++ b) → Rising cmp a
  rising_left [] b h = tt
  rising_left (x ∷ a) b h = (all_left _ a b h.0, rising_left a b h.1)

  pub rising_right : (a b : List (K × W)) → Rising cmp (a ++ b) → Rising cmp b
  rising_right [] b h = h
  rising_right (x ∷ a) b h = rising_right a b h.1

  pub children_rising : {P Q : ℕ → ℕ → Type 0} (list : ℕ → List (K × W)) → ((p c : ℕ) → P p c → Rising cmp (list p) → Q p c)
      → (cs : Children K) → Rising cmp (joined list cs) → AllChildren P cs → AllChildren Q cs
  children_rising list f (last p c) r h = f p c h r
  children_rising list f (more p c s cs) r h =
      (f p c h.0 (rising_left (list p) (joined list cs) r), children_rising list f cs (rising_right (list p) (joined list cs) r) h.1)

-- ## Keys within two bounds, parted by a separator
module _ {K W : Type 0} {cmp : K → K → Ordering} (L : TotalOrder K cmp) where
  rising_append : (s : K) (a b : List (K × W)) → Rising cmp a → Rising cmp b
      → All (λ e. Below cmp e.0 s) a → All (λ e. UpTo cmp s e.0) b → Rising cmp (a ++ b)
  rising_append s [] b r q h k = q
  rising_append s (x ∷ a) b r q h k =
      (all_append _ a b r.0 (all_imp (λ f. below_upto_below L x.0 s f.0 h.0) b k), rising_append s a b r.1 q h.1 k)

  pub within_append : (lo hi : Option K) (s : K) (a b : List (K × W)) → AboveBound cmp lo s → BelowBound cmp hi s
      → Within cmp lo (Some s) a → Within cmp (Some s) hi b → Within cmp lo hi (a ++ b)
  within_append lo hi s a b f g u v =
      record {
        rises = rising_append s a b u.rises v.rises u.high v.low;
        low = all_append _ a b u.low (all_imp (λ e. above_upto_from L lo s e.0 f) b v.low);
        high = all_append _ a b (all_imp (λ e h. below_under_under L hi e.0 s h g) a u.high) v.high;
      }

module _ {K W : Type 0} (cmp : K → K → Ordering) (lo hi : Option K) (s : K) (a b : List (K × W)) (w : Within cmp lo hi (a ++ b)) where
  pub within_left : All (λ e. Below cmp e.0 s) a → Within cmp lo (Some s) a
  within_left h = record { rises = rising_left cmp a b w.rises; low = all_left _ a b w.low; high = h }

  pub within_right : All (λ e. UpTo cmp s e.0) b → Within cmp (Some s) hi b
  within_right h = record { rises = rising_right cmp a b w.rises; low = h; high = all_right _ a b w.high }
