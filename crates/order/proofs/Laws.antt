-- Laws of a comparison, of any strict total order. Names say the statement: X-true and X-false go from the test X to what it
-- tells, true-X and false-X from there to the test; a-b-c goes from a and b to c.
use Rattle.std.specs.Prelude.{ℕ, ◌≡◌, refl, Bool, true, false}
use Rattle.std.proofs.Common.{◌∙◌, ap, arith}
use Rattle.std.specs.declared.cmp.Ordering.{Ordering}
use Rattle.std.specs.declared.cmp.Ordering.TheVariants.{Less, Equal, Greater}
use Rattle.order.specs.Order.{turned, is_less, TotalOrder, Below, UpTo, below}

is_less_true : (o : Ordering) → is_less o ≡ true → o ≡ Less
is_less_true Less e = refl
is_less_true Equal e = cc
is_less_true Greater e = cc

module _ {K : Type 0} (cmp : K → K → Ordering) where
  -- ## The test of Below
  pub below_true : (a b : K) → below cmp a b ≡ true → Below cmp a b
  below_true a b e = is_less_true (cmp a b) e

  pub true_below : (a b : K) → Below cmp a b → below cmp a b ≡ true
  true_below a b e = rw e

  pub below_false : (a b : K) → below cmp a b ≡ false → UpTo cmp b a
  below_false a b e h =
      let z : ◌≡◌ {A = ℕ} 0 1 = cc in
      omega arith

  pub false_below : (a b : K) → UpTo cmp b a → below cmp a b ≡ false
  false_below a b h = go (below cmp a b) refl
    where
      go : (t : Bool) → below cmp a b ≡ t → below cmp a b ≡ false
      go true e = absurd (h (below_true a b e))
      go false e = e

-- ## A strict total order
module _ {K : Type 0} {cmp : K → K → Ordering} (L : TotalOrder K cmp) where
  pub below_irreflexive : (a : K) → Below cmp a a → ⊥
  below_irreflexive a h =
      let s = L.self a in
      let z : ◌≡◌ {A = ℕ} 0 1 = cc in
      omega arith

  pub below_upto : (a b : K) → Below cmp a b → UpTo cmp a b
  below_upto a b h k = below_irreflexive a (L.trans a b a h k)

  pub greater_below : (a b : K) → cmp a b ≡ Greater → Below cmp b a
  greater_below a b e = L.flip a b ∙ ap turned e

  pub below_greater : (a b : K) → Below cmp a b → cmp b a ≡ Greater
  below_greater a b h = L.flip a b ∙ ap turned h

  pub below_upto_below : (a b c : K) → Below cmp a b → UpTo cmp b c → Below cmp a c
  below_upto_below a b c h k = go (cmp b c) refl
    where
      go : (o : Ordering) → cmp b c ≡ o → Below cmp a c
      go Less e = L.trans a b c h e
      go Equal e = rw (L.same b c e) at h
      go Greater e = absurd (k (greater_below b c e))

  pub upto_below_below : (a b c : K) → UpTo cmp a b → Below cmp b c → Below cmp a c
  upto_below_below a b c k h = go (cmp a b) refl
    where
      go : (o : Ordering) → cmp a b ≡ o → Below cmp a c
      go Less e = L.trans a b c e h
      go Equal e = rw (← (L.same a b e)) at h
      go Greater e = absurd (k (greater_below a b e))
