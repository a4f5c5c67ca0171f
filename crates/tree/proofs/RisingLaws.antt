-- The tests of keys and separators in one pass are the examination's, over a strict total order.
use Rattle.std.specs.Prelude.{◌≡◌, Bool, ◌&&◌, None, Option, Some}
use Rattle.std.proofs.Math.Path.{refl, ap}
use Rattle.std.proofs.Common.{◌∙◌}
use Rattle.std.proofs.Math.Bool.{true, false, and-eq-true_iff}
use mathlib.Core.List.{List, [], ◌∷◌}
use Rattle.std.specs.declared.cmp.Ordering.{Ordering}
use Rattle.order.specs.Order.{TotalOrder, below}
use Rattle.order.proofs.Laws.{below_true, below_irreflexive}
use Rattle.tree.specs.Examination.{above_bound, from_bound, below_bound, separators_lie, keys_lie}
use Rattle.tree.specs.Rising.{keys_of, rises, first_above, first_from, last_below, keys_test, separators_test}
use Rattle.tree.proofs.BoundLaws.{from_true, true_from, under_true, true_under, above_upto_from, from_below_above, below_under_under}

-- ## A test that follows from later ones
-- b follows where c, r and m hold
above_follows : (a b c r m : Bool) → (c ≡ true → (r && m) ≡ true → b ≡ true) → ((a && b) && (c && (r && m))) ≡ (a && ((c && r) && m))
above_follows false b c r m h = refl
above_follows true true false r m h = refl
above_follows true false false r m h = refl
above_follows true true true r m h = refl
above_follows true false true false m h = refl
above_follows true false true true false h = refl
above_follows true false true true true h = h refl refl

-- g follows where f and s hold
from_follows : (a f b g s : Bool) → (f ≡ true → s ≡ true → g ≡ true) → ((a && (f && b)) && (g && s)) ≡ (f && ((a && b) && s))
from_follows false false b g s h = refl
from_follows false true b g s h = refl
from_follows true false b g s h = refl
from_follows true true false g s h = refl
from_follows true true true true s h = refl
from_follows true true true false false h = refl
from_follows true true true false true h = h refl refl

module _ {K : Type 0} {cmp : K → K → Ordering} (L : TotalOrder K cmp) where
  -- ## Separators
  -- a separator is below the bound, as the next one is
  separators_after : (lo hi : Option K) (k : K) (ks : List K)
      → separators_lie cmp lo hi (k ∷ ks) ≡ (above_bound cmp lo k && (rises cmp (Some k) ks && last_below cmp hi (k ∷ ks)))
  unfolding separators_lie rises last_below
  separators_after lo hi k [] = go (above_bound cmp lo k) (below_bound cmp hi k)
    where
      go : (a b : Bool) → ((a && b) && true) ≡ (a && b)
      go false b = refl
      go true false = refl
      go true true = refl
  separators_after lo hi k (l ∷ ks) =
      ap (λ (s : Bool). (above_bound cmp lo k && below_bound cmp hi k) && s) (separators_after (Some k) hi l ks)
      ∙ above_follows (above_bound cmp lo k) (below_bound cmp hi k) (below cmp k l) (rises cmp (Some l) ks) (last_below cmp hi (l ∷ ks)) (λ c m.
      let u = ((and-eq-true_iff (below_bound cmp hi l) (separators_lie cmp (Some l) hi ks)).0 (separators_after None hi l ks ∙ m)).0 in
      true_under cmp hi k (below_under_under L hi k l (below_true cmp k l c) (under_true cmp hi l u)))

  pub separators_test_lem : (lo hi : Option K) (ks : List K) → separators_lie cmp lo hi ks ≡ separators_test cmp lo hi ks
  unfolding separators_lie rises first_above last_below
  separators_test_lem lo hi [] = refl
  separators_test_lem lo hi (k ∷ ks) = separators_after lo hi k ks

  -- ## A leaf's keys
  -- a key is not below the bound, as the one before is not
  next_from : (lo hi : Option K) (k : K) (ks : List K) → from_bound cmp lo k ≡ true → separators_lie cmp (Some k) hi ks ≡ true
      → first_from cmp lo ks ≡ true
  unfolding separators_lie first_from
  next_from lo hi k [] f s = refl
  next_from lo hi k (l ∷ ks) f s =
      let a = ((and-eq-true_iff (below cmp k l && below_bound cmp hi l) (separators_lie cmp (Some l) hi ks)).0 s).0 in
      let b = ((and-eq-true_iff (below cmp k l) (below_bound cmp hi l)).0 a).0 in
      let above = from_below_above L lo k l (from_true cmp lo k f) (below_true cmp k l b) in
      true_from cmp lo l (above_upto_from L lo l l above (below_irreflexive L l))

module _ {K W : Type 0} {cmp : K → K → Ordering} (L : TotalOrder K cmp) where
  -- only the first is held against the bound on the left
  keys_apart : (lo hi previous : Option K) (es : List (K × W))
      → keys_lie cmp lo hi previous es ≡ (first_from cmp lo (keys_of es) && separators_lie cmp previous hi (keys_of es))
  unfolding keys_lie separators_lie first_from
  keys_apart lo hi previous [] = refl
  keys_apart lo hi previous (e ∷ es) =
      let k = e.0 in
      let ks = keys_of es in
      ap (λ (t : Bool). (above_bound cmp previous k && (from_bound cmp lo k && below_bound cmp hi k)) && t) (keys_apart lo hi (Some k) es)
      ∙ from_follows (above_bound cmp previous k) (from_bound cmp lo k) (below_bound cmp hi k) (first_from cmp lo ks)
      (separators_lie cmp (Some k) hi ks) (next_from L lo hi k ks)

  pub keys_test_lem : (lo hi : Option K) (es : List (K × W)) → keys_lie cmp lo hi None es ≡ keys_test cmp lo hi (keys_of es)
  unfolding keys_lie first_above first_from rises last_below
  keys_test_lem lo hi [] = refl
  keys_test_lem lo hi (e ∷ es) =
      keys_apart lo hi None (e ∷ es)
      ∙ ap (λ (t : Bool). from_bound cmp lo e.0 && t) (separators_test_lem L None hi (keys_of (e ∷ es)))
