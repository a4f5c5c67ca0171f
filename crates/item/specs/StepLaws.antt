-- Laws of reading items one after another, of any kind: one step, and one item by its number.
--
--   on_some o stop go  what follows from an Option
use Prim.Native.Nat.{ℕ, zero, suc, ◌-◌, ◌≤◌, ◌<◌}
use Rattle.std.specs.Prelude.{◌≡◌, get_or, None, Option, Some, slice_get}
use Rattle.std.proofs.Math.Path.{refl, ap}
use Rattle.std.proofs.Common.{true≢false, sub-one, arith}
use mathlib.Core.List.{List, [], ◌∷◌}
use Rattle.std.proofs.Math.ListN.{length}
use Rattle.item.specs.Step.{Step, got, bad, on_step, after, up_to}

abbrev pub on_some : {A B : Type 0} → Option A → B → (A → B) → B
on_some (Some a) stop go = go a
on_some None stop go = stop

pub get_d_elem : {A : Type 0} (l : List A) (k : ℕ) (x : A) → get_or l k x ≡ on_some (slice_get l k) x (λ a. a)
get_d_elem [] k x = refl
get_d_elem (a ∷ l) zero x = refl
get_d_elem (a ∷ l) (suc k) x = get_d_elem l k x

module _ {A C : Type 0} (read : C → Step A C) where
  -- ## One step
  pub after_more : (n : ℕ) (c : C) {d : C} {a : A} → 0 < n → read c ≡ got a d → after read n c ≡ after read (n - 1) d
  unfolding after
  after_more zero c h e = absurd (omega arith)
  after_more (suc n) c h e = rw (e, sub-one)

  pub after_bad : (n : ℕ) (c : C) → 0 < n → read c ≡ bad → after read n c ≡ None
  unfolding after
  after_bad zero c h e = absurd (omega arith)
  after_bad (suc n) c h e = rw e

  pub up_to_more : (n : ℕ) (c : C) {d : C} {a : A} → 0 < n → read c ≡ got a d → up_to read n c ≡ a ∷ up_to read (n - 1) d
  unfolding up_to
  up_to_more zero c h e = absurd (omega arith)
  up_to_more (suc n) c h e = rw (e, sub-one)

  pub up_to_bad : (n : ℕ) (c : C) → read c ≡ bad → up_to read n c ≡ []
  unfolding up_to
  up_to_bad zero c e = refl
  up_to_bad (suc n) c e = rw e

  -- ## All of them
  -- where n items can be read, n are there
  pub up_to-length : (n : ℕ) (c : C) {e : C} → after read n c ≡ Some e → length (up_to read n c) ≡ n
  unfolding after up_to
  up_to-length zero c h = refl
  up_to-length (suc n) c {e} h = go (λ d k. up_to-length n d k) (read c) h
    where
      go : ((d : C) → after read n d ≡ Some e → length (up_to read n d) ≡ n) → (t : Step A C) → on_step t None (λ a d. after read n d) ≡ Some e
          → length (on_step t [] (λ a d. a ∷ up_to read n d)) ≡ suc n
      go ih (got a d) q = ap suc (ih d q)
      go ih bad q = absurd (true≢false cc)

  -- ## An item by its number
  pub up_to_past : (n k : ℕ) (c : C) → n ≤ k → slice_get (up_to read n c) k ≡ None
  unfolding up_to
  up_to_past zero k c h = refl
  up_to_past (suc n) zero c h = absurd (omega arith)
  up_to_past (suc n) (suc k) c h = go (λ d. up_to_past n k d (omega arith)) (read c)
    where
      go : ((d : C) → slice_get (up_to read n d) k ≡ None) → (t : Step A C) → slice_get (on_step t [] (λ a d. a ∷ up_to read n d)) (suc k) ≡ None
      go ih (got a d) = ih d
      go ih bad = refl

  -- the item at a cursor
  unfoldable pub item_of : C → Option A
  item_of c = on_step (read c) None (λ a d. Some a)

  -- item number k stands after k items
  pub up_to_nth : (n k : ℕ) (c : C) → k < n → slice_get (up_to read n c) k ≡ on_some (after read k c) None item_of
  unfolding after up_to item_of
  up_to_nth zero k c h = absurd (omega arith)
  up_to_nth (suc n) zero c h = go (read c)
    where
      go : (t : Step A C) → slice_get (on_step t [] (λ a d. a ∷ up_to read n d)) 0 ≡ on_step t None (λ a e. Some a)
      go (got a d) = refl
      go bad = refl
  up_to_nth (suc n) (suc k) c h = go (λ d. up_to_nth n k d (omega arith)) (read c)
    where
      go : ((d : C) → slice_get (up_to read n d) k ≡ on_some (after read k d) None item_of) → (t : Step A C)
          → slice_get (on_step t [] (λ a d. a ∷ up_to read n d)) (suc k) ≡ on_some (on_step t None (λ a d. after read k d)) None item_of
      go ih (got a d) = ih d
      go ih bad = refl
