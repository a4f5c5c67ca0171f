-- The order of a page's keys: one law for each way that the code takes.
--
--   Climbing image kind s f b left i answer  the answer of a loop that has `left` keys from place i on, the last before them b
--   end_below hi r                           the last of keys that rise is below the bound; not so of keys that don't rise
use Rattle.std.specs.Prelude.{ℕ, ◌-◌, ◌≤◌, ◌<◌, ◌≡◌, Bool, cond, ◌&&◌, take, None, Some, Option}
use Rattle.std.proofs.Math.Path.{refl}
use Rattle.std.proofs.Common.{sym, ◌∙◌, ap}
use Rattle.std.proofs.Math.Bool.{true, false}
use mathlib.Core.List.{List, [], ◌∷◌, map}
use native.Mathlib.Omega.{arith}
use Rattle.std.proofs.Math.ListN.{length-take}
use Rattle.key.specs.declared.Kind.{Kind}
use Rattle.key.specs.declared.sized.Sized.{Sized}
use Rattle.key.specs.Key.{compare_keys}
use Rattle.tree.specs.Page.{All}
use Rattle.tree.specs.Examination.{above_bound, from_bound, below_bound}
use Rattle.tree.specs.Rising.{rises, first_above, first_from, last_below, keys_test, separators_test}
use Rattle.item.specs.declared.Form.{Form}
use Rattle.item.specs.Step.{up_to}
use Rattle.item.specs.StepLaws.{up_to_more, up_to_bad}
use Rattle.item.specs.Item.{Spot, item_at, items}
use Rattle.item.specs.ItemLaws.{items_at, items_bad}
use Rattle.page.specs.Judged.{key_form}
use Rattle.content.specs.Content.{key_in, keys_in}
use Rattle.content.specs.InsideLaws.{Inside, items_inside, part_cut}
use Rattle.rising.specs.Rising.{bound_key, rise_of, first_of}

-- ## A loop over the keys, written in the form f
pub record Climbing (image : List ℕ) (kind : Kind) (s : List ℕ) (f : Form) (b : Option Spot) (left i : ℕ) (answer : Option (Option Spot)) : Type 0 where
  pub so_far : rise_of image kind b (up_to (items s f) left i) ≡ answer

module _ {image : List ℕ} {kind : Kind} {s : List ℕ} {f : Form} {b : Option Spot} {left i : ℕ} {answer : Option (Option Spot)}
    (l : Climbing image kind s f b left i answer) where
  pub rise_none : left ≤ 0 → Some b ≡ answer
  unfolding rise_of up_to
  rise_none h = let e : left ≡ 0 = omega arith in rw e at l.so_far

  module _ {it : Option Sized} (e : it ≡ item_at s f i) where
    pub rise_bad : it ≡ None → Some b ≡ answer
    unfolding rise_of
    rise_bad t = rw (up_to_bad (items s f) left i (items_bad s f i (sym e ∙ t))) at l.so_far

    module _ {j : Sized} {t : Bool} (h : 0 < left) (u : it ≡ Some j)
        (above : t ≡ above_bound compare_keys (bound_key image kind b) (key_in image kind j.spot)) where
      pub rise_more : t ≡ true → Climbing image kind s f (Some j.spot) (left - 1) j.next answer
      unfolding rise_of
      rise_more q = record { so_far = rw (up_to_more (items s f) left i h (items_at s f i (sym e ∙ u)), ← above, q) at l.so_far }

      pub rise_falls : t ≡ false → None ≡ answer
      unfolding rise_of
      rise_falls q = rw (up_to_more (items s f) left i h (items_at s f i (sym e ∙ u)), ← above, q) at l.so_far

module _ (image : List ℕ) (kind : Kind) where
  -- ## The keys of a page, by their spots in the image
  same_keys : (end : ℕ) (ps : List Spot) → All (Inside (take end image)) ps → map (key_in (take end image) kind) ps ≡ map (key_in image kind) ps
  unfolding key_in
  same_keys end [] h = refl
  same_keys end (p ∷ ps) h = rw (part_cut p.at p.len end image (omega (arith, length-take end image, h.0)), same_keys end ps h.1)

  pub keys_at : (end n keys : ℕ) → keys_in (take end image) kind n keys ≡ map (key_in image kind) (up_to (items (take end image) (key_form kind)) n keys)
  unfolding keys_in
  keys_at end n keys =
      same_keys end (up_to (items (take end image) (key_form kind)) n keys) (items_inside (take end image) (key_form kind) n keys)

  -- ## The first key
  module _ (s : List ℕ) (n i : ℕ) where
    pub first_none : n ≡ 0 → first_of (up_to (items s (key_form kind)) n i) ≡ None
    unfolding up_to
    first_none e = rw e

    pub first_bad : item_at s (key_form kind) i ≡ None → first_of (up_to (items s (key_form kind)) n i) ≡ None
    first_bad e = rw (up_to_bad (items s (key_form kind)) n i (items_bad s (key_form kind) i e))

    pub first_at : {j : Sized} → 0 < n → item_at s (key_form kind) i ≡ Some j → first_of (up_to (items s (key_form kind)) n i) ≡ Some j.spot
    first_at h e = rw (up_to_more (items s (key_form kind)) n i h (items_at s (key_form kind) i e))

  -- ## A rise, and its end
  module _ (hi : Option Spot) where
    abbrev pub end_below : Option (Option Spot) → Bool
    end_below None = false
    end_below (Some None) = true
    end_below (Some (Some p)) = below_bound compare_keys (bound_key image kind hi) (key_in image kind p)

    end_after : (p : Spot) (ps : List Spot)
        → end_below (rise_of image kind (Some p) ps)
        ≡ (rises compare_keys (Some (key_in image kind p)) (map (key_in image kind) ps)
        && last_below compare_keys (bound_key image kind hi) (key_in image kind p ∷ map (key_in image kind) ps))
    unfolding rise_of rises last_below bound_key
    end_after p [] = refl
    end_after p (q ∷ ps) = go (above_bound compare_keys (Some (key_in image kind p)) (key_in image kind q)) (end_after q ps)
      where
        go : (t : Bool)
            → end_below (rise_of image kind (Some q) ps)
            ≡ (rises compare_keys (Some (key_in image kind q)) (map (key_in image kind) ps)
            && last_below compare_keys (bound_key image kind hi) (key_in image kind q ∷ map (key_in image kind) ps))
            → end_below (cond t (rise_of image kind (Some q) ps) None)
            ≡ ((t && rises compare_keys (Some (key_in image kind q)) (map (key_in image kind) ps))
            && last_below compare_keys (bound_key image kind hi) (key_in image kind q ∷ map (key_in image kind) ps))
        go true ih = ih
        go false ih = refl

    end_all : (ps : List Spot)
        → end_below (rise_of image kind None ps)
        ≡ (rises compare_keys None (map (key_in image kind) ps) && last_below compare_keys (bound_key image kind hi) (map (key_in image kind) ps))
    unfolding rise_of rises last_below bound_key
    end_all [] = refl
    end_all (p ∷ ps) = end_after p ps

    pub end_below_lem : (end n keys : ℕ)
        → end_below (rise_of image kind None (up_to (items (take end image) (key_form kind)) n keys))
        ≡ (rises compare_keys None (keys_in (take end image) kind n keys)
        && last_below compare_keys (bound_key image kind hi) (keys_in (take end image) kind n keys))
    end_below_lem end n keys = rw (keys_at end n keys) (end_all (up_to (items (take end image) (key_form kind)) n keys))

  -- ## The tests of a page's keys, by the first of them
  no_first : (ps : List Spot) → first_of ps ≡ None → ps ≡ []
  no_first [] e = refl
  no_first (p ∷ ps) e = cc

  first_is : (ps : List Spot) {q : Spot} → first_of ps ≡ Some q → (qs : List Spot) × (ps ≡ (q ∷ qs))
  first_is [] e = cc
  first_is (p ∷ ps) {q} e = let f : p ≡ q = cc in (ps, rw f)

  module _ (lo hi : Option Spot) (end n keys : ℕ) {b : Option Spot} (e : b ≡ first_of (up_to (items (take end image) (key_form kind)) n keys)) where
    pub separators_none : b ≡ None
        → true ≡ separators_test compare_keys (bound_key image kind lo) (bound_key image kind hi) (keys_in (take end image) kind n keys)
    unfolding first_above rises last_below
    separators_none t = rw (keys_at end n keys, no_first (up_to (items (take end image) (key_form kind)) n keys) (sym e ∙ t))

    pub keys_none : b ≡ None
        → true ≡ keys_test compare_keys (bound_key image kind lo) (bound_key image kind hi) (keys_in (take end image) kind n keys)
    unfolding first_from rises last_below
    keys_none t = rw (keys_at end n keys, no_first (up_to (items (take end image) (key_form kind)) n keys) (sym e ∙ t))

    module _ {q : Spot} (f : b ≡ Some q) where
      begins : (qs : List Spot) × (keys_in (take end image) kind n keys ≡ key_in image kind q ∷ map (key_in image kind) qs)
      begins =
          let first = first_is (up_to (items (take end image) (key_form kind)) n keys) (sym e ∙ f) in
          (first.0, keys_at end n keys ∙ ap (map (key_in image kind)) first.1)

      module _ {r : Bool} (t : r ≡ above_bound compare_keys (bound_key image kind lo) (key_in image kind q)) where
        separators_first : first_above compare_keys (bound_key image kind lo) (keys_in (take end image) kind n keys) ≡ r
        unfolding first_above
        separators_first = rw begins.1 (sym t)

        pub separators_rise : {x : Bool} → r ≡ true
            → x ≡ (rises compare_keys None (keys_in (take end image) kind n keys)
            && last_below compare_keys (bound_key image kind hi) (keys_in (take end image) kind n keys))
            → x ≡ separators_test compare_keys (bound_key image kind lo) (bound_key image kind hi) (keys_in (take end image) kind n keys)
        separators_rise a y = rw (separators_first, a) y

        pub separators_low : r ≡ false
            → false ≡ separators_test compare_keys (bound_key image kind lo) (bound_key image kind hi) (keys_in (take end image) kind n keys)
        separators_low a = rw (separators_first, a)

      module _ {r : Bool} (t : r ≡ from_bound compare_keys (bound_key image kind lo) (key_in image kind q)) where
        keys_first : first_from compare_keys (bound_key image kind lo) (keys_in (take end image) kind n keys) ≡ r
        unfolding first_from
        keys_first = rw begins.1 (sym t)

        pub keys_rise : {x : Bool} → r ≡ true
            → x ≡ (rises compare_keys None (keys_in (take end image) kind n keys)
            && last_below compare_keys (bound_key image kind hi) (keys_in (take end image) kind n keys))
            → x ≡ keys_test compare_keys (bound_key image kind lo) (bound_key image kind hi) (keys_in (take end image) kind n keys)
        keys_rise a y = rw (keys_first, a) y

        pub keys_low : r ≡ false
            → false ≡ keys_test compare_keys (bound_key image kind lo) (bound_key image kind hi) (keys_in (take end image) kind n keys)
        keys_low a = rw (keys_first, a)
