-- Laws of the items at the cursors: a recorded count and those after it, a separator and those after it.
--
--   NextKey  the separator at a cursor, as a bound
use Rattle.std.specs.Prelude.{ℕ, suc, ◌+◌, ◌<◌, ◌≡◌, Bool, cond, ltb, length, Some, Option, None}
use Rattle.std.proofs.Math.Path.{refl}
use Rattle.std.proofs.Common.{◌∙◌, ap}
use Rattle.std.proofs.Math.Bool.{true, false, true≢false}
use mathlib.Core.List.{List, [], ◌∷◌, map}
use Rattle.std.proofs.Math.ListN.{get_or, drop}
use Rattle.std.proofs.Math.Seq.{drop-cons}
use Rattle.key.specs.declared.Kind.{Kind}
use Rattle.key.specs.declared.sized.Sized.{Sized}
use Rattle.key.specs.Key.{Key}
use Rattle.numeral.specs.declared.Numeral.{Numeral}
use Rattle.numeral.specs.Var.{var_at}
use Rattle.item.specs.Step.{got, bad, on_step, up_to}
use Rattle.item.specs.Item.{on_sized, on_numeral, item_at, items, count_at, count_limit}
use Rattle.page.specs.Judged.{key_form}
use Rattle.content.specs.Content.{key_in}
use Rattle.rising.specs.Rising.{bound_key}
use Rattle.soundness.specs.Examining.{recorded_by, recorded_at, separator_at}

module _ (s : List ℕ) (n i j : ℕ) where
  pub counts_next : (sum : ℕ) (ns : List ℕ) → j < length ns → up_to (count_at s) (suc n) (i, sum) ≡ drop j ns
      → (get_or ns j 0 ≡ (recorded_at s i).value) × (up_to (count_at s) n ((recorded_at s i).next, sum + (recorded_at s i).value) ≡ drop (suc j) ns)
  unfolding up_to count_at recorded_at
  counts_next sum ns h e = go (var_at count_limit s i) (e ∙ drop-cons ns j 0 h)
    where
      by : (v next : ℕ) (t : Bool)
          → on_step (cond t (got v (next, sum + v)) bad) [] (λ a d. a ∷ up_to (count_at s) n d) ≡ get_or ns j 0 ∷ drop (suc j) ns
          → (get_or ns j 0 ≡ v) × (up_to (count_at s) n (next, sum + v) ≡ drop (suc j) ns)
      by v next true q = (cc, cc)
      by v next false q = absurd (true≢false cc)

      go : (r : Option Numeral)
          → on_step (on_numeral r bad (λ v next. cond (ltb (sum + v) count_limit) (got v (next, sum + v)) bad)) [] (λ a d. a ∷ up_to (count_at s) n d)
          ≡ get_or ns j 0 ∷ drop (suc j) ns
          → (get_or ns j 0 ≡ (recorded_by r).value) × (up_to (count_at s) n ((recorded_by r).next, sum + (recorded_by r).value) ≡ drop (suc j) ns)
      go (Some c) q = by c.value c.next (ltb (sum + c.value) count_limit) q
      go None q = absurd (true≢false cc)

  module _ (image : List ℕ) (kind : Kind) where
    pub record NextKey (ks : List Key) (d : Key) : Type 0 where
      pub bound : bound_key image kind (separator_at s kind i).bound ≡ Some (get_or ks j d)
      pub rest : map (key_in image kind) (up_to (items s (key_form kind)) n (separator_at s kind i).next) ≡ drop (suc j) ks

    next_key : (ks : List Key) (d : Key) {a : Sized} → item_at s (key_form kind) i ≡ Some a → j < length ks
        → ◌≡◌ {A = List Key} (key_in image kind a.spot ∷ map (key_in image kind) (up_to (items s (key_form kind)) n a.next))
        (drop j ks) → NextKey ks d
    unfolding separator_at bound_key
    next_key ks d {a} q h k =
        let e = k ∙ drop-cons ks j d h in
        let f : key_in image kind a.spot ≡ get_or ks j d = cc in
        let b : map (key_in image kind) (up_to (items s (key_form kind)) n a.next) ≡ drop (suc j) ks = cc in
        record { bound = rw q (ap Some f); rest = rw q b }

    pub keys_next : (ks : List Key) (d : Key) → j < length ks → map (key_in image kind) (up_to (items s (key_form kind)) (suc n) i) ≡ drop j ks
        → NextKey ks d
    unfolding up_to items
    keys_next ks d h e = go (item_at s (key_form kind) i) refl e
      where
        go : (it : Option Sized) → item_at s (key_form kind) i ≡ it
            → map (key_in image kind) (on_step (on_sized it bad (λ at len next. got (record { at = at; len = len }) next)) []
            (λ a d. a ∷ up_to (items s (key_form kind)) n d)) ≡ drop j ks
            → NextKey ks d
        go (Some a) q k = next_key ks d q h k
        go None q k = absurd (let e = k ∙ drop-cons ks j d h in true≢false cc)
