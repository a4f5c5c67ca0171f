-- Children and entries by their number.
--
--   entry_of k v  the entry with the key k and the value v
use Prim.Native.Nat.{ℕ, zero, suc, ◌+◌, ◌*◌, ◌≤◌, ◌<◌}
use Rattle.std.specs.Prelude.{◌≡◌, Bool, true, false, leb, length, None, Option, Some, slice_get, option_map}
use Rattle.std.proofs.Math.Path.{refl}
use Rattle.std.proofs.Common.{sym, ◌∙◌, ap, arith, leb-true, leb-false}
use mathlib.Core.List.{List, [], ◌∷◌, map}
use Rattle.std.proofs.Math.ListN.{get_or}
use Rattle.numeral.specs.BigEndian.{big_endian_at}
use Rattle.numeral.specs.BigEndianLaws.{big_endian_at_past}
use Rattle.key.specs.declared.Kind.{Kind}
use Rattle.item.specs.declared.Form.TheVariants.{Word}
use Rattle.item.specs.Step.{Step, got, bad, on_step, up_to}
use Rattle.item.specs.StepLaws.{up_to_bad}
use Rattle.item.specs.Item.{Spot, items}
use Rattle.item.specs.ItemLaws.{word_fits, word_bad}
use Rattle.content.specs.declared.Entry.{Entry}
use Rattle.content.specs.Content.{positions_in, paired}

-- ## The position of a child
module _ (s : List ℕ) where
  positions_more : (n i : ℕ) → i + 8 ≤ length s → positions_in s (suc n) i ≡ big_endian_at 8 s i ∷ positions_in s n (i + 8)
  unfolding positions_in up_to
  positions_more n i h = rw (word_fits s i h)

  positions_bad : (n i : ℕ) → length s < i + 8 → positions_in s n i ≡ []
  unfolding positions_in
  positions_bad n i h = rw (up_to_bad (items s Word) n i (word_bad s i h))

  pub position_at : (n i k : ℕ) → k < n → i + 8 * k + 8 ≤ length s → get_or (positions_in s n i) k 0 ≡ big_endian_at 8 s (i + 8 * k)
  position_at zero i k h f = absurd (omega arith)
  position_at (suc n) i zero h f = rw (positions_more n i (omega arith)) (ap (big_endian_at 8 s) (omega arith))
  position_at (suc n) i (suc k) h f =
      rw (positions_more n i (omega arith)) (position_at n (i + 8) k (omega arith) (omega arith) ∙ ap (big_endian_at 8 s) (omega arith))

  pub position_past : (n i k : ℕ) → n ≤ k → get_or (positions_in s n i) k 0 ≡ 0
  unfolding positions_in up_to
  position_past zero i k h = refl
  position_past (suc n) i zero h = absurd (omega arith)
  position_past (suc n) i (suc k) h = go (λ j. position_past n j k (omega arith)) (items s Word i)
    where
      go : ((j : ℕ) → get_or (positions_in s n j) k 0 ≡ 0) → (t : Step Spot ℕ)
          → get_or (map (λ p. big_endian_at 8 s p.at) (on_step t [] (λ a d. a ∷ up_to (items s Word) n d))) (suc k) 0 ≡ 0
      go ih (got a d) = ih d
      go ih bad = refl

  pub position_out : (n i k : ℕ) → length s < i + 8 * k + 8 → get_or (positions_in s n i) k 0 ≡ 0
  position_out n i zero f = rw (positions_bad n i (omega arith))
  position_out zero i (suc k) f = position_past zero i (suc k) (omega arith)
  position_out (suc n) i (suc k) f = go (leb (i + 8) (length s)) refl (position_out n (i + 8) k (omega arith))
    where
      go : (t : Bool) → leb (i + 8) (length s) ≡ t → get_or (positions_in s n (i + 8)) k 0 ≡ 0 → get_or (positions_in s (suc n) i) (suc k) 0 ≡ 0
      go true e ih = rw (positions_more n i (leb-true (i + 8) (length s) e)) ih
      go false e ih = rw (positions_bad (suc n) i (leb-false (i + 8) (length s) e))

  -- a position that does not stand whole reads as 0
  pub position_of : (n i k : ℕ) → k < n → get_or (positions_in s n i) k 0 ≡ big_endian_at 8 s (i + 8 * k)
  position_of n i k h = go (leb (i + 8 * k + 8) (length s)) refl
    where
      go : (t : Bool) → leb (i + 8 * k + 8) (length s) ≡ t → get_or (positions_in s n i) k 0 ≡ big_endian_at 8 s (i + 8 * k)
      go true e = position_at n i k h (leb-true (i + 8 * k + 8) (length s) e)
      go false e =
          let past = leb-false (i + 8 * k + 8) (length s) e in
          position_out n i k past ∙ sym (big_endian_at_past 8 s (i + 8 * k) past)

-- ## An entry
abbrev pub entry_of : Option Spot → Option Spot → Option Entry
entry_of (Some k) (Some v) = Some (record { key = k; value = v })
entry_of (Some k) None = None
entry_of None v = None

pub paired_nth : (s : List ℕ) (kind : Kind) (ks vs : List Spot) (k : ℕ)
    → option_map (λ e. e.1) (slice_get (paired s kind ks vs) k) ≡ entry_of (slice_get ks k) (slice_get vs k)
unfolding paired
paired_nth s kind [] vs k = refl
paired_nth s kind (a ∷ ks) [] zero = refl
paired_nth s kind (a ∷ ks) [] (suc k) = go (slice_get ks k)
  where
    go : (o : Option Spot) → None ≡ entry_of o None
    go (Some x) = refl
    go None = refl
paired_nth s kind (a ∷ ks) (b ∷ vs) zero = refl
paired_nth s kind (a ∷ ks) (b ∷ vs) (suc k) = paired_nth s kind ks vs k
