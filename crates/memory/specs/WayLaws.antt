-- What the halving and the moving do, one law for each way that the code takes.
use Prim.Native.Nat.{ℕ, zero, suc, ◌+◌, ◌*◌, ◌-◌, ◌/◌, ◌^◌, ◌<◌, ◌≤◌}
use Rattle.std.specs.Prelude.{◌≡◌, Bool, not, List, ltb, length, set}
use Rattle.std.proofs.Math.Path.{refl}
use Rattle.std.proofs.Common.{◌∙◌, true≢false, sub-one, pow-suc, arith, length-set}
use Rattle.std.proofs.Math.Bool.{true, false, cond}
use Rattle.std.proofs.Math.Dec.{eqb}
use Rattle.std.proofs.Math.ListN.{get_or}
use borrow.Author.Tests.{eqb-true, eq-eqb, ne_eqb, lt-ltb, le-ltb}
use Rattle.memory.specs.declared.Recalled.TheVariants.{At, Free, Full}
use Rattle.memory.specs.Words.{places, chunk_in, need_in, place_in, full_in, below_in, sought_from, recalled_at, pair_set, inserted_from}

-- ## Room
module _ (ws : List ℕ) where
  pub full_none : places ws ≡ 0 → full_in ws ≡ true
  unfolding full_in
  full_none e = rw (eq-eqb (places ws) 0 e)

  pub full_last : ¬ (places ws ≡ 0) → full_in ws ≡ not (eqb (get_or ws (2 * places ws - 2) 0) 0)
  unfolding full_in
  full_last f = rw (ne_eqb (places ws) 0 f)

  -- a memory that is not full has a last place, and it is free
  pub room_last : full_in ws ≡ false → get_or ws (2 * places ws - 2) 0 ≡ 0
  unfolding full_in
  room_last e = go (eqb (places ws) 0) (eqb (get_or ws (2 * places ws - 2) 0) 0) refl e
    where
      go : (s t : Bool) → eqb (get_or ws (2 * places ws - 2) 0) 0 ≡ t → cond s true (not t) ≡ false → get_or ws (2 * places ws - 2) 0 ≡ 0
      go true t q e = absurd (true≢false cc)
      go false true q e = eqb-true (get_or ws (2 * places ws - 2) 0) 0 q
      go false false q e = absurd (true≢false cc)

-- ## Halving
pub below_free : (w c : ℕ) → w ≡ 0 → below_in w c ≡ false
unfolding below_in
below_free w c e = rw (eq-eqb w 0 e)

pub below_taken : (w c : ℕ) → ¬ (w ≡ 0) → below_in w c ≡ ltb (chunk_in w) c
unfolding below_in
below_taken w c f = rw (ne_eqb w 0 f)

module _ (ws : List ℕ) (c : ℕ) where
  pub sought_none : (n low high : ℕ) → n ≡ 0 → sought_from n low high ws c ≡ low
  unfolding sought_from
  sought_none n low high e = rw e

  pub sought_met : (n low high : ℕ) → high ≤ low → sought_from n low high ws c ≡ low
  unfolding sought_from
  sought_met zero low high h = refl
  sought_met (suc n) low high h = rw (le-ltb low high h)

  module _ (n low high : ℕ) (some_left : 0 < n) (h : low < high) where
    pub sought_above : below_in (get_or ws (2 * (low + (high - low) / 2)) 0) c ≡ true →
        sought_from n low high ws c ≡ sought_from (n - 1) (low + (high - low) / 2 + 1) high ws c
    unfolding sought_from
    sought_above e = go n some_left
      where
        go : (n : ℕ) → 0 < n → sought_from n low high ws c ≡ sought_from (n - 1) (low + (high - low) / 2 + 1) high ws c
        go zero p = absurd (omega arith)
        go (suc n) p = rw (lt-ltb low high h, e, sub-one)

    pub sought_below : below_in (get_or ws (2 * (low + (high - low) / 2)) 0) c ≡ false →
        sought_from n low high ws c ≡ sought_from (n - 1) low (low + (high - low) / 2) ws c
    unfolding sought_from
    sought_below e = go n some_left
      where
        go : (n : ℕ) → 0 < n → sought_from n low high ws c ≡ sought_from (n - 1) low (low + (high - low) / 2) ws c
        go zero p = absurd (omega arith)
        go (suc n) p = rw (lt-ltb low high h, e, sub-one)

  -- of as many places as n halvings do for, there are n - 1 for the half of them
  module _ (n low high : ℕ) (h : low < high) (few : high - low < 2 ^ n) where
    pub halved_above : below_in (get_or ws (2 * (low + (high - low) / 2)) 0) c ≡ true →
        (m : ℕ) × (high - (low + (high - low) / 2 + 1) < 2 ^ m) × (sought_from n low high ws c ≡ sought_from m (low + (high - low) / 2 + 1) high ws c)
    halved_above e = go n few
      where
        go : (n : ℕ) → high - low < 2 ^ n →
            (m : ℕ) × (high - (low + (high - low) / 2 + 1) < 2 ^ m) × (sought_from n low high ws c ≡ sought_from m (low + (high - low) / 2 + 1) high ws c)
        go zero p = absurd (omega arith)
        go (suc n) p = (n, omega (arith, pow-suc 2 n), rw sub-one at (sought_above (suc n) low high (omega arith) h e))

    pub halved_below : below_in (get_or ws (2 * (low + (high - low) / 2)) 0) c ≡ false →
        (m : ℕ) × (low + (high - low) / 2 - low < 2 ^ m) × (sought_from n low high ws c ≡ sought_from m low (low + (high - low) / 2) ws c)
    halved_below e = go n few
      where
        go : (n : ℕ) → high - low < 2 ^ n →
            (m : ℕ) × (low + (high - low) / 2 - low < 2 ^ m) × (sought_from n low high ws c ≡ sought_from m low (low + (high - low) / 2) ws c)
        go zero p = absurd (omega arith)
        go (suc n) p = (n, omega (arith, pow-suc 2 n), rw sub-one at (sought_below (suc n) low high (omega arith) h e))

  -- ## What a place says of a chunk
  module _ (i : ℕ) where
    pub recalled_past : places ws ≤ i → recalled_at i ws c ≡ Full
    unfolding recalled_at
    recalled_past h = rw (le-ltb i (places ws) h)

    module _ (h : i < places ws) where
      pub recalled_this : ¬ (get_or ws (2 * i) 0 ≡ 0) → chunk_in (get_or ws (2 * i) 0) ≡ c →
          recalled_at i ws c ≡ At (place_in (get_or ws (2 * i) 0) (get_or ws (2 * i + 1) 0)) (need_in (get_or ws (2 * i) 0))
      unfolding recalled_at
      recalled_this f e = rw (lt-ltb i (places ws) h, ne_eqb (get_or ws (2 * i) 0) 0 f, eq-eqb (chunk_in (get_or ws (2 * i) 0)) c e)

      -- no chunk, or another
      module _ (other : cond (eqb (get_or ws (2 * i) 0) 0) false (eqb (chunk_in (get_or ws (2 * i) 0)) c) ≡ false) where
        pub recalled_room : full_in ws ≡ false → recalled_at i ws c ≡ Free i
        unfolding recalled_at
        recalled_room e = rw (lt-ltb i (places ws) h, other, e)

        pub recalled_full : full_in ws ≡ true → recalled_at i ws c ≡ Full
        unfolding recalled_at
        recalled_full e = rw (lt-ltb i (places ws) h, other, e)

    pub other_free : get_or ws (2 * i) 0 ≡ 0 → cond (eqb (get_or ws (2 * i) 0) 0) false (eqb (chunk_in (get_or ws (2 * i) 0)) c) ≡ false
    other_free e = rw (eq-eqb (get_or ws (2 * i) 0) 0 e)

    pub other_chunk : ¬ (get_or ws (2 * i) 0 ≡ 0) → ¬ (chunk_in (get_or ws (2 * i) 0) ≡ c) →
        cond (eqb (get_or ws (2 * i) 0) 0) false (eqb (chunk_in (get_or ws (2 * i) 0)) c) ≡ false
    other_chunk f e = rw (ne_eqb (get_or ws (2 * i) 0) 0 f, ne_eqb (chunk_in (get_or ws (2 * i) 0)) c e)

-- ## Moving
pub inserted_none : (n i : ℕ) (ws : List ℕ) (w v : ℕ) → n ≡ 0 → inserted_from n i ws w v ≡ ws
unfolding inserted_from
inserted_none n i ws w v e = rw e

pub inserted_last : (n i : ℕ) (ws : List ℕ) (w v : ℕ) → 0 < n → get_or ws (2 * i) 0 ≡ 0 → inserted_from n i ws w v ≡ pair_set ws i w v
unfolding inserted_from
inserted_last zero i ws w v h e = absurd (omega arith)
inserted_last (suc n) i ws w v h e = rw (eq-eqb (get_or ws (2 * i) 0) 0 e)

pub inserted_on : (n i : ℕ) (ws : List ℕ) (w v : ℕ) → 0 < n → ¬ (get_or ws (2 * i) 0 ≡ 0) →
    inserted_from n i ws w v ≡ inserted_from (n - 1) (i + 1) (pair_set ws i w v) (get_or ws (2 * i) 0) (get_or ws (2 * i + 1) 0)
unfolding inserted_from
inserted_on zero i ws w v h f = absurd (omega arith)
inserted_on (suc n) i ws w v h f = rw (ne_eqb (get_or ws (2 * i) 0) 0 f, sub-one)

pub pair_length : (ws : List ℕ) (i w v : ℕ) → length (pair_set ws i w v) ≡ length ws
pair_length ws i w v = length-set (set ws (2 * i) w) (2 * i + 1) v ∙ length-set ws (2 * i) w
