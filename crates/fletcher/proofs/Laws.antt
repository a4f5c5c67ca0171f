-- Laws of the sums, which proofs cite in place of the definitions.
use Prim.Native.Nat.{ℕ, suc, ◌+◌, ◌*◌, ◌≤◌, ◌<◌}
use Rattle.std.specs.Prelude.{◌≡◌, ◌%◌, refl, List, [], ◌∷◌, ◌++◌, get_or, drop, min}
use Rattle.std.proofs.Common.{sym, append-nil}
use Rattle.std.proofs.Math.Numerals.{add-one, add-two}
use native.Mathlib.Omega.{arith}
use Rattle.std.proofs.Math.ListN.{length, drop_of_length-le, length-append}
use Rattle.std.proofs.Math.Seq.{drop-cons}
use Rattle.fletcher.specs.declared.Edition.{Edition}
use Rattle.fletcher.specs.declared.Sums.{Sums}
use Rattle.fletcher.specs.Fletcher.{add_word, odd_byte, sums}

module _ (e : Edition) (t : Sums) (s : List ℕ) (i : ℕ) where
  -- the word at an even place, and those after it
  pub sums_more : i + 1 < length s → sums e t (drop i s) ≡ sums e (add_word t (get_or s i 0 * 256 + get_or s (i + 1) 0)) (drop (i + 2) s)
  unfolding sums
  sums_more h =
      let h0 : i < length s = omega arith in
      let h1 : suc i < length s = omega arith in
      rw (drop-cons s i 0 h0, drop-cons s (suc i) 0 h1, add-one, add-two)

  -- one byte is left
  pub sums_odd : i + 1 ≡ length s → sums e t (drop i s) ≡ odd_byte e t (get_or s i 0)
  unfolding sums
  sums_odd h =
      let h0 : i < length s = omega arith in
      rw (drop-cons s i 0 h0, drop_of_length-le s {i = suc i} (omega arith))

  -- none is left
  pub sums_end : length s ≤ i → sums e t (drop i s) ≡ t
  unfolding sums
  sums_end h = rw (drop_of_length-le s h)

-- blocks of even length one after another
sums_split : (e : Edition) (t : Sums) (a b : List ℕ) → length a % 2 ≡ 0 → sums e t (a ++ b) ≡ sums e (sums e t a) b
unfolding sums
sums_split e t [] b h = refl
sums_split e t (x ∷ []) b h = absurd (omega arith)
sums_split e t (high ∷ (low ∷ a)) b h = sums_split e (add_word t (high * 256 + low)) a b (omega arith)

-- the first 720 bytes of what is left, or all of it
pub blocks_more : (e : Edition) (t : Sums) (a b : List ℕ) → length a ≡ min 720 (length (a ++ b)) → sums e (sums e t a) b ≡ sums e t (a ++ b)
unfolding sums
blocks_more e t a [] h = rw (append-nil a)
blocks_more e t a (x ∷ b) h = sym (sums_split e t a (x ∷ b) (omega (arith, length-append a (x ∷ b))))

pub blocks_end : (e : Edition) (t : Sums) (s : List ℕ) → length s ≡ 0 → sums e t s ≡ t
unfolding sums
blocks_end e t [] h = refl
blocks_end e t (x ∷ s) h = absurd (omega arith)
