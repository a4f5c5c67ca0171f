-- What the two editions share, shown for any text, as request C-16 of document 02 asks.
--
--   even_alike  a text of even length sums the same in both
--   odd_padded  the second edition sums a text of odd length as the first sums it with a byte 0 after it
use Rattle.std.specs.Prelude.{ℕ, ◌+◌, ◌*◌, ◌%◌, ◌≡◌, refl, List, [], ◌∷◌, ◌++◌, length}
use Rattle.std.proofs.Common.{add-zero, arith}
use Rattle.fletcher.specs.declared.Edition.TheVariants.{First, Second}
use Rattle.fletcher.specs.declared.Sums.{Sums}
use Rattle.fletcher.specs.Fletcher.{add_word, sums}

-- "Text of even length sums the same in both"
pub even_alike : (s : List ℕ) → length s % 2 ≡ 0 → (t : Sums) → sums First t s ≡ sums Second t s
unfolding sums
even_alike [] h t = refl
even_alike (x ∷ []) h t = absurd (omega arith)
even_alike (high ∷ (low ∷ s)) h t = even_alike s (omega arith) _

-- "the high half of a word whose low half is 0"
pub odd_padded : (s : List ℕ) → length s % 2 ≡ 1 → (t : Sums) → sums Second t s ≡ sums First t (s ++ (0 ∷ []))
unfolding sums
odd_padded [] h t = absurd (omega arith)
odd_padded (x ∷ []) h t = rw (add-zero (x * 256))
odd_padded (high ∷ (low ∷ s)) h t = odd_padded s (omega arith) (add_word t (high * 256 + low))
