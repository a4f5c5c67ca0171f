-- Sums that are reduced late, after request C-15 of document 02: "reduce once per 360 words and at a text's end".
--
--   added t w       both running sums after one word more, not reduced
--   plain e t s     both running sums after the text s, not reduced
--   words_in e s    how many words the text s has
--   both_reduced t  both sums, reduced
--   InRange x       x is 1 to 65535, as reducing leaves a sum
--   Reduced t       both sums are in that range
--   Fits t          both sums are below 2^32
--   most k          the most that the second sum can be, k words after reduced sums
--   Within k t      neither sum is more than k words can make of reduced sums
use Rattle.std.specs.Prelude.{ℕ, zero, suc, ◌+◌, ◌*◌, ◌^◌, ◌≤◌, ◌<◌, List, [], ◌∷◌}
use Rattle.fletcher.specs.declared.Edition.{Edition}
use Rattle.fletcher.specs.declared.Edition.TheVariants.{First, Second}
use Rattle.fletcher.specs.declared.Sums.{Sums}
use Rattle.fletcher.specs.Fletcher.{reduced}

-- 01: "The first sum adds the words. The second adds the first sum after each word."
unfoldable pub added : Sums → ℕ → Sums
added t w =
    let first = t.first + w in
    record { first = first; second = t.second + first }

-- an odd last byte, as in the sums that are reduced after each word
abbrev pub odd_added : Edition → Sums → ℕ → Sums
odd_added First t x = t
odd_added Second t x = added t (x * 256)

-- 01: "[..] as 16-bit words, high byte first."
unfoldable pub plain : Edition → Sums → List ℕ → Sums
plain e t [] = t
plain e t (x ∷ []) = odd_added e t x
plain e t (high ∷ (low ∷ s)) = plain e (added t (high * 256 + low)) s

-- 02: "an odd last byte is a word in edition 2 and none in edition 1"
abbrev pub odd_words : Edition → ℕ
odd_words First = 0
odd_words Second = 1

unfoldable pub words_in : Edition → List ℕ → ℕ
words_in e [] = 0
words_in e (x ∷ []) = odd_words e
words_in e (high ∷ (low ∷ s)) = suc (words_in e s)

-- 01: "Both [..] are taken modulo 65535, with 65535 written for 0."
unfoldable pub both_reduced : Sums → Sums
both_reduced t = record { first = reduced t.first; second = reduced t.second }

-- 01: "modulo 65535, with 65535 written for 0", so 1 to 65535.
abbrev pub InRange : ℕ → Type 0
InRange x = (0 < x) × (x ≤ 65535)

-- 02: "from reduced sums [..]"
pub record Reduced (t : Sums) : Type 0 where
  pub first : InRange t.first
  pub second : InRange t.second

-- 02: "[..] both stay below 2^32"
pub record Fits (t : Sums) : Type 0 where
  pub first : t.first < 2 ^ 32
  pub second : t.second < 2 ^ 32

-- A word is at most 65535. So k words take the first sum to 65535 * (k + 1) at most, and the second adds it after each word.
unfoldable pub most : ℕ → ℕ
most zero = 65535
most (suc k) = most k + 65535 * (k + 2)

pub record Within (k : ℕ) (t : Sums) : Type 0 where
  pub first : t.first ≤ 65535 * (k + 1)
  pub second : t.second ≤ most k
