-- Sums, after document 01, "The text lines", and request C-16 of document 02. Their sentences stand above what they define.
--
--   Edition          how an odd last byte counts: First as in 01, Second as in C-16
--   reduced x        x modulo 65535, with 65535 for 0
--   start            both running sums before the first word
--   add_word t w     both running sums after one word more
--   odd_byte e t x   both running sums after an odd last byte x
--   sums e t s       both running sums after the text s
--   fletcher_of e s  the value that the field `fletcher` has over the text s
use Rattle.std.specs.Prelude.{ℕ, ◌+◌, ◌*◌, ◌%◌, List, [], ◌∷◌, cond, eqb}
use Rattle.fletcher.specs.declared.Edition.{Edition}
use Rattle.fletcher.specs.declared.Edition.TheVariants.{First, Second}
use Rattle.fletcher.specs.declared.Sums.{Sums}

-- "Both [..] are taken modulo 65535, with 65535 written for 0."
unfoldable pub reduced : ℕ → ℕ
reduced x = cond (eqb (x % 65535) 0) 65535 (x % 65535)

-- "Both start at 65535"
unfoldable pub start : Sums
start = record { first = 65535; second = 65535 }

-- "The first sum adds the words. The second adds the first sum after each word."
unfoldable pub add_word : Sums → ℕ → Sums
add_word t w =
    let first = reduced (t.first + w) in
    record { first = first; second = reduced (t.second + first) }

-- 01: "an odd last byte: it is not counted." 02: "counts an odd last byte as the high half of a word whose low half is 0"
abbrev pub odd_byte : Edition → Sums → ℕ → Sums
odd_byte First t x = t
odd_byte Second t x = add_word t (x * 256)

-- "[..] as 16-bit words, high byte first."
unfoldable pub sums : Edition → Sums → List ℕ → Sums
sums e t [] = t
sums e t (x ∷ []) = odd_byte e t x
sums e t (high ∷ (low ∷ s)) = sums e (add_word t (high * 256 + low)) s

-- "The field is second sum times 65536 plus first sum."
unfoldable pub fletcher_of : Edition → List ℕ → ℕ
fletcher_of e s = (sums e start s).second * 65536 + (sums e start s).first
