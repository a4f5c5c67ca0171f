-- Runs of bytes in a text: the words in which lines, digits and keys are defined.
--
--   bytes_at s i n  the n bytes of s from place i on, or as many of them as there are
--   span P s        how many leading bytes of s have the property P
--   every P s       whether all bytes of s have it
--   is_not b x      x is another byte than b
--   is_printable x  x is 32 to 126: 01, "bytes 32 to 126"
--   is_letter x     x is an ASCII letter
--   same s t        whether s and t are the same bytes
--   split b s       the parts of s between the bytes b; without one, s is its only part
use Rattle.std.specs.Prelude.{ℕ, suc, Bool, true, false, cond, not, ◌&&◌, ◌||◌, List, [], ◌∷◌, eqb, leb, take, drop}

abbrev pub bytes_at : List ℕ → ℕ → ℕ → List ℕ
bytes_at s i n = take n (drop i s)

unfoldable pub span : (ℕ → Bool) → List ℕ → ℕ
span P [] = 0
span P (x ∷ s) = cond (P x) (suc (span P s)) 0

unfoldable pub every : (ℕ → Bool) → List ℕ → Bool
every P [] = true
every P (x ∷ s) = cond (P x) (every P s) false

-- from b1 to b2, both included
abbrev pub within : ℕ → ℕ → ℕ → Bool
within low high x = leb low x && leb x high

abbrev pub is_not : ℕ → ℕ → Bool
is_not b x = not (eqb x b)

abbrev pub is_printable : ℕ → Bool
is_printable = within 32 126

abbrev pub is_letter : ℕ → Bool
is_letter x = within 65 90 x || within 97 122 x

unfoldable pub same : List ℕ → List ℕ → Bool
same [] [] = true
same [] (y ∷ t) = false
same (x ∷ s) [] = false
same (x ∷ s) (y ∷ t) = cond (eqb x y) (same s t) false

abbrev pub to_first : ℕ → List (List ℕ) → List (List ℕ)
to_first x [] = (x ∷ []) ∷ []
to_first x (p ∷ ps) = (x ∷ p) ∷ ps

unfoldable pub split : ℕ → List ℕ → List (List ℕ)
split b [] = [] ∷ []
split b (x ∷ s) = cond (eqb x b) ([] ∷ split b s) (to_first x (split b s))
