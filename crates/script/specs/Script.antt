-- A script: what the programs read. It is lines of words; a newline (10) ends a line, a space (32) a word.
--
--   up_to b s            the bytes of s before the first b
--   line_at input at     the line that begins at a place; past the end, no bytes
--   next_line input at   where the line after it begins; where there is none, the end
--   word_of line k       word number k, the first being 0; where there are fewer, no bytes
--   named line name      whether the first word is a name
--   digit_of b           the value of the digit b, 0-9 (48 to 57) or a-f (97 to 102); below 16 for any other byte too
--   with_digit base n b  the number n with the digit b behind it, modulo 2^64: what does not fit is lost
--   number_in base s     the number that the digits s are in a base, 10 or 16: 0 with each digit behind it in turn
--   byte_of high low     the byte of two hex digits
--   bytes_of s           the bytes that hex digits are, two to a byte; a digit without its second is none, so that `-` is no bytes
--   fitting s area       how many of the bytes of s an area has room for
--   area_after s area    the area with so many of them at its start
--   Holds area n         an area has n bytes at its start: what `&area[..n]` asks for
use Rattle.std.specs.Prelude.{ℕ, ◌+◌, ◌*◌, ◌-◌, ◌%◌, ◌^◌, ◌≤◌, min, ◌≡◌, Bool, cond, List, [], ◌∷◌, ◌++◌, ltb, length, get_or, take, drop}
use Rattle.text.specs.Text.{span, is_not, same, split}

unfoldable pub up_to : ℕ → List ℕ → List ℕ
up_to b s = take (span (is_not b) s) s

abbrev pub line_at : List ℕ → ℕ → List ℕ
line_at input at = up_to 10 (drop at input)

abbrev pub next_line : List ℕ → ℕ → ℕ
next_line input at = min (length input) (at + length (line_at input at) + 1)

unfoldable pub word_of : List ℕ → ℕ → List ℕ
word_of line k = get_or (split 32 line) k []

abbrev pub named : List ℕ → List ℕ → Bool
named line name = same (word_of line 0) name

unfoldable pub digit_of : ℕ → ℕ
digit_of b = cond (ltb b 97) (b % 16) ((b - 87) % 16)

abbrev pub with_digit : ℕ → ℕ → ℕ → ℕ
with_digit base value b = (value * base + digit_of b) % 2 ^ 64

-- the number with the digits s behind it
unfoldable pub number_from : ℕ → ℕ → List ℕ → ℕ
number_from base value [] = value
number_from base value (b ∷ s) = number_from base (with_digit base value b) s

abbrev pub number_in : ℕ → List ℕ → ℕ
number_in base s = number_from base 0 s

abbrev pub byte_of : ℕ → ℕ → ℕ
byte_of high low = digit_of high * 16 + digit_of low

unfoldable pub bytes_of : List ℕ → List ℕ
bytes_of [] = []
bytes_of (high ∷ []) = []
bytes_of (high ∷ low ∷ s) = byte_of high low ∷ bytes_of s

abbrev pub fitting : List ℕ → List ℕ → ℕ
fitting s area = min (length (bytes_of s)) (length area)

abbrev pub area_after : List ℕ → List ℕ → List ℕ
area_after s area = take (fitting s area) (bytes_of s) ++ drop (fitting s area) area

-- The second part follows from the first; a caller's proof finds it only where it is said.
abbrev pub Holds : List ℕ → ℕ → Type 0
Holds area n = (n ≤ length area) × (n ≡ length (take n area))
