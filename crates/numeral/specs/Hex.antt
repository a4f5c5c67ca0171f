-- Hexadecimal numbers, after document 01, "The text lines": "1 to 16 digits 0-9a-f with no leading zero unless the value is `0`".
--
--   digit_of b      the value of the digit b; 16 for any other byte
--   is_digit b      b is a digit
--   digit_said b    the value of the digit b; none for any other byte
--   hex_value s     the value of a run of digits
--   shaped s        1 to 16 bytes, the first no `0` unless it is the only one
--   hex_of s        what the text s is as a number
--   hex_run_at s i  what the run of digits at place i of s is as a number, and the place after the run
--   hex_text n      the digits of n
--   digits_of n     the digits of n at the end of 16 bytes, after zeros, and the place where they begin
--   text_of d       the digits that `Digits` holds
use Rattle.std.specs.Prelude.{ℕ, zero, suc, ◌+◌, ◌*◌, ◌-◌, ◌/◌, ◌%◌, ◌<◌, ◌≡◌, Bool, cond, not, ◌&&◌, ◌||◌, List, [], ◌∷◌, ◌++◌, eqb, ltb, length, get_or, take, drop, replicate, Option, Some, None}
use Rattle.text.specs.Text.{span, every, within}
use Rattle.numeral.specs.declared.Numeral.{Numeral}
use Rattle.numeral.specs.declared.hex.Digits.{Digits}
use Rattle.numeral.specs.Var.{numeral_of}

unfoldable pub digit_of : ℕ → ℕ
digit_of b = cond (within 48 57 b) (b - 48) (cond (within 97 102 b) (b - 87) 16)

abbrev pub is_digit : ℕ → Bool
is_digit b = ltb (digit_of b) 16

abbrev pub digit_said : ℕ → Option ℕ
digit_said b = cond (is_digit b) (Some (digit_of b)) None

-- the value of digits that follow others of value v
unfoldable pub hex_from : ℕ → List ℕ → ℕ
hex_from v [] = v
hex_from v (b ∷ s) = hex_from (v * 16 + digit_of b) s

abbrev pub hex_value : List ℕ → ℕ
hex_value s = hex_from 0 s

unfoldable pub shaped : List ℕ → Bool
shaped s = within 1 16 (length s) && (eqb (length s) 1 || not (eqb (get_or s 0 0) 48))

unfoldable pub hex_of : List ℕ → Option ℕ
hex_of s = cond (every is_digit s && shaped s) (Some (hex_value s)) None

unfoldable pub hex_run_at : List ℕ → ℕ → Option Numeral
hex_run_at s i =
    let run = take (span is_digit (drop i s)) (drop i s) in
    cond (shaped run) (numeral_of (hex_value run) (i + length run)) None

-- the digit of a number below 16
abbrev pub digit_byte : ℕ → ℕ
digit_byte n = cond (ltb n 10) (n + 48) (n + 87)

-- the digits of n before others; so many at most
unfoldable pub hex_before : ℕ → ℕ → List ℕ → List ℕ
hex_before zero n s = s
hex_before (suc most) n s = cond (ltb n 16) (digit_byte n ∷ s) (hex_before most (n / 16) (digit_byte (n % 16) ∷ s))

-- 16 digits hold any 64-bit number
unfoldable pub hex_text : ℕ → List ℕ
hex_text n = hex_before 16 n []

abbrev pub text_of : Digits → List ℕ
text_of d = drop d.start d.bytes

unfoldable pub digits_of : ℕ → Digits
digits_of n = let zeros = 16 - length (hex_text n) in record { bytes = replicate zeros 0 ++ hex_text n; start = zeros }

-- what `write_hex` gives, and what callers need of it: the digits, and that they stand in the array
pub record Written (n : ℕ) (d : Digits) : Type 0 where
  pub whole : d ≡ digits_of n
  pub text : text_of d ≡ hex_text n
  pub inside : d.start < length d.bytes
