-- Positions, after document 01, "Positions and pages": "A position is 64 bits, high to low: 26 bits chunk id, 32 bits offset in the
-- chunk, 5 bits length code, 1 bit type."
--
--     BITS      63 .. 38    37 .. 6     5 .. 1    0
--     FIELD     chunk id    offset      code      type: 0 leaf, 1 inner
--
--   chunk_of p, offset_of p, code_of p, type_of p  the fields of the position p
--   of_bits p                                      the position of those bits, as the code hands it on
--   is_empty p                                     "Position 0 as a root is the empty map."
--   position_of c o k t                            the position with those fields
--   made_of c o k t                                the same, or none where a field is wider than its bits
--   bound_of k                                     the most bytes that the length code k allows; none where it sets no bound
--   holds_length k n                               n is within the bound of the code k
--   folded x                                       the upper 16 bits of x xor its lower 16 bits
--   check_of c o n                                 the check value of a page of length n at offset o of chunk c
use Rattle.std.specs.Prelude.{ℕ, ◌+◌, ◌*◌, ◌/◌, ◌%◌, ◌^◌, Bool, true, cond, ◌&&◌, eqb, ltb, leb, Option, Some, None}
use Rattle.std.specs.Int.Bits.{bit_xor}
use Rattle.position.specs.declared.Position.{Position}

-- how many values a field has
abbrev pub chunks : ℕ
chunks = 2 ^ 26

abbrev pub offsets : ℕ
offsets = 2 ^ 32

abbrev pub codes : ℕ
codes = 2 ^ 5

abbrev pub types : ℕ
types = 2 ^ 1

abbrev pub type_of : ℕ → ℕ
type_of p = p % types

abbrev pub code_of : ℕ → ℕ
code_of p = p / types % codes

abbrev pub offset_of : ℕ → ℕ
offset_of p = p / (types * codes) % offsets

abbrev pub chunk_of : ℕ → ℕ
chunk_of p = p / (types * codes * offsets)

abbrev pub of_bits : ℕ → Position
of_bits p = record { bits = p }

abbrev pub is_empty : ℕ → Bool
is_empty p = eqb p 0

abbrev pub position_of : ℕ → ℕ → ℕ → ℕ → ℕ
position_of chunk offset code type = chunk * (types * codes * offsets) + offset * (types * codes) + code * types + type

unfoldable pub made_of : ℕ → ℕ → ℕ → ℕ → Option Position
made_of chunk offset code type =
    cond ((ltb chunk chunks && ltb offset offsets) && (ltb code codes && ltb type types))
    (Some (record { bits = position_of chunk offset code type }))
    None

-- "Code c below 31 allows (2 + c mod 2) times 2^(4 + c/2 rounded down) bytes [..] Code 31 sets no bound"
unfoldable pub bound_of : ℕ → Option ℕ
bound_of c = cond (ltb c 31) (Some ((2 + c % 2) * 2 ^ (4 + c / 2))) None

unfoldable pub holds : Option ℕ → ℕ → Bool
holds (Some most) n = leb n most
holds None n = true

abbrev pub holds_length : ℕ → ℕ → Bool
holds_length code n = holds (bound_of code) n

-- 02, C-13, in the place of 01's "the low 16 bits": "The public H2 source folds each of the three numbers first: its upper 16 bits
-- xor its lower 16 bits."
unfoldable pub folded : ℕ → ℕ
folded x = bit_xor (x / 2 ^ 16) (x % 2 ^ 16)

-- "check value (2 bytes: [..] chunk id xor offset xor length)"
unfoldable pub check_of : ℕ → ℕ → ℕ → ℕ
check_of chunk offset length = bit_xor (bit_xor (folded chunk) (folded offset)) (folded length)
