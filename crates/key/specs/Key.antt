-- Keys, after document 01, "Positions and pages": "Kind 0 keys are signed 8-byte numbers; kind 1 keys are a variable-size length up
-- to 1,024 and bytes 32 to 126, ordered by byte, a beginning before its extension."
--
--   Key                 a key of either kind, as a value
--   key_of kind b       the key that the bytes b are
--   compare_keys a b    the one comparison
--   well_formed kind b  the bytes b are a well-formed key of the kind
--   key_at kind s i     the key at place i of s, by the place and length of its own bytes
use Rattle.std.specs.Prelude.{ℕ, ◌+◌, Bool, cond, ◌&&◌, List, eqb, leb, ℤ, length, take, drop, Option, Some, None}
use Rattle.std.specs.Int.{w64}
use Rattle.std.proofs.Common.{to_z}
use Rattle.text.specs.Text.{every, is_printable}
use Rattle.numeral.specs.BigEndian.{big_endian_at}
use Rattle.std.specs.declared.cmp.Ordering.{Ordering}
use Rattle.std.specs.declared.cmp.Ordering.TheVariants.{Less, Greater}
use Rattle.order.specs.Order.{compare_nat, compare_int, lex}
use Rattle.key.specs.declared.Kind.{Kind}
use Rattle.key.specs.declared.Kind.TheVariants.{Number, Text}
use Rattle.key.specs.declared.sized.Sized.{Sized}
use Rattle.key.specs.Sized.{sized_of, sized_at}

pub data Key : Type 0 where
  number : ℤ → Key
  text : List ℕ → Key

-- 64 bits as a signed number
unfoldable pub key_of : Kind → List ℕ → Key
key_of Number b = number (to_z w64 (big_endian_at 8 b 0))
key_of Text b = text b

abbrev pub texts_order : List ℕ → List ℕ → Ordering
texts_order = lex compare_nat

-- no map has keys of both kinds; the comparison is total all the same, numbers first
unfoldable pub compare_keys : Key → Key → Ordering
compare_keys (number a) (number b) = compare_int a b
compare_keys (number a) (text b) = Less
compare_keys (text a) (number b) = Greater
compare_keys (text a) (text b) = texts_order a b

-- "A well-formed key is one of the map's kind as described under pages; kind 0 given as bytes has 8."
unfoldable pub well_formed : Kind → List ℕ → Bool
well_formed Number b = eqb (length b) 8
well_formed Text b = leb (length b) 1024 && every is_printable b

-- bytes 32 to 126 throughout
abbrev pub printable : List ℕ → Option Sized → Option Sized
printable s None = None
printable s (Some k) = cond (every is_printable (take k.spot.len (drop k.spot.at s))) (Some k) None

unfoldable pub key_at : Kind → List ℕ → ℕ → Option Sized
key_at Number s i = cond (leb (i + 8) (length s)) (sized_of i 8 (i + 8)) None
key_at Text s i = printable s (sized_at 1025 s i)
