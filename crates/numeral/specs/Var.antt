-- Variable-size numbers, after document 01, "Positions and pages": "variable-size, low 7 bits first, high bit set on all but the
-- last byte, shortest form, below 2^31". The limit is a parameter: map id and key count are below 2^31, a text key's length
-- is below 1,025, a value's below 65,536, a recorded count below 2^48.
--
--   numeral_of v n    the number v, after which place n comes
--   continued low r   a byte whose high bit is set and whose low 7 bits are `low`, before the number r
--   var_from i s      the number at the front of s, which begins at place i
--   limited limit r   the number r, if it is below the limit
--   var_at limit s i  the number at place i of s, if it is below the limit
use Rattle.std.specs.Prelude.{ℕ, ◌+◌, ◌*◌, ◌-◌, ◌^◌, ◌<◌, cond, List, [], ◌∷◌, eqb, ltb, drop, Option, Some, None}
use Rattle.numeral.specs.declared.Numeral.{Numeral}

abbrev pub numeral_of : ℕ → ℕ → Option Numeral
numeral_of v next = Some (record { value = v; next = next })

-- "low 7 bits first [..] shortest form": a number that ends in 0 could be written shorter
unfoldable pub continued : ℕ → Option Numeral → Option Numeral
continued low (Some n) = cond (eqb n.value 0) None (numeral_of (n.value * 128 + low) n.next)
continued low None = None

-- "high bit set on all but the last byte"
unfoldable pub var_from : ℕ → List ℕ → Option Numeral
var_from i [] = None
var_from i (b ∷ s) = cond (ltb b 128) (numeral_of b (i + 1)) (continued (b - 128) (var_from (i + 1) s))

unfoldable pub limited : ℕ → Option Numeral → Option Numeral
limited limit (Some n) = cond (ltb n.value limit) (Some n) None
limited limit None = None

-- a number of 64 bits
unfoldable pub Fits64 : Option Numeral → Type 0
Fits64 (Some n) = n.value < 2 ^ 64
Fits64 None = Unit {0}

unfoldable pub var_at : ℕ → List ℕ → ℕ → Option Numeral
var_at limit s i = limited limit (var_from i (drop i s))
