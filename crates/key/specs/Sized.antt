-- Bytes after their length, after document 01, "Positions and pages": text keys are "a variable-size length up to 1,024 and bytes",
-- values "a variable-size length up to 65,535, then bytes".
--
--   sized_of at n next  n bytes by place and length, after which place next comes
--   sized_at limit s i  at place i of s: a length below the limit and so many bytes
use Rattle.std.specs.Prelude.{ℕ, ◌+◌, cond, List, leb, length, Option, Some, None}
use Rattle.numeral.specs.declared.Numeral.{Numeral}
use Rattle.numeral.specs.Var.{var_at}
use Rattle.key.specs.declared.sized.Sized.{Sized}

abbrev pub sized_of : ℕ → ℕ → ℕ → Option Sized
sized_of at len next = Some (record { spot = record { at = at; len = len }; next = next })

-- so many bytes after the length, if they all stand in a text of `end` bytes
abbrev pub follow : ℕ → Option Numeral → Option Sized
follow end None = None
follow end (Some n) = cond (leb (n.next + n.value) end) (sized_of n.next n.value (n.next + n.value)) None

unfoldable pub sized_at : ℕ → List ℕ → ℕ → Option Sized
sized_at limit s i = follow (length s) (var_at limit s i)
