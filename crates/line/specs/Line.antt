-- Lines, after document 01, "The text lines": the line of an area.
--
--   trimmed n s   how many of the first n bytes of s are left without trailing spaces
--   line_at n p   the line of n bytes whose newline stands at place p
--   line_of area  the line of an area: its length, and the place of its newline
use Rattle.std.specs.Prelude.{ℕ, zero, suc, cond, List, eqb, ltb, length, get_or, Option, Some, None}
use Rattle.text.specs.Text.{span, is_not}
use Rattle.line.specs.declared.Line.{Line}

-- "less trailing spaces"
unfoldable pub trimmed : ℕ → List ℕ → ℕ
trimmed zero s = 0
trimmed (suc n) s = cond (eqb (get_or s n 0) 32) (trimmed n s) (suc n)

abbrev pub line_at : ℕ → ℕ → Option Line
line_at len newline = Some (record { len = len; newline = newline })

-- "A line is the bytes before the first newline (10) in its area, less trailing spaces. [..] No newline: no line."
unfoldable pub line_of : List ℕ → Option Line
line_of area =
    let newline = span (is_not 10) area in
    cond (ltb newline (length area)) (line_at (trimmed newline area) newline) None
