-- One field of a line, after document 01, "The text lines".
--
--   Named           a name and its value
--   field_of part   the field that a part of a line is, if it is one
--   of_places c v e  the field with its colon at place c, the value v and its end at place e
--   part_at line i  the field that the part from place i on is, by places of the line
use Rattle.std.specs.Prelude.{ℕ, suc, ◌+◌, cond, ◌&&◌, List, eqb, length, get_or, take, drop, None, Option, Some}
use Rattle.text.specs.Text.{span, within, is_letter}
use Rattle.names.specs.Names.{part_from}
use Rattle.numeral.specs.Hex.{hex_of}
use Rattle.line.specs.declared.field.Field.{Field}

pub record Named : Type 0 where
  pub name : List ℕ
  pub value : ℕ

abbrev pub colon : ℕ
colon = 58

abbrev pub valued : List ℕ → Option ℕ → Option Named
valued name (Some v) = Some (record { name = name; value = v })
valued name None = None

-- "each a name of 1 to 16 ASCII letters, a colon, and 1 to 16 digits 0-9a-f with no leading zero unless the value is `0`"
unfoldable pub field_of : List ℕ → Option Named
field_of p =
    let n = span is_letter p in
    cond (within 1 16 n && eqb (get_or p n 0) colon) (valued (take n p) (hex_of (drop (suc n) p))) None

abbrev pub of_places : ℕ → ℕ → ℕ → Option Field
of_places colon value end = Some (record { colon = colon; value = value; end = end })

abbrev pub part_by : ℕ → ℕ → Option Named → Option Field
part_by i n None = None
part_by i n (Some f) = of_places (i + length f.name) f.value (i + n)

unfoldable pub part_at : List ℕ → ℕ → Option Field
part_at line i = part_by i (length (part_from line i)) (field_of (part_from line i))
