-- The names of a line's parts, after document 01, "The text lines".
--
--   part_from line i     the part of a line from place i to the next comma or the line's end
--   parts_after line at  the parts that follow the one that ends at place at
--   name_of part         the letters that a part begins with
--   named_in name parts  a part has the name
--   distinct parts       each part has a name of 1 to 16 letters, and no later part has it
--   distinct_names line  the parts of a line between its commas are distinct in this
use Rattle.std.specs.Prelude.{ℕ, suc, Bool, true, false, cond, not, ◌&&◌, ◌||◌, List, [], ◌∷◌, ltb, length, take, drop}
use Rattle.text.specs.Text.{span, within, is_not, is_letter, same, split}

abbrev pub comma : ℕ
comma = 44

abbrev pub part_from : List ℕ → ℕ → List ℕ
part_from line i = take (span (is_not comma) (drop i line)) (drop i line)

unfoldable pub parts_after : List ℕ → ℕ → List (List ℕ)
parts_after line at = cond (ltb at (length line)) (split comma (drop (suc at) line)) []

unfoldable pub name_of : List ℕ → List ℕ
name_of part = take (span is_letter part) part

unfoldable pub named_in : List ℕ → List (List ℕ) → Bool
named_in name [] = false
named_in name (p ∷ ps) = same name (name_of p) || named_in name ps

-- "a name of 1 to 16 ASCII letters"; "No name occurs twice."
unfoldable pub distinct : List (List ℕ) → Bool
distinct [] = true
distinct (p ∷ ps) = (within 1 16 (length (name_of p)) && not (named_in (name_of p) ps)) && distinct ps

unfoldable pub distinct_names : List ℕ → Bool
distinct_names line = distinct (split comma line)
