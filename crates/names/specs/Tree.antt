-- How names are told apart: the words of the private contracts. What is right is said by Names.antt; laws say that the two agree. They
-- need of `bit_of` only that it is a function of the name and the depth, and at most 1.
--
--   bit_of name d           bit d of a name, six to a letter, from the last letter on; 0 past its letters
--   name_at line i          the letters at place i
--   name_end line i         the place after them; i where they are not 1 to 16
--   sought f kid names used n s   where the way of the name n ends that begins at slot s, with f levels left: kid has the node in a slot,
--                          names the name of a node, and used nodes are in the tree
--   sought_in line from places kids used n   the same of the whole tree, with its nodes' places after from and its slots as lists
--   is_in line from places kids used n   the way ends at a node: the name n is in the tree
--   parts_from line i       the parts of a line from place i on
--   clear K parts          no part's name has the property K
--   apart K parts          the same, and the names are distinct
--   stopped_by o i          what becomes of a tree at the name at i, whose way does not end at a free slot
--   Room places kids       room for 2,047 nodes
--   Filling line from places kids used f   what `fill` says of the line and the tree, by its answer f
use Rattle.std.specs.Prelude.{ℕ, zero, suc, ◌+◌, ◌-◌, ◌*◌, ◌/◌, ◌%◌, ◌^◌, ◌≤◌, ◌<◌, ◌≡◌, Bool, true, false, cond, not, ◌&&◌, List, [], ◌∷◌, eqb, ltb, leb, length, get_or, drop}
use Rattle.text.specs.Text.{span, is_letter, same, split}
use Rattle.names.specs.declared.tree.Search.{Search}
use Rattle.names.specs.declared.tree.Search.TheVariants.{Met, Free, Deep}
use Rattle.names.specs.declared.tree.Filled.{Filled}
use Rattle.names.specs.declared.tree.Filled.TheVariants.{Distinct, Full}
use Rattle.names.specs.Names.{comma, name_of, distinct}

unfoldable pub bit_of : List ℕ → ℕ → ℕ
bit_of name d = cond (ltb (d / 6) (length name)) (get_or name (length name - 1 - d / 6) 0 / 2 ^ (d % 6) % 2) 0

unfoldable pub name_at : List ℕ → ℕ → List ℕ
name_at line i = name_of (drop i line)

unfoldable pub name_end : List ℕ → ℕ → ℕ
name_end line i = let n = span is_letter (drop i line) in cond (leb n 16) (i + n) i

-- ## The tree
unfoldable pub sought : ℕ → (ℕ → ℕ) → (ℕ → List ℕ) → ℕ → List ℕ → ℕ → Search
sought zero kid names used n s = Deep
sought (suc f) kid names used n s =
    cond (eqb (kid s) 0) (Free s)
    (cond (ltb used (kid s)) Deep
    (cond (same (names (kid s)) n) Met (sought f kid names used n (2 * kid s + bit_of n (96 - f)))))

abbrev pub kid_in : List ℕ → ℕ → ℕ
kid_in kids s = get_or kids s 0

abbrev pub name_in : List ℕ → ℕ → List ℕ → ℕ → List ℕ
name_in line from places j = name_at line (from + get_or places j 0)

unfoldable pub sought_in : List ℕ → ℕ → List ℕ → List ℕ → ℕ → List ℕ → Search
sought_in line from places kids used n = sought 97 (kid_in kids) (name_in line from places) used n 0

abbrev pub met : Search → Bool
met Met = true
met (Free s) = false
met Deep = false

unfoldable pub is_in : List ℕ → ℕ → List ℕ → List ℕ → ℕ → List ℕ → Bool
is_in line from places kids used n = met (sought_in line from places kids used n)

-- ## Names and those before them
abbrev pub parts_from : List ℕ → ℕ → List (List ℕ)
parts_from line i = split comma (drop i line)

unfoldable pub clear : (List ℕ → Bool) → List (List ℕ) → Bool
clear K [] = true
clear K (p ∷ ps) = not (K (name_of p)) && clear K ps

unfoldable pub apart : (List ℕ → Bool) → List (List ℕ) → Bool
apart K parts = clear K parts && distinct parts

-- ## Answers
abbrev pub stopped_by : Search → ℕ → Filled
stopped_by Met i = Distinct false
stopped_by (Free s) i = Full i
stopped_by Deep i = Full i

pub record Room (places kids : List ℕ) : Type 0 where
  pub nodes : length places ≡ 2048
  pub slots : length kids ≡ 4096

-- a full tree has the names of the parts from `from` to `next`, which differ
pub record FullAt (line : List ℕ) (from : ℕ) (places kids : List ℕ) (next used : ℕ) : Type 0 where
  pub after : from < next
  pub inside : next ≤ length line
  pub few : used ≤ 2047
  pub rest : apart (is_in line from places kids used) (parts_from line next) ≡ distinct (parts_from line from)

abbrev pub Filling : List ℕ → ℕ → List ℕ → List ℕ → ℕ → Filled → Type 0
Filling line from places kids used (Distinct r) = r ≡ distinct (parts_from line from)
Filling line from places kids used (Full next) = FullAt line from places kids next used
