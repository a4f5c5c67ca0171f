-- How a line is read in one pass: the words of the private contracts and of `Fields::get` (`value_of`). What is right is said by
-- Field.antt and Fields.antt; laws say that the two agree.
--
--   number_of name names      the place of a name in a list of names; their count where it is not there
--   slot_of name              the place of a known name, 11 for any other
--   place_of n, known_name s  the same of a name, and the known name that has the letters s
--   value_of fields s         the value that a line gives to the name of the letters s
--   put acc slot v            what is read so far, and the value of the name in that place, if there is one
--   seen acc slot name parts  the name is given already; if it is not known, it is in the parts that follow
--   finish acc parts          what a line says of which acc is read and the parts are left
--   ends_right e line n       what follows the comma at n is a right `fletcher` in the edition e
use Rattle.std.specs.Prelude.{ℕ, suc, Bool, false, cond, ◌&&◌, List, [], ◌∷◌, eqb, ltb, get_or, take, drop, set, replicate, Option, Some, None, is_some, slice_get}
use Rattle.text.specs.Text.{same}
use Rattle.fletcher.specs.declared.Edition.{Edition}
use Rattle.fletcher.specs.Fletcher.{fletcher_of}
use Rattle.line.specs.declared.read.Fields.{Fields}
use Rattle.line.specs.declared.read.Name.{Name}
use Rattle.line.specs.declared.read.Name.TheVariants as name
use Rattle.names.specs.Names.{named_in}
use Rattle.line.specs.Field.{field_of}
use Rattle.line.specs.Fields.{on_some, known, name_fletcher}

unfoldable pub number_of : List ℕ → List (List ℕ) → ℕ
number_of name [] = 0
number_of name (n ∷ names) = cond (same n name) 0 (suc (number_of name names))

unfoldable pub slot_of : List ℕ → ℕ
slot_of name = number_of name known

-- the names of `known`, in its order
abbrev pub known_names : List Name
known_names =
    name.H ∷ name.BlockSize ∷ name.Format ∷ name.Block ∷ name.Chunk ∷ name.Version ∷ name.Len ∷ name.Next ∷ name.Pages ∷ name.Root ∷
    name.Fletcher ∷ []

abbrev pub place_of : Name → ℕ
place_of name.H = 0
place_of name.BlockSize = 1
place_of name.Format = 2
place_of name.Block = 3
place_of name.Chunk = 4
place_of name.Version = 5
place_of name.Len = 6
place_of name.Next = 7
place_of name.Pages = 8
place_of name.Root = 9
place_of name.Fletcher = 10

unfoldable pub known_name : List ℕ → Option Name
known_name name = slice_get known_names (slot_of name)

abbrev pub value_of : Fields → List ℕ → Option ℕ
value_of f name = get_or f.values (slot_of name) None

abbrev pub nothing_yet : Fields
nothing_yet = record { values = replicate 11 None }

abbrev pub filled : Fields → ℕ → ℕ → Fields
filled acc slot value = record { values = set acc.values slot (Some value) }

unfoldable pub put : Fields → ℕ → ℕ → Fields
put acc slot value = cond (ltb slot 11) (filled acc slot value) acc

unfoldable pub seen : Fields → ℕ → List ℕ → List (List ℕ) → Bool
seen acc slot name parts = cond (ltb slot 11) (is_some (get_or acc.values slot None)) (named_in name parts)

unfoldable pub finish : Fields → List (List ℕ) → Option Fields
finish acc [] = Some acc
finish acc (p ∷ ps) =
    on_some (field_of p) None (λ f. cond (seen acc (slot_of f.name) f.name ps) None (finish (put acc (slot_of f.name) f.value) ps))

unfoldable pub ends_right : Edition → List ℕ → ℕ → Bool
ends_right e line n =
    on_some (field_of (drop (suc n) line)) false (λ f. same name_fletcher f.name && eqb f.value (fletcher_of e (take n line)))
