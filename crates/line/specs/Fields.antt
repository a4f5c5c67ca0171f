-- The fields of a line, after document 01, "The text lines".
--
--   has name fs       a field of fs has the name
--   value_in name fs  the value of the name in fs: none where no field has it
--   none_twice fs     no name occurs twice
--   fields_of line    the fields of a line; none where the line breaks a rule
--   right_sum e line  the last field is a right `fletcher` in the edition e
--   known             the names that the file's lines are asked for, in the order of their numbers
--   text_of n         the letters of a known name
--   read_of line      what a line says of each known name; nothing where the line breaks a rule
use Rattle.std.specs.Prelude.{ℕ, zero, suc, Bool, true, false, cond, not, ◌&&◌, ◌||◌, List, [], ◌∷◌, map, eqb, length, get_or, take, drop, None, Option, Some, option_map}
use Rattle.text.specs.Text.{same, split}
use Rattle.fletcher.specs.declared.Edition.{Edition}
use Rattle.fletcher.specs.Fletcher.{fletcher_of}
use Rattle.line.specs.declared.read.Fields.{Fields}
use Rattle.line.specs.declared.read.Name.{Name}
use Rattle.line.specs.declared.read.Name.TheVariants as name
use Rattle.names.specs.Names.{comma}
use Rattle.line.specs.Field.{Named, field_of}

abbrev pub on_some : {A B : Type 0} → Option A → B → (A → B) → B
on_some None b f = b
on_some (Some a) b f = f a

unfoldable pub has : List ℕ → List Named → Bool
has name [] = false
has name (f ∷ fs) = same name f.name || has name fs

unfoldable pub value_in : List ℕ → List Named → Option ℕ
value_in name [] = None
value_in name (f ∷ fs) = cond (same name f.name) (Some f.value) (value_in name fs)

-- "No name occurs twice."
unfoldable pub none_twice : List Named → Bool
none_twice [] = true
none_twice (f ∷ fs) = not (has f.name fs) && none_twice fs

-- every part is a field
unfoldable pub all_fields : List (List ℕ) → Option (List Named)
all_fields [] = Some []
all_fields (p ∷ ps) = on_some (field_of p) None (λ f. on_some (all_fields ps) None (λ fs. Some (f ∷ fs)))

-- "A line is one or more fields joined by single commas"
unfoldable pub fields_of : List ℕ → Option (List Named)
fields_of line = on_some (all_fields (split comma line)) None (λ fs. cond (none_twice fs) (Some fs) None)

-- ## The names of 01's lines
abbrev pub name_h : List ℕ
name_h = 72 ∷ []

abbrev pub name_block_size : List ℕ
name_block_size = 98 ∷ 108 ∷ 111 ∷ 99 ∷ 107 ∷ 83 ∷ 105 ∷ 122 ∷ 101 ∷ []

abbrev pub name_format : List ℕ
name_format = 102 ∷ 111 ∷ 114 ∷ 109 ∷ 97 ∷ 116 ∷ []

abbrev pub name_block : List ℕ
name_block = 98 ∷ 108 ∷ 111 ∷ 99 ∷ 107 ∷ []

abbrev pub name_chunk : List ℕ
name_chunk = 99 ∷ 104 ∷ 117 ∷ 110 ∷ 107 ∷ []

abbrev pub name_version : List ℕ
name_version = 118 ∷ 101 ∷ 114 ∷ 115 ∷ 105 ∷ 111 ∷ 110 ∷ []

abbrev pub name_len : List ℕ
name_len = 108 ∷ 101 ∷ 110 ∷ []

abbrev pub name_next : List ℕ
name_next = 110 ∷ 101 ∷ 120 ∷ 116 ∷ []

abbrev pub name_pages : List ℕ
name_pages = 112 ∷ 97 ∷ 103 ∷ 101 ∷ 115 ∷ []

abbrev pub name_root : List ℕ
name_root = 114 ∷ 111 ∷ 111 ∷ 116 ∷ []

abbrev pub name_fletcher : List ℕ
name_fletcher = 102 ∷ 108 ∷ 101 ∷ 116 ∷ 99 ∷ 104 ∷ 101 ∷ 114 ∷ []

abbrev pub known : List (List ℕ)
known =
    name_h ∷ name_block_size ∷ name_format ∷ name_block ∷ name_chunk ∷ name_version ∷ name_len ∷ name_next ∷ name_pages ∷ name_root ∷ name_fletcher ∷ []

abbrev pub text_of : Name → List ℕ
text_of name.H = name_h
text_of name.BlockSize = name_block_size
text_of name.Format = name_format
text_of name.Block = name_block
text_of name.Chunk = name_chunk
text_of name.Version = name_version
text_of name.Len = name_len
text_of name.Next = name_next
text_of name.Pages = name_pages
text_of name.Root = name_root
text_of name.Fletcher = name_fletcher

-- "Unknown names are skipped."
abbrev pub listed : List Named → Fields
listed fs = record { values = map (λ name. value_in name fs) known }

unfoldable pub read_of : List ℕ → Option Fields
read_of line = option_map listed (fields_of line)

-- ## The sum in the last field
-- the place of the last comma among the first n bytes
unfoldable pub last_comma : ℕ → List ℕ → Option ℕ
last_comma zero s = None
last_comma (suc n) s = cond (eqb (get_or s n 0) comma) (Some n) (last_comma n s)

-- "File headers and footers end with the field `fletcher`. It covers the bytes before the comma in front of it"
unfoldable pub right_sum : Edition → List ℕ → Bool
right_sum e line =
    on_some (last_comma (length line) line) false
    (λ n. on_some (field_of (drop (suc n) line)) false (λ f. same name_fletcher f.name && eqb f.value (fletcher_of e (take n line))))
