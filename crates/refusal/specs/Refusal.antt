-- Refusals, after document 01, "Numbers given back": its table, a name for each line.
--
--   number_of r    the refusal's number in the table
--   table          the refusals in the order of their numbers, which begin at 1
--   refusal_of n   the refusal with number n, if the table has one
--   Outcome A      an answer of A or a refusal: "every call ends with an answer or with one refusal"
--   bind o f       what f makes of o's answer; o's refusal is handed up unchanged
use Rattle.std.specs.Prelude.{ℕ, zero, suc, List, [], ◌∷◌, Option, None, Result, Ok, Err, slice_get}
use Rattle.refusal.specs.declared.Refusal.{Refusal}
use Rattle.refusal.specs.declared.Refusal.TheVariants.{Argument, ImageSize, NoHeader, NoStart, NotLocated, NinthQuestion, Place, CheckValue, MapOrType, Contents, TooDeep, Unsound, NoSuchName, NotANumber, Index, AreaTooSmall}

abbrev pub number_of : Refusal → ℕ
number_of Argument = 1
number_of ImageSize = 2
number_of NoHeader = 3
number_of NoStart = 4
number_of NotLocated = 5
number_of NinthQuestion = 6
number_of Place = 7
number_of CheckValue = 8
number_of MapOrType = 9
number_of Contents = 10
number_of TooDeep = 11
number_of Unsound = 12
number_of NoSuchName = 13
number_of NotANumber = 14
number_of Index = 15
number_of AreaTooSmall = 16

abbrev pub table : List Refusal
table =
    Argument ∷ ImageSize ∷ NoHeader ∷ NoStart ∷ NotLocated ∷ NinthQuestion ∷ Place ∷ CheckValue ∷ MapOrType ∷ Contents ∷
    TooDeep ∷ Unsound ∷ NoSuchName ∷ NotANumber ∷ Index ∷ AreaTooSmall ∷ []

abbrev pub refusal_of : ℕ → Option Refusal
refusal_of zero = None
refusal_of (suc n) = slice_get table n

-- "kind not 0 or 1; map 0 with kind 0; map id above 2^31-1; key badly formed [..]; map name not 1 to 1,000 bytes of 32 to 126"
abbrev pub bad_argument : Refusal
bad_argument = Argument

-- "image outside its block range"
abbrev pub bad_image_size : Refusal
bad_image_size = ImageSize

-- "no good file header"
abbrev pub no_header : Refusal
no_header = NoHeader

-- "neither start stands"
abbrev pub no_start : Refusal
no_start = NoStart

-- "no entry, unusable entry, or chunk not standing there"
abbrev pub not_located : Refusal
not_located = NotLocated

-- "a ninth open question"
abbrev pub ninth_question : Refusal
ninth_question = NinthQuestion

-- "child position 0; offset or length out of place"
abbrev pub out_of_place : Refusal
out_of_place = Place

-- "check value"
abbrev pub bad_check_value : Refusal
bad_check_value = CheckValue

-- "map id or type"
abbrev pub other_map_or_type : Refusal
other_map_or_type = MapOrType

-- "contents"
abbrev pub bad_contents : Refusal
bad_contents = Contents

-- "a page at depth 17, the root being 1"
abbrev pub too_deep : Refusal
too_deep = TooDeep

-- "unsound (examination, walk)"
abbrev pub unsound : Refusal
unsound = Unsound

-- "no such map name"
abbrev pub no_such_name : Refusal
no_such_name = NoSuchName

-- "metadata id or root is not a number as above"
abbrev pub not_a_number : Refusal
not_a_number = NotANumber

-- "index"
abbrev pub bad_index : Refusal
bad_index = Index

-- "copy area smaller than the value"
abbrev pub area_too_small : Refusal
area_too_small = AreaTooSmall

abbrev pub Outcome : Type 0 → Type 0
Outcome A = Result A Refusal

abbrev pub bind : {A B : Type 0} → Outcome A → (A → Outcome B) → Outcome B
bind (Ok a) f = f a
bind (Err r) f = Err r
