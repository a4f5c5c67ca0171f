-- The image, its blocks and its lines, after document 01, "What is read" and "The text lines".
--
--   blocks_of image              the number of whole blocks of the image
--   size_right image             3 to 268,435,456 blocks
--   blocks_in image              the number of blocks; 0 where the size is not right
--   right_blocks image           the number of blocks, if the size is right
--   Reading                      what a line says, and where its newline stands in its area
--   said, gives, value, says     the value that a reading gives to a name, whether it gives one, that value or 0, and whether it is v
--   newline_of                   where a reading's newline stands
--   header_line image edition c  a file header's line: copy c stands in block c
--   chunk_line image b           the line of the chunk header in block b
--   footer_line image edition e  the footer's line in the last 128 bytes before block e
-- The last three are all that opening reads of the image; a sum is right in an edition.
use Rattle.std.specs.Prelude.{ℕ, ◌*◌, ◌-◌, ◌/◌, Bool, cond, ◌&&◌, List, eqb, length, take, Option, Some, None, option_map, is_some, unwrap_or}
use Rattle.text.specs.Text.{bytes_at, within}
use Rattle.fletcher.specs.declared.Edition.{Edition}
use Rattle.line.specs.declared.Line.{Line}
use Rattle.line.specs.declared.read.Fields.{Fields}
use Rattle.line.specs.Line.{line_of}
use Rattle.line.specs.Fields.{read_of, right_sum}
use Rattle.line.specs.Reading.{value_of}
use Rattle.chunk.specs.declared.image.Reading.{Reading}

-- "A block is 4,096 bytes."
abbrev pub block_bytes : ℕ
block_bytes = 4096

-- "The image is its whole blocks; a last part block is ignored."
abbrev pub blocks_of : List ℕ → ℕ
blocks_of image = length image / block_bytes

-- "It has 3 to 268,435,456 blocks."
abbrev pub size_right : List ℕ → Bool
size_right image = within 3 268435456 (blocks_of image)

-- bytes that are no image have no blocks in which anything stands
unfoldable pub blocks_in : List ℕ → ℕ
blocks_in image = cond (size_right image) (blocks_of image) 0

-- their number, if the size is right
abbrev pub right_blocks : List ℕ → Option ℕ
right_blocks image = cond (size_right image) (Some (blocks_of image)) None

abbrev pub reading_of : ℕ → Fields → Reading
reading_of newline f = record { fields = f; newline = newline }

-- no line, or a line that breaks a rule, is no reading
abbrev pub plain : List ℕ → Option Line → Option Reading
plain area None = None
plain area (Some l) = option_map (reading_of l.newline) (read_of (take l.len area))

-- "File headers and footers end with the field `fletcher`": nothing is read of a line whose sum is not right. 02: "opening takes an
-- edition, [..] and every line in that image is judged by it"
abbrev pub summed : Edition → List ℕ → Option Line → Option Reading
summed edition area None = None
summed edition area (Some l) = cond (right_sum edition (take l.len area)) (plain area (Some l)) None

abbrev pub plain_line : List ℕ → Option Reading
plain_line area = plain area (line_of area)

abbrev pub summed_line : Edition → List ℕ → Option Reading
summed_line edition area = summed edition area (line_of area)

-- "Areas: a file header's block, a chunk header's first 1,024 bytes, a footer's 128 bytes."
unfoldable pub header_line : List ℕ → Edition → ℕ → Option Reading
header_line image edition c = summed_line edition (bytes_at image (c * block_bytes) block_bytes)

unfoldable pub chunk_line : List ℕ → ℕ → Option Reading
chunk_line image b = plain_line (bytes_at image (b * block_bytes) 1024)

unfoldable pub footer_line : List ℕ → Edition → ℕ → Option Reading
footer_line image edition e = summed_line edition (bytes_at image (e * block_bytes - 128) 128)

-- ## What a reading says of a name
-- the value that the line's field of that name has: a law (NamesLaws)
abbrev pub said : Option Reading → List ℕ → Option ℕ
said None name = None
said (Some r) name = value_of r.fields name

abbrev pub gives : Option Reading → List ℕ → Bool
gives r name = is_some (said r name)

abbrev pub value : Option Reading → List ℕ → ℕ
value r name = unwrap_or (said r name) 0

abbrev pub is_value : Option ℕ → ℕ → Bool
is_value o v = is_some o && eqb (unwrap_or o 0) v

abbrev pub says : Option Reading → List ℕ → ℕ → Bool
says r name v = is_value (said r name) v

abbrev pub newline_of : Option Reading → ℕ
newline_of None = 0
newline_of (Some r) = r.newline
