-- Opening, after document 01, "Opening", in an edition of request C-16: from the image to the newest chunk.
--
--   Copy                      what a good file header copy says: nothing more, or block, chunk and version
--   format_right r            a file header's reading says this format
--   names_all r, names_any r  it has all, or any, of block, chunk and version
--   copy_of r                 the good copy that it is, if it is one
--   counting a b              the copy that counts, of two
--   header_start, footer_start the two starts
--   higher a b                 the one that is taken
--   successor image edition c  the chunk at c's `next`, if it has a strictly higher version
--   chain image edition n c    the newest chunk from c on, in at most n steps
--   opened image edition       the newest chunk, or the refusal
use Rattle.std.specs.Prelude.{ℕ, zero, suc, ◌+◌, Bool, cond, ◌&&◌, ◌||◌, List, eqb, ltb, Option, Some, None, Ok, Err}
use Rattle.refusal.specs.Refusal.{Outcome, bad_image_size, no_header, no_start}
use Rattle.fletcher.specs.declared.Edition.{Edition}
use Rattle.line.specs.Fields.{on_some, name_h, name_block_size, name_format, name_block, name_chunk, name_version}
use Rattle.chunk.specs.declared.image.Reading.{Reading}
use Rattle.chunk.specs.declared.Chunk.{Chunk}
use Rattle.opening.specs.declared.header.Copy.{Copy}
use Rattle.opening.specs.declared.header.Copy.TheVariants.{Names, Plain}
use Rattle.chunk.specs.Image.{blocks_in, size_right, header_line, footer_line, gives, value, says}
use Rattle.chunk.specs.Chunk.{stands_at, kept, has_id}

-- ## The file header
-- "A file header copy [..] is good if its line has a right `fletcher`, H:2, blockSize:1000, format:1, and either all of block,
-- chunk, version or none."
unfoldable pub format_right : Option Reading → Bool
format_right r = says r name_h 2 && (says r name_block_size 0x1000 && says r name_format 1)

unfoldable pub names_all : Option Reading → Bool
names_all r = gives r name_block && (gives r name_chunk && gives r name_version)

unfoldable pub names_any : Option Reading → Bool
names_any r = gives r name_block || (gives r name_chunk || gives r name_version)

unfoldable pub copy_of : Option Reading → Option Copy
copy_of r =
    cond (format_right r)
    (cond (names_all r) (Some (Names (value r name_block) (value r name_chunk) (value r name_version))) (cond (names_any r) None (Some Plain)))
    None

-- "Both good: the larger version, a copy without version counting lowest, the first copy at a tie."
unfoldable pub counting : Option Copy → Option Copy → Option Copy
counting None b = b
counting (Some Plain) None = Some Plain
counting (Some Plain) (Some Plain) = Some Plain
counting (Some Plain) (Some (Names k c v)) = Some (Names k c v)
counting (Some (Names k c v)) None = Some (Names k c v)
counting (Some (Names k c v)) (Some Plain) = Some (Names k c v)
counting (Some (Names k c v)) (Some (Names l d w)) = cond (ltb v w) (Some (Names l d w)) (Some (Names k c v))

unfoldable pub header_of : List ℕ → Edition → Option Copy
header_of image edition = counting (copy_of (header_line image edition 0)) (copy_of (header_line image edition 1))

-- ## The two starts
-- three things for which a chunk is kept: its id, where it ends, a strictly higher version
abbrev pub ends_at : ℕ → Chunk → Bool
ends_at e k = eqb (k.block + k.len) e

abbrev pub newer : ℕ → Chunk → Bool
newer v k = ltb v k.version

-- "the chunk standing at the file header's block with the header's chunk id, if named"
unfoldable pub header_start : List ℕ → Edition → Copy → Option Chunk
header_start image edition Plain = None
header_start image edition (Names b c v) = kept (has_id c) (stands_at image edition b)

-- "the chunk standing at the block that the image's last 128 bytes name as a footer, if it ends where the image ends"
unfoldable pub footer_start : List ℕ → Edition → Option Chunk
footer_start image edition =
    let f = footer_line image edition (blocks_in image) in
    cond (gives f name_block) (kept (ends_at (blocks_in image)) (stands_at image edition (value f name_block))) None

-- "The higher version is taken, the lower block at a tie."
unfoldable pub higher : Option Chunk → Option Chunk → Option Chunk
higher None b = b
higher (Some a) None = Some a
higher (Some a) (Some b) =
    cond (ltb a.version b.version || (eqb a.version b.version && ltb b.block a.block)) (Some b) (Some a)

-- ## The chain
-- the chunk at `next`, if it has a strictly higher version
unfoldable pub successor : List ℕ → Edition → Chunk → Option Chunk
successor image edition c = kept (newer c.version) (stands_at image edition c.next)

-- "Then, while a chunk stands at `next` with a strictly higher version, it becomes the newest."
unfoldable pub chain : List ℕ → Edition → ℕ → Chunk → Chunk
chain image edition zero c = c
chain image edition (suc n) c = on_some (successor image edition c) c (chain image edition n)

-- no chain is longer than the image has blocks: its versions rise, so its blocks differ (ChainLaws)
unfoldable pub newest_from : List ℕ → Edition → Option Chunk → Outcome Chunk
newest_from image edition None = Err no_start
newest_from image edition (Some c) = Ok (chain image edition (blocks_in image) c)

abbrev pub opened_by : List ℕ → Edition → Option Copy → Outcome Chunk
opened_by image edition None = Err no_header
opened_by image edition (Some copy) = newest_from image edition (higher (header_start image edition copy) (footer_start image edition))

-- 02: "opening takes an edition, 1 as in 01 or 2, and every line in that image is judged by it"
unfoldable pub opened : List ℕ → Edition → Outcome Chunk
opened image edition = cond (size_right image) (opened_by image edition (header_of image edition)) (Err bad_image_size)
