-- When a chunk stands at a block, after document 01, "Opening".
--
--   Chunk                        the struct: id, block, len (in blocks), first (where its pages may begin), next, root, version
--   needed r                     a chunk header's reading has all the fields that are needed
--   told blocks b r              the chunk that a reading says in block b, if it has those fields and they fit the block
--   said_at image b              the chunk that the header in block b says, whatever its footer is
--   footed image edition c       the chunk, if its footer is right and says the same chunk, block and version
--   with_footer image edition s  the same of a chunk that a header says
--   stands_at image edition b    the chunk that stands at block b, if one does
--   kept P s, has_id n           the chunk that stands, if P holds of it; a chunk's id is n
use Rattle.std.specs.Prelude.{ℕ, suc, ◌+◌, ◌^◌, Bool, cond, ◌&&◌, List, eqb, leb, ltb, Option, Some, None}
use Rattle.fletcher.specs.declared.Edition.{Edition}
use Rattle.line.specs.Fields.{name_block, name_chunk, name_version, name_len, name_next, name_pages, name_root}
use Rattle.position.specs.Position.{of_bits}
use Rattle.chunk.specs.declared.image.Reading.{Reading}
use Rattle.chunk.specs.declared.Chunk.{Chunk}
use Rattle.chunk.specs.Image.{blocks_in, chunk_line, footer_line, gives, value, says, newline_of}

-- "its header line has chunk, block, len, next, pages, root, version"
unfoldable pub needed : Option Reading → Bool
needed r =
    gives r name_chunk &&
    (gives r name_block && (gives r name_len && (gives r name_next && (gives r name_pages && (gives r name_root && gives r name_version)))))

-- "chunk is below 2^26; block is b; len is at least 1; b+len is at most the image's blocks"
unfoldable pub fitting : ℕ → ℕ → Option Reading → Bool
fitting blocks b r =
    ltb (value r name_chunk) (2 ^ 26) &&
    (eqb (value r name_block) b && (leb 1 (value r name_len) && leb (b + value r name_len) blocks))

-- what the header says; its pages begin after its newline
abbrev pub chunk_by : ℕ → Option Reading → Chunk
chunk_by b r =
    record {
      id = value r name_chunk;
      block = b;
      len = value r name_len;
      first = suc (newline_of r);
      next = value r name_next;
      root = of_bits (value r name_root);
      version = value r name_version;
    }

-- the chunk that a reading says, of block b of so many
abbrev pub told : ℕ → ℕ → Option Reading → Option Chunk
told blocks b r = cond (needed r && fitting blocks b r) (Some (chunk_by b r)) None

-- "the last 128 bytes of block b+len-1 are a footer line with a right `fletcher` and the same chunk, block and version"
unfoldable pub footer_of : Chunk → Option Reading → Bool
footer_of c f =
    says f name_chunk c.id && (says f name_block c.block && says f name_version c.version)

unfoldable pub footed : List ℕ → Edition → Chunk → Option Chunk
footed image edition c = cond (footer_of c (footer_line image edition (c.block + c.len))) (Some c) None

-- "A chunk stands at block b if b is at least 2; [..]": what its header line must say, then its footer
unfoldable pub said_at : List ℕ → ℕ → Option Chunk
said_at image b =
    let r = chunk_line image b in
    cond (leb 2 b && (needed r && fitting (blocks_in image) b r)) (Some (chunk_by b r)) None

abbrev pub with_footer : List ℕ → Edition → Option Chunk → Option Chunk
with_footer image edition None = None
with_footer image edition (Some c) = footed image edition c

unfoldable pub stands_at : List ℕ → Edition → ℕ → Option Chunk
stands_at image edition b = with_footer image edition (said_at image b)

-- ## A chunk that is kept
abbrev pub kept : (Chunk → Bool) → Option Chunk → Option Chunk
kept P None = None
kept P (Some c) = cond (P c) (Some c) None

-- "with the header's chunk id"; "where chunk N must stand"
abbrev pub has_id : ℕ → Chunk → Bool
has_id id k = eqb k.id id
