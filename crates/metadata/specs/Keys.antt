-- The metadata's keys, after document 01, "Where a chunk is" and "Asking", and as they are built.
--
--   prefix_chunk, prefix_name, prefix_root    the fixed byte strings `chunk.`, `name.` and `root.`
--   chunk_key n, name_key name, root_key map  the keys of a chunk's place, a map's id and a map's root
--   padded n s                                the text s in an array of n bytes: the bytes after it are 0
--   key_bytes n s                             a key with its length, in an array of n bytes
--   number_key s, long_key s                  the same in 22 bytes and in 1,005
use Rattle.std.specs.Prelude.{ℕ, ◌-◌, List, [], ◌∷◌, ◌++◌, length, replicate}
use Rattle.numeral.specs.Hex.{hex_text}
use Rattle.metadata.specs.declared.keys.KeyBytes.{KeyBytes}

-- `chunk.`
abbrev pub prefix_chunk : List ℕ
prefix_chunk = 99 ∷ 104 ∷ 117 ∷ 110 ∷ 107 ∷ 46 ∷ []

-- `name.`
abbrev pub prefix_name : List ℕ
prefix_name = 110 ∷ 97 ∷ 109 ∷ 101 ∷ 46 ∷ []

-- `root.`
abbrev pub prefix_root : List ℕ
prefix_root = 114 ∷ 111 ∷ 111 ∷ 116 ∷ 46 ∷ []

-- "a metadata lookup of `chunk.` and N in hex"
abbrev pub chunk_key : ℕ → List ℕ
chunk_key n = prefix_chunk ++ hex_text n

-- "`name.X` gives map X's id in hex"
abbrev pub name_key : List ℕ → List ℕ
name_key name = prefix_name ++ name

-- "`root.` with the id gives its root"
abbrev pub root_key : ℕ → List ℕ
root_key map = prefix_root ++ hex_text map

-- ## As they are built
abbrev pub padded : ℕ → List ℕ → List ℕ
padded n s = s ++ replicate (n - length s) 0

abbrev pub key_bytes : (n : ℕ) → List ℕ → KeyBytes n
key_bytes n s = record { bytes = padded n s; len = length s }

-- a prefix and 16 digits have room
abbrev pub number_key : List ℕ → KeyBytes 22
number_key = key_bytes 22

-- a prefix and a name of 1,000 bytes have room
abbrev pub long_key : List ℕ → KeyBytes 1005
long_key = key_bytes 1005
