-- Document 01's worked examples, "Proved examples": one statement over one list, about the definitions; and the sums of texts in
-- both editions of request C-16.
--
--   Answer          what a definition gives, of any sort
--   Example         what the definition gives, and what 01 says
--   examples        01's (a) to (j)
--   all_right       each gives what 01 says
--   editions        texts whose sums the editions take apart, and texts that sum the same in both
--   editions_right  each gives what was computed elsewhere
use Rattle.std.specs.Prelude.{ℕ, ◌≡◌, refl, List, [], ◌∷◌, ◌++◌, replicate, None, Option, Some}
use Rattle.std.specs.declared.cmp.Ordering.{Ordering}
use Rattle.std.specs.declared.cmp.Ordering.TheVariants.{Less}
use Rattle.text.specs.Text.{span, every, same, split}
use Rattle.fletcher.specs.declared.Edition.TheVariants.{First, Second}
use Rattle.fletcher.specs.Fletcher.{reduced, start, add_word, sums, fletcher_of}
use Rattle.numeral.specs.declared.Numeral.{Numeral}
use Rattle.numeral.specs.Hex.{digit_of, hex_from, shaped, hex_of}
use Rattle.numeral.specs.BigEndian.{big_endian, big_endian_at}
use Rattle.numeral.specs.Var.{continued, var_from, limited, var_at}
use Rattle.position.specs.Position.{chunk_of, offset_of, code_of, type_of, bound_of, folded, check_of}
use Rattle.line.specs.Field.{Named, field_of}
use Rattle.line.specs.Line.{trimmed, line_of}
use Rattle.line.specs.Fields.{has, value_in, none_twice, all_fields, fields_of, read_of, last_comma, right_sum}
use Rattle.line.specs.Reading.{number_of, slot_of}
use Rattle.key.specs.declared.Kind.TheVariants.{Number}
use Rattle.key.specs.Key.{text, key_of, compare_keys}
use Rattle.tree.specs.Page.{All}
use Rattle.opening.specs.declared.header.Copy.{Copy}
use Rattle.opening.specs.declared.header.Copy.TheVariants.{Names, Plain}
use Rattle.chunk.specs.Image.{header_line}
use Rattle.opening.specs.Opening.{format_right, names_all, names_any, copy_of}

pub data Answer : Type 0 where
  numbers : List ℕ → Answer
  order : Ordering → Answer
  refused : Answer

pub record Example : Type 0 where
  pub given : Answer
  pub due : Answer

-- ## Answers of the definitions
abbrev of_number : Option ℕ → Answer
of_number (Some n) = numbers (n ∷ [])
of_number None = refused

abbrev of_numeral : Option Numeral → Answer
of_numeral (Some n) = numbers (n.value ∷ [])
of_numeral None = refused

abbrev of_field : Option Named → Answer
of_field (Some f) = numbers (f.value ∷ [])
of_field None = refused

-- what a good copy says: block, chunk and version, or nothing
abbrev of_copy : Option Copy → Answer
of_copy (Some Plain) = numbers []
of_copy (Some (Names block chunk version)) = numbers (block ∷ chunk ∷ version ∷ [])
of_copy None = refused

-- ## Texts
-- `chunk:1,block:2,version:1`
abbrev footer : List ℕ
footer =
    99 ∷ 104 ∷ 117 ∷ 110 ∷ 107 ∷ 58 ∷ 49 ∷ 44 ∷ 98 ∷ 108 ∷ 111 ∷ 99 ∷ 107 ∷ 58 ∷ 50 ∷ 44 ∷ 118 ∷ 101 ∷ 114 ∷ 115 ∷
    105 ∷ 111 ∷ 110 ∷ 58 ∷ 49 ∷ []

-- `H:2,block:2,blockSize:1000,chunk:7,created:1441235ef73,format:1,version:7`
abbrev header_text : List ℕ
header_text =
    72 ∷ 58 ∷ 50 ∷ 44 ∷ 98 ∷ 108 ∷ 111 ∷ 99 ∷ 107 ∷ 58 ∷ 50 ∷ 44 ∷ 98 ∷ 108 ∷ 111 ∷ 99 ∷ 107 ∷ 83 ∷ 105 ∷ 122 ∷
    101 ∷ 58 ∷ 49 ∷ 48 ∷ 48 ∷ 48 ∷ 44 ∷ 99 ∷ 104 ∷ 117 ∷ 110 ∷ 107 ∷ 58 ∷ 55 ∷ 44 ∷ 99 ∷ 114 ∷ 101 ∷ 97 ∷ 116 ∷
    101 ∷ 100 ∷ 58 ∷ 49 ∷ 52 ∷ 52 ∷ 49 ∷ 50 ∷ 51 ∷ 53 ∷ 101 ∷ 102 ∷ 55 ∷ 51 ∷ 44 ∷ 102 ∷ 111 ∷ 114 ∷ 109 ∷ 97 ∷
    116 ∷ 58 ∷ 49 ∷ 44 ∷ 118 ∷ 101 ∷ 114 ∷ 115 ∷ 105 ∷ 111 ∷ 110 ∷ 58 ∷ 55 ∷ []

-- `,fletcher:3044e6cc` and a newline
abbrev printed : List ℕ
printed = 44 ∷ 102 ∷ 108 ∷ 101 ∷ 116 ∷ 99 ∷ 104 ∷ 101 ∷ 114 ∷ 58 ∷ 51 ∷ 48 ∷ 52 ∷ 52 ∷ 101 ∷ 54 ∷ 99 ∷ 99 ∷ 10 ∷ []

-- `,fletcher:1a2bd87b` and a newline
abbrev summed : List ℕ
summed = 44 ∷ 102 ∷ 108 ∷ 101 ∷ 116 ∷ 99 ∷ 104 ∷ 101 ∷ 114 ∷ 58 ∷ 49 ∷ 97 ∷ 50 ∷ 98 ∷ 100 ∷ 56 ∷ 55 ∷ 98 ∷ 10 ∷ []

-- eight times the byte x
abbrev eight : ℕ → List ℕ
eight x = x ∷ x ∷ x ∷ x ∷ x ∷ x ∷ x ∷ x ∷ []

abbrev position : ℕ
position = 0x4000004f8c

abbrev example : Answer → Answer → Example
example given due = record { given = given; due = due }

pub examples : List Example
examples =
    -- (a) `chunk:1,block:2,version:1` sums to aed9a4f6
    example (numbers (fletcher_of First footer ∷ [])) (numbers (0xaed9a4f6 ∷ [])) ∷
    -- (b) the documents' file header line prints 3044e6cc; the rule gives 1a2bd87b, so that copy isn't good; with that sum it is
    example (numbers (fletcher_of First header_text ∷ [])) (numbers (0x1a2bd87b ∷ [])) ∷
    example (of_copy (copy_of (header_line (header_text ++ printed) First 0))) refused ∷
    example (of_copy (copy_of (header_line (header_text ++ summed) First 0))) (numbers (2 ∷ 7 ∷ 7 ∷ [])) ∷
    -- (c) the empty text sums to ffffffff
    example (numbers (fletcher_of First [] ∷ [])) (numbers (0xffffffff ∷ [])) ∷
    -- (d) position 4000004f8c: chunk 1, offset 318, code 6, leaf, at most 256 bytes
    example (numbers (chunk_of position ∷ offset_of position ∷ code_of position ∷ type_of position ∷ [])) (numbers (1 ∷ 318 ∷ 6 ∷ 0 ∷ [])) ∷
    example (of_number (bound_of (code_of position))) (numbers (256 ∷ [])) ∷
    -- (e) that position with length 200: check 1f7
    example (numbers (check_of (chunk_of position) (offset_of position) 200 ∷ [])) (numbers (0x1f7 ∷ [])) ∷
    -- (f) codes 0, 1, 30
    example (of_number (bound_of 0)) (numbers (32 ∷ [])) ∷
    example (of_number (bound_of 1)) (numbers (48 ∷ [])) ∷
    example (of_number (bound_of 30)) (numbers (1048576 ∷ [])) ∷
    -- (g) bytes 80 00 refused as a number, 80 01 is 128
    example (of_numeral (var_at 0x80000000 (0x80 ∷ 0 ∷ []) 0)) refused ∷
    example (of_numeral (var_at 0x80000000 (0x80 ∷ 1 ∷ []) 0)) (numbers (128 ∷ [])) ∷
    -- (h) `block:02` is no field
    example (of_field (field_of (98 ∷ 108 ∷ 111 ∷ 99 ∷ 107 ∷ 58 ∷ 48 ∷ 50 ∷ []))) refused ∷
    -- (i) key -1 before 0, as the bytes of a page
    example (order (compare_keys (key_of Number (eight 0xff)) (key_of Number (eight 0)))) (order Less) ∷
    -- (j) `ab` before `abc`
    example (order (compare_keys (text (97 ∷ 98 ∷ [])) (text (97 ∷ 98 ∷ 99 ∷ [])))) (order Less) ∷ []

abbrev pub Right : Example → Type 0
Right e = e.given ≡ e.due

pub all_right : All Right examples
unfolding examples reduced start add_word sums fletcher_of trimmed line_of has value_in none_twice all_fields fields_of read_of
    last_comma right_sum number_of slot_of field_of span every same split digit_of hex_from shaped hex_of big_endian big_endian_at
    continued var_from limited var_at bound_of folded check_of key_of compare_keys header_line format_right names_all names_any copy_of
all_right =
    (refl, (refl, (refl, (refl, (refl, (refl, (refl, (refl, (refl, (refl, (refl, (refl, (refl, (refl, (refl, (refl, tt))))))))))))))))

-- a text and its sum in the first edition and in the second
abbrev in_both : List ℕ → ℕ → ℕ → Example
in_both s first second = example (numbers (fletcher_of First s ∷ fletcher_of Second s ∷ [])) (numbers (first ∷ second ∷ []))

pub editions : List Example
editions =
    -- "Under that rule the documents' footer text sums to 84d0d5f6."
    in_both footer 0xaed9a4f6 0x84d0d5f6 ∷
    -- the documents' file header text: the 3044e6cc that they print is right in neither
    in_both header_text 0x1a2bd87b 0x29a70f7c ∷
    example (of_copy (copy_of (header_line (header_text ++ printed) Second 0))) refused ∷
    -- `chunk:1,block:2,version:1a`, of even length
    in_both (footer ++ (97 ∷ [])) 0x8531d657 0x8531d657 ∷ in_both [] 0xffffffff 0xffffffff ∷
    -- `a` and `abc`
    in_both (97 ∷ []) 0xffffffff 0x61006100 ∷ in_both (97 ∷ 98 ∷ 99 ∷ []) 0x61626162 0x25c5c462 ∷
    -- 360 words ff ff, then ff
    in_both (replicate 721 255) 0xffffffff 0xff00ff00 ∷ []

pub editions_right : All Right editions
unfolding editions reduced start add_word sums fletcher_of trimmed line_of has value_in none_twice all_fields fields_of read_of last_comma
    right_sum number_of slot_of field_of span every same split digit_of hex_from shaped hex_of header_line format_right names_all names_any copy_of
editions_right = (refl, (refl, (refl, (refl, (refl, (refl, (refl, (refl, tt))))))))
