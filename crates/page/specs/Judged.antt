-- The rules of one page, after document 01, "Positions and pages", in their order; and the places of the page's parts.
--
--     OFFSET  SIZE  FIELD
--     0       4     length
--     4       2     check value
--     6       var   map id
--     ..      var   key count n
--     ..      1     type: 0 leaf, 1 inner
--     ..      ..    leaf: n keys, n values; inner: n+1 positions, n+1 recorded counts, n keys
--
--   begins c o            a page may begin at offset o of the chunk c
--   length_fits k n room  a page of length n fits its length code k and the room before the footer
--   leaf_at, inner_at     what follows the type byte of a leaf and of an inner page
--   body_at               what follows the type byte
--   fields_at             the fields from the map id to the type byte
--   head_at               the head of the page at a position in a chunk, due for a map: all that stands before its items
--   judged_at             the page at a position in a chunk, due for a map of a kind: its head, then its items
-- Depth, child position 0 and the chunk's location are judged before, where pages are asked for.
use Rattle.std.specs.Prelude.{ℕ, ◌+◌, ◌*◌, ◌-◌, ◌^◌, List, Bool, cond, ◌&&◌, eqb, ltb, leb, length, get_or, take, Option, Ok, Err, ok_or}
use Rattle.refusal.specs.Refusal.{Outcome, bind, out_of_place, bad_check_value, other_map_or_type, bad_contents}
use Rattle.numeral.specs.BigEndian.{big_endian_at}
use Rattle.numeral.specs.Var.{var_at}
use Rattle.position.specs.Position.{chunk_of, offset_of, code_of, type_of, holds_length, check_of}
use Rattle.key.specs.declared.Kind.{Kind}
use Rattle.key.specs.declared.Kind.TheVariants as kind
use Rattle.page.specs.declared.Place.{Place}
use Rattle.item.specs.declared.Form.{Form}
use Rattle.item.specs.declared.Form.TheVariants.{Word, Text, Bytes}
use Rattle.item.specs.Item.{skipped, counted}
use Rattle.page.specs.declared.Head.{Head}
use Rattle.page.specs.declared.Judged.{Judged}
use Rattle.page.specs.declared.Judged.TheVariants.{Leaf, Inner}

-- the chunk's first byte, and its footer's
abbrev pub start_of : Place → ℕ
start_of c = c.block * 4096

abbrev pub footer_at : Place → ℕ
footer_at c = (c.block + c.len) * 4096 - 128

-- "A page begins at its offset, not before the byte after the chunk header's newline nor less than 9 bytes before the footer."
unfoldable pub begins : Place → ℕ → Bool
begins c offset = leb c.first offset && leb (start_of c + offset + 9) (footer_at c)

-- "length (4 bytes, at least 9, within the code's bound, ending no later than the footer begins)"
unfoldable pub length_fits : ℕ → ℕ → ℕ → Bool
length_fits code n room = leb 9 n && (holds_length code n && leb n room)

-- "A field that can't be read is 10"
abbrev pub readable : {A B : Type 0} → Option A → (A → Outcome B) → Outcome B
readable o go = bind (ok_or o bad_contents) go

-- "Nothing is left over."
abbrev pub whole : List ℕ → ℕ → Judged → Outcome Judged
whole s e page = cond (eqb e (length s)) (Ok page) (Err bad_contents)

-- "Kind 0 keys are signed 8-byte numbers; kind 1 keys are a variable-size length up to 1,024 and bytes 32 to 126"
unfoldable pub key_form : Kind → Form
key_form kind.Number = Word
key_form kind.Text = Text

-- "Leaf: n keys, then n values."
unfoldable pub leaf_at : List ℕ → Form → ℕ → ℕ → Outcome Judged
leaf_at s form n keys =
    readable (skipped s form n keys) (λ values.
    readable (skipped s Bytes n values) (λ e.
    whole s e (Leaf (record { n = n; keys = keys; values = values; end = e }))))

-- "Inner: n+1 positions, n+1 variable-size counts, their sum below 2^48 (the count that takes it there can't be read), n keys."
unfoldable pub inner_at : List ℕ → Form → ℕ → ℕ → Outcome Judged
inner_at s form n positions =
    readable (skipped s Word (n + 1) positions) (λ counts.
    readable (counted s (n + 1) counts) (λ sum.
    readable (skipped s form n sum.next) (λ e.
    whole s e (Inner (record { n = n; positions = positions; counts = counts; keys = sum.next; end = e; total = sum.total })))))

abbrev pub body_at : List ℕ → ℕ → Form → ℕ → ℕ → Outcome Judged
body_at s type form n i = cond (eqb type 0) (leaf_at s form n i) (inner_at s form n i)

-- "map id and key count n (variable-size, [..] below 2^31); type byte (0 leaf, 1 inner, equal to the position's bit)"; "a map id or
-- type that reads but isn't the one due is 9". s ends with the page.
unfoldable pub fields_at : List ℕ → ℕ → ℕ → ℕ → Outcome Head
fields_at s i type map =
    readable (var_at (2 ^ 31) s i) (λ m.
    cond (eqb m.value map)
    (readable (var_at (2 ^ 31) s m.next) (λ n.
    cond (ltb n.next (length s))
    (cond (eqb (get_or s n.next 0) type) (Ok (record { n = n.value; at = n.next + 1; end = length s })) (Err other_map_or_type))
    (Err bad_contents)))
    (Err other_map_or_type))

-- "place, check, then the fields in file order"
unfoldable pub head_at : List ℕ → Place → ℕ → ℕ → Outcome Head
head_at image c p map =
    let at = start_of c + offset_of p in
    let n = big_endian_at 4 image at in
    cond (begins c (offset_of p))
    (cond (length_fits (code_of p) n (footer_at c - at))
    (cond (eqb (big_endian_at 2 image (at + 4)) (check_of (chunk_of p) (offset_of p) n))
    (fields_at (take (at + n) image) (at + 6) (type_of p) map)
    (Err bad_check_value))
    (Err out_of_place))
    (Err out_of_place)

-- the head, then the items up to the page's end
unfoldable pub judged_at : List ℕ → Place → ℕ → ℕ → Kind → Outcome Judged
judged_at image c p map kind = bind (head_at image c p map) (λ h. body_at (take h.end image) (type_of p) (key_form kind) h.n h.at)
