-- What a call remembers of located chunks, as the words of an array: what they hold, and the array with a chunk more. No term of 01:
-- `store` says what is right of it.
--
--     WORD    BITS
--     2i      26 chunk id, 28 block, 4 need (never 0, so that a free place is 0)
--     2i+1    28 len, 32 first
--
--   places ws                            how many chunks the words have room for: two words each
--   chunk_in w, place_in w v, need_in w  what two words hold
--   first_word, second_word              the words of a chunk
--   HeldIn ws c l need                   some place of the words holds chunk c, that it stands at l, and that need
--   Holds P ws                           P is true of each chunk that the words hold, its place and its need
--   full_in ws                           the last place is taken, or there is no place
--   sought_in ws c                       a place that is free or holds a chunk whose id is not below c, by halving
--   recalled_in ws c                     what is remembered of chunk c, or a place to put it
--   inserted_at ws i w v                 two words put at place i, what was there and after it one place on
--   remembered_in ws c l need            the words with chunk c, where there is room
--
-- That these say what a memory is for is stated in WordsLaws, of any words:
--
--   recalled_was_held     what is recalled of a chunk, the words hold
--   remembered_keeps      what the words held, they hold with a chunk more
--   remembered_only_adds  they hold nothing else, but for that chunk
--   remembered_adds       and that chunk, where a place was offered for it
--   remembered_length     they are as many as before
use Rattle.std.specs.Prelude.{ℕ, zero, suc, ◌+◌, ◌*◌, ◌-◌, ◌/◌, ◌%◌, ◌<◌, ◌≡◌, Bool, true, false, cond, not, List, eqb, ltb, length, get_or, set}
use Rattle.page.specs.declared.Place.{Place}
use Rattle.memory.specs.declared.Recalled.{Recalled}
use Rattle.memory.specs.declared.Recalled.TheVariants.{At, Free, Full}

abbrev pub places : List ℕ → ℕ
places ws = length ws / 2

abbrev pub chunk_in : ℕ → ℕ
chunk_in w = w / 0x100000000

abbrev pub need_in : ℕ → ℕ
need_in w = w % 16

abbrev pub place_in : ℕ → ℕ → Place
place_in w v = record { block = w / 16 % 0x10000000; len = v / 0x100000000; first = v % 0x100000000 }

abbrev pub first_word : ℕ → Place → ℕ → ℕ
first_word c l need = c * 0x100000000 + (l.block % 0x10000000 * 16 + need % 16)

abbrev pub second_word : Place → ℕ
second_word l = l.len * 0x100000000 + l.first

-- ## What the words hold
-- two words are those of a chunk, its place and its need
abbrev pub HeldBy : ℕ → ℕ → ℕ → Place → ℕ → Type 0
HeldBy w v c l need = ¬ (w ≡ 0) × (chunk_in w ≡ c) × (place_in w v ≡ l) × (need_in w ≡ need)

abbrev pub HeldIn : List ℕ → ℕ → Place → ℕ → Type 0
HeldIn ws c l need = (i : ℕ) × (i < places ws) × HeldBy (get_or ws (2 * i) 0) (get_or ws (2 * i + 1) 0) c l need

abbrev pub Holds : (ℕ → Place → ℕ → Type 0) → List ℕ → Type 0
Holds P ws = (c : ℕ) (l : Place) (need : ℕ) → HeldIn ws c l need → P c l need

unfoldable pub full_in : List ℕ → Bool
full_in ws = cond (eqb (places ws) 0) true (not (eqb (get_or ws (2 * places ws - 2) 0) 0))

-- ## Finding a chunk
unfoldable pub below_in : ℕ → ℕ → Bool
below_in w c = cond (eqb w 0) false (ltb (chunk_in w) c)

-- by n halvings of the places from `low` to `high`
unfoldable pub sought_from : ℕ → ℕ → ℕ → List ℕ → ℕ → ℕ
sought_from zero low high ws c = low
sought_from (suc n) low high ws c =
    let middle = low + (high - low) / 2 in
    cond (ltb low high)
    (cond (below_in (get_or ws (2 * middle) 0) c) (sought_from n (middle + 1) high ws c) (sought_from n low middle ws c))
    low

abbrev pub sought_in : List ℕ → ℕ → ℕ
sought_in ws c = sought_from 64 0 (places ws) ws c

-- what place i says of chunk c
unfoldable pub recalled_at : ℕ → List ℕ → ℕ → Recalled
recalled_at i ws c =
    let w = get_or ws (2 * i) 0 in
    cond (ltb i (places ws))
    (cond (cond (eqb w 0) false (eqb (chunk_in w) c)) (At (place_in w (get_or ws (2 * i + 1) 0)) (need_in w))
    (cond (full_in ws) Full (Free i)))
    Full

abbrev pub recalled_in : List ℕ → ℕ → Recalled
recalled_in ws c = recalled_at (sought_in ws c) ws c

-- ## A chunk more
abbrev pub pair_set : List ℕ → ℕ → ℕ → ℕ → List ℕ
pair_set ws i w v = set (set ws (2 * i) w) (2 * i + 1) v

-- from place i on, n places
unfoldable pub inserted_from : ℕ → ℕ → List ℕ → ℕ → ℕ → List ℕ
inserted_from zero i ws w v = ws
inserted_from (suc n) i ws w v =
    cond (eqb (get_or ws (2 * i) 0) 0) (pair_set ws i w v)
    (inserted_from n (i + 1) (pair_set ws i w v) (get_or ws (2 * i) 0) (get_or ws (2 * i + 1) 0))

abbrev pub inserted_at : List ℕ → ℕ → ℕ → ℕ → List ℕ
inserted_at ws i w v = inserted_from (places ws - i) i ws w v

abbrev pub remembered_by : List ℕ → ℕ → Place → ℕ → Recalled → List ℕ
remembered_by ws c l need (At k m) = ws
remembered_by ws c l need (Free i) = inserted_at ws i (first_word c l need) (second_word l)
remembered_by ws c l need Full = ws

unfoldable pub remembered_in : List ℕ → ℕ → Place → ℕ → List ℕ
remembered_in ws c l need = remembered_by ws c l need (recalled_in ws c)
