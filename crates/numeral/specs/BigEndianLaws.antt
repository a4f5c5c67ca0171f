-- Laws of big-endian numbers, over any width.
use Rattle.std.specs.Prelude.{ℕ, zero, suc, ◌+◌, ◌-◌, ◌*◌, ◌^◌, ◌≤◌, ◌<◌, ◌≡◌, List, length, get_or, take, drop}
use Rattle.std.specs.Int.{Width, byte_len, byte_worth, sum_through, from_be_bytes}
use Rattle.std.proofs.Common.{◌∙◌, ap, refl, add-zero, zero-add, add-suc, add_assoc, pow-suc, mul_assoc, arith, le-leb}
use Rattle.std.proofs.lemmas.Bool.{lt-leb}
use Rattle.std.proofs.lemmas.List.{get_or-take, get_or-drop}
use Rattle.numeral.specs.BigEndian.{big_endian, big_endian_at}

-- a number and one that follows it, as one number
pub big_endian_add : (a b : ℕ) (s : List ℕ) (i : ℕ) → big_endian (a + b) s i ≡ big_endian a s i * 256 ^ b + big_endian b s (i + a)
unfolding big_endian
big_endian_add a zero s i = rw (add-zero a) (omega arith)
big_endian_add a (suc b) s i =
    let ih = big_endian_add a b s i in
    rw (add-suc a b, add_assoc i a b, pow-suc 256 b, ← mul_assoc, ih) (omega arith)

pub big_endian_at_inside : (w : ℕ) (s : List ℕ) (i : ℕ) → i + w ≤ length s → big_endian_at w s i ≡ big_endian w s i
unfolding big_endian_at
big_endian_at_inside w s i h = rw le-leb

pub big_endian_at_past : (w : ℕ) (s : List ℕ) (i : ℕ) → length s < i + w → big_endian_at w s i ≡ 0
unfolding big_endian_at
big_endian_at_past w s i h = rw lt-leb

-- two bytes
pub big_endian_at_two : (s : List ℕ) (i : ℕ) → i + 2 ≤ length s → big_endian_at 2 s i ≡ get_or s i 0 * 256 + get_or s (i + 1) 0
unfolding big_endian
big_endian_at_two s i h = rw (big_endian_at_inside 2 s i h, add-zero i) (omega arith)

-- the high bytes and the low ones
pub big_endian_at_add : (a b : ℕ) (s : List ℕ) (i : ℕ) → i + (a + b) ≤ length s →
    big_endian_at (a + b) s i ≡ big_endian_at a s i * 256 ^ b + big_endian_at b s (i + a)
big_endian_at_add a b s i h =
    rw (
      big_endian_at_inside (a + b) s i h,
      big_endian_at_inside a s i (omega arith),
      big_endian_at_inside b s (i + a) (omega arith),
    ) (big_endian_add a b s i)

-- ## The bytes by themselves, and as the library makes a number of them
big_endian_part : (w n : ℕ) (s : List ℕ) (i : ℕ) → w ≤ n → big_endian w (take n (drop i s)) 0 ≡ big_endian w s i
unfolding big_endian
big_endian_part zero n s i h = refl
big_endian_part (suc w) n s i h =
    rw (zero-add w, big_endian_part w n s i (omega arith), get_or-take n (drop i s) w 0 (omega arith), get_or-drop i s w 0)

worth : (k b : ℕ) → byte_worth k b ≡ b * 256 ^ k
worth zero b = omega arith
worth (suc k) b = refl

joined : (a b p : ℕ) → a * (p * 256) + b * p ≡ (a * 256 + b) * p
joined a b p = omega arith

-- the bytes from the first through place n, before k others
sum_worth : (n k : ℕ) (s : List ℕ) → sum_through (λ i. byte_worth (k + n - i) (get_or s i 0)) n ≡ big_endian (suc n) s 0 * 256 ^ k
unfolding big_endian
sum_worth zero k s =
    let all : k + 0 - 0 ≡ k = omega arith in
    rw (all, zero-add (get_or s 0 0)) (worth k (get_or s 0 0))
sum_worth (suc n) k s =
    let more : suc k + n ≡ k + suc n = omega arith in
    let first = rw more at (sum_worth n (suc k) s) in
    let last : k + suc n - suc n ≡ k = omega arith in
    ap (λ x. x + byte_worth (k + suc n - suc n) (get_or s (suc n) 0)) first ∙
    rw (last, worth k (get_or s (suc n) 0), pow-suc 256 k, zero-add (suc n)) (joined (big_endian (suc n) s 0) (get_or s (suc n) 0) (256 ^ k))

pub from_be_bytes_at : (w : Width) (s : List ℕ) (i : ℕ) → 0 < byte_len w → i + byte_len w ≤ length s →
    from_be_bytes w (take (byte_len w) (drop i s)) ≡ big_endian_at (byte_len w) s i
from_be_bytes_at w s i p h =
    let part = take (byte_len w) (drop i s) in
    let n = byte_len w - 1 in
    let size : suc n ≡ byte_len w = omega arith in
    let sum = rw (zero-add n, size) at (sum_worth n 0 part) in
    let all = big_endian_part (byte_len w) (byte_len w) s i (omega arith) in
    rw (big_endian_at_inside (byte_len w) s i h, ← all) (sum ∙ omega arith)
