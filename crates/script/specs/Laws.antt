-- Laws of scripts: of words and digits, one after another, and of what std makes of them.
use Prim.Native.Nat.{ℕ, zero, suc, ◌+◌, ◌*◌, ◌-◌, ◌/◌, ◌%◌, ◌^◌, ◌<◌, ◌≤◌}
use Rattle.std.specs.Prelude.{◌≡◌, refl, List, [], ◌∷◌, ◌++◌, eqb, min, length, get_or, take, drop, set}
use Rattle.std.specs.List.{slice_split, onto_first, fold}
use Rattle.std.proofs.Common.{sym, ◌∙◌, ap, ⊎_elim, zero-add, eq-or-lt_of_le, add-mul, mul_right_comm, mul-le-mul, div-add-mod', add-one, drop_of_length-le, drop-cons, length-take-le}
use native.Mathlib.Omega.{arith}
use Rattle.std.proofs.Math.ListN.{length-drop}
use Rattle.std.proofs.Math.Seq.{drop-drop, take-length, paste-suc}
use Rattle.text.specs.Text.{span, is_not, to_first, split}
use Rattle.text.specs.Laws.{span_le, split_last, split_more}
use Rattle.script.specs.Script.{up_to, word_of, number_from, with_digit, byte_of, bytes_of}

-- ## Lines and words
-- past the end nothing is left, as at the end
pub drop_within : (s : List ℕ) (at : ℕ) → drop (min at (length s)) s ≡ drop at s
drop_within s at = grind (arith, drop_of_length-le)

pub up_to_length : (b : ℕ) (s : List ℕ) → length (up_to b s) ≡ span (is_not b) s
unfolding up_to
up_to_length b s = length-take-le (span (is_not b) s) s (span_le (is_not b) s)

pub up_to_none : (b : ℕ) (s : List ℕ) (at : ℕ) → length s ≤ at → up_to b (drop at s) ≡ []
unfolding up_to span
up_to_none b s at h = rw (drop_of_length-le s h)

pub word_first : (line : List ℕ) → word_of line 0 ≡ up_to 32 line
unfolding word_of up_to
word_first line = ⊎_elim last more (eq-or-lt_of_le (span_le (is_not 32) line))
  where
    last : span (is_not 32) line ≡ length line → get_or (split 32 line) 0 [] ≡ take (span (is_not 32) line) line
    last e = rw (split_last 32 line e, e) (sym (take-length line))

    more : span (is_not 32) line < length line → get_or (split 32 line) 0 [] ≡ take (span (is_not 32) line) line
    more h = rw (split_more 32 line h)

-- the words from a place on, where the first ends at another
module _ (line : List ℕ) (at end : ℕ) (found : end ≡ at + span (is_not 32) (drop at line)) where
  pub word_on : (k : ℕ) → 0 < k → end < length line → word_of (drop at line) k ≡ word_of (drop (end + 1) line) (k - 1)
  unfolding word_of
  word_on zero p h = absurd (omega arith)
  word_on (suc k) p h =
      let more = split_more 32 (drop at line) (omega (arith, length-drop at line)) in
      let n : at + suc (span (is_not 32) (drop at line)) ≡ end + 1 = omega arith in
      let m : suc k - 1 ≡ k = omega arith in
      rw (more, drop-drop (suc (span (is_not 32) (drop at line))) at line, n, m)

  pub word_none : (k : ℕ) → 0 < k → length line ≤ end → word_of (drop at line) k ≡ []
  unfolding word_of
  word_none zero p h = absurd (omega arith)
  word_none (suc k) p h = rw (split_last 32 (drop at line) (omega (arith, length-drop at line, span_le (is_not 32) (drop at line))))

-- std's parts of a list are these
first_part : (x : ℕ) (ps : List (List ℕ)) → onto_first x ps ≡ to_first x ps
first_part x [] = refl
first_part x (p ∷ ps) = refl

pub std_split : (b : ℕ) (s : List ℕ) → slice_split (λ x. eqb x b) s ≡ split b s
unfolding split
std_split b [] = refl
std_split b (x ∷ s) = rw (std_split b s, first_part x (split b s))

-- ## Numbers
pub fold_digits : (base value : ℕ) (s : List ℕ) → fold (with_digit base) value s ≡ number_from base value s
unfolding number_from
fold_digits base value [] = refl
fold_digits base value (b ∷ s) = fold_digits base (with_digit base value b) s

module _ (base value : ℕ) (s : List ℕ) (i : ℕ) where
  pub number_on : i < length s → number_from base value (drop i s) ≡ number_from base (with_digit base value (get_or s i 0)) (drop (i + 1) s)
  unfolding number_from
  number_on h = rw (drop-cons s i 0 h, add-one)

  pub number_end : length s ≤ i → number_from base value (drop i s) ≡ value
  unfolding number_from
  number_end h = rw (drop_of_length-le s h)

-- one digit more, by halves of 32 bits
module _ (base value : ℕ) where
  halves : value * base ≡ value / 4294967296 * base * 4294967296 + value % 4294967296 * base
  halves =
      ap (λ v. v * base) (sym (div-add-mod' value 4294967296))
      ∙ add-mul (value / 4294967296 * 4294967296) (value % 4294967296) base
      ∙ ap (λ h. h + value % 4294967296 * base) (mul_right_comm (value / 4294967296) 4294967296 base)

  pub by_halves : (d : ℕ) →
      let low = value % 4294967296 * base + d in
      let high = value / 4294967296 * base + low / 4294967296 in
      high % 4294967296 * 4294967296 + low % 4294967296 ≡ (value * base + d) % 2 ^ 64
  by_halves d = omega (arith, halves)

  pub half_fits : value < 2 ^ 64 → base < 256 →
      (value % 4294967296 * base ≤ 1095216660225) × (value / 4294967296 * base ≤ 1095216660225)
  half_fits v b =
      let low : value % 4294967296 ≤ 4294967295 = omega arith in
      let high : value / 4294967296 ≤ 4294967295 = omega arith in
      let most : base ≤ 255 = omega arith in
      (mul-le-mul low most, mul-le-mul high most)

-- ## Bytes
pub bytes_half : (s : List ℕ) → length (bytes_of s) ≡ length s / 2
unfolding bytes_of
bytes_half [] = refl
bytes_half (high ∷ []) = refl
bytes_half (high ∷ low ∷ s) = omega (arith, bytes_half s)

pub byte_at : (s : List ℕ) (n : ℕ) → n < length s / 2 → get_or (bytes_of s) n 0 ≡ byte_of (get_or s (2 * n) 0) (get_or s (2 * n + 1) 0)
unfolding bytes_of
byte_at [] n h = absurd (omega arith)
byte_at (high ∷ []) n h = absurd (omega arith)
byte_at (high ∷ low ∷ s) zero h = refl
byte_at (high ∷ low ∷ s) (suc n) h =
    let e : 2 * suc n ≡ suc (suc (2 * n)) = omega arith in
    let f : 2 * suc n + 1 ≡ suc (suc (2 * n + 1)) = omega arith in
    rw (f, e) (byte_at s n (omega arith))

-- one more of the bytes at an area's start
pub put_byte : (area s : List ℕ) (n : ℕ) → n < length area → n < length s / 2 →
    set (take n (bytes_of s) ++ drop n area) n (byte_of (get_or s (2 * n) 0) (get_or s (2 * n + 1) 0)) ≡ take (n + 1) (bytes_of s) ++ drop (n + 1) area
put_byte area s n h k =
    rw (← byte_at s n k, add-one) (simp zero-add at (paste-suc area 0 (bytes_of s) n 0 (omega arith) (omega (arith, bytes_half s))))
