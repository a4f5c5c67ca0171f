-- Laws of the digits of a number.
use Prim.Native.Nat.{ℕ, zero, suc, ◌+◌, ◌*◌, ◌-◌, ◌/◌, ◌%◌, ◌^◌, ◌<◌, ◌≤◌}
use Rattle.std.specs.Prelude.{◌≡◌, refl, Bool, true, false, cond, ◌&&◌, List, [], ◌∷◌, ◌++◌, ltb, length, get_or, Some, None}
use Rattle.std.proofs.Common.{sym, ap, ◌∙◌, true≢false, append-nil, zero-add, add-zero, pow-suc, sub-one, arith, lt-ltb, le-ltb, ltb-true, ltb-false}
use Rattle.text.specs.Text.{every}
use Rattle.text.specs.Laws.{every_first}
use Rattle.numeral.specs.Hex.{digit_of, is_digit, digit_byte, hex_from, hex_value, hex_before, hex_text, shaped, hex_of}
use Rattle.numeral.specs.HexLaws.{Shaped, shaped_true, shaped_known}
use Rattle.numeral.specs.HexLaws.{digit_of_decimal, digit_of-digit_byte, digit_byte-digit_of, digit_of_zero}

-- ## The digits of a number, the low one last
module _ (s : List ℕ) where
  pub hex_before_last : (most n : ℕ) → 0 < most → n < 16 → hex_before most n s ≡ digit_byte n ∷ s
  unfolding hex_before
  hex_before_last zero n h l = absurd (omega arith)
  hex_before_last (suc most) n h l = rw (lt-ltb n 16 l)

  pub hex_before_more : (most n : ℕ) → 0 < most → 16 ≤ n → hex_before most n s ≡ hex_before (most - 1) (n / 16) (digit_byte (n % 16) ∷ s)
  unfolding hex_before
  hex_before_more zero n h l = absurd (omega arith)
  hex_before_more (suc most) n h l = rw (le-ltb n 16 l, sub-one)

pub power_fewer : (k n : ℕ) → 0 < k → n < 16 ^ k → n / 16 < 16 ^ (k - 1)
power_fewer zero n h l = absurd (omega arith)
power_fewer (suc k) n h l = rw sub-one (omega (arith, pow-suc 16 k))

pub power_more : (k n : ℕ) → n < 16 ^ k → 16 ≤ n → 1 < k
power_more zero n l h = absurd (omega arith)
power_more (suc zero) n l h = absurd (omega arith)
power_more (suc (suc k)) n l h = omega arith

-- ## What is written reads back
digit_true : (d : ℕ) → d < 16 → is_digit (digit_byte d) ≡ true
digit_true d h = rw (digit_of-digit_byte d h) (lt-ltb d 16 h)

every_hex_before : (most n : ℕ) (s : List ℕ) → every is_digit s ≡ true → every is_digit (hex_before most n s) ≡ true
unfolding hex_before every
every_hex_before zero n s h = h
every_hex_before (suc most) n s h = go (ltb n 16) refl (every_hex_before most (n / 16) (digit_byte (n % 16) ∷ s))
  where
    go : (t : Bool) → ltb n 16 ≡ t →
        (every is_digit (digit_byte (n % 16) ∷ s) ≡ true → every is_digit (hex_before most (n / 16) (digit_byte (n % 16) ∷ s)) ≡ true) →
        every is_digit (cond t (digit_byte n ∷ s) (hex_before most (n / 16) (digit_byte (n % 16) ∷ s))) ≡ true
    go true e ih = rw (digit_true n (ltb-true n 16 e)) h
    go false e ih = ih (rw (digit_true (n % 16) (omega arith)) h)

hex_from-hex_before : (most n : ℕ) (s : List ℕ) → 0 < most → n < 16 ^ most → hex_from 0 (hex_before most n s) ≡ hex_from n s
unfolding hex_before hex_from
hex_from-hex_before zero n s h l = absurd (omega arith)
hex_from-hex_before (suc most) n s h l = go (ltb n 16) refl (hex_from-hex_before most (n / 16) (digit_byte (n % 16) ∷ s))
  where
    go : (t : Bool) → ltb n 16 ≡ t →
        (0 < most → n / 16 < 16 ^ most →
        hex_from 0 (hex_before most (n / 16) (digit_byte (n % 16) ∷ s)) ≡ hex_from (n / 16) (digit_byte (n % 16) ∷ s)) →
        hex_from 0 (cond t (digit_byte n ∷ s) (hex_before most (n / 16) (digit_byte (n % 16) ∷ s))) ≡ hex_from n s
    go true e ih = ap (λ (x : ℕ). hex_from x s) (omega (arith, digit_of-digit_byte n (ltb-true n 16 e)))
    go false e ih =
        ih (omega (arith, power_more (suc most) n l (ltb-false n 16 e))) (omega (arith, pow-suc 16 most)) ∙
        ap (λ (x : ℕ). hex_from x s) (omega (arith, digit_of-digit_byte (n % 16) (omega arith)))

length_hex_before : (most n : ℕ) (s : List ℕ) → 0 < most →
    (length s < length (hex_before most n s)) × (length (hex_before most n s) ≤ most + length s)
unfolding hex_before
length_hex_before zero n s h = absurd (omega arith)
length_hex_before (suc zero) n s h = go (ltb n 16)
  where
    go : (t : Bool) → (length s < length (cond t (digit_byte n ∷ s) (digit_byte (n % 16) ∷ s))) ×
        (length (cond t (digit_byte n ∷ s) (digit_byte (n % 16) ∷ s)) ≤ 1 + length s)
    go true = (omega arith, omega arith)
    go false = (omega arith, omega arith)
length_hex_before (suc (suc most)) n s h = go (ltb n 16) (length_hex_before (suc most) (n / 16) (digit_byte (n % 16) ∷ s) (omega arith))
  where
    rest : List ℕ
    rest = hex_before (suc most) (n / 16) (digit_byte (n % 16) ∷ s)

    go : (t : Bool) → (suc (length s) < length rest) × (length rest ≤ suc most + suc (length s)) →
        (length s < length (cond t (digit_byte n ∷ s) rest)) × (length (cond t (digit_byte n ∷ s) rest) ≤ suc (suc most) + length s)
    go true ih = (omega arith, omega arith)
    go false ih = (omega arith, omega arith)

-- only 0 begins with `0`
front_hex_before : (most n : ℕ) (s : List ℕ) → 0 < most → n < 16 ^ most → get_or (hex_before most n s) 0 0 ≡ 48 → n ≡ 0
unfolding hex_before
front_hex_before zero n s h l z = absurd (omega arith)
front_hex_before (suc most) n s h l z = go (ltb n 16) refl (front_hex_before most (n / 16) (digit_byte (n % 16) ∷ s)) z
  where
    go : (t : Bool) → ltb n 16 ≡ t →
        (0 < most → n / 16 < 16 ^ most → get_or (hex_before most (n / 16) (digit_byte (n % 16) ∷ s)) 0 0 ≡ 48 → n / 16 ≡ 0) →
        get_or (cond t (digit_byte n ∷ s) (hex_before most (n / 16) (digit_byte (n % 16) ∷ s))) 0 0 ≡ 48 → n ≡ 0
    go true e ih z = omega (arith, digit_of-digit_byte n (ltb-true n 16 e), ap digit_of z, digit_of_decimal 48 (omega arith) (omega arith))
    go false e ih z =
        absurd (omega (
          arith,
          ltb-false n 16 e,
          ih (omega (arith, power_more (suc most) n l (ltb-false n 16 e))) (omega (arith, pow-suc 16 most)) z,
        ))

pub hex_text_length : (n : ℕ) → (0 < length (hex_text n)) × (length (hex_text n) ≤ 16)
unfolding hex_text
hex_text_length n = length_hex_before 16 n [] (omega arith)

pub hex_text_digits : (n : ℕ) → every is_digit (hex_text n) ≡ true
unfolding hex_text every
hex_text_digits n = every_hex_before 16 n [] refl

hex_text_shaped : (n : ℕ) → n < 2 ^ 64 → shaped (hex_text n) ≡ true
unfolding hex_text hex_before
hex_text_shaped n h = shaped_true (hex_text n) record { some = (hex_text_length n).0; few = (hex_text_length n).1; alone = zero_alone }
  where
    zero_alone : 1 < length (hex_text n) → get_or (hex_text n) 0 0 ≡ 48 → ⊥
    zero_alone l z =
        let short = rw (front_hex_before 16 n [] (omega arith) h z) at l in
        omega arith

pub hex_value-hex_text : (n : ℕ) → n < 2 ^ 64 → hex_value (hex_text n) ≡ n
unfolding hex_text hex_from
hex_value-hex_text n h = hex_from-hex_before 16 n [] (omega arith) h

pub hex_of-hex_text : (n : ℕ) → n < 2 ^ 64 → hex_of (hex_text n) ≡ Some n
unfolding hex_of
hex_of-hex_text n h = rw (hex_text_digits n, hex_text_shaped n h) (ap Some (hex_value-hex_text n h))

-- ## A number has one text
-- the digits of what follows other digits, before the digits of those
hex_before-hex_from : (k v : ℕ) (s t : List ℕ) → 0 < v → every is_digit s ≡ true →
    hex_before (k + length s) (hex_from v s) t ≡ hex_before k v (s ++ t)
unfolding hex_from
hex_before-hex_from k v [] t h d = rw add-zero
hex_before-hex_from k v (b ∷ s) t h d =
    let more = every_first is_digit b s d in
    let digit = ltb-true (digit_of b) 16 more.0 in
    let n : k + suc (length s) ≡ suc k + length s = omega arith in
    let q : (v * 16 + digit_of b) / 16 ≡ v = omega arith in
    let r : (v * 16 + digit_of b) % 16 ≡ digit_of b = omega arith in
    rw n (hex_before-hex_from (suc k) (v * 16 + digit_of b) s t (omega arith) more.1) ∙
    hex_before_more (s ++ t) (suc k) (v * 16 + digit_of b) (omega arith) (omega arith) ∙
    rw (q, r, digit_byte-digit_of b digit, sub-one)

pub hex_text-hex_value : (s : List ℕ) → every is_digit s ≡ true → Shaped s → s ≡ hex_text (hex_value s)
unfolding hex_text hex_from
hex_text-hex_value [] d p = absurd (omega arith)
hex_text-hex_value (b ∷ []) d p =
    let digit = ltb-true (digit_of b) 16 (every_first is_digit b [] d).0 in
    sym (rw (zero-add (digit_of b), hex_before_last [] 16 (digit_of b) (omega arith) digit, digit_byte-digit_of b digit))
hex_text-hex_value (b ∷ (x ∷ s)) d p =
    let more = every_first is_digit b (x ∷ s) d in
    let digit = ltb-true (digit_of b) 16 more.0 in
    let some : digit_of b ≡ 0 → ⊥ = λ z. p.alone (omega arith) (digit_of_zero b z) in
    let k = 16 - suc (length s) in
    let n : k + suc (length s) ≡ 16 = omega arith in
    let first = rw n at (hex_before-hex_from k (digit_of b) (x ∷ s) [] (omega arith) more.1) in
    sym (
    ap (λ (v : ℕ). hex_text (hex_from v (x ∷ s))) (zero-add (digit_of b)) ∙
    first ∙
    hex_before_last ((x ∷ s) ++ []) k (digit_of b) (omega arith) digit ∙
    rw (digit_byte-digit_of b digit, append-nil)
    )

pub hex_text-hex_of : (s : List ℕ) (n : ℕ) → hex_of s ≡ Some n → s ≡ hex_text n
unfolding hex_of
hex_text-hex_of s n e = go (every is_digit s) refl (shaped s) refl e
  where
    go : (t : Bool) → every is_digit s ≡ t → (u : Bool) → shaped s ≡ u →
        cond (t && u) (Some (hex_value s)) None ≡ Some n → s ≡ hex_text n
    go true d true f e = hex_text-hex_value s d (shaped_known s f) ∙ ap hex_text (cc)
    go true d false f e = absurd (true≢false cc)
    go false d u f e = absurd (true≢false cc)
