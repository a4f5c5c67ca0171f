-- Laws of the digits of a number as a loop writes them into an array, from its end.
--
--   Writing n bytes start left  the digits from `start` on are written, and those of `left` come before them
use Rattle.std.specs.Prelude.{ℕ, zero, suc, ◌-◌, ◌/◌, ◌%◌, ◌^◌, ◌<◌, ◌≤◌, ◌≡◌, refl, List, ◌∷◌, ◌++◌, length, take, drop, set, replicate}
use Rattle.std.proofs.Common.{sym, ◌∙◌, ap, sub-one, arith, length-set, length-drop, take-append-drop, drop-cons, get_or-set_same, drop-set-lt, take-take}
use Rattle.std.proofs.lemmas.List.{take-set-le}
use Rattle.numeral.specs.Hex.{digit_byte, hex_before, hex_text, digits_of, Written}
use Rattle.numeral.specs.HexTextLaws.{hex_before_last, hex_before_more, power_fewer, power_more}

drop_stored : (l : List ℕ) (k a : ℕ) → 0 < k → k ≤ length l → drop (k - 1) (set l (k - 1) a) ≡ a ∷ drop k l
drop_stored l zero a h b = absurd (omega arith)
drop_stored l (suc k) a h b =
    rw (sub-one, drop-cons (set l k a) k 0 (rw length-set b), get_or-set_same l k a 0 b, drop-set-lt (suc k) l k a (omega arith))

pub record Writing (n : ℕ) (bytes : List ℕ) (start left : ℕ) : Type 0 where
  pub size : length bytes ≡ 16
  pub room : 0 < start
  pub top : start ≤ 16
  pub small : left < 16 ^ start
  pub blank : take start bytes ≡ replicate start 0
  pub text : hex_before start left (drop start bytes) ≡ hex_text n

take_alike : {A : Type 0} (a : A) (k : ℕ) → take (k - 1) (replicate k a) ≡ replicate (k - 1) a
take_alike a zero = refl
take_alike a (suc k) = rw sub-one (go k)
  where
    go : (j : ℕ) → take j (replicate (suc j) a) ≡ replicate j a
    go zero = refl
    go (suc j) = λ i. a ∷ go j i

-- the bytes before a stored one
blank_stored : (bytes : List ℕ) (start a : ℕ) → take start bytes ≡ replicate start 0 →
    take (start - 1) (set bytes (start - 1) a) ≡ replicate (start - 1) 0
blank_stored bytes start a e =
    take-set-le (start - 1) bytes (start - 1) a (omega arith) ∙ sym (take-take (start - 1) start bytes (omega arith)) ∙
    ap (take (start - 1)) e ∙ take_alike {A = ℕ} 0 start

-- zeros, then the digits
whole_digits : (n start : ℕ) (bytes : List ℕ) → length bytes ≡ 16 → start ≤ 16 → take start bytes ≡ replicate start 0 →
    drop start bytes ≡ hex_text n → record { bytes = bytes; start = start } ≡ digits_of n
unfolding digits_of
whole_digits n start bytes size top blank text =
    let zeros : start ≡ 16 - length (hex_text n) = omega (arith, size, length-drop start bytes, ap length text) in
    let all : bytes ≡ replicate start 0 ++ hex_text n = sym (take-append-drop start bytes) ∙ rw (blank, text) in
    rw (← zeros) (λ i. record { bytes = all i; start = start })

pub writing_none : (n : ℕ) (bytes : List ℕ) → n < 2 ^ 64 → bytes ≡ replicate 16 0 → Writing n bytes 16 n
unfolding hex_text
writing_none n bytes h e = record {
  size = ap length e;
  room = omega arith;
  top = omega arith;
  small = h;
  blank = ap (take 16) e;
  text = rw e;
}

module _ {n : ℕ} {bytes : List ℕ} {start left : ℕ} (w : Writing n bytes start left) where
  pub writing_room : 16 ≤ left → 1 < start
  writing_room h = power_more start left w.small h

  pub writing_more : 16 ≤ left → Writing n (set bytes (start - 1) (digit_byte (left % 16))) (start - 1) (left / 16)
  writing_more h = record {
    size = rw length-set w.size;
    room = omega (arith, writing_room h);
    top = omega (arith, w.top);
    small = power_fewer start left w.room w.small;
    blank = blank_stored bytes start (digit_byte (left % 16)) w.blank;
    text =
        rw (drop_stored bytes start (digit_byte (left % 16)) w.room (omega (arith, w.top, w.size)), ← hex_before_more _ start left w.room h)
        w.text;
  }

  last_text : left < 16 → drop (start - 1) (set bytes (start - 1) (digit_byte left)) ≡ hex_text n
  last_text h =
      rw (drop_stored bytes start (digit_byte left) w.room (omega (arith, w.top, w.size)), ← hex_before_last _ start left w.room h)
      w.text

  pub writing_last : left < 16 → Written n (record { bytes = set bytes (start - 1) (digit_byte left); start = start - 1 })
  writing_last h = record {
    whole =
        whole_digits n (start - 1) (set bytes (start - 1) (digit_byte left)) (rw length-set w.size) (omega (arith, w.top))
        (blank_stored bytes start (digit_byte left) w.blank) (last_text h);
    text = last_text h;
    inside = rw length-set (omega (arith, w.top, w.size, w.room));
  }
