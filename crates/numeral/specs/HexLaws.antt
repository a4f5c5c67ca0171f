-- Laws of digits and of the shape that a number has.
--
--   Kind b    what a byte is: a decimal digit, a letter that is a digit, or neither
--   Shaped s  what `shaped s` says
use Rattle.std.specs.Prelude.{ℕ, ◌+◌, ◌-◌, ◌<◌, ◌≤◌, ◌≡◌, Bool, cond, ◌&&◌, ◌||◌, List, ltb, length, get_or, Some, None}
use Rattle.std.proofs.Math.Path.{refl}
use Rattle.std.proofs.Common.{◌∙◌, arith}
use Rattle.std.proofs.Math.Bool.{true, false, not, and-false, true≢false}
use borrow.Author.Tests.{le-leb, lt-leb, lt-ltb, le-ltb, ltb-true, ltb-false, eq-eqb, ne_eqb, eqb-false}
use Rattle.std.proofs.Math.Dec.{eqb}
use Rattle.text.specs.Text.{within}
use Rattle.text.specs.Laws.{within_true, true_within}
use Rattle.numeral.specs.Hex.{digit_of, digit_said, digit_byte, shaped}

pub digit_of_decimal : (b : ℕ) → 48 ≤ b → b ≤ 57 → digit_of b ≡ b - 48
unfolding digit_of
digit_of_decimal b l h = rw (true_within 48 57 b l h)

pub digit_of_letter : (b : ℕ) → 97 ≤ b → b ≤ 102 → digit_of b ≡ b - 87
unfolding digit_of
digit_of_letter b l h = rw (le-leb 48 b (omega arith), lt-leb b 57 (omega arith), true_within 97 102 b l h)

pub data Kind (b : ℕ) : Type 0 where
  decimal : 48 ≤ b → b ≤ 57 → digit_of b ≡ b - 48 → Kind b
  letter : 97 ≤ b → b ≤ 102 → digit_of b ≡ b - 87 → Kind b
  other : digit_of b ≡ 16 → Kind b

pub kind : (b : ℕ) → Kind b
unfolding digit_of
kind b = go (within 48 57 b) refl (within 97 102 b) refl
  where
    go : (p : Bool) → within 48 57 b ≡ p → (q : Bool) → within 97 102 b ≡ q → Kind b
    go true e q f = decimal (within_true 48 57 b e).0 (within_true 48 57 b e).1 (rw e)
    go false e true f = letter (within_true 97 102 b f).0 (within_true 97 102 b f).1 (rw (e, f))
    go false e false f = other (rw (e, f))

pub digit_of_other : (b : ℕ) → (48 ≤ b → b ≤ 57 → ⊥) → (97 ≤ b → b ≤ 102 → ⊥) → digit_of b ≡ 16
digit_of_other b f g = go (kind b)
  where
    go : Kind b → digit_of b ≡ 16
    go (decimal l u e) = absurd (f l u)
    go (letter l u e) = absurd (g l u)
    go (other e) = e

-- ## A digit's byte and its value
pub digit_of-digit_byte : (d : ℕ) → d < 16 → digit_of (digit_byte d) ≡ d
digit_of-digit_byte d h = go (ltb d 10) refl
  where
    go : (t : Bool) → ltb d 10 ≡ t → digit_of (cond t (d + 48) (d + 87)) ≡ d
    go true e = rw (digit_of_decimal (d + 48) (omega arith) (omega (arith, ltb-true d 10 e))) (omega arith)
    go false e = rw (digit_of_letter (d + 87) (omega (arith, ltb-false d 10 e)) (omega arith)) (omega arith)

pub digit_byte-digit_of : (b : ℕ) → digit_of b < 16 → digit_byte (digit_of b) ≡ b
digit_byte-digit_of b h = go (kind b)
  where
    go : Kind b → digit_byte (digit_of b) ≡ b
    go (decimal l u e) = rw (e, lt-ltb (b - 48) 10 (omega arith)) (omega arith)
    go (letter l u e) = rw (e, le-ltb (b - 87) 10 (omega arith)) (omega arith)
    go (other e) = absurd (omega arith)

-- only `0` is a digit of value 0
pub digit_of_zero : (b : ℕ) → digit_of b ≡ 0 → b ≡ 48
digit_of_zero b h = go (kind b)
  where
    go : Kind b → b ≡ 48
    go (decimal l u e) = omega arith
    go (letter l u e) = absurd (omega arith)
    go (other e) = absurd (omega arith)

-- ## What is said of a byte
pub said_decimal : (b : ℕ) → 48 ≤ b → b ≤ 57 → digit_said b ≡ Some (b - 48)
said_decimal b l h = rw (digit_of_decimal b l h, lt-ltb (b - 48) 16 (omega arith))

pub said_letter : (b : ℕ) → 97 ≤ b → b ≤ 102 → digit_said b ≡ Some (b - 87)
said_letter b l h = rw (digit_of_letter b l h, lt-ltb (b - 87) 16 (omega arith))

pub said_other : (b : ℕ) → (48 ≤ b → b ≤ 57 → ⊥) → (97 ≤ b → b ≤ 102 → ⊥) → digit_said b ≡ None
said_other b f g = rw (digit_of_other b f g)

pub digit_of_lt : (b : ℕ) {d : ℕ} → d ≡ digit_of b → (d ≡ 16 → ⊥) → digit_of b < 16
digit_of_lt b q f = go (kind b)
  where
    go : Kind b → digit_of b < 16
    go (decimal l u e) = omega arith
    go (letter l u e) = omega arith
    go (other e) = absurd (f (q ∙ e))

-- what has a value is a digit, and the value is the digit's
pub digit_said_some : (b : ℕ) {d : ℕ} → Some d ≡ digit_said b → (digit_of b < 16) × (d ≡ digit_of b)
digit_said_some b {d = d} q = go (ltb (digit_of b) 16) refl q
  where
    go : (t : Bool) → ltb (digit_of b) 16 ≡ t → Some d ≡ cond t (Some (digit_of b)) None → (digit_of b < 16) × (d ≡ digit_of b)
    go true e q = (ltb-true (digit_of b) 16 e, cc)
    go false e q = absurd cc

pub digit_of_none : (b : ℕ) → None ≡ digit_said b → digit_of b ≡ 16
digit_of_none b q = go (kind b)
  where
    go : Kind b → digit_of b ≡ 16
    go (decimal l u e) = absurd (let f = said_decimal b l u in cc)
    go (letter l u e) = absurd (let f = said_letter b l u in cc)
    go (other e) = e

-- ## The shape of a number: 1 to 16 digits, the first no `0` unless it is the only one
pub record Shaped (s : List ℕ) : Type 0 where
  pub some : 0 < length s
  pub few : length s ≤ 16
  pub alone : 1 < length s → get_or s 0 0 ≡ 48 → ⊥

module _ (s : List ℕ) where
  pub shaped_true : Shaped s → shaped s ≡ true
  unfolding shaped
  shaped_true p = rw (true_within 1 16 (length s) p.some p.few) (go (eqb (length s) 1) refl)
    where
      go : (t : Bool) → eqb (length s) 1 ≡ t → (t || not (eqb (get_or s 0 0) 48)) ≡ true
      go true e = refl
      go false e = rw (ne_eqb (get_or s 0 0) 48 (p.alone (omega (arith, p.some, eqb-false (length s) 1 e))))

  pub shaped_empty : length s ≡ 0 → shaped s ≡ false
  unfolding shaped
  shaped_empty e = rw e

  pub shaped_long : 16 < length s → shaped s ≡ false
  unfolding shaped
  shaped_long h = rw (le-leb 1 (length s) (omega arith), lt-leb (length s) 16 h)

  pub shaped_zero : 1 < length s → get_or s 0 0 ≡ 48 → shaped s ≡ false
  unfolding shaped
  shaped_zero h e = rw (ne_eqb (length s) 1 (omega arith), eq-eqb (get_or s 0 0) 48 e) (and-false (within 1 16 (length s)))

  pub shaped_known : shaped s ≡ true → Shaped s
  unfolding shaped
  shaped_known h =
      let range = within_true 1 16 (length s) (left (within 1 16 (length s)) _ h) in
      record {
        some = range.0;
        few = range.1;
        alone = λ l f. let e = shaped_zero l f in true≢false cc;
      }
    where
      left : (p q : Bool) → p && q ≡ true → p ≡ true
      left true q h = refl
      left false q h = h
