-- Laws of a run of digits at a place of a text, as a loop goes through it.
--
--   run s i          the run of digits at place i of s
--   Passed s at i v  the digits from `at` up to i are passed, with more to come perhaps; v is their value
use Prim.Native.Nat.{ℕ, suc, ◌+◌, ◌*◌, ◌-◌, ◌^◌, ◌<◌, ◌≤◌}
use Rattle.std.specs.Prelude.{◌≡◌, refl, Bool, true, false, cond, ◌&&◌, List, [], ◌∷◌, eqb, get_or, take, drop, Option, Some, None}
use Rattle.std.proofs.Common.{sym, ◌∙◌, zero-add, lt-ltb, eq-eqb, ne_eqb, eqb-true, length-take-le}
use Rattle.std.proofs.Math.Path.{ap}
use Rattle.std.proofs.Math.Nat.{pow-suc, pow-le-pow_right}
use Rattle.std.proofs.Math.Numerals.{add-one}
use native.Mathlib.Omega.{arith}
use Rattle.std.proofs.lemmas.Bool.{eqb-false}
use Rattle.std.proofs.Math.ListN.{length}
use Rattle.std.proofs.Math.Seq.{drop-cons, take-length}
use Rattle.text.specs.Text.{span, every}
use Rattle.text.specs.Laws.{span_on, span_stop, span_end, span_le, every_span}
use Rattle.numeral.specs.declared.Numeral.{Numeral}
use Rattle.numeral.specs.Var.{numeral_of}
use Rattle.numeral.specs.Hex.{digit_of, is_digit, hex_from, hex_value, shaped, hex_of, hex_run_at}
use Rattle.numeral.specs.HexLaws.{Shaped, shaped_true, shaped_empty, shaped_long, shaped_zero}

unfoldable pub run : List ℕ → ℕ → List ℕ
run s i = take (span is_digit (drop i s)) (drop i s)

module _ (s : List ℕ) (i : ℕ) where
  pub run_on : i < length s → digit_of (get_or s i 0) < 16 → run s i ≡ get_or s i 0 ∷ run s (i + 1)
  unfolding run
  run_on h d = rw (span_on is_digit s i h (lt-ltb _ _ d), drop-cons s i 0 h, add-one i)

  pub run_stop : i < length s → digit_of (get_or s i 0) ≡ 16 → run s i ≡ []
  unfolding run
  run_stop h e = rw (span_stop is_digit s i h (rw e))

  pub run_end : length s ≤ i → run s i ≡ []
  unfolding run
  run_end h = rw (span_end is_digit s i h)

  pub hex_run_at_none : run s i ≡ [] → hex_run_at s i ≡ None
  unfolding run hex_run_at
  hex_run_at_none e = rw (shaped_empty (run s i) (ap length e))

pub record Passed (s : List ℕ) (at i v : ℕ) : Type 0 where
  pub some : at < i
  pub few : i ≤ at + 16
  pub small : v < 16 ^ (i - at)
  pub front : get_or (run s at) 0 0 ≡ get_or s at 0
  pub alone : at + 1 < i → get_or s at 0 ≡ 48 → ⊥
  pub size : at + length (run s at) ≡ i + length (run s i)
  pub value : hex_value (run s at) ≡ hex_from v (run s i)

module _ {s : List ℕ} {at : ℕ} where
  pub passed_first : at < length s → digit_of (get_or s at 0) < 16 → Passed s at (at + 1) (digit_of (get_or s at 0))
  unfolding hex_from
  passed_first h d =
      let e = run_on s at h d in
      let one : at + 1 - at ≡ 1 = omega arith in
      record {
        some = omega arith;
        few = omega arith;
        small = rw one d;
        front = rw e;
        alone = λ l. absurd (omega arith);
        size = omega (arith, ap length e);
        value = rw e (ap (λ (x : ℕ). hex_from x (run s (at + 1))) (zero-add _));
      }

module _ {s : List ℕ} {at i v : ℕ} (p : Passed s at i v) where
  -- the digits passed are the whole run
  pub passed_all : run s i ≡ [] → hex_run_at s at ≡ numeral_of v i
  unfolding run hex_run_at hex_from
  passed_all e =
      let n : at + length (run s at) ≡ i = omega (arith, p.size, ap length e) in
      let shape : Shaped (run s at) = record {
        some = omega (arith, p.some);
        few = omega (arith, p.few);
        alone = λ l z. p.alone (omega arith) (sym p.front ∙ z);
      } in
      rw (shaped_true (run s at) shape, n, p.value, e)

  module _ (h : i < length s) (d : digit_of (get_or s i 0) < 16) where
    -- one digit more follows a `0`, or 16 digits
    pub passed_zero : get_or s at 0 ≡ 48 → hex_run_at s at ≡ None
    unfolding run hex_run_at
    passed_zero z = rw (shaped_zero (run s at) (omega (arith, p.some, p.size, ap length (run_on s i h d))) (p.front ∙ z))

    pub passed_long : i - at ≡ 16 → hex_run_at s at ≡ None
    unfolding run hex_run_at
    passed_long z = rw (shaped_long (run s at) (omega (arith, p.size, ap length (run_on s i h d))))

    module _ (z : get_or s at 0 ≡ 48 → ⊥) (n : i - at ≡ 16 → ⊥) where
      pub passed_fits : v * 16 + digit_of (get_or s i 0) < 2 ^ 64
      passed_fits = omega (arith, p.small, pow-le-pow_right {n = 16} (omega arith) {i = i - at} {j = 15} (omega (arith, p.few)))

      pub passed_more : Passed s at (i + 1) (v * 16 + digit_of (get_or s i 0))
      unfolding hex_from
      passed_more =
          let e = run_on s i h d in
          let one : i + 1 - at ≡ suc (i - at) = omega (arith, p.some) in
          record {
            some = omega (arith, p.some);
            few = omega (arith, p.few);
            small = rw (one, pow-suc 16 (i - at)) (omega (arith, p.small));
            front = p.front;
            alone = λ l. z;
            size = omega (arith, p.size, ap length e);
            value = rw e at p.value;
          }

-- ## The run at the front of a part of a text is the whole part, or the part is no number
abbrev pub whole : ℕ → Option Numeral → Option ℕ
whole end (Some n) = cond (eqb n.next end) (Some n.value) None
whole end None = None

-- n bytes at place i; `every_narrower` gives the premise of a part that ends at a byte that is no digit
pub hex_of_part : (s : List ℕ) (i n : ℕ) → every is_digit (take n (drop i s)) ≡ eqb (span is_digit (drop i s)) n →
    hex_of (take n (drop i s)) ≡ whole (i + n) (hex_run_at s i)
unfolding hex_of hex_run_at
hex_of_part s i n q = go (eqb m n) refl (shaped (take m part)) refl
  where
    part : List ℕ
    part = drop i s

    m : ℕ
    m = span is_digit part

    size : length (take m part) ≡ m
    size = length-take-le m part (span_le is_digit part)

    go : (t : Bool) → eqb m n ≡ t → (u : Bool) → shaped (take m part) ≡ u →
        cond (every is_digit (take n part) && shaped (take n part)) (Some (hex_value (take n part))) None ≡
        whole (i + n) (cond (shaped (take m part)) (numeral_of (hex_value (take m part)) (i + length (take m part))) None)
    go true e true f =
        let l = eqb-true m n e in
        rw (q, e, ← l, f, eq-eqb (i + length (take m part)) (i + m) (omega (arith, size)))
    go true e false f = rw (q, e, ← (eqb-true m n e), f)
    go false e true f = rw (q, e, f, ne_eqb (i + length (take m part)) (i + n) (omega (arith, size, eqb-false m n e)))
    go false e false f = rw (q, e, f)

pub hex_of_whole : (s : List ℕ) → hex_of s ≡ whole (length s) (hex_run_at s 0)
hex_of_whole s =
    rw (take-length s, zero-add (length s)) at
    (hex_of_part s 0 (length s) (rw (take-length s) (every_span is_digit s)))
