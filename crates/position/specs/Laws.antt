-- Laws of positions: making and taking apart are inverse. Of check values: numbers below 65,536 have 01's.
use Rattle.std.specs.Prelude.{ℕ, ◌+◌, ◌*◌, ◌/◌, ◌%◌, ◌^◌, ◌<◌, ◌≤◌, ◌≡◌, Bool, true, false, Some}
use Rattle.std.proofs.Common.{sym, ap, ◌∙◌, mul-le-mul, mod-eq_of_lt, arith, lt-ltb, eqb-true, pow_mono}
use Rattle.std.proofs.Math.Nat.{div-div-eq-div-mul, div-eq_of_lt}
use Rattle.std.proofs.lemmas.Bool.{eqb-false}
use Rattle.std.specs.Int.Bits.{bit_xor}
use Rattle.std.proofs.lemmas.Nat.{xor_lt}
use Rattle.position.specs.Position.{chunks, offsets, codes, types, chunk_of, offset_of, code_of, type_of, is_empty, position_of, made_of, folded, check_of}

-- the fields of any 64 bits make them again
pub position_of_fields : (p : ℕ) → position_of (chunk_of p) (offset_of p) (code_of p) (type_of p) ≡ p
position_of_fields p = omega (arith, div-div-eq-div-mul p types codes, div-div-eq-div-mul p (types * codes) offsets)

pub made_of_fields : (p : ℕ) → p < 2 ^ 64 → made_of (chunk_of p) (offset_of p) (code_of p) (type_of p) ≡ Some (record { bits = p })
unfolding made_of
made_of_fields p h =
    rw (
      lt-ltb (chunk_of p) chunks (omega arith),
      lt-ltb (offset_of p) offsets (omega arith),
      lt-ltb (code_of p) codes (omega arith),
      lt-ltb (type_of p) types (omega arith),
    )
    (ap (λ (b : ℕ). Some (record { bits = b })) (position_of_fields p))

-- a position has the fields that it was made of
module _ (chunk offset code type : ℕ) (o : offset < offsets) (k : code < codes) (t : type < types) where
  pub chunk_of_position : chunk_of (position_of chunk offset code type) ≡ chunk
  chunk_of_position = omega arith

  pub offset_of_position : offset_of (position_of chunk offset code type) ≡ offset
  offset_of_position = omega arith

  pub code_of_position : code_of (position_of chunk offset code type) ≡ code
  code_of_position = omega arith

  pub type_of_position : type_of (position_of chunk offset code type) ≡ type
  type_of_position = omega arith

-- a bound is at most 1,048,576 bytes: no shift loses bits
pub bound_small : (code : ℕ) → code < 31 → (2 + code % 2) * 2 ^ (4 + code / 2) < 2 ^ 32
bound_small code h =
    let unit : 2 ^ (4 + code / 2) ≤ 2 ^ 19 = pow_mono {i = 4 + code / 2} {j = 19} (omega arith) in
    let most : (2 + code % 2) * 2 ^ (4 + code / 2) ≤ 3 * 2 ^ 19 =
    mul-le-mul {n₁ = 2 + code % 2} {m₁ = 2 ^ (4 + code / 2)} {n₂ = 3} {m₂ = 2 ^ 19} (omega arith) unit in
    omega (arith, most)

-- ## Check values
folded_of_small : (x : ℕ) → x < 2 ^ 16 → folded x ≡ x
unfolding folded
folded_of_small x h = rw (div-eq_of_lt h, mod-eq_of_lt h)

-- 02, C-13: "Below 65,536 nothing changes."
pub check_of_small : (c o n : ℕ) → c < 2 ^ 16 → o < 2 ^ 16 → n < 2 ^ 16 → check_of c o n ≡ bit_xor (bit_xor c o) n % 2 ^ 16
unfolding check_of
check_of_small c o n hc ho hn =
    rw (folded_of_small c hc, folded_of_small o ho, folded_of_small n hn)
    (sym (mod-eq_of_lt (xor_lt 16 (bit_xor c o) n (xor_lt 16 c o hc ho) hn)))

-- ## Empty or not, by the code's test
module _ {b : Bool} {p : ℕ} (e : b ≡ is_empty p) where
  pub empty_zero : b ≡ true → p ≡ 0
  empty_zero h = eqb-true p 0 (sym e ∙ h)

  pub full_other : b ≡ false → ¬ (p ≡ 0)
  full_other h = eqb-false p 0 (sym e ∙ h)
