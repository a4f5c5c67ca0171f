-- Laws of variable-size numbers.
--
--   Below limit r     r is below the limit, if it is a number
--   Inside from to r  the place after r lies between the two, if it is a number
--   VarRead           what a caller knows of a number that was read
use Rattle.std.specs.Prelude.{ℕ, suc, ◌+◌, ◌*◌, ◌-◌, ◌/◌, ◌^◌, ◌<◌, ◌≤◌, ◌≡◌, refl, Bool, cond, List, [], ◌∷◌, eqb, length, get_or, drop, Option, Some, None}
use Rattle.std.specs.Bool.{then_some}
use Rattle.std.proofs.Common.{◌∙◌, arith, length-drop, drop_of_length-le, drop-cons}
use Rattle.std.proofs.Math.Bool.{true, false}
use Rattle.std.proofs.Math.Numerals.{add-one}
use borrow.Author.Tests.{lt-ltb, le-ltb, ltb-true, ltb-false, eqb-false, ne_eqb}
use Rattle.std.proofs.Math.Dec.{ltb}
use Rattle.numeral.specs.declared.Numeral.{Numeral}
use Rattle.numeral.specs.Var.{numeral_of, continued, var_from, limited, Fits64, var_at}

-- ## The limit of what follows a byte
-- the number is at least 128 + low
limited_over : (limit low : ℕ) (r : Option Numeral) → limit ≤ 128 + low → limited limit (continued low r) ≡ None
unfolding limited continued
limited_over limit low None h = refl
limited_over limit low (Some n) h = go (eqb n.value 0) refl
  where
    go : (t : Bool) → eqb n.value 0 ≡ t → limited limit (cond t None (numeral_of (n.value * 128 + low) n.next)) ≡ None
    go true e = refl
    go false e = rw (le-ltb (n.value * 128 + low) limit (omega (arith, eqb-false n.value 0 e)))

limited_more : (limit low : ℕ) (r : Option Numeral) → low < limit →
    limited limit (continued low r) ≡ continued low (limited ((limit - low - 1) / 128 + 1) r)
unfolding limited continued
limited_more limit low None h = refl
limited_more limit low (Some n) h = go (ltb n.value ((limit - low - 1) / 128 + 1)) refl (eqb n.value 0) refl
  where
    go : (t : Bool) → ltb n.value ((limit - low - 1) / 128 + 1) ≡ t → (z : Bool) → eqb n.value 0 ≡ z →
        limited limit (cond (eqb n.value 0) None (numeral_of (n.value * 128 + low) n.next)) ≡ continued low (cond t (Some n) None)
    go true e true z = rw z
    go false e true z = rw z
    go true e false z = rw (z, lt-ltb (n.value * 128 + low) limit (omega (arith, ltb-true n.value ((limit - low - 1) / 128 + 1) e)))
    go false e false z = rw (z, le-ltb (n.value * 128 + low) limit (omega (arith, ltb-false n.value ((limit - low - 1) / 128 + 1) e)))

-- ## The number at a place, by its first byte
module _ (limit : ℕ) (s : List ℕ) (i : ℕ) where
  pub var_at_past : length s ≤ i → var_at limit s i ≡ None
  unfolding var_at var_from limited
  var_at_past h = rw (drop_of_length-le s h)

  pub var_at_over : i < length s → limit ≤ get_or s i 0 → var_at limit s i ≡ None
  unfolding var_at var_from limited
  var_at_over h l = rw (drop-cons s i 0 h) (go (ltb (get_or s i 0) 128) refl)
    where
      go : (t : Bool) → ltb (get_or s i 0) 128 ≡ t →
          limited limit (cond t (numeral_of (get_or s i 0) (i + 1)) (continued (get_or s i 0 - 128) (var_from (i + 1) (drop (suc i) s)))) ≡ None
      go true e = rw (le-ltb (get_or s i 0) limit l)
      go false e = limited_over limit (get_or s i 0 - 128) _ (omega arith)

  pub var_at_last : i < length s → get_or s i 0 < limit → get_or s i 0 < 128 → var_at limit s i ≡ numeral_of (get_or s i 0) (i + 1)
  unfolding var_at var_from limited
  var_at_last h l b = rw (drop-cons s i 0 h, lt-ltb (get_or s i 0) 128 b, lt-ltb (get_or s i 0) limit l)

  pub var_at_more : i < length s → get_or s i 0 < limit → 128 ≤ get_or s i 0 →
      var_at limit s i ≡ continued (get_or s i 0 - 128) (var_at ((limit - (get_or s i 0 - 128) - 1) / 128 + 1) s (i + 1))
  unfolding var_at var_from
  var_at_more h l b =
      rw (drop-cons s i 0 h, le-ltb (get_or s i 0) 128 b, add-one i)
      (limited_more limit (get_or s i 0 - 128) (var_from (suc i) (drop (suc i) s)) (omega arith))

  -- one byte is a number by itself
  pub var_at_one : i < length s → get_or s i 0 < 128 →
      var_at limit s i ≡ then_some (ltb (get_or s i 0) limit) (record { value = get_or s i 0; next = i + 1 })
  var_at_one h b = go (ltb (get_or s i 0) limit) refl
    where
      go : (t : Bool) → ltb (get_or s i 0) limit ≡ t → var_at limit s i ≡ then_some t (record { value = get_or s i 0; next = i + 1 })
      go true e = var_at_last h (ltb-true (get_or s i 0) limit e) b
      go false e = var_at_over h (ltb-false (get_or s i 0) limit e)

-- ## What was read
abbrev pub Below : ℕ → Option Numeral → Type 0
Below limit (Some n) = n.value < limit
Below limit None = Unit {0}

limited_below : (limit : ℕ) (r : Option Numeral) → Below limit (limited limit r)
unfolding limited
limited_below limit None = tt
limited_below limit (Some n) = go (ltb n.value limit) refl
  where
    go : (t : Bool) → ltb n.value limit ≡ t → Below limit (cond t (Some n) None)
    go true e = ltb-true n.value limit e
    go false e = tt

-- the number that a byte makes of what follows it has 64 bits
pub var_at_fits : (limit low : ℕ) (s : List ℕ) (i : ℕ) → low < limit → limit ≤ 2 ^ 64 →
    Fits64 (continued low (var_at ((limit - low - 1) / 128 + 1) s i))
unfolding var_at Fits64
var_at_fits limit low s i h l =
    rw (← limited_more limit low (var_from i (drop i s)) h) (go (limited limit (continued low (var_from i (drop i s)))) (limited_below limit _))
  where
    go : (r : Option Numeral) → Below limit r → Fits64 r
    go (Some n) b = omega arith
    go None b = tt

-- nor does a product or a sum on the way to it overflow
pub var_at_room : (limit low : ℕ) (s : List ℕ) (i : ℕ) {n : Numeral} → low < limit → limit ≤ 2 ^ 64 →
    var_at ((limit - low - 1) / 128 + 1) s i ≡ Some n → (n.value ≡ 0 → ⊥) → n.value * 128 + low < 2 ^ 64
unfolding continued Fits64
var_at_room limit low s i {n = n} h l e z = rw (e, ne_eqb n.value 0 z) at (var_at_fits limit low s i h l)

-- no byte follows one that asks for another
pub var_at_short : (limit : ℕ) (s : List ℕ) (i : ℕ) → i < length s → length s ≤ i + 1 → 128 ≤ get_or s i 0 → var_at limit s i ≡ None
unfolding continued
var_at_short limit s i h l b = go (ltb (get_or s i 0) limit) refl
  where
    go : (t : Bool) → ltb (get_or s i 0) limit ≡ t → var_at limit s i ≡ None
    go true e = var_at_more limit s i h (ltb-true (get_or s i 0) limit e) b ∙ rw (var_at_past _ s (i + 1) l)
    go false e = var_at_over limit s i h (ltb-false (get_or s i 0) limit e)

-- ## A number of two bytes
pub var_at_pair : (limit : ℕ) (s : List ℕ) (i : ℕ) → i + 1 < length s → 128 ≤ get_or s i 0 → 0 < get_or s (i + 1) 0 → get_or s (i + 1) 0 < 128
    → get_or s (i + 1) 0 * 128 + (get_or s i 0 - 128) < limit → var_at limit s i ≡ numeral_of (get_or s (i + 1) 0 * 128 + (get_or s i 0 - 128)) (i + 2)
unfolding continued
var_at_pair limit s i h a z b l =
    let low = get_or s i 0 - 128 in
    let last = var_at_last ((limit - low - 1) / 128 + 1) s (i + 1) (omega arith) (omega arith) b in
    let past : i + 1 + 1 ≡ i + 2 = omega arith in
    var_at_more limit s i (omega arith) (omega arith) a ∙ rw (last, past, ne_eqb (get_or s (i + 1) 0) 0 (λ e. omega arith))

abbrev Inside : ℕ → ℕ → Option Numeral → Type 0
Inside low high (Some n) = (low < n.next) × (n.next ≤ high)
Inside low high None = Unit {0}

continued_inside : (i j low : ℕ) (r : Option Numeral) → Inside i j r → Inside i j (continued low r)
unfolding continued
continued_inside i j low None h = tt
continued_inside i j low (Some n) h = go (eqb n.value 0)
  where
    go : (t : Bool) → Inside i j (cond t None (numeral_of (n.value * 128 + low) n.next))
    go true = tt
    go false = h

limited_inside : (i j limit : ℕ) (r : Option Numeral) → Inside i j r → Inside i j (limited limit r)
unfolding limited
limited_inside i j limit None h = tt
limited_inside i j limit (Some n) h = go (ltb n.value limit)
  where
    go : (t : Bool) → Inside i j (cond t (Some n) None)
    go true = h
    go false = tt

var_from_inside : (i : ℕ) (s : List ℕ) → Inside i (i + length s) (var_from i s)
unfolding var_from
var_from_inside i [] = tt
var_from_inside i (b ∷ s) =
    let r = var_from (i + 1) s in
    go (ltb b 128) (continued_inside _ _ (b - 128) r (wider r (var_from_inside (i + 1) s)))
  where
    wider : (r : Option Numeral) → Inside (i + 1) (i + 1 + length s) r → Inside i (i + suc (length s)) r
    wider (Some n) h = (omega arith, omega arith)
    wider None h = tt

    go : (t : Bool) → Inside i (i + suc (length s)) (continued (b - 128) (var_from (i + 1) s)) →
        Inside i (i + suc (length s)) (cond t (numeral_of b (i + 1)) (continued (b - 128) (var_from (i + 1) s)))
    go true h = (omega arith, omega arith)
    go false h = h

pub record VarRead (limit : ℕ) (s : List ℕ) (i v next : ℕ) : Type 0 where
  pub below : v < limit
  pub after : i < next
  pub inside : next ≤ length s

pub var_at_read : (limit : ℕ) (s : List ℕ) (i : ℕ) {n : Numeral} → var_at limit s i ≡ Some n → VarRead limit s i n.value n.next
unfolding var_at
var_at_read limit s i e =
    let below = rw e at (limited_below limit (var_from i (drop i s))) in
    let place = rw (e, length-drop) at (limited_inside _ _ limit (var_from i (drop i s)) (var_from_inside i (drop i s))) in
    record { below = below; after = place.0; inside = omega arith }
