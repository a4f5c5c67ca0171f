-- Laws of what is read so far: one field more, and the fields of a line in their order.
--
--   added acc f  what is read so far, and the field f
--   taken acc n  the name n is given already
--   fill acc fs  what is read so far, and the fields fs
use Rattle.std.specs.Prelude.{ℕ, zero, suc, ◌≤◌, ◌<◌, ◌≡◌, Bool, not, ◌||◌, eqb, length, set, replicate, Option, Some, None, is_some}
use Rattle.std.specs.Option.{option_or}
use Rattle.std.proofs.Math.Path.{refl, sym}
use Rattle.std.proofs.Common.{◌∙◌, ap, arith, length-set, get_or-set_same, get_or-set_other, ext_get_or}
use Rattle.std.proofs.Math.Bool.{true, false, cond, or-false, and-eq-true_iff}
use mathlib.Core.List.{List, [], ◌∷◌}
use borrow.Author.Tests.{le-ltb, lt-ltb, ne_eqb, ltb-true, ltb-false, eqb-true, eqb-false, not-true}
use Rattle.std.proofs.Math.Dec.{ltb}
use Rattle.std.proofs.Math.ListN.{get_or}
use Rattle.text.specs.Text.{same}
use Rattle.text.specs.Laws.{same_eq}
use Rattle.line.specs.declared.read.Fields.{Fields}
use Rattle.line.specs.declared.read.Name.{Name}
use Rattle.line.specs.Field.{Named}
use Rattle.line.specs.Fields.{has, value_in, none_twice, known, listed}
use Rattle.line.specs.Reading.{slot_of, place_of, known_name, nothing_yet, filled, put}
use Rattle.line.specs.SlotLaws.{same_known, same_slot, place_small, known_some, known_none}
use Rattle.line.specs.FieldsLaws.{absent_value, get_or_map}

abbrev pub added : Fields → Named → Fields
added acc f = put acc (slot_of f.name) f.value

abbrev pub taken : Fields → List ℕ → Bool
taken acc n = is_some (get_or acc.values (slot_of n) None)

unfoldable pub fill : Fields → List Named → Fields
fill acc [] = acc
fill acc (f ∷ fs) = fill (added acc f) fs

-- ## One field more
pub record Sized (acc : Fields) : Type 0 where
  pub values : length acc.values ≡ 11

pub put_sized : (acc : Fields) (s v : ℕ) → Sized acc → Sized (put acc s v)
unfolding put
put_sized acc s v z = go (ltb s 11)
  where
    go : (t : Bool) → Sized (cond t (filled acc s v) acc)
    go true = record { values = length-set acc.values s (Some v) ∙ z.values }
    go false = z

pub put_unknown : (acc : Fields) (s v : ℕ) → 11 ≤ s → put acc s v ≡ acc
unfolding put
put_unknown acc s v h = rw (le-ltb s 11 h)

-- the same by the names as the code has them
pub put_known : (acc : Fields) (s : List ℕ) (v : ℕ) {k : Name} → known_name s ≡ Some k → put acc (slot_of s) v ≡ filled acc (place_of k) v
unfolding put
put_known acc s v {k} e = rw (known_some s e, lt-ltb (place_of k) 11 (place_small k))

pub put_other : (acc : Fields) (s : List ℕ) (v : ℕ) → known_name s ≡ None → put acc (slot_of s) v ≡ acc
put_other acc s v e = put_unknown acc (slot_of s) v (known_none s e)

get_or_set : {A : Type 0} (l : List A) (s t : ℕ) (a d : A) → s < length l → get_or (set l s a) t d ≡ cond (eqb s t) a (get_or l t d)
get_or_set {A} l s t a d h = go (eqb s t) refl
  where
    go : (b : Bool) → eqb s t ≡ b → get_or (set l s a) t d ≡ cond b a (get_or l t d)
    go true e = rw (← eqb-true s t e) (get_or-set_same l s a d h)
    go false e = get_or-set_other l s t a d (λ q. eqb-false s t e (sym q))

-- the number s of a name, and any other number t; one of them is that of a known name
module _ (acc : Fields) (s v t : ℕ) (h : s ≡ t → s < 11) (z : Sized acc) where
  put_value : get_or (put acc s v).values t None ≡ cond (eqb s t) (Some v) (get_or acc.values t None)
  unfolding put
  put_value = go (ltb s 11) refl
    where
      go : (b : Bool) → ltb s 11 ≡ b →
          get_or (cond b (filled acc s v) acc).values t None ≡ cond (eqb s t) (Some v) (get_or acc.values t None)
      go true e = get_or_set acc.values s t (Some v) None (omega (arith, z.values, ltb-true s 11 e))
      go false e = rw (ne_eqb s t (λ q. omega (arith, h q, ltb-false s 11 e)))

-- a known name more is given
pub taken_added : (acc : Fields) (q : List ℕ) (v : ℕ) → Sized acc → slot_of q < 11 → (n : List ℕ) →
    taken (put acc (slot_of q) v) n ≡ (same q n || taken acc n)
taken_added acc q v z h n =
    rw (put_value acc (slot_of q) v (slot_of n) (λ e. h) z, same_slot q n h)
    (either (eqb (slot_of q) (slot_of n)) (get_or acc.values (slot_of n) None))
  where
    either : (b : Bool) (o : Option ℕ) → is_some (cond b (Some v) o) ≡ (b || is_some o)
    either true o = refl
    either false o = refl

-- ## What the fields fill in
fill_sized : (fs : List Named) (acc : Fields) → Sized acc → Sized (fill acc fs)
unfolding fill
fill_sized [] acc z = z
fill_sized (f ∷ fs) acc z = fill_sized fs (added acc f) (put_sized acc (slot_of f.name) f.value z)

module _ (k : ℕ) (h : k < 11) where
  fill_given : (fs : List Named) (acc : Fields) → Sized acc →
      is_some (get_or (fill acc fs).values k None) ≡ (is_some (get_or acc.values k None) || has (get_or known k []) fs)
  unfolding fill has
  fill_given [] acc z = sym (or-false (is_some (get_or acc.values k None)))
  fill_given (f ∷ fs) acc z =
      rw (
        fill_given fs (added acc f) (put_sized acc (slot_of f.name) f.value z),
        put_value acc (slot_of f.name) f.value k (λ q. omega arith) z,
        same_known k f.name h,
      )
      (go (eqb (slot_of f.name) k) (get_or acc.values k None) (has (get_or known k []) fs))
    where
      go : (a : Bool) (o : Option ℕ) (b : Bool) → (is_some (cond a (Some f.value) o) || b) ≡ (is_some o || (a || b))
      go true (Some v) b = refl
      go true None b = refl
      go false o b = refl

  fill_value : (fs : List Named) (acc : Fields) → Sized acc → none_twice fs ≡ true →
      get_or (fill acc fs).values k None ≡ option_or (value_in (get_or known k []) fs) (get_or acc.values k None)
  unfolding fill value_in none_twice
  fill_value [] acc z e = refl
  fill_value (f ∷ fs) acc z e =
      rw (
        fill_value fs (added acc f) (put_sized acc (slot_of f.name) f.value z) ((and-eq-true_iff (not (has f.name fs)) (none_twice fs)).0 e).1,
        put_value acc (slot_of f.name) f.value k (λ q. omega arith) z,
      )
      (go (same (get_or known k []) f.name) refl)
    where
      go : (b : Bool) → same (get_or known k []) f.name ≡ b →
          option_or (value_in (get_or known k []) fs) (cond (eqb (slot_of f.name) k) (Some f.value) (get_or acc.values k None)) ≡
          option_or (cond b (Some f.value) (value_in (get_or known k []) fs)) (get_or acc.values k None)
      go true q =
          let once = not-true (has f.name fs) ((and-eq-true_iff (not (has f.name fs)) (none_twice fs)).0 e).0 in
          let alone = absent_value (get_or known k []) fs (rw (same_eq (get_or known k []) f.name q) once) in
          rw (alone, ← same_known k f.name h, q)
      go false q = rw (← same_known k f.name h, q)

get_d_alike : {A : Type 0} (a : A) (n k : ℕ) → get_or (replicate n a) k a ≡ a
get_d_alike a zero k = refl
get_d_alike a (suc n) zero = refl
get_d_alike a (suc n) (suc k) = get_d_alike a n k

nothing_given : (k : ℕ) → get_or nothing_yet.values k None ≡ None
nothing_given k = get_d_alike None 11 k

pub none_taken : (n : List ℕ) → taken nothing_yet n ≡ false
none_taken n = ap is_some (nothing_given (slot_of n))

pub start_sized : Sized nothing_yet
start_sized = record { values = refl }

or_none : (o : Option ℕ) → option_or o None ≡ o
or_none None = refl
or_none (Some v) = refl

pub fill_listed : (fs : List Named) → none_twice fs ≡ true → fill nothing_yet fs ≡ listed fs
fill_listed fs e = λ i. record { values = values i }
  where
    all : Sized (fill nothing_yet fs)
    all = fill_sized fs nothing_yet start_sized

    values : (fill nothing_yet fs).values ≡ (listed fs).values
    values =
        ext_get_or None (fill nothing_yet fs).values (listed fs).values all.values
        (λ k h.
        let l : k < 11 = omega (arith, all.values) in
        rw (fill_value k l fs nothing_yet start_sized e, nothing_given k, or_none (value_in (get_or known k []) fs))
        (sym (get_or_map (λ name. value_in name fs) known k [] None l)))
