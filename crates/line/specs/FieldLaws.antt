-- Laws of the fields of a line.
use Rattle.std.specs.Prelude.{ℕ, suc, ◌+◌, ◌-◌, ◌≤◌, ◌<◌, ◌≡◌, refl, Bool, true, false, cond, ◌&&◌, List, eqb, ltb, length, get_or, take, drop, None, Option, Some}
use Rattle.std.proofs.Common.{sym, ◌∙◌, ap, true≢false, arith, ltb-true, ltb-false, eqb-true, length-drop, take-take}
use Rattle.std.proofs.Math.Bool.{and-eq-true_iff}
use Rattle.std.proofs.Math.ListN.{get_or-eq_default}
use Rattle.text.specs.Text.{span, within, is_not, is_letter}
use Rattle.text.specs.Laws.{span_le}
use Rattle.numeral.specs.Hex.{hex_of}
use Rattle.line.specs.declared.field.Field.{Field}
use Rattle.names.specs.Names.{comma, part_from, name_of}
use Rattle.names.specs.PartsLaws.{length_part, length_name}
use Rattle.line.specs.Field.{Named, colon, valued, field_of, part_by, part_at}

-- ## A field and the part that it is
pub record NamedBy (p : List ℕ) (f : Named) : Type 0 where
  pub letters : f.name ≡ name_of p
  pub right : within 1 16 (length (name_of p)) ≡ true
  pub name : f.name ≡ take (length f.name) p
  pub inside : length f.name < length p

-- a byte other than 0 stands inside
byte_inside : (p : List ℕ) (n b : ℕ) → eqb (get_or p n 0) (suc b) ≡ true → n < length p
byte_inside p n b e = go (ltb n (length p)) refl
  where
    go : (t : Bool) → ltb n (length p) ≡ t → n < length p
    go true h = ltb-true n (length p) h
    go false h = absurd (omega (arith, eqb-true (get_or p n 0) (suc b) e, get_or-eq_default p 0 {n = n} (ltb-false n (length p) h)))

pub field_named : (p : List ℕ) (f : Named) → field_of p ≡ Some f → NamedBy p f
unfolding field_of name_of
field_named p f q = go (within 1 16 n && eqb (get_or p n 0) colon) refl (hex_of (drop (suc n) p)) q
  where
    n : ℕ
    n = span is_letter p

    go : (b : Bool) → (within 1 16 n && eqb (get_or p n 0) colon) ≡ b → (x : Option ℕ) → cond b (valued (take n p) x) None ≡ Some f → NamedBy p f
    go true e (Some v) q =
        let f_name : f.name ≡ take n p = cc in
        let size : length f.name ≡ n = ap length f_name ∙ length_name p in
        let tests = (and-eq-true_iff (within 1 16 n) (eqb (get_or p n 0) colon)).0 e in
        record {
          letters = f_name;
          right = rw (length_name p) tests.0;
          name = rw size f_name;
          inside = rw size (byte_inside p n 57 tests.1);
        }
    go true e None q = absurd (true≢false cc)
    go false e x q = absurd (true≢false cc)

-- ## The answers of `field_at`
pub part_bad : (line : List ℕ) (i : ℕ) → None ≡ part_at line i → field_of (part_from line i) ≡ None
unfolding part_at
part_bad line i e = go (field_of (part_from line i)) e
  where
    go : (o : Option Named) → None ≡ part_by i (length (part_from line i)) o → o ≡ None
    go None e = refl
    go (Some f) e = cc

pub record Placed (line : List ℕ) (i : ℕ) (f : Field) : Type 0 where
  pub field : field_of (part_from line i) ≡ Some (record { name = take (f.colon - i) (drop i line); value = f.value })
  pub after : i ≤ f.colon
  pub before : f.colon < f.end
  pub inside : f.end ≤ length line
  pub whole : f.end ≡ i + length (part_from line i)

pub part_placed : {line : List ℕ} {i : ℕ} {f : Field} → Some f ≡ part_at line i → Placed line i f
unfolding part_at
part_placed {line} {i} {f} e = go (field_of p) refl e
  where
    p : List ℕ
    p = part_from line i

    go : (o : Option Named) → field_of p ≡ o → Some f ≡ part_by i (length p) o → Placed line i f
    go None q e = absurd (true≢false cc)
    go (Some n) q e =
        let named = field_named p n q in
        let colon_at : f.colon ≡ i + length n.name = cc in
        let value_is : f.value ≡ n.value = cc in
        let end_at : f.end ≡ i + length p = cc in
        let size : f.colon - i ≡ length n.name = omega arith in
        let p-size = length_part line i in
        let rest = drop i line in
        let in-part = take-take (length n.name) (span (is_not comma) rest) rest (omega (arith, named.inside)) in
        let name : take (f.colon - i) rest ≡ n.name = rw (size, ← in-part) (sym named.name) in
        record {
          field = rw (name, value_is) q;
          after = omega arith;
          before = omega (arith, named.inside);
          inside = omega (arith, named.inside, span_le (is_not comma) (drop i line), length-drop i line);
          whole = end_at;
        }
