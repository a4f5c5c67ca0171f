-- Laws of the fields of a line, for the readers of a line's fields.
use Rattle.std.specs.Prelude.{ℕ, zero, suc, ◌<◌, ◌≡◌, refl, Bool, true, false, cond, ◌||◌, List, [], ◌∷◌, map, length, get_or, None, Option, Some, option_map, is_some, unwrap_or}
use Rattle.std.proofs.Common.{sym, ◌∙◌, true≢false, arith}
use Rattle.text.specs.Text.{same}
use Rattle.line.specs.Field.{Named}
use Rattle.line.specs.Fields.{on_some, has, value_in, fields_of, known, listed, read_of}

-- ## The value of a name
-- a name has a value exactly where a field has it
pub has_value : (name : List ℕ) (fs : List Named) → has name fs ≡ on_some (value_in name fs) false (λ v. true)
unfolding has value_in
has_value name [] = refl
has_value name (f ∷ fs) = go (same name f.name) (has_value name fs)
  where
    go : (t : Bool) → has name fs ≡ on_some (value_in name fs) false (λ v. true) →
        (t || has name fs) ≡ on_some (cond t (Some f.value) (value_in name fs)) false (λ v. true)
    go true ih = refl
    go false ih = ih

pub absent_value : (name : List ℕ) (fs : List Named) → has name fs ≡ false → value_in name fs ≡ None
absent_value name fs e = go (value_in name fs) (sym (has_value name fs) ∙ e)
  where
    go : (o : Option ℕ) → on_some o false (λ v. true) ≡ false → o ≡ None
    go None e = refl
    go (Some v) e = absurd (true≢false cc)

pub present_value : (name : List ℕ) (fs : List Named) → has name fs ≡ true → value_in name fs ≡ Some (on_some (value_in name fs) 0 (λ v. v))
present_value name fs e = go (value_in name fs) (sym (has_value name fs) ∙ e)
  where
    go : (o : Option ℕ) → on_some o false (λ v. true) ≡ true → o ≡ Some (on_some o 0 (λ v. v))
    go None e = absurd (true≢false cc)
    go (Some v) e = refl

-- ## What a line says, by the numbers of the known names
pub get_or_map : {A B : Type 0} (f : A → B) (l : List A) (n : ℕ) (d : A) (e : B) → n < length l → get_or (map f l) n e ≡ f (get_or l n d)
get_or_map f [] n d e h = absurd (omega arith)
get_or_map f (x ∷ l) zero d e h = refl
get_or_map f (x ∷ l) (suc n) d e h = get_or_map f l n d e (omega arith)

pub read_bad : (line : List ℕ) → fields_of line ≡ None → read_of line ≡ None
unfolding read_of
read_bad line e = rw e

pub read_good : (line : List ℕ) (fs : List Named) → fields_of line ≡ Some fs → read_of line ≡ Some (listed fs)
unfolding read_of
read_good line fs e = rw e

-- a line that is read has fields
pub good_fields : (line : List ℕ) → is_some (read_of line) ≡ true → (fs : List Named) × (fields_of line ≡ Some fs)
unfolding read_of
good_fields line = go (fields_of line)
  where
    go : (o : Option (List Named)) → is_some (option_map listed o) ≡ true → (fs : List Named) × (o ≡ Some fs)
    go None e = absurd (true≢false cc)
    go (Some fs) e = (fs, refl)

module _ (line : List ℕ) (fs : List Named) (e : fields_of line ≡ Some fs) (k : ℕ) (h : k < 11) where
  -- what is read in place k is the value of the name there
  pub read_value : on_some (read_of line) None (λ f. get_or f.values k None) ≡ value_in (get_or known k []) fs
  read_value = rw (read_good line fs e) (get_or_map (λ name. value_in name fs) known k [] None h)

  pub read_given : on_some (read_of line) false (λ f. is_some (get_or f.values k None)) ≡ has (get_or known k []) fs
  read_given =
      rw (read_good line fs e, get_or_map (λ name. value_in name fs) known k [] None h, has_value (get_or known k []) fs)
      (go (value_in (get_or known k []) fs))
    where
      go : (o : Option ℕ) → is_some o ≡ on_some o false (λ v. true)
      go None = refl
      go (Some v) = refl

  -- the value of a name that is given
  pub read_present : on_some (read_of line) false (λ f. is_some (get_or f.values k None)) ≡ true →
      value_in (get_or known k []) fs ≡ Some (on_some (read_of line) 0 (λ f. unwrap_or (get_or f.values k None) 0))
  read_present g =
      present_value (get_or known k []) fs (sym read_given ∙ g) ∙
      rw (read_good line fs e, get_or_map (λ name. value_in name fs) known k [] None h) (go (value_in (get_or known k []) fs))
    where
      go : (o : Option ℕ) → Some (on_some o 0 (λ v. v)) ≡ Some (unwrap_or o 0)
      go None = refl
      go (Some v) = refl
