-- What a reading says of a name is what its line's field of that name says.
use Rattle.std.specs.Prelude.{ℕ, ◌<◌, ◌≡◌, refl, true, false, List, length, take, None, Option, Some, is_some, unwrap_or, option_map}
use Rattle.std.proofs.Common.{sym, ◌∙◌, ap, true≢false}
use Rattle.line.specs.Line.{line_at}
use Rattle.line.specs.Field.{Named}
use Rattle.line.specs.Fields.{on_some, has, value_in, fields_of, known, read_of}
use Rattle.line.specs.Reading.{slot_of, value_of}
use Rattle.line.specs.declared.read.Fields.{Fields}
use Rattle.line.specs.FieldsLaws.{read_bad, read_value, has_value}
use Rattle.line.specs.SlotLaws.{slot_name}
use Rattle.chunk.specs.declared.image.Reading.{Reading}
use Rattle.chunk.specs.Image.{plain, reading_of, said, gives, value}

-- a name of the list `known`
abbrev pub Known : List ℕ → Type 0
Known name = slot_of name < length known

-- the reading has the name exactly where the line is good and one of its fields has it, and the value is that field's value
pub record Tells (r : Option Reading) (line name : List ℕ) : Type 0 where
  pub told : said r name ≡ on_some (fields_of line) None (value_in name)
  pub given : gives r name ≡ on_some (fields_of line) false (has name)
  pub valued : gives r name ≡ true → on_some (fields_of line) None (value_in name) ≡ Some (value r name)

-- every known name, of every line: the first n bytes of an area
module _ (area : List ℕ) (n newline : ℕ) (name : List ℕ) (k : Known name) where
  abbrev line : List ℕ
  line = take n area

  abbrev reading : Option Reading
  reading = plain area (line_at n newline)

  told : said reading name ≡ on_some (fields_of line) None (value_in name)
  told = of_fields (read_of line) ∙ go (fields_of line) refl
    where
      of_fields : (o : Option Fields) → said (option_map (reading_of newline) o) name ≡ on_some o None (λ f. value_of f name)
      of_fields None = refl
      of_fields (Some f) = refl

      go : (o : Option (List Named)) → fields_of line ≡ o → on_some (read_of line) None (λ f. value_of f name) ≡ on_some o None (value_in name)
      go None e = rw (read_bad line e)
      go (Some fs) e = read_value line fs e (slot_of name) k ∙ ap (λ (s : List ℕ). value_in s fs) (slot_name name k)

  given : (o : Option (List Named)) → on_some o false (has name) ≡ is_some (on_some o None (value_in name))
  given None = refl
  given (Some fs) = has_value name fs ∙ some (value_in name fs)
    where
      some : (v : Option ℕ) → on_some v false (λ v. true) ≡ is_some v
      some None = refl
      some (Some v) = refl

  valued : (o : Option ℕ) → is_some o ≡ true → o ≡ Some (unwrap_or o 0)
  valued None e = absurd (true≢false (sym e))
  valued (Some v) e = refl

  pub plain_tells : Tells reading line name
  plain_tells =
      record {
        told = told;
        given = ap is_some told ∙ sym (given (fields_of line));
        valued = λ e. sym told ∙ valued (said reading name) e;
      }
