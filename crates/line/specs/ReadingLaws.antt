-- Laws of how a line is read, one for each branch of the code.
use Rattle.std.specs.Prelude.{ℕ, ◌-◌, ◌≤◌, ◌≡◌, Bool, true, false, List, ◌∷◌, length, take, drop, None, Some}
use Rattle.std.proofs.Math.Path.{sym}
use Rattle.std.proofs.Common.{◌∙◌}
use Rattle.text.specs.Text.{split}
use Rattle.line.specs.declared.field.Field.{Field}
use Rattle.names.specs.Names.{comma, part_from, parts_after}
use Rattle.names.specs.PartsLaws.{parts_none, parts_first}
use Rattle.line.specs.Field.{part_at}
use Rattle.line.specs.declared.read.Fields.{Fields}
use Rattle.line.specs.Reading.{slot_of, put, seen, finish}
use Rattle.line.specs.FieldLaws.{Placed, part_bad}

-- ## What is left of a line
pub parts_placed : {line : List ℕ} {i : ℕ} {f : Field} → Placed line i f →
    split comma (drop i line) ≡ part_from line i ∷ parts_after line f.end
parts_placed {line} {i} p = rw p.whole (parts_first line i)

module _ (acc : Fields) (line : List ℕ) (i : ℕ) where
  pub finish_bad : None ≡ part_at line i → finish acc (split comma (drop i line)) ≡ None
  unfolding finish
  finish_bad e = rw (parts_first line i, part_bad line i e)

  pub finish_end : length line ≤ i → finish acc (parts_after line i) ≡ Some acc
  unfolding finish
  finish_end h = rw (parts_none line i h)

  module _ {f : Field} (p : Placed line i f) where
    abbrev name : List ℕ
    name = take (f.colon - i) (drop i line)

    pub finish_seen : {b : Bool} → b ≡ seen acc (slot_of name) name (parts_after line f.end) → b ≡ true → finish acc (split comma (drop i line)) ≡ None
    unfolding finish
    finish_seen s t = rw (parts_placed p, p.field, sym s ∙ t)

    pub finish_put : {b : Bool} → b ≡ seen acc (slot_of name) name (parts_after line f.end) → b ≡ false →
        finish acc (split comma (drop i line)) ≡ finish (put acc (slot_of name) f.value) (parts_after line f.end)
    unfolding finish
    finish_put s t = rw (parts_placed p, p.field, sym s ∙ t)
