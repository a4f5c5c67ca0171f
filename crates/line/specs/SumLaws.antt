-- Laws of the sum in the last field, one for each branch of the code.
use Prim.Native.Nat.{ℕ, suc, ◌+◌, ◌-◌, ◌≤◌, ◌<◌}
use Rattle.std.specs.Prelude.{◌≡◌, true, false, not, List, eqb, length, get_or, take, drop, Some, None}
use Rattle.std.proofs.Common.{sym, ◌∙◌, eq-eqb, ne_eqb, eqb-true}
use Rattle.std.proofs.Math.Path.{ap}
use Rattle.std.proofs.Math.Numerals.{add-one}
use native.Mathlib.Omega.{arith}
use Rattle.std.proofs.Math.Seq.{take-length}
use Rattle.text.specs.Text.{span, every, is_not, same}
use Rattle.text.specs.Laws.{every_span, every_on}
use Rattle.fletcher.specs.declared.Edition.{Edition}
use Rattle.fletcher.specs.Fletcher.{fletcher_of}
use Rattle.line.specs.declared.field.Field.{Field}
use Rattle.names.specs.Names.{comma, part_from}
use Rattle.line.specs.Field.{part_at}
use Rattle.line.specs.Fields.{name_fletcher, last_comma, right_sum}
use Rattle.line.specs.Reading.{ends_right}
use Rattle.line.specs.FieldLaws.{Placed, part_bad}

-- ## The last comma, looked for from the end
module _ (line : List ℕ) (n : ℕ) where
  pub last_here : 0 < n → get_or line (n - 1) 0 ≡ comma → last_comma n line ≡ Some (n - 1)
  unfolding last_comma
  last_here h e = let k : n ≡ suc (n - 1) = omega arith in ap (λ (m : ℕ). last_comma m line) k ∙ rw (eq-eqb (get_or line (n - 1) 0) comma e)

  pub last_on : 0 < n → (get_or line (n - 1) 0 ≡ comma → ⊥) → last_comma n line ≡ last_comma (n - 1) line
  unfolding last_comma
  last_on h f = let k : n ≡ suc (n - 1) = omega arith in ap (λ (m : ℕ). last_comma m line) k ∙ rw (ne_eqb (get_or line (n - 1) 0) comma f)

  -- no comma follows
  pub alone_on : 0 < n → n ≤ length line → (get_or line (n - 1) 0 ≡ comma → ⊥) → every (is_not comma) (drop n line) ≡ true →
      every (is_not comma) (drop (n - 1) line) ≡ true
  alone_on h l f e =
      let k : n - 1 + 1 ≡ n = omega arith in
      every_on (is_not comma) line (n - 1) (omega arith) (ap not (ne_eqb (get_or line (n - 1) 0) comma f)) ∙ rw k e

  pub right_at : (edition : Edition) → last_comma (length line) line ≡ Some n → right_sum edition line ≡ ends_right edition line n
  unfolding right_sum ends_right
  right_at edition e = rw e

pub right_none : (edition : Edition) (line : List ℕ) → last_comma 0 line ≡ last_comma (length line) line → right_sum edition line ≡ false
unfolding right_sum last_comma
right_none edition line e = rw (← e)

-- ## The field after it
module _ (edition : Edition) (line : List ℕ) (n : ℕ) (alone : every (is_not comma) (drop (n + 1) line) ≡ true) where
  last_part : part_from line (n + 1) ≡ drop (n + 1) line
  last_part =
      let rest = drop (n + 1) line in
      let all = eqb-true (span (is_not comma) rest) (length rest) (sym (every_span (is_not comma) rest) ∙ alone) in
      rw (all, take-length rest)

  pub ends_bad : None ≡ part_at line (n + 1) → ends_right edition line n ≡ false
  unfolding ends_right
  ends_bad e = rw (← add-one n, ← last_part, part_bad line (n + 1) e)

  module _ {f : Field} (p : Placed line (n + 1) f) where
    pub ends_other : same name_fletcher (take (f.colon - (n + 1)) (drop (n + 1) line)) ≡ false → ends_right edition line n ≡ false
    unfolding ends_right
    ends_other e = rw (← add-one n, ← last_part, p.field, e)

    pub ends_sum : same name_fletcher (take (f.colon - (n + 1)) (drop (n + 1) line)) ≡ true →
        ends_right edition line n ≡ eqb f.value (fletcher_of edition (take n line))
    unfolding ends_right
    ends_sum e = rw (← add-one n, ← last_part, p.field, e)
