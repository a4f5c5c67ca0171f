-- Laws of the line of an area.
use Rattle.std.specs.Prelude.{ℕ, zero, suc, ◌-◌, ◌≤◌, ◌<◌, ◌≡◌, refl, Bool, true, false, cond, List, eqb, ltb, length, get_or, Some, None}
use Rattle.std.proofs.Common.{true≢false, arith, ltb-true, eq-eqb, ne_eqb}
use Rattle.text.specs.Text.{span, is_not}
use Rattle.line.specs.declared.Line.{Line}
use Rattle.line.specs.Line.{trimmed, line_at, line_of}

-- ## One for each branch of the loop that trims
pub trimmed_space : (n : ℕ) (s : List ℕ) → 0 < n → get_or s (n - 1) 0 ≡ 32 → trimmed n s ≡ trimmed (n - 1) s
unfolding trimmed
trimmed_space zero s h e = absurd (omega arith)
trimmed_space (suc n) s h e = let k : suc n - 1 ≡ n = omega arith in rw (k, eq-eqb (get_or s n 0) 32 (rw k at e))

pub trimmed_other : (n : ℕ) (s : List ℕ) → 0 < n → (get_or s (n - 1) 0 ≡ 32 → ⊥) → trimmed n s ≡ n
unfolding trimmed
trimmed_other zero s h f = absurd (omega arith)
trimmed_other (suc n) s h f = let k : suc n - 1 ≡ n = omega arith in rw (ne_eqb (get_or s n 0) 32 (rw k at f))

pub trimmed_none : (s : List ℕ) → trimmed 0 s ≡ 0
unfolding trimmed
trimmed_none s = refl

-- ## A line and its newline stand in the area
trimmed_le : (n : ℕ) (s : List ℕ) → trimmed n s ≤ n
unfolding trimmed
trimmed_le zero s = omega arith
trimmed_le (suc n) s = go (eqb (get_or s n 0) 32) (trimmed_le n s)
  where
    go : (t : Bool) → trimmed n s ≤ n → cond t (trimmed n s) (suc n) ≤ suc n
    go true h = omega arith
    go false h = omega arith

pub record Inside (area : List ℕ) (len newline : ℕ) : Type 0 where
  pub before : len ≤ newline
  pub inside : newline < length area

pub line_inside : (area : List ℕ) (l : Line) → line_of area ≡ Some l → Inside area l.len l.newline
unfolding line_of
line_inside area l e = go (ltb (span (is_not 10) area) (length area)) refl e
  where
    go : (t : Bool) → ltb (span (is_not 10) area) (length area) ≡ t →
        cond t (line_at (trimmed (span (is_not 10) area) area) (span (is_not 10) area)) None ≡ Some l → Inside area l.len l.newline
    go true h e =
        let size : trimmed (span (is_not 10) area) area ≡ l.len = cc in
        let place : span (is_not 10) area ≡ l.newline = cc in
        record {
          before = omega (arith, trimmed_le (span (is_not 10) area) area);
          inside = omega (arith, ltb-true (span (is_not 10) area) (length area) h);
        }
    go false h e = absurd (true≢false cc)
