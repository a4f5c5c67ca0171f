-- Laws of the parts of a line and of the letters that they begin with.
use Rattle.std.specs.Prelude.{ℕ, suc, ◌+◌, ◌-◌, ◌≤◌, ◌<◌, ◌≡◌, Bool, true, false, not, ◌||◌, List, [], ◌∷◌, ◌⊎◌, eqb, length, take, drop}
use Rattle.std.proofs.Math.Path.{refl}
use Rattle.std.proofs.Common.{◌∙◌, inl, inr, arith, add-one, eq-or-lt_of_le, lt-ltb, le-ltb, eqb-true, length-drop, length-take-le, take-take, drop-drop}
use Rattle.std.proofs.Math.Seq.{take-length}
use Rattle.text.specs.Text.{span, every, is_not, is_letter, same, split}
use Rattle.text.specs.Laws.{span_le, span_narrower, span_drop, span_run, every_run, split_last, split_more}
use Rattle.names.specs.Names.{comma, part_from, parts_after, name_of, named_in}

-- ## The parts of a line
pub length_part : (line : List ℕ) (i : ℕ) → length (part_from line i) ≡ span (is_not comma) (drop i line)
length_part line i = length-take-le _ (drop i line) (span_le (is_not comma) (drop i line))

pub parts_more : (line : List ℕ) (at : ℕ) → at < length line → parts_after line at ≡ split comma (drop (at + 1) line)
unfolding parts_after
parts_more line at h = rw (lt-ltb at (length line) h, add-one at)

pub parts_none : (line : List ℕ) (at : ℕ) → length line ≤ at → parts_after line at ≡ []
unfolding parts_after
parts_none line at h = rw (le-ltb at (length line) h)

-- the part at i, and those after it
pub parts_first : (line : List ℕ) (i : ℕ) →
    split comma (drop i line) ≡ part_from line i ∷ parts_after line (i + length (part_from line i))
parts_first line i = rw (length_part line i) (go (eq-or-lt_of_le (span_le (is_not comma) rest)))
  where
    rest : List ℕ
    rest = drop i line

    n : ℕ
    n = span (is_not comma) rest

    go : (n ≡ length rest) ⊎ (n < length rest) → split comma rest ≡ take n rest ∷ parts_after line (i + n)
    go (inl e) = rw (parts_none line (i + n) (omega (arith, length-drop i line)), e, take-length rest) (split_last comma rest e)
    go (inr h) =
        let k : i + n + 1 ≡ i + suc n = omega arith in
        rw (parts_more line (i + n) (omega (arith, length-drop i line)), k, ← drop-drop (suc n) i line) (split_more comma rest h)

-- ## The letters that a part begins with
pub length_name : (s : List ℕ) → length (name_of s) ≡ span is_letter s
unfolding name_of
length_name s = length-take-le (span is_letter s) s (span_le is_letter s)

letter_not_comma : (x : ℕ) → is_letter x ≡ true → is_not comma x ≡ true
letter_not_comma x e = go (eqb x comma) refl
  where
    go : (t : Bool) → eqb x comma ≡ t → not t ≡ true
    go true q = rw (eqb-true x comma q) at e
    go false q = refl

module _ (line : List ℕ) (i to : ℕ) (e : to ≡ i + span is_letter (drop i line)) where
  pub letters_size : span is_letter (part_from line i) ≡ to - i
  letters_size = span_run is_letter (is_not comma) letter_not_comma (drop i line) ∙ omega arith

  pub letters_in : to - i ≤ span (is_not comma) (drop i line)
  letters_in = omega (arith, span_narrower is_letter (is_not comma) letter_not_comma (drop i line))

  pub letters_part : name_of (part_from line i) ≡ take (to - i) (drop i line)
  unfolding name_of
  letters_part = rw letters_size (take-take (to - i) (span (is_not comma) (drop i line)) (drop i line) letters_in)

  pub letters_rest : i + length (part_from line i) ≡ to + span (is_not comma) (drop to line)
  letters_rest =
      let place : i + (to - i) ≡ to = omega arith in
      let more = span_drop (is_not comma) (to - i) (drop i line) letters_in in
      let there = rw (drop-drop (to - i) i line, place) at more in
      omega (arith, length_part line i)

  pub letters_every : every is_letter (take (to - i) (drop i line)) ≡ true
  letters_every =
      let size : to - i ≡ span is_letter (drop i line) = omega arith in
      rw size (every_run is_letter (drop i line))

  pub letters_inside : i ≤ length line → to ≤ length line
  letters_inside h = omega (arith, span_le is_letter (drop i line), length-drop i line)

  module _ {end : ℕ} (f : end ≡ to + span (is_not comma) (drop to line)) where
    pub parts_here : split comma (drop i line) ≡ part_from line i ∷ parts_after line end
    parts_here = rw (f, ← letters_rest) (parts_first line i)

    pub part_inside : i ≤ length line → end ≤ length line
    part_inside h = let low = letters_inside h in omega (arith, span_le (is_not comma) (drop to line), length-drop to line)

-- ## Whether a name comes later, one for each branch of `named_later`
module _ (line name : List ℕ) (at : ℕ) where
  pub named_none : length line ≤ at → named_in name (parts_after line at) ≡ false
  unfolding named_in
  named_none h = rw (parts_none line at h)

  module _ (h : at < length line) (to : ℕ) (e : to ≡ at + 1 + span is_letter (drop (at + 1) line)) where
    named_first : named_in name (parts_after line at) ≡
        (same name (take (to - (at + 1)) (drop (at + 1) line)) || named_in name (parts_after line (to + span (is_not comma) (drop to line))))
    unfolding named_in
    named_first = rw (parts_more line at h, parts_here line (at + 1) to e refl, letters_part line (at + 1) to e)

    pub named_here : same name (take (to - (at + 1)) (drop (at + 1) line)) ≡ true → named_in name (parts_after line at) ≡ true
    named_here q = rw (named_first, q)

    pub named_on : {end : ℕ} → end ≡ to + span (is_not comma) (drop to line) →
        same name (take (to - (at + 1)) (drop (at + 1) line)) ≡ false →
        named_in name (parts_after line at) ≡ named_in name (parts_after line end)
    named_on f q = rw (named_first, q, f)
