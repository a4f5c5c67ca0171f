-- Laws of reading one field, one for each branch of `field_at`: a run of letters, a colon, a run of digits, then a comma or the end.
use Rattle.std.specs.Prelude.{ℕ, suc, ◌+◌, ◌-◌, ◌≤◌, ◌<◌, ◌≡◌, refl, Bool, true, false, cond, ◌&&◌, List, eqb, ltb, get_or, take, None, Some}
use Rattle.std.proofs.Math.Path.{sym}
use Rattle.std.proofs.Common.{◌∙◌, ap, true≢false, get_or-take, get_or-drop, drop-drop}
use Rattle.std.proofs.Math.Bool.{not, and-false}
use native.Mathlib.Omega.{arith}
use borrow.Author.Tests.{le-leb, lt-leb, eq-eqb, ne_eqb, ltb-true, ltb-false, eqb-true, not-false}
use Rattle.std.proofs.Math.ListN.{length, drop, length-drop, get_or-eq_default}
use Rattle.std.proofs.Math.Seq.{length-take-le}
use Rattle.text.specs.Text.{span, within, is_not, is_letter}
use Rattle.text.specs.Laws.{span_le, span_next, every_narrower, span_drop, drop_run, span_ends, span_goes_on}
use Rattle.numeral.specs.declared.Numeral.{Numeral}
use Rattle.numeral.specs.Var.{numeral_of}
use Rattle.numeral.specs.Hex.{digit_of, is_digit, hex_value, shaped, hex_of, hex_run_at}
use Rattle.numeral.specs.HexRunLaws.{whole, hex_of_part}
use Rattle.names.specs.Names.{comma, part_from}
use Rattle.names.specs.PartsLaws.{length_part, letters_size, letters_in}
use Rattle.line.specs.Field.{colon, valued, field_of, of_places, part_at}

-- ## Digits are no commas
digit_not_comma : (x : ℕ) → is_digit x ≡ true → is_not comma x ≡ true
unfolding digit_of
digit_not_comma x e = go (eqb x comma) refl
  where
    go : (t : Bool) → eqb x comma ≡ t → not t ≡ true
    go true q = rw (eqb-true x comma q) at e
    go false q = refl

-- ## The branches of `field_at`
-- what follows a part is no colon
after_part : (line : List ℕ) (i : ℕ) → get_or line (i + span (is_not comma) (drop i line)) 0 ≡ colon → ⊥
after_part line i e = go (ltb n (length rest)) refl
  where
    rest : List ℕ
    rest = drop i line

    n : ℕ
    n = span (is_not comma) rest

    go : (t : Bool) → ltb n (length rest) ≡ t → ⊥
    go true h =
        let next = not-false (eqb (get_or rest n 0) comma) (span_next (is_not comma) rest (ltb-true n (length rest) h)) in
        omega (arith, e, get_or-drop i line n 0, eqb-true (get_or rest n 0) comma next)
    go false h = omega (arith, e, get_or-drop i line n 0, get_or-eq_default rest 0 {n = n} (ltb-false n (length rest) h))

-- the byte after the letters is a colon of the part, or it is none
colon_in_part : (line : List ℕ) (i n : ℕ) → n ≤ span (is_not comma) (drop i line) →
    eqb (get_or (part_from line i) n 0) colon ≡ eqb (get_or line (i + n) 0) colon
colon_in_part line i n h = go (ltb n size) refl
  where
    size : ℕ
    size = span (is_not comma) (drop i line)

    go : (t : Bool) → ltb n size ≡ t → eqb (get_or (part_from line i) n 0) colon ≡ eqb (get_or line (i + n) 0) colon
    go true q = rw (get_or-take size (drop i line) n 0 (ltb-true n size q), get_or-drop i line n 0)
    go false q =
        let all : n ≡ size = omega (arith, ltb-false n size q) in
        let none_left = get_or-eq_default (part_from line i) 0 {n = n} (omega (arith, length_part line i)) in
        let no_colon : get_or line (i + n) 0 ≡ colon → ⊥ = λ s. after_part line i (rw all at s) in
        rw (none_left, ne_eqb (get_or line (i + n) 0) colon no_colon)

pub run_next : (s : List ℕ) (i : ℕ) (n : Numeral) → hex_run_at s i ≡ Some n → n.next ≡ i + span is_digit (drop i s)
unfolding hex_run_at
run_next s i n e = go (shaped run) e
  where
    run : List ℕ
    run = take (span is_digit (drop i s)) (drop i s)

    go : (t : Bool) → cond t (numeral_of (hex_value run) (i + length run)) None ≡ Some n → n.next ≡ i + span is_digit (drop i s)
    go true e = let there : n.next ≡ i + length run = cc in omega (arith, length-take-le _ (drop i s) (span_le is_digit (drop i s)))
    go false e = absurd (true≢false cc)

module _ (line : List ℕ) (i colon_at : ℕ) (e : colon_at ≡ i + span is_letter (drop i line)) where
  part_tested : field_of (part_from line i) ≡
      cond (within 1 16 (colon_at - i) && eqb (get_or line colon_at 0) colon)
      (valued (take (colon_at - i) (part_from line i)) (hex_of (drop (suc (colon_at - i)) (part_from line i))))
      None
  unfolding field_of
  part_tested =
      let place : i + (colon_at - i) ≡ colon_at = omega arith in
      rw (letters_size line i colon_at e, colon_in_part line i (colon_at - i) (letters_in line i colon_at e), place)

  pub part_unnamed : colon_at - i < 1 → part_at line i ≡ None
  unfolding part_at
  part_unnamed h = rw (part_tested, lt-leb 1 (colon_at - i) h)

  pub part_long : 16 < colon_at - i → part_at line i ≡ None
  unfolding part_at
  part_long h = rw (part_tested, le-leb 1 (colon_at - i) (omega arith), lt-leb (colon_at - i) 16 h)

  pub part_other : (get_or line colon_at 0 ≡ colon → ⊥) → part_at line i ≡ None
  unfolding part_at
  part_other f = rw (part_tested, ne_eqb (get_or line colon_at 0) colon f, and-false)

  pub part_cut : length line ≤ colon_at → part_at line i ≡ None
  part_cut h = part_other (λ s. omega (arith, s, get_or-eq_default line 0 {n = colon_at} h))

  module _ (some-letters : 1 ≤ colon_at - i) (few : colon_at - i ≤ 16) (at-colon : get_or line colon_at 0 ≡ colon) where
    colon_in : colon_at - i < span (is_not comma) (drop i line)
    colon_in = go (ltb (colon_at - i) (span (is_not comma) (drop i line))) refl
      where
        go : (t : Bool) → ltb (colon_at - i) (span (is_not comma) (drop i line)) ≡ t → colon_at - i < span (is_not comma) (drop i line)
        go true h = ltb-true (colon_at - i) (span (is_not comma) (drop i line)) h
        go false h =
            let all = ltb-false (colon_at - i) (span (is_not comma) (drop i line)) h in
            let place : colon_at ≡ i + span (is_not comma) (drop i line) = omega (arith, letters_in line i colon_at e) in
            absurd (after_part line i (rw place at at-colon))

    digits_part : drop (suc (colon_at - i)) (part_from line i) ≡ part_from line (colon_at + 1)
    digits_part =
        let place : i + suc (colon_at - i) ≡ colon_at + 1 = omega arith in
        drop_run (is_not comma) (suc (colon_at - i)) (drop i line) colon_in ∙ rw (drop-drop (suc (colon_at - i)) i line, place)

    part_whole : field_of (part_from line i) ≡
        valued (take (colon_at - i) (part_from line i))
        (whole (colon_at + 1 + span (is_not comma) (drop (colon_at + 1) line)) (hex_run_at line (colon_at + 1)))
    part_whole =
        let rest = drop (colon_at + 1) line in
        let number =
        hex_of_part line (colon_at + 1) (span (is_not comma) rest)
        (every_narrower is_digit (is_not comma) digit_not_comma rest) in
        rw (
          part_tested,
          le-leb 1 (colon_at - i) some-letters,
          le-leb (colon_at - i) 16 few,
          eq-eqb (get_or line colon_at 0) colon at-colon,
          digits_part,
          number,
        )

    part_end : i + length (part_from line i) ≡ colon_at + 1 + span (is_not comma) (drop (colon_at + 1) line)
    part_end =
        let place : i + suc (colon_at - i) ≡ colon_at + 1 = omega arith in
        let more = span_drop (is_not comma) (suc (colon_at - i)) (drop i line) colon_in in
        let there = rw (drop-drop (suc (colon_at - i)) i line, place) at more in
        omega (arith, length_part line i)

    pub part_numberless : hex_run_at line (colon_at + 1) ≡ None → part_at line i ≡ None
    unfolding part_at
    part_numberless q = rw (part_whole, q)

    module _ (n : Numeral) (q : hex_run_at line (colon_at + 1) ≡ Some n) where
      next_byte : get_or (drop (colon_at + 1) line) (span is_digit (drop (colon_at + 1) line)) 0 ≡ get_or line n.next 0
      next_byte =
          let place = run_next line (colon_at + 1) n q in
          get_or-drop (colon_at + 1) line (span is_digit (drop (colon_at + 1) line)) 0 ∙ ap (λ (k : ℕ). get_or line k 0) (sym place)

      pub part_followed : n.next < length line → (get_or line n.next 0 ≡ comma → ⊥) → part_at line i ≡ None
      unfolding part_at
      part_followed h f =
          let rest = drop (colon_at + 1) line in
          let place = run_next line (colon_at + 1) n q in
          let more =
          span_goes_on is_digit (is_not comma) digit_not_comma rest (omega (arith, length-drop (colon_at + 1) line))
          (rw next_byte (ap not (ne_eqb (get_or line n.next 0) comma f))) in
          let other : n.next ≡ colon_at + 1 + span (is_not comma) rest → ⊥ = λ s. more (omega arith) in
          rw (part_whole, q, ne_eqb n.next (colon_at + 1 + span (is_not comma) rest) other)

      pub part_ends : (n.next < length line → get_or line n.next 0 ≡ comma) → part_at line i ≡ of_places colon_at n.value n.next
      unfolding part_at
      part_ends f =
          let rest = drop (colon_at + 1) line in
          let place = run_next line (colon_at + 1) n q in
          let ends =
          span_ends is_digit (is_not comma) digit_not_comma rest
          (λ h. rw next_byte (ap not (eq-eqb (get_or line n.next 0) comma (f (omega (arith, length-drop (colon_at + 1) line)))))) in
          let all : n.next ≡ colon_at + 1 + span (is_not comma) rest = omega arith in
          let name : i + length (take (colon_at - i) (part_from line i)) ≡ colon_at =
          omega (arith, length-take-le (colon_at - i) (part_from line i) (omega (arith, letters_in line i colon_at e, length_part line i))) in
          let end : i + length (part_from line i) ≡ n.next = part_end ∙ sym all in
          rw (part_whole, q, eq-eqb n.next (colon_at + 1 + span (is_not comma) rest) all, name, end)
