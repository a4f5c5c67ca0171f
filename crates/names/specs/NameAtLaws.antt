-- Laws of the letters at a place, one for each branch of `named_at`.
use Rattle.std.specs.Prelude.{ℕ, zero, suc, ◌+◌, ◌-◌, ◌≤◌, ◌<◌, ◌≡◌, refl, Bool, true, false, cond, List, [], ◌∷◌, eqb, length, take, drop}
use Rattle.std.proofs.Common.{sym, ◌∙◌, ap, true≢false, arith, eqb-true, length-drop, drop-drop}
use Rattle.std.proofs.lemmas.Bool.{eqb-false}
use Rattle.text.specs.Text.{span, every, is_letter, same}
use Rattle.text.specs.Laws.{span_le, span_end, span_drop, same_self, same_eq, same_unlike}
use Rattle.names.specs.Names.{name_of}
use Rattle.names.specs.Tree.{name_at}
use Rattle.names.specs.PartsLaws.{length_name}

no_bytes : (s : List ℕ) → length s ≡ 0 → s ≡ []
no_bytes [] e = refl
no_bytes (x ∷ s) e = absurd (omega arith)

every_take : (n : ℕ) (s : List ℕ) → n ≤ length s → every is_letter (take n s) ≡ true → n ≤ span is_letter s
unfolding span every
every_take zero s h e = omega arith
every_take (suc n) [] h e = absurd (omega arith)
every_take (suc n) (x ∷ s) h e = go (is_letter x) e (every_take n s (omega arith))
  where
    go : (t : Bool) → cond t (every is_letter (take n s)) false ≡ true → (every is_letter (take n s) ≡ true → n ≤ span is_letter s) →
        suc n ≤ cond t (suc (span is_letter s)) 0
    go true e ih = omega (arith, ih e)
    go false e ih = absurd (true≢false cc)

name_size : (line : List ℕ) (from : ℕ) → length (name_at line from) ≡ span is_letter (drop from line)
unfolding name_at
name_size line from = length_name (drop from line)

name_cut : (line : List ℕ) (from n : ℕ) → span is_letter (drop from line) ≡ n → name_at line from ≡ take n (drop from line)
unfolding name_at name_of
name_cut line from n e = rw e

module _ (line : List ℕ) (from : ℕ) (name : List ℕ) (to : ℕ) (e : to ≡ from + length name) where
  pub named_past : length line < to → eqb (length name) 0 ≡ same (name_at line from) name
  named_past h = go (eqb (length name) 0) refl
    where
      go : (t : Bool) → eqb (length name) 0 ≡ t → t ≡ same (name_at line from) name
      go true q =
          let none = eqb-true (length name) 0 q in
          let size = name_size line from ∙ span_end is_letter line from (omega arith) in
          rw (no_bytes (name_at line from) size, no_bytes name none) (sym (same_self []))
      go false q =
          let some = eqb-false (length name) 0 q in
          let few : length (name_at line from) ≡ length name → length name ≡ 0 =
          λ z. omega (arith, name_size line from, span_le is_letter (drop from line), length-drop from line) in
          sym (same_unlike (name_at line from) name (λ z. some (few z)))

  module _ (inside : to ≤ length line) where
    pub named_other : same (take (to - from) (drop from line)) name ≡ false → false ≡ same (name_at line from) name
    named_other q = go (same (name_at line from) name) refl
      where
        go : (t : Bool) → same (name_at line from) name ≡ t → false ≡ t
        go true w =
            let these = same_eq (name_at line from) name w in
            let size : span is_letter (drop from line) ≡ to - from = omega (arith, name_size line from, ap length these) in
            let cut : take (to - from) (drop from line) ≡ name = sym (name_cut line from (to - from) size) ∙ these in
            sym (rw cut at q) ∙ same_self name
        go false w = refl

    -- after the same bytes no letter stands, or one does
    pub named_here : every is_letter name ≡ true → same (take (to - from) (drop from line)) name ≡ true →
        (end : ℕ) → end ≡ to + span is_letter (drop to line) → eqb end to ≡ same (name_at line from) name
    named_here letters q end f = go (eqb end to) refl
      where
        cut : take (to - from) (drop from line) ≡ name
        cut = same_eq (take (to - from) (drop from line)) name q

        size : span is_letter (drop from line) ≡ to - from + span is_letter (drop to line)
        size =
            let most : to - from ≤ span is_letter (drop from line) =
            every_take (to - from) (drop from line) (omega (arith, length-drop from line)) (rw cut letters) in
            let place : from + (to - from) ≡ to = omega arith in
            rw (drop-drop (to - from) from line, place) at (span_drop is_letter (to - from) (drop from line) most)

        go : (t : Bool) → eqb end to ≡ t → t ≡ same (name_at line from) name
        go true w =
            let none = eqb-true end to w in
            let all : span is_letter (drop from line) ≡ to - from = omega (arith, size) in
            rw (name_cut line from (to - from) all, cut) (sym (same_self name))
        go false w =
            let some = eqb-false end to w in
            let longer : length (name_at line from) ≡ length name → end ≡ to = λ z. omega (arith, name_size line from, size) in
            sym (same_unlike (name_at line from) name (λ z. some (longer z)))

pub name_found : (line : List ℕ) (i to : ℕ) → to ≡ i + span is_letter (drop i line) → name_at line i ≡ take (to - i) (drop i line)
name_found line i to e = name_cut line i (to - i) (omega arith)
