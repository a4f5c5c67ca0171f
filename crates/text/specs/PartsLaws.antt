-- Whether all bytes of a text have a property, by the parts of the text: as a loop tests eight at a time.
use Rattle.std.specs.Prelude.{ℕ, ◌+◌, ◌-◌, ◌≤◌, ◌<◌, ◌≡◌, Bool, ◌&&◌, length, get_or, take, drop}
use Rattle.std.proofs.Math.Path.{refl}
use Rattle.std.proofs.Common.{sym, ◌∙◌, ap, arith, take-append-drop, drop-cons, drop-drop, take-add}
use Rattle.std.proofs.Math.Bool.{true, false, cond, and-eq-true_iff}
use mathlib.Core.List.{List, [], ◌∷◌, ◌++◌}
use Rattle.text.specs.Text.{every}

pub and-false : (a : Bool) → a && false ≡ false
and-false true = refl
and-false false = refl

module _ (P : ℕ → Bool) where
  every_append : (a b : List ℕ) → every P (a ++ b) ≡ every P a && every P b
  unfolding every
  every_append [] b = refl
  every_append (x ∷ a) b = go (P x) (every_append a b)
    where
      go : (t : Bool) → every P (a ++ b) ≡ every P a && every P b → cond t (every P (a ++ b)) false ≡ cond t (every P a) false && every P b
      go true ih = ih
      go false ih = refl

  pub every_split : (k : ℕ) (s : List ℕ) → every P s ≡ every P (take k s) && every P (drop k s)
  every_split k s = ap (every P) (sym (take-append-drop k s)) ∙ every_append (take k s) (drop k s)

  pub every_take : (a b : ℕ) (s : List ℕ) → every P (take (a + b) s) ≡ every P (take a s) && every P (take b (drop a s))
  every_take a b s = rw (take-add a b s) (every_append (take a s) (take b (drop a s)))

  pub every_part : (a b : ℕ) (s : List ℕ) (i : ℕ) →
      every P (take (a + b) (drop i s)) ≡ every P (take a (drop i s)) && every P (take b (drop (i + a) s))
  every_part a b s i = rw (← drop-drop a i s) (every_take a b (drop i s))

  pub every_one : (s : List ℕ) (i : ℕ) → i < length s → every P (take 1 (drop i s)) ≡ P (get_or s i 0)
  unfolding every
  every_one s i h = rw (drop-cons s i 0 h) (go (P (get_or s i 0)))
    where
      go : (t : Bool) → cond t true false ≡ t
      go true = refl
      go false = refl

  -- a part of which some byte has it not
  pub every_not : (k : ℕ) (s : List ℕ) (i : ℕ) → every P (take k (drop i s)) ≡ false → every P s ≡ false
  every_not k s i e = every_split i s ∙ rw (every_split k (drop i s), e) (and-false (every P (take i s)))

  -- the first i bytes have it: the others decide, and any of the first with them
  pub every_last : (k : ℕ) (s : List ℕ) (i : ℕ) → every P (take i s) ≡ true → k ≤ i → every P (drop k s) ≡ every P s
  every_last k s i e h =
      let n : k + (i - k) ≡ i = omega arith in
      let first = ((and-eq-true_iff (every P (take k s)) (every P (take (i - k) (drop k s)))).0 (sym (every_take k (i - k) s) ∙ rw n e)).0 in
      sym (every_split k s ∙ rw first)

  -- two parts that meet or overlap
  pub every_both : (k : ℕ) (s : List ℕ) (i : ℕ) → k ≤ i → every P (take i s) && every P (drop k s) ≡ every P s
  every_both k s i h = go (every P (take i s)) refl
    where
      go : (t : Bool) → every P (take i s) ≡ t → t && every P (drop k s) ≡ every P s
      go true e = every_last k s i e h
      go false e = sym (every_not i s 0 e)
