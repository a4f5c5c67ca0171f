-- Laws of the keys as they are built: a prefix, a text after it, and zeros.
use Rattle.std.specs.Prelude.{ℕ, zero, suc, ◌+◌, ◌-◌, ◌≤◌, ◌≡◌, refl, List, ◌++◌, length, take, drop, replicate}
use Rattle.std.proofs.Common.{sym, ap, ◌∙◌, zero-add, arith, length-append, take_at, drop-drop}
use Rattle.std.proofs.Math.Seq.{paste, take-length}
use Rattle.std.proofs.lemmas.List.Edits.{take-paste, drop-paste}
use Rattle.metadata.specs.Keys.{padded}

drop_replicate : (k n : ℕ) → drop k (replicate {A = ℕ} n 0) ≡ replicate (n - k) 0
drop_replicate zero n = let e : n - 0 ≡ n = omega arith in rw e
drop_replicate (suc k) zero = let e : 0 - suc k ≡ 0 = omega arith in rw e
drop_replicate (suc k) (suc n) = let e : suc n - suc k ≡ n - k = omega arith in rw e (drop_replicate k n)

pub padded_text : (n : ℕ) (s : List ℕ) → take (length s) (padded n s) ≡ s
padded_text n s = take_at s (replicate (n - length s) 0) (length s) refl

pub padded_inside : (n : ℕ) (s : List ℕ) → length s ≤ length (padded n s)
padded_inside n s = omega (arith, length-append s (replicate (n - length s) 0))

-- a prefix p and a text s, written into n zeros one after the other
module _ (n : ℕ) (p s : List ℕ) (fits : length p + length s ≤ n) where
  abbrev begun : List ℕ
  begun = paste (replicate n 0) 0 p (length p)

  begun_text : take (length p) begun ≡ p
  begun_text =
      ap (λ (k : ℕ). take k begun) (sym (zero-add (length p))) ∙
      take-paste (replicate n 0) 0 p (length p) (omega arith) (omega arith) ∙ take-length p

  begun_rest : drop (length p) begun ≡ drop (length p) (replicate n 0)
  begun_rest =
      ap (λ (k : ℕ). drop k begun) (sym (zero-add (length p))) ∙
      drop-paste (replicate n 0) 0 p (length p) (omega arith) (omega arith) ∙ ap (λ (k : ℕ). drop k (replicate n 0)) (zero-add (length p))

  rest : drop (length p + length s) begun ≡ replicate (n - length (p ++ s)) 0
  rest =
      sym (drop-drop (length s) (length p) begun) ∙ ap (drop (length s)) begun_rest ∙ drop-drop (length s) (length p) (replicate n 0) ∙
      drop_replicate (length p + length s) n ∙ ap (λ (k : ℕ). replicate (n - k) 0) (sym (length-append p s))

  pub key_built : paste (paste (replicate n 0) 0 p (length p)) (length p) s (length s) ≡ padded n (p ++ s)
  key_built = rw (begun_text, take-length s, rest)
