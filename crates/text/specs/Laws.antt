-- Laws of runs of bytes.
use Prim.Native.Nat.{ℕ, zero, suc, ◌+◌, ◌-◌, ◌<◌, ◌≤◌}
use Rattle.std.specs.Prelude.{◌≡◌, Bool, not, ◌&&◌, ltb, leb, get_or}
use Rattle.std.proofs.Math.Path.{refl, sym}
use Rattle.std.proofs.Common.{◌∙◌, ap, add-one, length-take, length-drop, take_all}
use Rattle.std.proofs.Math.Bool.{true, false, cond, true≢false}
use mathlib.Core.List.{List, [], ◌∷◌}
use native.Mathlib.Omega.{arith}
use borrow.Author.Tests.{ltb-true, ltb-false, leb-true, le-leb, eq-eqb, ne_eqb, eqb-true}
use Rattle.std.proofs.Math.Dec.{eqb, eqb-suc-suc, eqb-zero-suc}
use Rattle.std.proofs.Math.ListN.{length, take, drop, drop_of_length-le}
use Rattle.std.proofs.Math.Seq.{drop-cons, take-nil}
use Rattle.std.specs.List.{list_all}
use Rattle.std.specs.Cmp.Lexicographic.{pointwise}
use Rattle.text.specs.Text.{bytes_at, span, every, within, is_not, same, split, to_first}

-- ## The bytes at a place
module _ (s : List ℕ) (i n : ℕ) where
  pub bytes_past : length s ≤ i → bytes_at s (length s) (length s - length s) ≡ bytes_at s i n
  bytes_past h =
      let end : length s ≤ length s = omega arith in
      rw (drop_of_length-le s h, drop_of_length-le s end) (take-nil (length s - length s) ∙ sym (take-nil n))

  pub bytes_last : length s - i ≤ n → bytes_at s i (length s - i) ≡ bytes_at s i n
  bytes_last h =
      take_all (length s - i) (drop i s) (rw (length-drop i s) (omega arith)) ∙ sym (take_all n (drop i s) (rw (length-drop i s) (omega arith)))

  pub bytes_length : length (bytes_at s i n) ≤ n
  bytes_length = rw (length-take n (drop i s)) (omega arith)

-- ## A run from an index on, as a loop goes through it
module _ (P : ℕ → Bool) (s : List ℕ) (i : ℕ) where
  pub span_on : i < length s → P (get_or s i 0) ≡ true → span P (drop i s) ≡ suc (span P (drop (i + 1) s))
  unfolding span
  span_on h e = rw (drop-cons s i 0 h, e, add-one)

  pub span_stop : i < length s → P (get_or s i 0) ≡ false → span P (drop i s) ≡ 0
  unfolding span
  span_stop h e = rw (drop-cons s i 0 h, e)

  pub span_end : length s ≤ i → span P (drop i s) ≡ 0
  unfolding span
  span_end h = rw (drop_of_length-le s h)

  pub every_on : i < length s → P (get_or s i 0) ≡ true → every P (drop i s) ≡ every P (drop (i + 1) s)
  unfolding every
  every_on h e = rw (drop-cons s i 0 h, e, add-one)

  pub every_stop : i < length s → P (get_or s i 0) ≡ false → every P (drop i s) ≡ false
  unfolding every
  every_stop h e = rw (drop-cons s i 0 h, e)

  pub every_end : length s ≤ i → every P (drop i s) ≡ true
  unfolding every
  every_end h = rw (drop_of_length-le s h)

-- ## A run and its text
module _ (P : ℕ → Bool) where
  pub span_le : (s : List ℕ) → span P s ≤ length s
  unfolding span
  span_le [] = omega arith
  span_le (x ∷ s) = go (P x) (span_le s)
    where
      go : (t : Bool) → span P s ≤ length s → cond t (suc (span P s)) 0 ≤ suc (length s)
      go true h = omega arith
      go false h = omega arith

  pub every_first : (x : ℕ) (s : List ℕ) → every P (x ∷ s) ≡ true → (P x ≡ true) × (every P s ≡ true)
  unfolding every
  every_first x s h = go (P x) h
    where
      go : (t : Bool) → cond t (every P s) false ≡ true → (t ≡ true) × (every P s ≡ true)
      go true h = (refl, h)
      go false h = absurd (true≢false cc)

  -- all bytes have the property exactly where the run is the whole text
  pub every_span : (s : List ℕ) → every P s ≡ eqb (span P s) (length s)
  unfolding span every
  every_span [] = refl
  every_span (x ∷ s) = go (P x) (every_span s)
    where
      go : (t : Bool) → every P s ≡ eqb (span P s) (length s) → cond t (every P s) false ≡ eqb (cond t (suc (span P s)) 0) (suc (length s))
      go true ih = ih ∙ sym (eqb-suc-suc (span P s) (length s))
      go false ih = sym (eqb-zero-suc (length s))

  -- the bytes of the run have it
  pub every_run : (s : List ℕ) → every P (take (span P s) s) ≡ true
  unfolding span every
  every_run [] = refl
  every_run (x ∷ s) = go (P x) refl (every_run s)
    where
      go : (t : Bool) → P x ≡ t → every P (take (span P s) s) ≡ true → every P (take (cond t (suc (span P s)) 0) (x ∷ s)) ≡ true
      go true e ih = rw e ih
      go false e ih = refl

  -- what follows the run, if anything, has it not
  pub span_next : (s : List ℕ) → span P s < length s → P (get_or s (span P s) 0) ≡ false
  unfolding span
  span_next [] h = absurd (omega arith)
  span_next (x ∷ s) h = go (P x) refl (span_next s) h
    where
      go : (t : Bool) → P x ≡ t → (span P s < length s → P (get_or s (span P s) 0) ≡ false) →
          cond t (suc (span P s)) 0 < suc (length s) → P (get_or (x ∷ s) (cond t (suc (span P s)) 0) 0) ≡ false
      go true e ih h = ih (omega arith)
      go false e ih h = e

-- ## The run of a narrower class: letters before a colon, digits before a comma
module _ (P Q : ℕ → Bool) (narrower : (x : ℕ) → P x ≡ true → Q x ≡ true) where
  pub span_narrower : (s : List ℕ) → span P s ≤ span Q s
  unfolding span
  span_narrower [] = omega arith
  span_narrower (x ∷ s) = go (P x) refl (Q x) refl (span_narrower s)
    where
      go : (t : Bool) → P x ≡ t → (u : Bool) → Q x ≡ u → span P s ≤ span Q s → cond t (suc (span P s)) 0 ≤ cond u (suc (span Q s)) 0
      go true e true f h = omega arith
      go true e false f h = absurd (let g = narrower x e in true≢false cc)
      go false e u f h = omega arith

  -- the wider run has the narrower property throughout exactly where the two runs are equal
  pub every_narrower : (s : List ℕ) → every P (take (span Q s) s) ≡ eqb (span P s) (span Q s)
  unfolding span every
  every_narrower [] = refl
  every_narrower (x ∷ s) = go (P x) refl (Q x) refl (every_narrower s)
    where
      go : (t : Bool) → P x ≡ t → (u : Bool) → Q x ≡ u → every P (take (span Q s) s) ≡ eqb (span P s) (span Q s) →
          every P (take (cond u (suc (span Q s)) 0) (x ∷ s)) ≡ eqb (cond t (suc (span P s)) 0) (cond u (suc (span Q s)) 0)
      go true e true f ih = rw e (ih ∙ sym (eqb-suc-suc (span P s) (span Q s)))
      go true e false f ih = absurd (let g = narrower x e in true≢false cc)
      go false e true f ih = rw e (sym (eqb-zero-suc (span Q s)))
      go false e false f ih = refl

-- ## Parts between separators
-- the last part
pub split_last : (b : ℕ) (s : List ℕ) → span (is_not b) s ≡ length s → split b s ≡ s ∷ []
unfolding span split
split_last b [] h = refl
split_last b (x ∷ s) h = go (eqb x b) refl (split_last b s) h
  where
    go : (t : Bool) → eqb x b ≡ t → (span (is_not b) s ≡ length s → split b s ≡ s ∷ []) →
        cond (not t) (suc (span (is_not b) s)) 0 ≡ suc (length s) → cond t ([] ∷ split b s) (to_first x (split b s)) ≡ (x ∷ s) ∷ []
    go true e ih h = absurd (omega arith)
    go false e ih h = rw (ih (omega arith))

-- a part that others follow
pub split_more : (b : ℕ) (s : List ℕ) → span (is_not b) s < length s →
    split b s ≡ take (span (is_not b) s) s ∷ split b (drop (suc (span (is_not b) s)) s)
unfolding span split
split_more b [] h = absurd (omega arith)
split_more b (x ∷ s) h = go (eqb x b) refl (split_more b s) h
  where
    go : (t : Bool) → eqb x b ≡ t →
        (span (is_not b) s < length s → split b s ≡ take (span (is_not b) s) s ∷ split b (drop (suc (span (is_not b) s)) s)) →
        cond (not t) (suc (span (is_not b) s)) 0 < suc (length s) →
        cond t ([] ∷ split b s) (to_first x (split b s)) ≡
        take (cond (not t) (suc (span (is_not b) s)) 0) (x ∷ s) ∷ split b (drop (suc (cond (not t) (suc (span (is_not b) s)) 0)) (x ∷ s))
    go true e ih h = refl
    go false e ih h = rw (ih (omega arith))

-- ## A class of bytes that is a range
pub within_true : (low high x : ℕ) → within low high x ≡ true → (low ≤ x) × (x ≤ high)
within_true low high x e = go (leb low x) refl (leb x high) refl e
  where
    go : (p : Bool) → leb low x ≡ p → (q : Bool) → leb x high ≡ q → p && q ≡ true → (low ≤ x) × (x ≤ high)
    go true e true f h = (leb-true low x e, leb-true x high f)
    go true e false f h = absurd (true≢false cc)
    go false e q f h = absurd (true≢false cc)

pub true_within : (low high x : ℕ) → low ≤ x → x ≤ high → within low high x ≡ true
true_within low high x l h = rw (le-leb low x l, le-leb x high h)

-- ## The same bytes
pub same_length : (s t : List ℕ) → same s t ≡ true → length s ≡ length t
unfolding same
same_length [] [] e = refl
same_length [] (y ∷ t) e = cc
same_length (x ∷ s) [] e = cc
same_length (x ∷ s) (y ∷ t) e = go (eqb x y) (same_length s t) e
  where
    go : (b : Bool) → (same s t ≡ true → length s ≡ length t) → cond b (same s t) false ≡ true → suc (length s) ≡ suc (length t)
    go true ih e = ap suc (ih e)
    go false ih e = cc

-- texts of other lengths differ
pub same_unlike : (s t : List ℕ) → (length s ≡ length t → ⊥) → same s t ≡ false
same_unlike s t h = go (same s t) refl
  where
    go : (b : Bool) → same s t ≡ b → same s t ≡ false
    go true e = absurd (h (same_length s t e))
    go false e = e

pub same_self : (s : List ℕ) → same s s ≡ true
unfolding same
same_self [] = refl
same_self (x ∷ s) = rw (eq-eqb x x refl) (same_self s)

pub same_eq : (s t : List ℕ) → same s t ≡ true → s ≡ t
unfolding same
same_eq [] [] e = refl
same_eq [] (y ∷ t) e = cc
same_eq (x ∷ s) [] e = cc
same_eq (x ∷ s) (y ∷ t) e = go (eqb x y) refl (same_eq s t) e
  where
    go : (b : Bool) → eqb x y ≡ b → (same s t ≡ true → s ≡ t) → cond b (same s t) false ≡ true → (x ∷ s) ≡ (y ∷ t)
    go true q ih e = λ i. eqb-true x y q i ∷ ih e i
    go false q ih e = cc

module _ (s t : List ℕ) (i : ℕ) where
  pub same_on : i < length s → i < length t → get_or s i 0 ≡ get_or t i 0 → same (drop i s) (drop i t) ≡ same (drop (i + 1) s) (drop (i + 1) t)
  unfolding same
  same_on h k e = rw (drop-cons s i 0 h, drop-cons t i 0 k, eq-eqb (get_or s i 0) (get_or t i 0) e, add-one)

  pub same_stop : i < length s → i < length t → (get_or s i 0 ≡ get_or t i 0 → ⊥) → same (drop i s) (drop i t) ≡ false
  unfolding same
  same_stop h k f = rw (drop-cons s i 0 h, drop-cons t i 0 k, ne_eqb (get_or s i 0) (get_or t i 0) f)

  pub same_end : length s ≤ i → length t ≤ i → same (drop i s) (drop i t) ≡ true
  unfolding same
  same_end h k = rw (drop_of_length-le s h, drop_of_length-le t k)

-- ## Inside a run
module _ (P : ℕ → Bool) where
  pub span_byte : (s : List ℕ) (k : ℕ) → k < span P s → P (get_or s k 0) ≡ true
  unfolding span
  span_byte [] k h = absurd (omega arith)
  span_byte (x ∷ s) k h = go (P x) refl (span_byte s) k h
    where
      go : (t : Bool) → P x ≡ t → ((k : ℕ) → k < span P s → P (get_or s k 0) ≡ true) → (k : ℕ) → k < cond t (suc (span P s)) 0 →
          P (get_or (x ∷ s) k 0) ≡ true
      go true e ih zero h = e
      go true e ih (suc k) h = ih k (omega arith)
      go false e ih k h = absurd (omega arith)

  -- after its first k bytes a run goes on as the run there
  pub span_drop : (k : ℕ) (s : List ℕ) → k ≤ span P s → span P s ≡ k + span P (drop k s)
  unfolding span
  span_drop zero s h = omega arith
  span_drop (suc k) [] h = absurd (omega arith)
  span_drop (suc k) (x ∷ s) h = go (P x) (span_drop k s) h
    where
      go : (t : Bool) → (k ≤ span P s → span P s ≡ k + span P (drop k s)) → suc k ≤ cond t (suc (span P s)) 0 →
          cond t (suc (span P s)) 0 ≡ suc k + span P (drop k s)
      go true ih h = omega (arith, ih (omega arith))
      go false ih h = absurd (omega arith)

  pub drop_run : (k : ℕ) (s : List ℕ) → k ≤ span P s → drop k (take (span P s) s) ≡ take (span P (drop k s)) (drop k s)
  unfolding span
  drop_run zero s h = refl
  drop_run (suc k) [] h = absurd (omega arith)
  drop_run (suc k) (x ∷ s) h = go (P x) (drop_run k s) h
    where
      go : (t : Bool) → (k ≤ span P s → drop k (take (span P s) s) ≡ take (span P (drop k s)) (drop k s)) →
          suc k ≤ cond t (suc (span P s)) 0 → drop (suc k) (take (cond t (suc (span P s)) 0) (x ∷ s)) ≡ take (span P (drop k s)) (drop k s)
      go true ih h = ih (omega arith)
      go false ih h = absurd (omega arith)

-- ## Where the run of a narrower class ends
module _ (P Q : ℕ → Bool) (narrower : (x : ℕ) → P x ≡ true → Q x ≡ true) where
  -- the wider run, taken alone, has the same narrower run in front
  pub span_run : (s : List ℕ) → span P (take (span Q s) s) ≡ span P s
  unfolding span
  span_run [] = refl
  span_run (x ∷ s) = go (P x) refl (Q x) refl (span_run s)
    where
      go : (t : Bool) → P x ≡ t → (u : Bool) → Q x ≡ u → span P (take (span Q s) s) ≡ span P s →
          span P (take (cond u (suc (span Q s)) 0) (x ∷ s)) ≡ cond t (suc (span P s)) 0
      go true e true f ih = rw e (ap suc ih)
      go true e false f ih = absurd (let g = narrower x e in true≢false cc)
      go false e true f ih = rw e
      go false e false f ih = refl

  -- a byte outside the wider class, or the end, follows it: they are the same run
  pub span_ends : (s : List ℕ) → (span P s < length s → Q (get_or s (span P s) 0) ≡ false) → span P s ≡ span Q s
  span_ends s h = go (ltb (span P s) (span Q s)) refl
    where
      go : (t : Bool) → ltb (span P s) (span Q s) ≡ t → span P s ≡ span Q s
      go true e =
          let less = ltb-true (span P s) (span Q s) e in
          let out = h (omega (arith, span_le Q s)) in
          let in-run = span_byte Q s (span P s) less in
          absurd (true≢false cc)
      go false e = omega (arith, ltb-false (span P s) (span Q s) e, span_narrower P Q narrower s)

  -- any other byte follows it: the wider run goes on
  pub span_goes_on : (s : List ℕ) → span P s < length s → Q (get_or s (span P s) 0) ≡ true → span P s ≡ span Q s → ⊥
  span_goes_on s h q e = let a = span_next Q s (omega arith) in let b = rw e at q in true≢false cc

-- ## In the words of the library, which say what its `all` and `==` find
pub every_all : (P : ℕ → Bool) (s : List ℕ) → every P s ≡ list_all P s
unfolding every
every_all P [] = refl
every_all P (x ∷ s) = go (P x) (every_all P s)
  where
    go : (t : Bool) → every P s ≡ list_all P s → cond t (every P s) false ≡ t && list_all P s
    go true e = e
    go false e = refl

pub same_pointwise : (s t : List ℕ) → same s t ≡ pointwise eqb s t
unfolding same
same_pointwise [] [] = refl
same_pointwise [] (y ∷ t) = refl
same_pointwise (x ∷ s) [] = refl
same_pointwise (x ∷ s) (y ∷ t) = go (eqb x y) (same_pointwise s t)
  where
    go : (b : Bool) → same s t ≡ pointwise eqb s t → cond b (same s t) false ≡ b && pointwise eqb s t
    go true e = e
    go false e = refl
