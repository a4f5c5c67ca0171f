-- Laws of the known names and their numbers.
use Rattle.std.specs.Prelude.{ℕ, zero, suc, ◌+◌, ◌<◌, ◌≡◌, refl, Bool, true, false, cond, List, [], ◌∷◌, eqb, length, get_or, Some, None, slice_get, ◌≤◌}
use Rattle.std.proofs.Common.{sym, ◌∙◌, ap, true≢false, arith, eq-eqb, ne_eqb, eqb-true}
use Rattle.std.proofs.lemmas.Bool.{eqb-false}
use Rattle.text.specs.Text.{same}
use Rattle.text.specs.Laws.{same_self, same_eq}
use Rattle.line.specs.declared.read.Name.{Name}
use Rattle.line.specs.declared.read.Name.TheVariants as name
use Rattle.line.specs.Fields.{known, text_of}
use Rattle.line.specs.Reading.{number_of, slot_of, known_names, place_of, known_name}

-- a name whose number is below the count stands there
number_name : (name : List ℕ) (names : List (List ℕ)) → number_of name names < length names → get_or names (number_of name names) [] ≡ name
unfolding number_of
number_name name [] h = absurd (omega arith)
number_name name (n ∷ names) h = go (same n name) refl (number_name name names) h
  where
    go : (t : Bool) → same n name ≡ t → (number_of name names < length names → get_or names (number_of name names) [] ≡ name) →
        cond t 0 (suc (number_of name names)) < suc (length names) → get_or (n ∷ names) (cond t 0 (suc (number_of name names))) [] ≡ name
    go true e ih h = same_eq n name e
    go false e ih h = ih (omega arith)

pub slot_name : (name : List ℕ) → slot_of name < 11 → get_or known (slot_of name) [] ≡ name
unfolding slot_of
slot_name name h = number_name name known h

-- each name has the number of its place, from i on
unfoldable numbered : ℕ → List (List ℕ) → Bool
numbered i [] = true
numbered i (n ∷ names) = cond (eqb (slot_of n) i) (numbered (suc i) names) false

numbered_at : (i j : ℕ) (names : List (List ℕ)) → numbered i names ≡ true → j < length names → slot_of (get_or names j []) ≡ i + j
unfolding numbered
numbered_at i j [] e h = absurd (omega arith)
numbered_at i j (n ∷ names) e h = go (eqb (slot_of n) i) refl (λ k. numbered_at (suc i) k names) e j h
  where
    go : (t : Bool) → eqb (slot_of n) i ≡ t →
        ((k : ℕ) → numbered (suc i) names ≡ true → k < length names → slot_of (get_or names k []) ≡ suc i + k) →
        cond t (numbered (suc i) names) false ≡ true → (j : ℕ) → j < suc (length names) → slot_of (get_or (n ∷ names) j []) ≡ i + j
    go true q ih e zero h = omega (arith, eqb-true (slot_of n) i q)
    go true q ih e (suc j) h = omega (arith, ih j e (omega arith))
    go false q ih e j h = absurd (true≢false cc)

known_numbered : numbered 0 known ≡ true
unfolding numbered slot_of number_of same
known_numbered = refl

pub slot_known : (k : ℕ) → k < 11 → slot_of (get_or known k []) ≡ k
slot_known k h = omega (arith, numbered_at 0 k known known_numbered h)

-- a name is the known one of a number exactly where it has that number
pub same_known : (k : ℕ) (name : List ℕ) → k < 11 → same (get_or known k []) name ≡ eqb (slot_of name) k
same_known k name h = go (same (get_or known k []) name) refl
  where
    go : (t : Bool) → same (get_or known k []) name ≡ t → t ≡ eqb (slot_of name) k
    go true e = sym (eq-eqb (slot_of name) k (ap slot_of (sym (same_eq (get_or known k []) name e)) ∙ slot_known k h))
    go false e =
        sym (ne_eqb (slot_of name) k
        (λ q.
        let there : get_or known k [] ≡ name = rw q at (slot_name name (omega arith)) in
        let same_here : same (get_or known k []) name ≡ true = ap (λ (n : List ℕ). same n name) there ∙ same_self name in
        let z : ◌≡◌ {A = ℕ} 0 1 = cc in
        omega arith))

pub slot_here : (k : ℕ) (name : List ℕ) → k < 11 → same (get_or known k []) name ≡ true → slot_of name ≡ k
slot_here k name h e = eqb-true (slot_of name) k (sym (same_known k name h) ∙ e)

eqb_comm : (a b : ℕ) → eqb a b ≡ eqb b a
eqb_comm a b = go (eqb a b) refl
  where
    go : (t : Bool) → eqb a b ≡ t → t ≡ eqb b a
    go true e = sym (eq-eqb b a (sym (eqb-true a b e)))
    go false e = sym (ne_eqb b a (λ q. eqb-false a b e (sym q)))

-- a known name is another exactly where it has its number
pub same_slot : (a b : List ℕ) → slot_of a < 11 → same a b ≡ eqb (slot_of a) (slot_of b)
same_slot a b h =
    ap (λ (n : List ℕ). same n b) (sym (slot_name a h)) ∙ same_known (slot_of a) b h ∙ eqb_comm (slot_of b) (slot_of a)

-- ## The names as the code has them
place_here : (n : Name) → slot_of (text_of n) ≡ place_of n
unfolding slot_of number_of same
place_here name.H = refl
place_here name.BlockSize = refl
place_here name.Format = refl
place_here name.Block = refl
place_here name.Chunk = refl
place_here name.Version = refl
place_here name.Len = refl
place_here name.Next = refl
place_here name.Pages = refl
place_here name.Root = refl
place_here name.Fletcher = refl

pub place_slot : (n : Name) → place_of n ≡ slot_of (text_of n)
place_slot n = sym (place_here n)

pub place_small : (n : Name) → place_of n < 11
place_small name.H = omega arith
place_small name.BlockSize = omega arith
place_small name.Format = omega arith
place_small name.Block = omega arith
place_small name.Chunk = omega arith
place_small name.Version = omega arith
place_small name.Len = omega arith
place_small name.Next = omega arith
place_small name.Pages = omega arith
place_small name.Root = omega arith
place_small name.Fletcher = omega arith

-- each name stands in its place, from i on
unfoldable placed : ℕ → List Name → Bool
placed i [] = true
placed i (n ∷ names) = cond (eqb (place_of n) i) (placed (suc i) names) false

placed_at : (i k : ℕ) (names : List Name) {n : Name} → placed i names ≡ true → slice_get names k ≡ Some n → i + k ≡ place_of n
unfolding placed
placed_at i k [] e h = absurd (true≢false cc)
placed_at i k (m ∷ names) {n} e h = go (eqb (place_of m) i) refl (λ j. placed_at (suc i) j names {n = n}) e k h
  where
    go : (t : Bool) → eqb (place_of m) i ≡ t → ((j : ℕ) → placed (suc i) names ≡ true → slice_get names j ≡ Some n → suc i + j ≡ place_of n) →
        cond t (placed (suc i) names) false ≡ true → (k : ℕ) → slice_get (m ∷ names) k ≡ Some n → i + k ≡ place_of n
    go true q ih e zero h = let same_name : m ≡ n = cc in omega (arith, eqb-true (place_of m) i q, ap place_of same_name)
    go true q ih e (suc j) h = omega (arith, ih j e h)
    go false q ih e k h = absurd (true≢false cc)

-- a known name is in its place, and any other letters in none
pub known_some : (s : List ℕ) {n : Name} → known_name s ≡ Some n → slot_of s ≡ place_of n
unfolding known_name placed
known_some s e = omega (arith, placed_at 0 (slot_of s) known_names refl e)

got_none : (k : ℕ) (names : List Name) → slice_get names k ≡ None → length names ≤ k
got_none k [] e = omega arith
got_none zero (n ∷ names) e = absurd (true≢false cc)
got_none (suc k) (n ∷ names) e = omega (arith, got_none k names e)

pub known_none : (s : List ℕ) → known_name s ≡ None → 11 ≤ slot_of s
unfolding known_name
known_none s e = got_none (slot_of s) known_names e
