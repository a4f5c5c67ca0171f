-- Laws of the walk's state, as the code tests and writes its places; and the states that a step leaves.
use Rattle.std.specs.Prelude.{ℕ, suc, ◌+◌, ◌-◌, ◌≤◌, ◌<◌, ◌≡◌, refl, Bool, true, false, ◌&&◌, List, [], ◌∷◌, ◌++◌, eqb, leb, length, get_or, set, take, drop, replicate}
use Rattle.std.proofs.Common.{◌∙◌, ap, true≢false, append_assoc, append-nil, add-one, arith, take-suc, drop-cons, ne_eqb, length-append, length-drop, length-set, length-take, drop_of_length-le, length-take-le, leb-true, lt-ltb}
use Rattle.std.specs.List.{list_all}
use borrow.Rule.Slice.PartMut.{mid_of, put_mid}
use Rattle.std.proofs.lemmas.Grind.{take-set_at}
use Rattle.std.proofs.lemmas.List.{length-replicate, replicate-append-replicate, set_at}
use Rattle.key.specs.Key.{Key}
use Rattle.tree.proofs.WalkLaws.{prefixed}
use Rattle.content.specs.declared.Entry.{Entry}
use Rattle.cursor.specs.declared.Walk.{Walk}
use Rattle.cursor.specs.Walk.{zeros, formed, leading, yield_of, settled}
use Rattle.cursor.specs.Steps.{numbered}

-- ## The places
pub zeros_all : (ps : List ℕ) → zeros ps ≡ list_all (λ p. eqb p 0) ps
zeros_all [] = refl
zeros_all (p ∷ ps) = ap (eqb p 0 &&◌) (zeros_all ps)

module _ (ps : List ℕ) (i : ℕ) where
  pub zeros_end : length ps ≤ i → zeros (drop i ps) ≡ true
  zeros_end h = rw (drop_of_length-le ps {i = i} h)

  module _ (h : i < length ps) where
    pub zeros_next : get_or ps i 0 ≡ 0 → zeros (drop (i + 1) ps) ≡ zeros (drop i ps)
    zeros_next e = rw (drop-cons ps i 0 h, e, add-one i)

    pub zeros_stop : (get_or ps i 0 ≡ 0 → ⊥) → zeros (drop i ps) ≡ false
    zeros_stop e = rw (drop-cons ps i 0 h, ne_eqb (get_or ps i 0) 0 e)

-- the places from l on are 0 yet: the number n there
module _ (from : List ℕ) (l n : ℕ) (few : l ≤ length from) (room : l < 16) where
  pub set_place : set (take l from ++ replicate (16 - l) 0) l n ≡ take l from ++ (n ∷ replicate (15 - l) 0)
  set_place =
      let left : 16 - l ≡ suc (15 - l) = omega arith in
      rw left (set_at (take l from) 0 (replicate (15 - l) 0) n l (length-take-le l from few))

pub copy_place : (from : List ℕ) (i : ℕ) → i < length from → i < 16
    → set (take i from ++ replicate (16 - i) 0) i (get_or from i 0) ≡ take (i + 1) from ++ replicate (16 - (i + 1)) 0
copy_place from i h room =
    let rest : 16 - suc i ≡ 15 - i = omega arith in
    set_place from i (get_or from i 0) (omega arith) room
    ∙ rw (add-one i, rest, take-suc from i 0 h, append_assoc (take i from) (get_or from i 0 ∷ []) (replicate (15 - i) 0))

-- n written at place l, and zeros over what is after it
pub placed : (from : List ℕ) (l n : ℕ) {rest : List ℕ} → length from ≡ 16 → l < 16
    → rest ≡ replicate (length (mid_of (l + 1) (16 - (l + 1)) (set from l n))) 0
    → put_mid (l + 1) (16 - (l + 1)) (set from l n) rest ≡ take l from ++ (n ∷ replicate (15 - l) 0)
placed from l n {rest} few room e =
    let after = drop (l + 1) (set from l n) in
    let left : length after ≡ 15 - l = omega (arith, length-drop {A = ℕ}, length-set {A = ℕ}) in
    let mid : length (take (16 - (l + 1)) after) ≡ 15 - l = omega (arith, length-take {A = ℕ}) in
    let past : drop (16 - (l + 1)) after ≡ [] = drop_of_length-le after (omega arith) in
    rw (take-set_at from l (l + 1) n refl (omega arith), past, e, mid) (simp (append_assoc, append-nil))

-- the numbers before place l, then n, then k zeros
pub leading_placed : (w : Walk) (l n k depth : ℕ) → l ≤ length w.places → suc (l + k) ≡ depth → depth ≤ 16
    → leading ((take l w.places ++ (n ∷ [])) ++ replicate k 0) ≡ numbered w.places l n depth
unfolding numbered
leading_placed w l n k depth few sum most =
    let t = take l w.places in
    let is = (t ++ (n ∷ [])) ++ replicate k 0 in
    let len : length is ≡ depth =
    rw (length-append (t ++ (n ∷ [])) (replicate k 0), length-append t (n ∷ []), length-take-le l w.places few, length-replicate {A = ℕ} k 0)
    (omega arith) in
    let rest : k + (16 - depth) ≡ 15 - l = omega arith in
    let ps : is ++ replicate (16 - length is) 0 ≡ t ++ (n ∷ replicate (15 - l) 0) =
    rw len (append_assoc (t ++ (n ∷ [])) (replicate k 0) (replicate (16 - depth) 0)
    ∙ ap ((t ++ (n ∷ [])) ++◌) (replicate-append-replicate {A = ℕ} k (16 - depth) 0 ∙ ap (λ m. replicate m 0) rest)
    ∙ append_assoc t (n ∷ []) (replicate (15 - l) 0)) in
    rw (lt-ltb l 16 (omega arith)) (λ j. record { places = ps j; depth = len j; last = 0 })

pub settled_prefixed : (w : Walk) (pre : List ℕ) (e : Key × Entry) (n : ℕ)
    → settled w (prefixed pre e n []) ≡ record { walk = leading (pre ++ (n ∷ [])); got = yield_of e }
unfolding settled
settled_prefixed w [] e n = refl
settled_prefixed w (i ∷ pre) e n = refl

pub formed_most : (w : Walk) → formed w ≡ true → w.depth ≤ 16
unfolding formed
formed_most w h = leb-true w.depth 16 (go (eqb w.last 0) (leb w.depth 16) (zeros (drop w.depth w.places)) h)
  where
    go : (a b c : Bool) → a && (b && c) ≡ true → b ≡ true
    go true true c e = refl
    go true false c e = e
    go false b c e = absurd (true≢false cc)
