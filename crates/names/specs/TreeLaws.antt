-- Laws of the tree of names: a new node adds its name and no other.
use Prim.Native.Nat.{ℕ, zero, suc, ◌+◌, ◌-◌, ◌*◌, ◌≤◌, ◌<◌}
use Rattle.std.specs.Prelude.{◌≡◌, Bool, true, false, cond, ◌||◌, List, eqb, ltb, length, get_or, set, replicate}
use Rattle.std.proofs.Math.Path.{refl, ap}
use Rattle.std.proofs.Common.{sym, ◌∙◌, ltb-true, ltb-false, eqb-true, length-set, get_or-set_same, get_or-set_other}
use native.Mathlib.Omega.{arith}
use Rattle.std.proofs.lemmas.Bool.{eqb-false}
use Rattle.std.proofs.lemmas.List.{length-replicate}
use Rattle.text.specs.Text.{same}
use Rattle.text.specs.Laws.{same_self, same_eq}
use Rattle.names.specs.declared.tree.Search.{Search}
use Rattle.names.specs.declared.tree.Search.TheVariants.{Met, Free, Deep}
use Rattle.names.specs.Tree.{bit_of, name_at, sought, kid_in, name_in, sought_in, met, is_in, Room}
use Rattle.names.specs.SeekLaws.{bit_small, free_step, off_step, met_step, on_step_lem}

-- ## A free slot is empty and belongs to a node of the tree
pub record Empty (kid : ℕ → ℕ) (used slot : ℕ) : Type 0 where
  pub empty : kid slot ≡ 0
  pub below : slot < 2 * (used + 1)

never : {A : Type 0} → ◌≡◌ {A = ℕ} 0 1 → A
never z = absurd (omega arith)

module _ (kid : ℕ → ℕ) (names : ℕ → List ℕ) (used : ℕ) (n : List ℕ) (slot : ℕ) where
  free_empty : (f s : ℕ) → s < 2 * (used + 1) → sought f kid names used n s ≡ Free slot → Empty kid used slot
  unfolding sought
  free_empty zero s h e = never (cc)
  free_empty (suc f) s h e = go (eqb (kid s) 0) refl (ltb used (kid s)) refl (same (names (kid s)) n) (free_empty f next) e
    where
      next : ℕ
      next = 2 * kid s + bit_of n (96 - f)

      go : (a : Bool) → eqb (kid s) 0 ≡ a → (b : Bool) → ltb used (kid s) ≡ b → (t : Bool) →
          (next < 2 * (used + 1) → sought f kid names used n next ≡ Free slot → Empty kid used slot) →
          cond a (Free s) (cond b Deep (cond t Met (sought f kid names used n next))) ≡ Free slot → Empty kid used slot
      go true p b q t ih e =
          let here : s ≡ slot = cc in
          record { empty = ap kid (sym here) ∙ eqb-true (kid s) 0 p; below = omega arith }
      go false p true q t ih e = never (cc)
      go false p false q true ih e = never (cc)
      go false p false q false ih e = ih (omega (arith, ltb-false used (kid s) q, bit_small n (96 - f))) e

-- ## What a new node changes
pub record Grown (kid kid' : ℕ → ℕ) (names names' : ℕ → List ℕ) (used slot : ℕ) (q : List ℕ) : Type 0 where
  pub empty : kid slot ≡ 0
  pub filled : kid' slot ≡ used + 1
  pub left : kid' (2 * (used + 1)) ≡ 0
  pub right : kid' (2 * (used + 1) + 1) ≡ 0
  pub kept : (s : ℕ) → s < 2 * (used + 1) → (s ≡ slot → ⊥) → kid' s ≡ kid s
  pub named : names' (used + 1) ≡ q
  pub others : (j : ℕ) → j ≤ used → names' j ≡ names j

module _ {kid kid' : ℕ → ℕ} {names names' : ℕ → List ℕ} {used slot : ℕ} {q : List ℕ} (g : Grown kid kid' names names' used slot q) where
  abbrev before : ℕ → List ℕ → ℕ → Search
  before f n s = sought f kid names used n s

  abbrev after : ℕ → List ℕ → ℕ → Search
  after f n s = sought f kid' names' (used + 1) n s

  new_met : (f s : ℕ) → kid' s ≡ used + 1 → after (suc f) q s ≡ Met
  new_met f s e =
      met_step kid' names' (used + 1) q f s (λ z. omega arith) (omega arith) (rw (e, g.named) (same_self q))

  -- the way of the new name ends at its node
  grown_met : (f s : ℕ) → s < 2 * (used + 1) → before f q s ≡ Free slot → met (after f q s) ≡ true
  unfolding sought
  grown_met zero s h e = never (cc)
  grown_met (suc f) s h e = go (eqb (kid s) 0) refl (ltb used (kid s)) refl (same (names (kid s)) q) refl (grown_met f next) e
    where
      next : ℕ
      next = 2 * kid s + bit_of q (96 - f)

      go : (a : Bool) → eqb (kid s) 0 ≡ a → (b : Bool) → ltb used (kid s) ≡ b → (t : Bool) → same (names (kid s)) q ≡ t →
          (next < 2 * (used + 1) → before f q next ≡ Free slot → met (after f q next) ≡ true) →
          cond a (Free s) (cond b Deep (cond t Met (before f q next))) ≡ Free slot → met (after (suc f) q s) ≡ true
      go true p b o t w ih e =
          let here : s ≡ slot = cc in
          ap met (new_met f s (ap kid' here ∙ g.filled))
      go false p true o t w ih e = never (cc)
      go false p false o true w ih e = never (cc)
      go false p false o false w ih e =
          let in_tree = ltb-false used (kid s) o in
          let same-kid = g.kept s h (λ z. eqb-false (kid s) 0 p (ap kid z ∙ g.empty)) in
          let other : same (names' (kid' s)) q ≡ false = rw (same-kid, g.others (kid s) in_tree) w in
          let node : kid' s ≡ 0 → ⊥ = λ z. eqb-false (kid s) 0 p (sym same-kid ∙ z) in
          let on = on_step_lem kid' names' (used + 1) q f s node (omega arith) other in
          ap met on ∙ rw same-kid (ih (omega (arith, bit_small q (96 - f))) e)

  -- the way of another name ends as before
  module _ (n : List ℕ) (other : same q n ≡ false) where
    below_new : (f b : ℕ) → b ≤ 1 → met (after f n (2 * (used + 1) + b)) ≡ false
    unfolding sought
    below_new zero b h = refl
    below_new (suc f) zero h =
        let first : 2 * (used + 1) + 0 ≡ 2 * (used + 1) = omega arith in
        ap met (free_step kid' names' (used + 1) n f (2 * (used + 1) + 0) (ap kid' first ∙ g.left))
    below_new (suc f) (suc zero) h = ap met (free_step kid' names' (used + 1) n f (2 * (used + 1) + 1) g.right)
    below_new (suc f) (suc (suc b)) h = absurd (omega arith)

    new_passed : (f s : ℕ) → kid' s ≡ used + 1 → met (after (suc f) n s) ≡ false
    new_passed f s e =
        let on =
        on_step_lem kid' names' (used + 1) n f s (λ z. omega arith) (omega arith) (rw (e, g.named) other) in
        ap met on ∙ rw e (below_new f (bit_of n (96 - f)) (bit_small n (96 - f)))

    off_passed : (f s : ℕ) → used < kid' s → met (after (suc f) n s) ≡ false
    off_passed f s h = go (eqb (kid' s) (used + 1)) refl
      where
        go : (t : Bool) → eqb (kid' s) (used + 1) ≡ t → met (after (suc f) n s) ≡ false
        go true e = new_passed f s (eqb-true (kid' s) (used + 1) e)
        go false e =
            let more = eqb-false (kid' s) (used + 1) e in
            let past : used + 1 < kid' s = omega (arith, more) in
            ap met (off_step kid' names' (used + 1) n f s (λ z. omega arith) past)

    grown_other : (f s : ℕ) → s < 2 * (used + 1) → met (after f n s) ≡ met (before f n s)
    unfolding sought
    grown_other zero s h = refl
    grown_other (suc f) s h = go (grown_other f next) (eqb s slot) refl
      where
        next : ℕ
        next = 2 * kid s + bit_of n (96 - f)

        Same : Type 0
        Same = met (after (suc f) n s) ≡ met (before (suc f) n s)

        kept_on : kid' s ≡ kid s → (next < 2 * (used + 1) → met (after f n next) ≡ met (before f n next)) →
            (a : Bool) → eqb (kid s) 0 ≡ a → (b : Bool) → ltb used (kid s) ≡ b → (t : Bool) → same (names (kid s)) n ≡ t → Same
        kept_on k ih true p b o t w =
            let z = eqb-true (kid s) 0 p in
            ap met (free_step kid' names' (used + 1) n f s (k ∙ z)) ∙ sym (ap met (free_step kid names used n f s z))
        kept_on k ih false p true o t w =
            let past = ltb-true used (kid s) o in
            off_passed f s (omega arith) ∙ sym (ap met (off_step kid names used n f s (eqb-false (kid s) 0 p) past))
        kept_on k ih false p false o true w =
            let in_tree = ltb-false used (kid s) o in
            let node = eqb-false (kid s) 0 p in
            let found : same (names' (kid' s)) n ≡ true = rw (k, g.others (kid s) in_tree) w in
            ap met (met_step kid' names' (used + 1) n f s (λ z. node (sym k ∙ z)) (omega arith) found) ∙
            sym (ap met (met_step kid names used n f s node in_tree w))
        kept_on k ih false p false o false w =
            let in_tree = ltb-false used (kid s) o in
            let node = eqb-false (kid s) 0 p in
            let unlike : same (names' (kid' s)) n ≡ false = rw (k, g.others (kid s) in_tree) w in
            ap met (on_step_lem kid' names' (used + 1) n f s (λ z. node (sym k ∙ z)) (omega arith) unlike) ∙
            rw k (ih (omega (arith, bit_small n (96 - f)))) ∙ sym (ap met (on_step_lem kid names used n f s node in_tree w))

        go : (next < 2 * (used + 1) → met (after f n next) ≡ met (before f n next)) → (t : Bool) → eqb s slot ≡ t → Same
        go ih true e =
            let here = eqb-true s slot e in
            new_passed f s (ap kid' here ∙ g.filled) ∙ sym (ap met (free_step kid names used n f s (ap kid here ∙ g.empty)))
        go ih false e =
            kept_on (g.kept s h (eqb-false s slot e)) ih (eqb (kid s) 0) refl (ltb used (kid s)) refl (same (names (kid s)) n) refl

  grown_all : (f s : ℕ) → s < 2 * (used + 1) → before f q s ≡ Free slot → (n : List ℕ) →
      met (after f n s) ≡ (same q n || met (before f n s))
  grown_all f s h e n = go (same q n) refl
    where
      go : (t : Bool) → same q n ≡ t → met (after f n s) ≡ (t || met (before f n s))
      go true w = let this = same_eq q n w in rw (← this) (grown_met f s h e)
      go false w = grown_other n w f s h

-- ## The tree as lists, in the words of `fill`
module _ (line : List ℕ) (from : ℕ) (places kids : List ℕ) (used slot at : ℕ) (q : List ℕ) where
  module _ (free : sought_in line from places kids used q ≡ Free slot) where
    pub slot_empty : Empty (kid_in kids) used slot
    unfolding sought_in
    slot_empty = free_empty (kid_in kids) (name_in line from places) used q slot 97 0 (omega arith) free

    module _ (room : used < 2047) (p : length places ≡ 2048) (k : length kids ≡ 4096) (here : name_at line (from + at) ≡ q) where
      abbrev kids' : List ℕ
      kids' = set (set (set kids (2 * (used + 1)) 0) (2 * (used + 1) + 1) 0) slot (used + 1)

      abbrev places' : List ℕ
      places' = set places (used + 1) at

      kids_sized : length (set (set kids (2 * (used + 1)) 0) (2 * (used + 1) + 1) 0) ≡ 4096
      kids_sized = simp length-set k

      kept_kid : (s : ℕ) → s < 2 * (used + 1) → (s ≡ slot → ⊥) → kid_in kids' s ≡ kid_in kids s
      kept_kid s h other =
          get_or-set_other (set (set kids (2 * (used + 1)) 0) (2 * (used + 1) + 1) 0) slot s (used + 1) 0 other ∙
          get_or-set_other (set kids (2 * (used + 1)) 0) (2 * (used + 1) + 1) s 0 0 (λ z. omega arith) ∙
          get_or-set_other kids (2 * (used + 1)) s 0 0 (λ z. omega arith)

      left_kid : kid_in kids' (2 * (used + 1)) ≡ 0
      left_kid =
          let low = slot_empty.below in
          get_or-set_other (set (set kids (2 * (used + 1)) 0) (2 * (used + 1) + 1) 0) slot (2 * (used + 1)) (used + 1) 0 (λ z. omega arith) ∙
          get_or-set_other (set kids (2 * (used + 1)) 0) (2 * (used + 1) + 1) (2 * (used + 1)) 0 0 (λ z. omega arith) ∙
          get_or-set_same kids (2 * (used + 1)) 0 0 (omega arith)

      right_kid : kid_in kids' (2 * (used + 1) + 1) ≡ 0
      right_kid =
          let low = slot_empty.below in
          get_or-set_other (set (set kids (2 * (used + 1)) 0) (2 * (used + 1) + 1) 0) slot (2 * (used + 1) + 1) (used + 1) 0 (λ z. omega arith) ∙
          get_or-set_same (set kids (2 * (used + 1)) 0) (2 * (used + 1) + 1) 0 0 (simp length-set (omega arith))

      slot_kid : kid_in kids' slot ≡ used + 1
      slot_kid =
          let low = slot_empty.below in
          get_or-set_same (set (set kids (2 * (used + 1)) 0) (2 * (used + 1) + 1) 0) slot (used + 1) 0 (omega (arith, kids_sized))

      grown : Grown (kid_in kids) (kid_in kids') (name_in line from places) (name_in line from places') used slot q
      grown =
          record {
            empty = slot_empty.empty;
            filled = slot_kid;
            left = left_kid;
            right = right_kid;
            kept = kept_kid;
            named = ap (λ (k : ℕ). name_at line (from + k)) (get_or-set_same places (used + 1) at 0 (omega arith)) ∙ here;
            others = λ j h. ap (λ (k : ℕ). name_at line (from + k)) (get_or-set_other places (used + 1) j at 0 (λ z. omega arith));
          }

      -- the tree has the new name, and else what it had
      pub is_in_grown : (n : List ℕ) → is_in line from places' kids' (used + 1) n ≡ (same q n || is_in line from places kids used n)
      unfolding is_in sought_in
      is_in_grown = grown_all grown 97 0 (omega arith) free

module _ (line : List ℕ) (from : ℕ) (places kids : List ℕ) (used : ℕ) (n : List ℕ) where
  -- the root's slot is free
  pub sought_root : get_or kids 0 0 ≡ 0 → sought_in line from places kids used n ≡ Free 0
  unfolding sought_in
  sought_root e = free_step (kid_in kids) (name_in line from places) used n 96 0 e

  pub is_in_met : sought_in line from places kids used n ≡ Met → is_in line from places kids used n ≡ true
  unfolding is_in
  is_in_met e = ap met e

  pub is_in_free : (slot : ℕ) → sought_in line from places kids used n ≡ Free slot → is_in line from places kids used n ≡ false
  unfolding is_in
  is_in_free slot e = ap met e

-- ## A tree's room
pub room : Room (replicate 2048 0) (replicate 4096 0)
room = record { nodes = length-replicate {A = ℕ} 2048 0; slots = length-replicate {A = ℕ} 4096 0 }
