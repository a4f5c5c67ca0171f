-- Laws of the search in the tree of names: one for each branch of `seek`.
use Rattle.std.specs.Prelude.{ℕ, suc, ◌+◌, ◌-◌, ◌*◌, ◌/◌, ◌%◌, ◌^◌, ◌≤◌, ◌<◌, ◌≡◌, Bool, true, false, cond, List, ltb, length, get_or}
use Rattle.std.proofs.Math.Path.{refl}
use Rattle.std.proofs.Common.{sym, ◌∙◌, ap, arith}
use borrow.Author.Tests.{lt-ltb, le-ltb, eq-eqb, ne_eqb}
use Rattle.text.specs.Text.{same}
use Rattle.names.specs.declared.tree.Search.TheVariants.{Met, Free, Deep}
use Rattle.names.specs.Tree.{bit_of, name_at, sought, kid_in, name_in, sought_in}

pub bit_small : (name : List ℕ) (d : ℕ) → bit_of name d ≤ 1
unfolding bit_of
bit_small name d = go (ltb (d / 6) (length name))
  where
    go : (t : Bool) → cond t (get_or name (length name - 1 - d / 6) 0 / 2 ^ (d % 6) % 2) 0 ≤ 1
    go true = omega arith
    go false = omega arith

-- ## One for each branch of the search
module _ (kid : ℕ → ℕ) (names : ℕ → List ℕ) (used : ℕ) (n : List ℕ) (f s : ℕ) where
  pub free_step : kid s ≡ 0 → sought (suc f) kid names used n s ≡ Free s
  unfolding sought
  free_step e = rw (eq-eqb (kid s) 0 e)

  module _ (node : kid s ≡ 0 → ⊥) where
    pub off_step : used < kid s → sought (suc f) kid names used n s ≡ Deep
    unfolding sought
    off_step h = rw (ne_eqb (kid s) 0 node, lt-ltb used (kid s) h)

    pub met_step : kid s ≤ used → same (names (kid s)) n ≡ true → sought (suc f) kid names used n s ≡ Met
    unfolding sought
    met_step h e = rw (ne_eqb (kid s) 0 node, le-ltb used (kid s) h, e)

    pub on_step_lem : kid s ≤ used → same (names (kid s)) n ≡ false →
        sought (suc f) kid names used n s ≡ sought f kid names used n (2 * kid s + bit_of n (96 - f))
    unfolding sought
    on_step_lem h e = rw (ne_eqb (kid s) 0 node, le-ltb used (kid s) h, e)

-- the same in the code's words, with l levels left
module _ (kid : ℕ → ℕ) (names : ℕ → List ℕ) (used : ℕ) (n : List ℕ) (s : ℕ) where
  pub sought_none : sought 0 kid names used n s ≡ Deep
  unfolding sought
  sought_none = refl

  module _ (l : ℕ) (h : 0 < l) where
    at_level : sought l kid names used n s ≡ sought (suc (l - 1)) kid names used n s
    at_level = let k : l ≡ suc (l - 1) = omega arith in ap (λ (m : ℕ). sought m kid names used n s) k

    pub sought_free : kid s ≡ 0 → sought l kid names used n s ≡ Free s
    sought_free e = at_level ∙ free_step kid names used n (l - 1) s e

    pub sought_off : (kid s ≡ 0 → ⊥) → used < kid s → sought l kid names used n s ≡ Deep
    sought_off node o = at_level ∙ off_step kid names used n (l - 1) s node o

    pub sought_met : (kid s ≡ 0 → ⊥) → kid s ≤ used → same (names (kid s)) n ≡ true → sought l kid names used n s ≡ Met
    sought_met node u e = at_level ∙ met_step kid names used n (l - 1) s node u e

    pub sought_on : (kid s ≡ 0 → ⊥) → kid s ≤ used → same (names (kid s)) n ≡ false →
        sought l kid names used n s ≡ sought (l - 1) kid names used n (2 * kid s + bit_of n (96 - (l - 1)))
    sought_on node u e = at_level ∙ on_step_lem kid names used n (l - 1) s node u e

-- ## The loop of `seek`
pub record Seeking (line : List ℕ) (from : ℕ) (places kids : List ℕ) (used : ℕ) (name : List ℕ) (slot left : ℕ) : Type 0 where
  pub below : slot < 2 * (used + 1)
  pub few : left ≤ 97
  pub way : sought left (kid_in kids) (name_in line from places) used name slot ≡ sought_in line from places kids used name

pub seeking_start : (line : List ℕ) (from : ℕ) (places kids : List ℕ) (used : ℕ) (name : List ℕ) → Seeking line from places kids used name 0 97
unfolding sought_in
seeking_start line from places kids used name = record { below = omega arith; few = omega arith; way = refl }

module _ {line : List ℕ} {from : ℕ} {places kids : List ℕ} {used : ℕ} {name : List ℕ} {slot left : ℕ} (k : Seeking line from places kids used name slot left) where
  pub seeking_none : left ≤ 0 → Deep ≡ sought_in line from places kids used name
  seeking_none h =
      let z : left ≡ 0 = omega arith in
      sym (sought_none (kid_in kids) (name_in line from places) used name slot) ∙ rw z at k.way

  module _ (more : 0 < left) {node : ℕ} (n : node ≡ get_or kids slot 0) where
    pub seeking_free : node ≡ 0 → Free slot ≡ sought_in line from places kids used name
    seeking_free e = sym (sought_free (kid_in kids) (name_in line from places) used name slot left more (sym n ∙ e)) ∙ k.way

    module _ (f : node ≡ 0 → ⊥) where
      pub seeking_off : used < node → Deep ≡ sought_in line from places kids used name
      seeking_off h =
          sym (sought_off (kid_in kids) (name_in line from places) used name slot left more (λ z. f (n ∙ z)) (omega arith)) ∙ k.way

      module _ (h : node ≤ used) {place : ℕ} (p : place ≡ get_or places node 0) where
        pub seeking_met : same (name_at line (from + place)) name ≡ true → Met ≡ sought_in line from places kids used name
        seeking_met t =
            sym (sought_met (kid_in kids) (name_in line from places) used name slot left more (λ z. f (n ∙ z)) (omega arith) (rw (← n, ← p) t)) ∙
            k.way

        pub seeking_on : same (name_at line (from + place)) name ≡ false → {b : ℕ} → b ≡ bit_of name (96 - (left - 1)) →
            Seeking line from places kids used name (2 * node + b) (left - 1)
        seeking_on t e =
            let on =
            sought_on (kid_in kids) (name_in line from places) used name slot left more (λ z. f (n ∙ z)) (omega arith) (rw (← n, ← p) t) in
            record {
              below = omega (arith, e, bit_small name (96 - (left - 1)));
              few = omega (arith, k.few);
              way = rw (n, e) (sym on ∙ k.way);
            }
