-- Laws of distinct names: none is one of those before it. One for each branch of the loops.
use Rattle.std.specs.Prelude.{ℕ, ◌+◌, ◌-◌, ◌≤◌, ◌≡◌, Bool, not, ◌&&◌, ◌||◌, List, [], ◌∷◌, length, take, drop}
use Rattle.std.proofs.Math.Path.{refl}
use Rattle.std.proofs.Math.Bool.{true, false, and-false}
use Rattle.std.proofs.Common.{true≢false}
use Rattle.text.specs.Text.{span, within, is_not, is_letter, same}
use Rattle.names.specs.Names.{comma, part_from, parts_after, name_of, named_in, distinct}
use Rattle.names.specs.Tree.{parts_from, clear, apart}
use Rattle.names.specs.PartsLaws.{parts_none, parts_here, letters_part}

-- ## No name has a property
pub clear_like : (K L : List ℕ → Bool) → ((n : List ℕ) → K n ≡ L n) → (ps : List (List ℕ)) → clear K ps ≡ clear L ps
unfolding clear
clear_like K L e [] = refl
clear_like K L e (p ∷ ps) = rw (e (name_of p), clear_like K L e ps)

pub clear_none : (K : List ℕ → Bool) → ((n : List ℕ) → K n ≡ false) → (ps : List (List ℕ)) → clear K ps ≡ true
unfolding clear
clear_none K e [] = refl
clear_none K e (p ∷ ps) = rw (e (name_of p)) (clear_none K e ps)

-- a name more
pub clear_more : (K : List ℕ → Bool) (q : List ℕ) (ps : List (List ℕ)) →
    clear (λ n. same q n || K n) ps ≡ (not (named_in q ps) && clear K ps)
unfolding clear named_in
clear_more K q [] = refl
clear_more K q (p ∷ ps) = rw (clear_more K q ps) (swapped (same q (name_of p)) (K (name_of p)) (named_in q ps) (clear K ps))
  where
    swapped : (a k h c : Bool) → (not (a || k) && (not h && c)) ≡ (not (a || h) && (not k && c))
    swapped true k h c = refl
    swapped false true true c = refl
    swapped false true false c = refl
    swapped false false h c = refl

-- ## The first part, and those after it
module _ (K : List ℕ → Bool) (p : List ℕ) (ps : List (List ℕ)) where
  apart_met : K (name_of p) ≡ true → apart K (p ∷ ps) ≡ false
  unfolding apart clear
  apart_met e = rw e

  apart_unnamed : within 1 16 (length (name_of p)) ≡ false → apart K (p ∷ ps) ≡ false
  unfolding apart distinct
  apart_unnamed e = rw e (and-false (clear K (p ∷ ps)))

  -- a name that has not the property is added to what has it
  pub apart_first : within 1 16 (length (name_of p)) ≡ true → K (name_of p) ≡ false → (L : List ℕ → Bool) →
      ((n : List ℕ) → L n ≡ (same (name_of p) n || K n)) → apart K (p ∷ ps) ≡ apart L ps
  unfolding apart clear distinct
  apart_first right none L more =
      rw (right, none, clear_like L (λ n. same (name_of p) n || K n) more ps, clear_more K (name_of p) ps)
      (swapped (clear K ps) (named_in (name_of p) ps) (distinct ps))
    where
      swapped : (c h d : Bool) → (c && (not h && d)) ≡ ((not h && c) && d)
      swapped true h d = go h
        where
          go : (h : Bool) → (not h && d) ≡ ((not h && true) && d)
          go true = refl
          go false = refl
      swapped false true d = refl
      swapped false false d = refl

-- what it says of the first part, and of those after it
pub record First (K : List ℕ → Bool) (p : List ℕ) (ps : List (List ℕ)) : Type 0 where
  pub none : K (name_of p) ≡ false
  pub once : named_in (name_of p) ps ≡ false
  pub clears : clear K ps ≡ true
  pub rest : distinct ps ≡ true

never : {A : Type 0} → false ≡ true → A
never e = absurd (true≢false cc)

pub apart_both : (K : List ℕ → Bool) (p : List ℕ) (ps : List (List ℕ)) → apart K (p ∷ ps) ≡ true → First K p ps
unfolding apart clear distinct
apart_both K p ps e =
    go (K (name_of p)) refl (clear K ps) refl (within 1 16 (length (name_of p))) (named_in (name_of p) ps) refl (distinct ps) refl e
  where
    go : (k : Bool) → K (name_of p) ≡ k → (c : Bool) → clear K ps ≡ c → (w h : Bool) → named_in (name_of p) ps ≡ h → (d : Bool) → distinct ps ≡ d →
        ((not k && c) && ((w && not h) && d)) ≡ true → First K p ps
    go false a true b true false f true g e = record { none = a; once = f; clears = b; rest = g }
    go true a c b w h f d g e = never e
    go false a false b w h f d g e = never e
    go false a true b false h f d g e = never e
    go false a true b true true f d g e = never e
    go false a true b true false f false g e = never e

pub apart_none : (K : List ℕ → Bool) → ((n : List ℕ) → K n ≡ false) → (ps : List (List ℕ)) → apart K ps ≡ distinct ps
unfolding apart
apart_none K e ps = rw (clear_none K e ps)

pub apart_clear : (K : List ℕ → Bool) (ps : List (List ℕ)) → clear K ps ≡ true → apart K ps ≡ distinct ps
unfolding apart
apart_clear K ps e = rw e

pub apart_hit : (K : List ℕ → Bool) (ps : List (List ℕ)) → clear K ps ≡ false → apart K ps ≡ false
unfolding apart
apart_hit K ps e = rw e

-- ## The same at a place of a line
module _ (K : List ℕ → Bool) (line : List ℕ) (i : ℕ) where
  pub apart_end : length line ≤ i → apart K (parts_after line i) ≡ true
  unfolding apart clear distinct
  apart_end h = rw (parts_none line i h)

  pub clear_end : length line ≤ i → clear K (parts_after line i) ≡ true
  unfolding clear
  clear_end h = rw (parts_none line i h)

  module _ {to : ℕ} (e : to ≡ i + span is_letter (drop i line)) where
    abbrev name : List ℕ
    name = take (to - i) (drop i line)

    pub apart_met_at : K name ≡ true → apart K (parts_from line i) ≡ false
    apart_met_at q =
        rw (parts_here line i to e refl)
        (apart_met K (part_from line i) (parts_after line (to + span (is_not comma) (drop to line))) (rw (letters_part line i to e) q))

    pub apart_unnamed_at : within 1 16 (length name) ≡ false → apart K (parts_from line i) ≡ false
    apart_unnamed_at q =
        rw (parts_here line i to e refl)
        (apart_unnamed K (part_from line i) (parts_after line (to + span (is_not comma) (drop to line))) (rw (letters_part line i to e) q))

    pub clear_met_at : K name ≡ true → clear K (parts_from line i) ≡ false
    unfolding clear
    clear_met_at q = rw (parts_here line i to e refl, letters_part line i to e, q)

    module _ {end : ℕ} (f : end ≡ to + span (is_not comma) (drop to line)) (q : K name ≡ false) where
      pub clear_on_at : clear K (parts_from line i) ≡ clear K (parts_after line end)
      unfolding clear
      clear_on_at = rw (parts_here line i to e f, letters_part line i to e, q)

      pub apart_on_at : within 1 16 (length name) ≡ true → (L : List ℕ → Bool) → ((n : List ℕ) → L n ≡ (same name n || K n)) →
          apart K (parts_from line i) ≡ apart L (parts_after line end)
      apart_on_at right L more =
          rw (parts_here line i to e f)
          (apart_first K (part_from line i) (parts_after line end) (rw (letters_part line i to e) right) (rw (letters_part line i to e) q) L
          (λ n. rw (letters_part line i to e) (more n)))
