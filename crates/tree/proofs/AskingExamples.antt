-- The definitions at small maps, by computation. Position 1 is the root.
use Rattle.std.specs.Prelude.{ℕ, zero, suc, ◌≡◌, refl, List, [], ◌∷◌, Err, None, Ok, Some}
use Rattle.refusal.specs.Refusal.{Outcome, out_of_place, too_deep, unsound, bad_index}
use Rattle.order.specs.Order.{compare_nat}
use Rattle.tree.specs.Page.{last, more, Page, leaf, inner}
use Rattle.tree.specs.Asking.{lookup, index, entries, map_lookup, map_index, map_count, map_entries}
use Rattle.tree.specs.Examination.{nothing, one_leaf, separators_lie, keys_lie, examine, map_examine}

abbrev pub pages : List (Page ℕ ℕ) → ℕ → Outcome (Page ℕ ℕ)
pages ps zero = Err out_of_place
pages [] (suc n) = Err out_of_place
pages (p ∷ ps) (suc zero) = Ok p
pages (p ∷ ps) (suc (suc n)) = pages ps (suc n)

-- ## A sound map: two leaves, separated by 10
abbrev pub good : ℕ → Outcome (Page ℕ ℕ)
good = pages (inner (more 2 2 10 (last 3 1)) ∷ leaf ((1, 11) ∷ (7, 17) ∷ []) ∷ leaf ((10, 20) ∷ []) ∷ [])

pub good_passes : map_examine compare_nat good 1 ≡ Ok (record { entries = 3; pages = 3; depth = 2 })
unfolding map_examine examine separators_lie keys_lie
good_passes = refl

pub good_entries : map_entries good 1 ≡ (1, 11) ∷ (7, 17) ∷ (10, 20) ∷ []
unfolding map_entries entries
good_entries = refl

-- "So an entry equal to a separator is to its right."
pub separator_found : map_lookup compare_nat good 10 1 ≡ Ok (Some 20)
unfolding map_lookup lookup
separator_found = refl

pub nine_absent : map_lookup compare_nat good 9 1 ≡ Ok None
unfolding map_lookup lookup
nine_absent = refl

pub second_indexed : map_index good 1 1 ≡ Ok (7, 17)
unfolding map_index index
second_indexed = refl

pub third_indexed : map_index good 2 1 ≡ Ok (10, 20)
unfolding map_index index
third_indexed = refl

pub fourth_refused : map_index good 3 1 ≡ Err bad_index
unfolding map_index index
fourth_refused = refl

pub good_count : map_count good 1 ≡ Ok 3
unfolding map_count
good_count = refl

-- ## The empty map, and an empty leaf
pub empty_passes : map_examine compare_nat good 0 ≡ Ok nothing
unfolding map_examine
empty_passes = refl

pub empty_refused : map_index good 0 0 ≡ Err bad_index
unfolding map_index
empty_refused = refl

pub empty_root_passes : map_examine compare_nat (pages (leaf [] ∷ [])) 1 ≡ Ok (one_leaf 0)
unfolding map_examine examine keys_lie
empty_root_passes = refl

pub empty_child_refused : map_examine compare_nat (pages (inner (last 2 0) ∷ leaf [] ∷ [])) 1 ≡ Err unsound
unfolding map_examine examine separators_lie keys_lie
empty_child_refused = refl

-- ## A recorded count that is one too many
abbrev pub miscounted : ℕ → Outcome (Page ℕ ℕ)
miscounted = pages (inner (more 2 3 10 (last 3 1)) ∷ leaf ((1, 11) ∷ (7, 17) ∷ []) ∷ leaf ((10, 20) ∷ []) ∷ [])

pub miscounted_refused : map_examine compare_nat miscounted 1 ≡ Err unsound
unfolding map_examine examine separators_lie keys_lie
miscounted_refused = refl

-- ## An entry equal to a separator to its left, which lookup does not find
abbrev pub leftward : ℕ → Outcome (Page ℕ ℕ)
leftward = pages (inner (more 2 2 10 (last 3 1)) ∷ leaf ((1, 11) ∷ (10, 17) ∷ []) ∷ leaf ((11, 20) ∷ []) ∷ [])

pub leftward_refused : map_examine compare_nat leftward 1 ≡ Err unsound
unfolding map_examine examine separators_lie keys_lie
leftward_refused = refl

pub leftward_absent : map_lookup compare_nat leftward 10 1 ≡ Ok None
unfolding map_lookup lookup
leftward_absent = refl

-- ## A key below the separator on its left
abbrev pub rightward : ℕ → Outcome (Page ℕ ℕ)
rightward = pages (inner (more 2 1 10 (last 3 1)) ∷ leaf ((1, 11) ∷ []) ∷ leaf ((9, 19) ∷ []) ∷ [])

pub rightward_refused : map_examine compare_nat rightward 1 ≡ Err unsound
unfolding map_examine examine separators_lie keys_lie
rightward_refused = refl

-- ## A key after a greater one, which lookup does not find
abbrev pub falling : ℕ → Outcome (Page ℕ ℕ)
falling = pages (leaf ((5, 15) ∷ (3, 13) ∷ []) ∷ [])

pub falling_refused : map_examine compare_nat falling 1 ≡ Err unsound
unfolding map_examine examine keys_lie
falling_refused = refl

pub falling_absent : map_lookup compare_nat falling 3 1 ≡ Ok None
unfolding map_lookup lookup
falling_absent = refl

-- ## A key twice
pub twice_refused : map_examine compare_nat (pages (leaf ((5, 15) ∷ (5, 25) ∷ []) ∷ [])) 1 ≡ Err unsound
unfolding map_examine examine keys_lie
twice_refused = refl

-- ## As many levels as may be, and one more
abbrev pub chain : ℕ → ℕ → List (Page ℕ ℕ)
chain zero p = leaf ((1, 11) ∷ []) ∷ []
chain (suc n) p = inner (last (suc p) 1) ∷ chain n (suc p)

pub sixteen_levels_pass : map_examine compare_nat (pages (chain 15 1)) 1 ≡ Ok (record { entries = 1; pages = 16; depth = 16 })
unfolding map_examine examine separators_lie keys_lie
sixteen_levels_pass = refl

pub seventeen_levels_refused : map_examine compare_nat (pages (chain 16 1)) 1 ≡ Err too_deep
unfolding map_examine examine separators_lie keys_lie
seventeen_levels_refused = refl

-- ## A page that is its own child, and a child at 0
abbrev pub endless : ℕ → Outcome (Page ℕ ℕ)
endless = pages (inner (last 1 1) ∷ [])

pub endless_refused : map_examine compare_nat endless 1 ≡ Err too_deep
unfolding map_examine examine separators_lie
endless_refused = refl

pub endless_lookup_refused : map_lookup compare_nat endless 5 1 ≡ Err too_deep
unfolding map_lookup lookup
endless_lookup_refused = refl

pub child_at_zero_refused : map_examine compare_nat (pages (inner (last 0 1) ∷ [])) 1 ≡ Err out_of_place
unfolding map_examine examine separators_lie
child_at_zero_refused = refl
