-- The definitions at two small metadata maps, by computation. Keys are chunk ids, values are places, chunk c stands at 10 * c, and
-- the chunk of a position is its tens. A value 0 is unusable.
use Rattle.std.specs.Prelude.{ℕ, zero, suc, ◌+◌, ◌*◌, ◌/◌, ◌≡◌, refl, List, [], ◌∷◌, eqb, Err, Ok}
use Rattle.refusal.specs.Refusal.{Outcome, not_located, ninth_question, out_of_place, bad_check_value}
use Rattle.order.specs.Order.{compare_nat}
use Rattle.tree.specs.Page.{branch, Children, last, more, Page, leaf, inner}
use Rattle.tree.specs.Asking.{lookup, map_lookup}
use Rattle.locating.specs.Locating.{Metadata, located}

abbrev pub at : List (ℕ × Outcome (Page ℕ ℕ)) → ℕ → Outcome (Page ℕ ℕ)
at [] p = Err out_of_place
at (e ∷ es) p = branch (eqb p e.0) e.1 (at es p)

-- the root is page 1 of the newest chunk; a page is read where its chunk stands
abbrev pub metadata : ℕ → List (ℕ × Outcome (Page ℕ ℕ)) → Metadata ℕ ℕ ℕ
metadata newest pages =
    record {
      compare = compare_nat;
      newest = newest;
      newest_at = 10 * newest;
      root = 10 * newest + 1;
      chunk_of = λ p. p / 10;
      key_of = λ c. c;
      standing = λ c w. branch (eqb w 0) (Err not_located) (Ok w);
      page_in = λ l p. branch (eqb l (10 * (p / 10))) (at pages p) (Err out_of_place);
    }

-- ## Entries of chunks that are there, and of some that are not
abbrev pub mixed : Metadata ℕ ℕ ℕ
mixed =
    metadata 3
    ((31, Ok (inner (more 32 2 4 (more 0 1 5 (more 33 1 7 (more 51 1 8 (more 21 1 9 (last 22 1)))))))) ∷
    (32, Ok (leaf ((1, 0) ∷ (2, 20) ∷ []))) ∷ (33, Err bad_check_value) ∷ (51, Ok (leaf ((7, 70) ∷ []))) ∷
    (21, Ok (leaf ((8, 80) ∷ []))) ∷ (22, Ok (inner (last 34 1))) ∷ (34, Ok (leaf ((9, 90) ∷ []))) ∷ [])

-- "the newest stands where opening found it"
pub newest_found : located mixed 0 3 ≡ Ok 30
unfolding located
newest_found = refl

pub second_found : located mixed 8 2 ≡ Ok 20
unfolding located map_lookup lookup
second_found = refl

-- "Such a lookup may need another chunk first."
pub eighth_found : located mixed 8 8 ≡ Ok 80
unfolding located map_lookup lookup
eighth_found = refl

pub no_entry_refused : located mixed 8 0 ≡ Err not_located
unfolding located map_lookup lookup
no_entry_refused = refl

pub unusable_refused : located mixed 8 1 ≡ Err not_located
unfolding located map_lookup lookup
unusable_refused = refl

-- chunk 0, which the child position 0 names, could not be located
pub child_zero_refused : located mixed 8 4 ≡ Err out_of_place
unfolding located map_lookup lookup
child_zero_refused = refl

-- chunk 7's entry stands in chunk 5, whose own lookup is refused
pub nested_refused : located mixed 8 7 ≡ Err bad_check_value
unfolding located map_lookup lookup
nested_refused = refl

-- chunk 9's leaf stands in the newest, but the page above it in chunk 2
pub ninth_with_two_found : located mixed 2 9 ≡ Ok 90
unfolding located map_lookup lookup
ninth_with_two_found = refl

pub ninth_with_one_refused : located mixed 1 9 ≡ Err ninth_question
unfolding located map_lookup lookup
ninth_with_one_refused = refl

-- ## A chain: the entry of chunk c stands in chunk c + 1, up to the newest, which is chunk 10
abbrev pub fan : ℕ → ℕ → Children ℕ
fan zero c = last (10 * suc c + 2) 1
fan (suc n) c = more (10 * suc c + 2) 1 (suc c) (fan n (suc c))

abbrev pub leaves : ℕ → ℕ → List (ℕ × Outcome (Page ℕ ℕ))
leaves zero c = []
leaves (suc n) c = (10 * suc c + 2, Ok (leaf ((c, 10 * c) ∷ []))) ∷ leaves n (suc c)

abbrev pub chain : Metadata ℕ ℕ ℕ
chain = metadata 10 ((101, Ok (inner (fan 8 1))) ∷ leaves 9 1)

-- "At most 8 of these questions are open at once."
pub eight_suffice : located chain 8 2 ≡ Ok 20
unfolding located map_lookup lookup
eight_suffice = refl

pub nine_refused : located chain 8 1 ≡ Err ninth_question
unfolding located map_lookup lookup
nine_refused = refl
