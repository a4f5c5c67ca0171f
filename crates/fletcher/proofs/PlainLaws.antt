-- That sums may be reduced late, which request C-15 of document 02 asks to be shown for any text.
--
--   plain_rule    reduced at its end, the sums of a text are the rule's
--   within_360    from reduced sums both stay below 2^32 within 360 words
--   most_reached  361 words can take the second sum past it; odd_reached: 360 and an odd byte
use Rattle.std.specs.Prelude.{ℕ, zero, suc, ◌+◌, ◌*◌, ◌-◌, ◌%◌, ◌≤◌, ◌<◌, ◌≡◌, refl, List, [], ◌∷◌, Bool, true, false, cond, eqb, length, get_or, drop, replicate}
use Rattle.std.proofs.Common.{sym, ◌∙◌, subst, add-one, arith, eqb-true}
use Rattle.std.proofs.lemmas.Bool.{eqb-false}
use Rattle.fletcher.specs.declared.Edition.{Edition}
use Rattle.fletcher.specs.declared.Edition.TheVariants.{First, Second}
use Rattle.fletcher.specs.declared.Sums.{Sums}
use Rattle.fletcher.specs.Fletcher.{reduced, start, add_word, sums}
use Rattle.fletcher.proofs.Laws.{sums_more, sums_odd}
use Rattle.fletcher.specs.Plain.{added, plain, words_in, both_reduced, InRange, Reduced, Fits, most, Within}

-- ## Reducing

-- what reducing leaves is 1 to 65535, and the same modulo 65535
reduced_range : (x : ℕ) → InRange (reduced x) × (reduced x % 65535 ≡ x % 65535)
unfolding reduced
reduced_range x = go (eqb (x % 65535) 0) refl
  where
    go : (t : Bool) → eqb (x % 65535) 0 ≡ t
        → InRange (cond t 65535 (x % 65535)) × (cond t 65535 (x % 65535) % 65535 ≡ x % 65535)
    go true e = ((omega arith, omega arith), omega (arith, eqb-true (x % 65535) 0 e))
    go false e = ((omega (arith, eqb-false (x % 65535) 0 e), omega arith), omega arith)

reduced_same : (x y : ℕ) → InRange y → x % 65535 ≡ y % 65535 → reduced x ≡ y
reduced_same x y h e = omega (arith, reduced_range x)

reduced_add : (x y : ℕ) → reduced (reduced x + y) ≡ reduced (x + y)
reduced_add x y = reduced_same _ _ (reduced_range (x + y)).0 (omega (arith, (reduced_range x).1, (reduced_range (x + y)).1))

reduced_sum : (x y : ℕ) → reduced (reduced x + reduced y) ≡ reduced (x + y)
reduced_sum x y =
    reduced_same _ _ (reduced_range (x + y)).0 (omega (arith, (reduced_range x).1, (reduced_range y).1, (reduced_range (x + y)).1))

pub both_reduced_lem : (t : Sums) → Reduced (both_reduced t)
unfolding both_reduced
both_reduced_lem t = record { first = (reduced_range t.first).0; second = (reduced_range t.second).0 }

pub reduced_stays : (t : Sums) → Reduced t → both_reduced t ≡ t
unfolding both_reduced
reduced_stays t h = rw (reduced_same _ _ h.first refl, reduced_same _ _ h.second refl)

pub start_reduced : Reduced start
unfolding start
start_reduced = record { first = (omega arith, omega arith); second = (omega arith, omega arith) }

-- ## "for any text [..] the sums stay the rule's"

pub added_rule : (t : Sums) (w : ℕ) → both_reduced (added t w) ≡ add_word (both_reduced t) w
unfolding both_reduced added add_word
added_rule t w = rw (reduced_add t.first w, reduced_sum)

pub plain_rule : (e : Edition) (t : Sums) (s : List ℕ) → both_reduced (plain e t s) ≡ sums e (both_reduced t) s
unfolding plain sums
plain_rule e t [] = refl
plain_rule First t (x ∷ []) = refl
plain_rule Second t (x ∷ []) = added_rule t (x * 256)
plain_rule e t (high ∷ (low ∷ s)) = rw (plain_rule e (added t (high * 256 + low)) s, added_rule)

-- the word at a place, and those after it
pub added_more : (e : Edition) (t : Sums) (s : List ℕ) (i : ℕ) → i + 1 < length s
    → sums e (both_reduced (added t (get_or s i 0 * 256 + get_or s (i + 1) 0))) (drop (i + 2) s) ≡ sums e (both_reduced t) (drop i s)
added_more e t s i h = rw (added_rule, sums_more e (both_reduced t) s i)

-- an odd last byte
pub added_odd : (t : Sums) (s : List ℕ) (i : ℕ) → i + 1 ≡ length s
    → both_reduced (added t (get_or s i 0 * 256)) ≡ sums Second (both_reduced t) (drop i s)
added_odd t s i h = added_rule t (get_or s i 0 * 256) ∙ sym (sums_odd Second (both_reduced t) s i h)

-- ## "from reduced sums both stay below 2^32 within 360 words"

pub within_start : (t : Sums) → Reduced t → Within 0 t
unfolding most
within_start t h = record { first = omega arith; second = omega arith }

pub within_added : {k : ℕ} {t : Sums} (w : ℕ) → w ≤ 65535 → Within k t → Within (k + 1) (added t w)
unfolding added most
within_added w l h = record { first = omega arith; second = rw add-one (omega arith) }

most_le : (k left : ℕ) → k + left ≡ 360 → most k ≤ 4282122435
unfolding most
most_le k zero e =
    let last : 360 ≡ k = omega arith in
    subst (λ (n : ℕ). most n ≤ 4282122435) last (omega arith)
most_le k (suc left) e = omega (arith, most_le (suc k) left (omega arith))

pub within_fits : {k : ℕ} {t : Sums} → k ≤ 360 → Within k t → Fits t
within_fits {k} l h = record { first = omega arith; second = omega (arith, most_le k (360 - k) (omega arith)) }

-- k words were added before the text s
plain_fits : (e : Edition) (k : ℕ) (t : Sums) (s : List ℕ) → ((i : ℕ) → get_or s i 0 < 256) → k + words_in e s ≤ 360 → Within k t → Fits (plain e t s)
unfolding plain words_in
plain_fits e k t [] bytes l h = within_fits (omega arith) h
plain_fits First k t (x ∷ []) bytes l h = within_fits (omega arith) h
plain_fits Second k t (x ∷ []) bytes l h = within_fits (omega arith) (within_added _ (omega (arith, bytes 0)) h)
plain_fits e k t (high ∷ (low ∷ s)) bytes l h =
    plain_fits e (k + 1) _ s (λ i. bytes (suc (suc i))) (omega arith) (within_added _ (omega (arith, bytes 0, bytes 1)) h)

-- of any bytes, at most 360 words
pub within_360 : (e : Edition) (t : Sums) (s : List ℕ) → ((i : ℕ) → get_or s i 0 < 256) → words_in e s ≤ 360 → Reduced t → Fits (plain e t s)
within_360 e t s bytes l h = plain_fits e 0 t s bytes (omega arith) (within_start t h)

-- 361 words ff ff take the second sum past 2^32, which is 4294967296: so 360 is the most that may be added before it is reduced.
-- An odd last byte ff after 360 of them does so too: where it is added, fewer words went before it.
pub most_reached : (plain First start (replicate 722 255)).second ≡ 4305846105
unfolding plain start added
most_reached = refl

pub odd_reached : (plain Second start (replicate 721 255)).second ≡ 4305845850
unfolding plain start added
odd_reached = refl
