use borrow.Author.Rules.{rules}
use Rattle.std.proofs.Common.{ℕ, zero, suc, ◌+◌, ◌*◌, ◌<◌, ◌≡◌, ◌/◌, refl, sym, ap, ◌∙◌, List, [], ◌∷◌, Some, None, length, get_or, drop}
use Rattle.std.proofs.lemmas.List.{get_or-take, get_or-drop}
use Rattle.std.specs.List.{slice_get}
use Rattle.std.specs.Simd.{first_chunks}
use native.Mathlib.Nat.{add-zero}
use native.Mathlib.Omega.{arith}
use Rattle.fletcher.specs.declared.Edition.TheVariants.{First}
use Rattle.fletcher.specs.Plain.{both_reduced}
use Rattle.fletcher.proofs.Laws.{sums_odd, sums_end}
use Rattle.fletcher.proofs.PlainLaws.{both_reduced_lem, reduced_stays, added_more, added_odd, within_start, within_added, within_fits}
use Rattle.fletcher.proofs.Sums.after.Goals as goal

-- a byte of the word k of a block that is cut into words
byte_at : (s : List ℕ) (n k i j : ℕ) → k < n → i < 2 → 2 * k + i ≡ j → get_or (get_or (first_chunks 2 n s) k []) i 0 ≡ get_or s j 0
byte_at s zero k i j h l e = absurd (omega arith)
byte_at s (suc n) zero i j h l e =
    let first : i ≡ j = omega arith in
    get_or-take 2 s i 0 l ∙ ap (λ (m : ℕ). get_or s m 0) first
byte_at s (suc n) (suc k) i j h l e =
    let place : 2 + (2 * k + i) ≡ j = omega arith in
    byte_at (drop 2 s) n k i (2 * k + i) (omega arith) l refl ∙ (get_or-drop 2 s (2 * k + i) 0 ∙ ap (λ (m : ℕ). get_or s m 0) place)

word_at : (s : List ℕ) (k : ℕ) → k < length s / 2 →
    get_or (get_or (first_chunks 2 (length s / 2) s) k []) 0 0 * 256 + get_or (get_or (first_chunks 2 (length s / 2) s) k []) 1 0
    ≡ get_or s (2 * k) 0 * 256 + get_or s (2 * k + 1) 0
word_at s k h =
    let n = length s / 2 in
    omega (arith, byte_at s n k 0 (2 * k) h (omega arith) (omega arith), byte_at s n k 1 (2 * k + 1) h (omega arith) (omega arith))

-- the byte that is left
first_of : (s : List ℕ) (x : ℕ) → Some x ≡ slice_get s 0 → (0 < length s) × (get_or s 0 0 ≡ x)
first_of [] x h = cc
first_of (y ∷ s) x h = (omega arith, cc)

odd_at : (s odd : List ℕ) (x i : ℕ) → odd ≡ drop i s → Some x ≡ slice_get odd 0 → get_or s i 0 ≡ x
odd_at s odd x i e h =
    let first : get_or s (i + 0) 0 ≡ get_or odd 0 0 = rw e (sym (get_or-drop i s 0 0)) in
    rw add-zero at first ∙ (first_of odd x h).1

none_of : (s : List ℕ) → None ≡ slice_get s 0 → length s ≡ 0
none_of [] h = refl
none_of (y ∷ s) h = cc

pub loop-word-init : goal.loop-word-init
loop-word-init c = record { within = within_start _ c.requires.0; left = rw (reduced_stays _ c.requires.0) }

pub plus-t-requires : goal.plus-t-requires
plus-t-requires c = within_fits (omega arith) (within_added c.from_be_bytes.result (search rules) c.loop-word.invariant.within)

pub loop-word-preserved : goal.loop-word-preserved
loop-word-preserved c =
    let k = c.loop-word.word-index in
    let s = c.args.block.now in
    let next : 2 * (k + 1) ≡ 2 * k + 2 = omega arith in
    let word : c.from_be_bytes.result ≡ get_or s (2 * k) 0 * 256 + get_or s (2 * k + 1) 0 =
    c.from_be_bytes.ensures ∙ rw c.as_chunks.ensures.front (word_at s k (omega arith)) in
    rw (c.plus-t.ensures, next) record {
      within = within_added c.from_be_bytes.result (omega arith) c.loop-word.invariant.within;
      left = rw word (added_more c.args.edition c.loop-word.t s (2 * k) (omega arith) ∙ c.loop-word.invariant.left);
    }

pub plus-requires : goal.plus-requires
plus-requires c =
    let odd = first_of _ _ c.in-Some.ensures.value in
    within_fits (omega arith) (within_added _ (omega (arith, c.type_inv.byte)) c.loop-word.invariant.within)

pub returns-in_default-clause-sums : goal.returns-in_default-clause-sums
returns-in_default-clause-sums c =
    let l = c.loop-word in
    let none = none_of _ c.in_default.ensures.value in
    c.reduced.ensures ∙ (sym (sums_end c.args.edition (both_reduced l.t) c.args.block.now (2 * l.word-index) (omega arith)) ∙ l.invariant.left)

pub returns-in_default-clause-reduced : goal.returns-in_default-clause-reduced
returns-in_default-clause-reduced c = rw c.reduced.ensures (both_reduced_lem c.loop-word.t)

pub returns-in-First-clause-sums : goal.returns-in-First-clause-sums
returns-in-First-clause-sums c =
    let l = c.loop-word in
    let odd = first_of _ _ c.in-Some.ensures.value in
    let uncounted = sums_odd First (both_reduced l.t) c.args.block.now (2 * l.word-index) (omega arith) in
    let left = rw c.in-First.is at l.invariant.left in
    rw c.in-First.is (c.reduced-in-First.ensures ∙ (sym uncounted ∙ left))

pub returns-in-First-clause-reduced : goal.returns-in-First-clause-reduced
returns-in-First-clause-reduced c = rw c.reduced-in-First.ensures (both_reduced_lem c.loop-word.t)

pub returns-in-Second-clause-sums : goal.returns-in-Second-clause-sums
returns-in-Second-clause-sums c =
    let l = c.loop-word in
    let s = c.args.block.now in
    let odd = first_of _ _ c.in-Some.ensures.value in
    let place : length s / 2 * 2 ≡ 2 * l.word-index = omega arith in
    let byte = odd_at s _ _ (2 * l.word-index) (rw place at c.as_chunks.ensures.back) c.in-Some.ensures.value in
    let counted = added_odd l.t s (2 * l.word-index) (omega arith) in
    let left = rw c.in-Second.is at l.invariant.left in
    rw c.in-Second.is (c.reduced-in-Second.ensures ∙ rw (c.plus.ensures, ← byte) (counted ∙ left))

pub returns-in-Second-clause-reduced : goal.returns-in-Second-clause-reduced
returns-in-Second-clause-reduced c = rw c.reduced-in-Second.ensures (both_reduced_lem c.plus.result)
