-- Laws of a page's items: one step of passing several, one item by its number, and where an item lies.
--
--   Skipping s f left i answer  the answer of a loop that has `left` items of a form to pass, from place i on
use Prim.Native.Nat.{ℕ, zero, suc, ◌+◌, ◌*◌, ◌-◌, ◌≤◌, ◌<◌}
use Rattle.std.specs.Prelude.{◌≡◌, List, Bool, None, Option, Some, slice_get}
use Rattle.std.proofs.Math.Path.{refl, ap}
use Rattle.std.proofs.Common.{sym, ◌∙◌}
use Rattle.std.proofs.Math.Bool.{true, false}
use native.Mathlib.Omega.{arith}
use borrow.Author.Tests.{le-leb, lt-leb, leb-true, leb-false}
use Rattle.std.proofs.Math.Dec.{leb}
use Rattle.std.proofs.Math.ListN.{length}
use Rattle.key.specs.declared.Kind.TheVariants.{Number, Text}
use Rattle.key.specs.declared.sized.Sized.{Sized}
use Rattle.key.specs.Key.{key_at}
use Rattle.key.specs.SizedLaws.{Lies, sized_lies, key_lies}
use Rattle.item.specs.declared.Form.{Form}
use Rattle.item.specs.declared.Form.TheVariants as form
use Rattle.item.specs.Step.{got, bad, after, up_to}
use Rattle.item.specs.StepLaws.{after_more, after_bad, up_to-length, up_to_nth, item_of}
use Rattle.item.specs.Item.{item_at, items, value_limit, skipped}

-- ## One step of a form
module _ (s : List ℕ) (f : Form) where
  pub items_at : (i : ℕ) {k : Sized} → item_at s f i ≡ Some k → items s f i ≡ got k.spot k.next
  unfolding items
  items_at i e = rw e

  pub items_bad : (i : ℕ) → item_at s f i ≡ None → items s f i ≡ bad
  unfolding items
  items_bad i e = rw e

  -- ## All of them
  -- where n items can be passed, n are there
  pub skipped_length : (n i : ℕ) {next : ℕ} → skipped s f n i ≡ Some next → length (up_to (items s f) n i) ≡ n
  unfolding skipped
  skipped_length n i e = up_to-length (items s f) n i e

-- ## A loop
pub record Skipping (s : List ℕ) (f : Form) (left i : ℕ) (answer : Option ℕ) : Type 0 where
  pub so_far : skipped s f left i ≡ answer

module _ {s : List ℕ} {f : Form} {left i : ℕ} {answer : Option ℕ} (l : Skipping s f left i answer) where
  pub skip_none : left ≤ 0 → Some i ≡ answer
  unfolding skipped after
  skip_none h = let e : left ≡ 0 = omega arith in rw e at l.so_far

  module _ {it : Option Sized} (h : 0 < left) (e : it ≡ item_at s f i) where
    pub skip_more : {k : Sized} → it ≡ Some k → Skipping s f (left - 1) k.next answer
    unfolding skipped
    skip_more t = record { so_far = rw (after_more (items s f) left i h (items_at s f i (sym e ∙ t))) at l.so_far }

    pub skip_bad : it ≡ None → None ≡ answer
    unfolding skipped
    skip_bad t = rw (after_bad (items s f) left i h (items_bad s f i (sym e ∙ t))) at l.so_far

-- ## An item by its number
module _ (s : List ℕ) (f : Form) (n at k : ℕ) (h : k < n) where
  pub nth_stuck : skipped s f k at ≡ None → slice_get (up_to (items s f) n at) k ≡ None
  unfolding skipped
  nth_stuck e = up_to_nth (items s f) n k at h ∙ rw e

  module _ {i : ℕ} (e : skipped s f k at ≡ Some i) where
    nth_past : slice_get (up_to (items s f) n at) k ≡ item_of (items s f) i
    unfolding skipped
    nth_past = up_to_nth (items s f) n k at h ∙ rw e

    pub nth_at : {j : Sized} → item_at s f i ≡ Some j → slice_get (up_to (items s f) n at) k ≡ Some j.spot
    unfolding item_of
    nth_at q = nth_past ∙ rw (items_at s f i q)

    pub nth_bad : item_at s f i ≡ None → slice_get (up_to (items s f) n at) k ≡ None
    unfolding item_of
    nth_bad q = nth_past ∙ rw (items_bad s f i q)

-- ## Words lie one after another
module _ (s : List ℕ) where
  pub word_fits : (i : ℕ) → i + 8 ≤ length s → items s form.Word i ≡ got (record { at = i; len = 8 }) (i + 8)
  unfolding items item_at key_at
  word_fits i h = rw (le-leb (i + 8) (length s) h)

  pub word_bad : (i : ℕ) → length s < i + 8 → items s form.Word i ≡ bad
  unfolding items item_at key_at
  word_bad i h = rw (lt-leb (i + 8) (length s) h)

  after_words : (n i : ℕ) → i + 8 * n ≤ length s → after (items s form.Word) n i ≡ Some (i + 8 * n)
  unfolding after
  after_words zero i h = ap Some (omega arith)
  after_words (suc n) i h = rw (word_fits i (omega arith)) (after_words n (i + 8) (omega arith) ∙ ap Some (omega arith))

  after_words_none : (n i : ℕ) → 0 < n → length s < i + 8 * n → after (items s form.Word) n i ≡ None
  unfolding after
  after_words_none zero i h k = absurd (omega arith)
  after_words_none (suc n) i h k = go (leb (i + 8) (length s)) refl (after_words_none n (i + 8))
    where
      go : (t : Bool) → leb (i + 8) (length s) ≡ t → (0 < n → length s < i + 8 + 8 * n → after (items s form.Word) n (i + 8) ≡ None)
          → after (items s form.Word) (suc n) i ≡ None
      go true e ih = let l = leb-true (i + 8) (length s) e in rw (word_fits i l) (ih (omega arith) (omega arith))
      go false e ih = rw (word_bad i (leb-false (i + 8) (length s) e))

  pub words_past : (n i : ℕ) → i + 8 * n ≤ length s → skipped s form.Word n i ≡ Some (i + 8 * n)
  unfolding skipped
  words_past n i h = after_words n i h

  pub words_stuck : (n i : ℕ) → 0 < n → length s < i + 8 * n → skipped s form.Word n i ≡ None
  unfolding skipped
  words_stuck n i h k = after_words_none n i h k

-- ## Where an item lies
pub item_lies : (s : List ℕ) (f : Form) (i : ℕ) {k : Sized} → item_at s f i ≡ Some k → Lies s k
unfolding item_at
item_lies s form.Word i e = key_lies Number s i e
item_lies s form.Text i e = key_lies Text s i e
item_lies s form.Bytes i e = sized_lies value_limit s i e
