-- The items of a page, after document 01, "Positions and pages". s is the image up to the page's end, so that no item reaches past
-- the page and places in s are places in the image.
--
--   item_at s form i  the item of a form at place i: a word of 8 bytes, a text key, or bytes (a value)
--   items s form      the items of a form as steps of a cursor
--   count_at s        recorded counts as steps of a cursor that has the sum so far
--   skipped s form n i the place after n items of a form
--   counted s n i  the sum of n recorded counts, and the place after them
use Rattle.std.specs.Prelude.{ℕ, ◌+◌, ◌^◌, List, cond, ltb, None, Option, Some}
pub use Rattle.text.specs.declared.spot.Spot.{Spot}
use Rattle.numeral.specs.declared.Numeral.{Numeral}
use Rattle.numeral.specs.Var.{var_at}
use Rattle.key.specs.declared.Kind.TheVariants as kind
use Rattle.key.specs.declared.sized.Sized.{Sized}
use Rattle.key.specs.Sized.{sized_at}
use Rattle.key.specs.Key.{key_at}
use Rattle.item.specs.declared.Form.{Form}
use Rattle.item.specs.declared.Form.TheVariants.{Word, Text, Bytes}
use Rattle.item.specs.declared.Counted.{Counted}
use Rattle.item.specs.Step.{Step, got, bad, after}

-- "Values: a variable-size length up to 65,535, then bytes."
abbrev pub value_limit : ℕ
value_limit = 65536

unfoldable pub item_at : List ℕ → Form → ℕ → Option Sized
item_at s Word i = key_at kind.Number s i
item_at s Text i = key_at kind.Text s i
item_at s Bytes i = sized_at value_limit s i

abbrev pub on_sized : {B : Type 0} → Option Sized → B → (ℕ → ℕ → ℕ → B) → B
on_sized (Some k) stop go = go k.spot.at k.spot.len k.next
on_sized None stop go = stop

unfoldable pub items : List ℕ → Form → ℕ → Step Spot ℕ
items s form i = on_sized (item_at s form i) bad (λ at len next. got (record { at = at; len = len }) next)

abbrev pub on_numeral : {B : Type 0} → Option Numeral → B → (ℕ → ℕ → B) → B
on_numeral (Some n) stop go = go n.value n.next
on_numeral None stop go = stop

-- "their sum below 2^48 (the count that takes it there can't be read)"
abbrev pub count_limit : ℕ
count_limit = 2 ^ 48

unfoldable pub count_at : List ℕ → ℕ × ℕ → Step ℕ (ℕ × ℕ)
count_at s c =
    on_numeral (var_at count_limit s c.0) bad (λ v next. cond (ltb (c.1 + v) count_limit) (got v (next, c.1 + v)) bad)

unfoldable pub skipped : List ℕ → Form → ℕ → ℕ → Option ℕ
skipped s form n i = after (items s form) n i

-- the cursor after some counts, by its parts
abbrev pub counted_of : Option (ℕ × ℕ) → Option Counted
counted_of (Some c) = Some (record { total = c.1; next = c.0 })
counted_of None = None

unfoldable pub counted : List ℕ → ℕ → ℕ → Option Counted
counted s n i = counted_of (after (count_at s) n (i, 0))
