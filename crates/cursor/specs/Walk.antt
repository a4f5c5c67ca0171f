-- The walk's state and what a step makes of it, after document 01: "The walk yields entries left to right from a state of 16 places."
--
--   fresh                  the fresh state: all 0
--   numbers w              the numbers of a state that is formed as 01 says, or none
--   leading is             the state that these numbers make
--   closed w n             the same places and depth, with the last answer n
--   state_after w m        the state after w when m is next
--   settled w m            the step from w when m is next: that state, and the answer `yield_by m`
--   moved_by read root is  what is next after the numbers of a state, in the map whose root is given
use Rattle.std.specs.Prelude.{ℕ, ◌-◌, Bool, true, ◌&&◌, List, [], ◌∷◌, ◌++◌, eqb, leb, length, take, drop, replicate, Err, None, Ok, Option, Some}
use Rattle.refusal.specs.Refusal.{Outcome, number_of, unsound}
use Rattle.key.specs.Key.{Key}
use Rattle.tree.specs.Page.{branch, Page}
use Rattle.tree.specs.Walk.{Moved, yield, over, stop, map_next}
use Rattle.content.specs.declared.Entry.{Entry}
use Rattle.cursor.specs.declared.Walk.{Walk}
use Rattle.cursor.specs.declared.Stepped.{Stepped}

abbrev pub zeros : List ℕ → Bool
zeros [] = true
zeros (x ∷ xs) = eqb x 0 && zeros xs

-- the last answer's number: 0 for going on, a table number, and this for Done
abbrev pub done_number : ℕ
done_number = 255

-- "The fresh state is all 0"
unfoldable pub fresh : Walk
fresh = record { places = replicate 16 0; depth = 0; last = 0 }

-- "the first d places are child numbers and, last, the number of the entry last yielded; the rest are 0"
unfoldable pub formed : Walk → Bool
formed w = eqb w.last 0 && (leb w.depth 16 && zeros (drop w.depth w.places))

abbrev pub numbers : Walk → Option (List ℕ)
numbers w = branch (formed w) (Some (take w.depth w.places)) None

abbrev pub leading : List ℕ → Walk
leading is = record { places = is ++ replicate (16 - length is) 0; depth = length is; last = 0 }

abbrev pub closed : Walk → ℕ → Walk
closed w n = record { places = w.places; depth = w.depth; last = n }

abbrev pub yield_of : Key × Entry → Outcome (Option Entry)
yield_of e = Ok (Some e.1)

-- "Done or a refusal keeps places and depth, is recorded"
abbrev pub state_after : Walk → Moved (Key × Entry) → Walk
state_after w (yield e i is) = leading (i ∷ is)
state_after w over = closed w done_number
state_after w (stop r) = closed w (number_of r)

abbrev pub yield_by : Moved (Key × Entry) → Outcome (Option Entry)
yield_by (yield e i is) = yield_of e
yield_by over = Ok None
yield_by (stop r) = Err r

unfoldable pub settled : Walk → Moved (Key × Entry) → Stepped
settled w m = record { walk = state_after w m; got = yield_by m }

-- "After the map is found, a state not so formed, then a number or depth that doesn't fit [..] refuses with 12"
abbrev pub moved_by : (ℕ → Outcome (Page Key Entry)) → ℕ → Option (List ℕ) → Moved (Key × Entry)
moved_by read root None = stop unsound
moved_by read root (Some is) = map_next read is root

abbrev pub moved_in : {A : Type 0} → Outcome A → (A → Moved (Key × Entry)) → Moved (Key × Entry)
moved_in (Ok x) go = go x
moved_in (Err r) go = stop r
