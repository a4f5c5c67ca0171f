-- The walk as the code goes, page by page: the words of the contracts.
--
--   after_of .. i last j     what follows number i at a page that is judged; `last` says whether it is the last number
--   first_of .. j            the first child or entry of a page that is judged
--   over_of left             what is next where a leaf has no entry more
--   empty_step w             the step in an empty map
--   numbered from l n depth  the numbers before place l, then n, then zeros
--   left_step w l n m        the step to the leftmost entry m under the page that place l leads to with number n
use Rattle.std.specs.Prelude.{ℕ, ◌+◌, ◌-◌, Bool, true, false, cond, List, ◌∷◌, ◌++◌, eqb, ltb, leb, get_or, take, replicate, Err, None, Ok, Option, Some, slice_get}
use Rattle.refusal.specs.Refusal.{Outcome, number_of, unsound}
use Rattle.position.specs.Position.{of_bits}
use Rattle.key.specs.declared.Kind.{Kind}
use Rattle.key.specs.Key.{Key}
use Rattle.page.specs.declared.Inner.{Inner}
use Rattle.page.specs.declared.Judged.{Judged}
use Rattle.page.specs.declared.Judged.TheVariants as judged
use Rattle.content.specs.declared.Entry.{Entry}
use Rattle.content.specs.Content.{entries_in, positions_in}
use Rattle.cursor.specs.declared.Walk.{Walk}
use Rattle.cursor.specs.declared.Stepped.{Stepped}
use Rattle.cursor.specs.declared.follow.After.{After}
use Rattle.cursor.specs.declared.follow.After.TheVariants as after
use Rattle.cursor.specs.declared.follow.Down.{Down}
use Rattle.cursor.specs.declared.follow.Down.TheVariants as down
use Rattle.cursor.specs.declared.follow.Left.{Left}
use Rattle.cursor.specs.declared.follow.Leftmost.{Leftmost}
use Rattle.cursor.specs.Walk.{closed, done_number}

-- ## One page
abbrev pub entry_after : Option (Key × Entry) → After
entry_after (Some e) = after.Entry e.1
entry_after None = after.Over

-- an inner page takes a number that is not the last
unfoldable pub after_child : List ℕ → Inner → ℕ → Bool → Outcome After
after_child image p i true = Err unsound
after_child image p i false =
    let ps = positions_in (take p.end image) (p.n + 1) p.positions in
    cond (ltb p.n i) (Err unsound)
    (cond (eqb i p.n) (Ok (after.Last (of_bits (get_or ps i 0)))) (Ok (after.Child (of_bits (get_or ps i 0)) (of_bits (get_or ps (i + 1) 0)))))

-- a leaf takes the last
unfoldable pub after_of : List ℕ → Kind → ℕ → Bool → Outcome Judged → Outcome After
after_of image kind i last (Err r) = Err r
after_of image kind i false (Ok (judged.Leaf p)) = Err unsound
after_of image kind i true (Ok (judged.Leaf p)) =
    cond (leb p.n i) (Err unsound) (Ok (entry_after (slice_get (entries_in (take p.end image) kind p.n p.keys p.values) (i + 1))))
after_of image kind i last (Ok (judged.Inner p)) = after_child image p i last

-- the leftmost way: the first entry, or the first child
unfoldable pub first_of : List ℕ → Kind → Outcome Judged → Outcome After
first_of image kind (Err r) = Err r
first_of image kind (Ok (judged.Leaf p)) = Ok (entry_after (slice_get (entries_in (take p.end image) kind p.n p.keys p.values) 0))
first_of image kind (Ok (judged.Inner p)) = Ok (after.Last (of_bits (get_or (positions_in (take p.end image) (p.n + 1) p.positions) 0 0)))

-- where a leaf has no entry more
abbrev pub over_of : Option Left → Down
over_of None = down.Over
over_of (Some left) = down.Left left

-- ## The state
-- "a number or depth that doesn't fit the map or the page it is used at, refuses with 12": an empty map is done with no number
unfoldable pub empty_step : Walk → Stepped
empty_step w =
    cond (eqb w.depth 0) (record { walk = closed w done_number; got = Ok None })
    (record { walk = closed w (number_of unsound); got = Err unsound })

-- where there is no place l the places are as they are
unfoldable pub numbered : List ℕ → ℕ → ℕ → ℕ → Walk
numbered from l n depth =
    record { places = cond (ltb l 16) (take l from ++ (n ∷ replicate (15 - l) 0)) from; depth = depth; last = 0 }

unfoldable pub left_step : Walk → ℕ → ℕ → Outcome (Option Leftmost) → Stepped
left_step w l n (Ok (Some m)) = record { walk = numbered w.places l n m.depth; got = Ok (Some m.entry) }
left_step w l n (Ok None) = record { walk = closed w done_number; got = Ok None }
left_step w l n (Err r) = record { walk = closed w (number_of r); got = Err r }
