-- Reading items one after another from a cursor. One kind of item is one function from a cursor to an item and the next cursor.
--
--   Step A C        an item and the next cursor, or an item that can't be read
--   after read n c  the cursor after n items; none where one of them can't be read
--   up_to read n c  the n items themselves, up to the first that can't be read
use Rattle.std.specs.Prelude.{ℕ, zero, suc, List, [], ◌∷◌, None, Option, Some}

pub data Step (A C : Type 0) : Type 0 where
  got : A → C → Step A C
  bad : Step A C

abbrev pub on_step : {A C B : Type 0} → Step A C → B → (A → C → B) → B
on_step (got a c) stop go = go a c
on_step bad stop go = stop

module _ {A C : Type 0} (read : C → Step A C) where
  unfoldable pub after : ℕ → C → Option C
  after zero c = Some c
  after (suc n) c = on_step (read c) None (λ a d. after n d)

  unfoldable pub up_to : ℕ → C → List A
  up_to zero c = []
  up_to (suc n) c = on_step (read c) [] (λ a d. a ∷ up_to n d)
