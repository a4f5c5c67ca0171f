-- One step of the walk in a store that is open, after document 01: "The walk yields entries left to right from a state of 16 places."
--
--   step_in .. w   one step, from a state that is going on
--   Walks .. w es  steps from w yield the entries es, one a step, and then Done
use Rattle.std.specs.Prelude.{ℕ, ◌≡◌, List, [], ◌∷◌, Ok, None}
use Rattle.key.specs.declared.Kind.{Kind}
use Rattle.key.specs.Key.{Key}
use Rattle.opening.specs.declared.Store.{Store}
use Rattle.content.specs.declared.Entry.{Entry}
use Rattle.cursor.specs.declared.Walk.{Walk}
use Rattle.cursor.specs.declared.Stepped.{Stepped}
use Rattle.cursor.specs.Walk.{numbers, closed, done_number, yield_of, settled, moved_by, moved_in}
use Rattle.store.specs.Store.{reader, map_root}

module _ (image : List ℕ) (store : Store) (map : ℕ) (kind : Kind) where
  unfoldable pub step_in : Walk → Stepped
  step_in w = settled w (moved_in (map_root image store map) (λ root. moved_by (reader image store map kind) root (numbers w)))

  abbrev pub Walks : Walk → List (Key × Entry) → Type 0
  Walks w [] = step_in w ≡ record { walk = closed w done_number; got = Ok None }
  Walks w (e ∷ es) = (v : Walk) × (step_in w ≡ record { walk = v; got = yield_of e }) × Walks v es
