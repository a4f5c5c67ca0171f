-- One step of the walk as a public call, after document 01, "Asking".
--
--   recorded n       the answer that a state with the last answer n gives again, if it records one
--   moved_of .. w    what is next: arguments, then opening, then the map
--   given w m        the step from w when m is next: the state after it, and the answer `next_of m`
--   step_of .. w     the call
--   WalksOf .. w es  steps from w yield the entries es, one a step, and then Done, which is given again
use Rattle.std.specs.Prelude.{ℕ, ◌≡◌, List, [], ◌∷◌, eqb, None, Option, Some, Ok, Err, option_map}
use Rattle.refusal.specs.Refusal.{Outcome, refusal_of}
use Rattle.key.specs.Key.{Key}
use Rattle.tree.specs.Page.{branch}
use Rattle.tree.specs.Walk.{Moved, yield, over, stop}
use Rattle.opening.specs.declared.View.{View}
use Rattle.content.specs.declared.Entry.{Entry}
use Rattle.cursor.specs.declared.Walk.{Walk}
use Rattle.cursor.specs.Walk.{numbers, closed, done_number, state_after, moved_by, moved_in}
use Rattle.store.specs.Store.{reader, map_root}
use Rattle.viewing.specs.Viewing.{opened_store}
use Rattle.map.specs.declared.entry.Item.{Item}
use Rattle.map.specs.Map.{asked_map, entry_item}
use Rattle.walk.specs.declared.Step.{Step}

-- "the last answer: going on, Done or a table number"
unfoldable pub recorded : ℕ → Option (Outcome (Option Item))
recorded n = branch (eqb n done_number) (Some (Ok None)) (option_map (λ r. Err r) (refusal_of n))

-- "index and walk give the key too, kind 1 by place and length"
abbrev pub entry_next : Key → Entry → Outcome (Option Item)
entry_next k e = Ok (Some (entry_item k e))

abbrev pub next_of : Moved (Key × Entry) → Outcome (Option Item)
next_of (yield e i is) = entry_next e.0 e.1
next_of over = Ok None
next_of (stop r) = Err r

unfoldable pub given : Walk → Moved (Key × Entry) → Step
given w m = record { walk = state_after w m; next = next_of m }

module _ (image : List ℕ) (view : View) (map kind : ℕ) where
  unfoldable pub moved_of : Walk → Moved (Key × Entry)
  moved_of w =
      moved_in (asked_map map kind) (λ m.
      moved_in (opened_store image view) (λ s.
      moved_in (map_root image s m.0) (λ root. moved_by (reader image s m.0 m.1) root (numbers w))))

  -- "is given again at each later step before anything is judged, the state unchanged"
  abbrev pub again : Walk → Option (Outcome (Option Item)) → Step
  again w (Some n) = record { walk = w; next = n }
  again w None = given w (moved_of w)

  unfoldable pub step_of : Walk → Step
  step_of w = again w (recorded w.last)

  abbrev pub WalksOf : Walk → List (Key × Entry) → Type 0
  WalksOf w [] =
      let done : Step = record { walk = closed w done_number; next = Ok None } in
      (step_of w ≡ done) × (step_of (closed w done_number) ≡ done)
  WalksOf w (e ∷ es) = (v : Walk) × (step_of w ≡ record { walk = v; next = entry_next e.0 e.1 }) × WalksOf v es
