-- A step as the code takes it: the key is read at its place. The words of private contracts.
use Rattle.std.specs.Prelude.{ℕ, List, Ok, Err, Option, Some, None}
use Rattle.key.specs.declared.Kind.{Kind}
use Rattle.key.specs.Key.{Key}
use Rattle.tree.specs.Walk.{Moved}
use Rattle.opening.specs.declared.View.{View}
use Rattle.content.specs.declared.Entry.{Entry}
use Rattle.content.specs.Content.{key_in}
use Rattle.cursor.specs.declared.Walk.{Walk}
use Rattle.cursor.specs.declared.Stepped.{Stepped}
use Rattle.cursor.specs.Walk.{numbers, moved_by, moved_in}
use Rattle.store.specs.Store.{reader, map_root}
use Rattle.viewing.specs.Viewing.{opened_store}
use Rattle.refusal.specs.Refusal.{Outcome}
use Rattle.map.specs.declared.entry.Item.{Item}
use Rattle.walk.specs.declared.Step.{Step}
use Rattle.walk.specs.Stepping.{entry_next}

unfoldable pub next_by : List ℕ → Kind → Outcome (Option Entry) → Outcome (Option Item)
next_by image kind (Ok None) = Ok None
next_by image kind (Err r) = Err r
next_by image kind (Ok (Some e)) = entry_next (key_in image kind e.key) e

unfoldable pub step_by : List ℕ → Kind → Stepped → Step
step_by image kind s = record { walk = s.walk; next = next_by image kind s.got }

-- what is next in a map that may be asked for
unfoldable pub moved_after : List ℕ → View → ℕ → Kind → Walk → Moved (Key × Entry)
moved_after image view id kind w =
    moved_in (opened_store image view) (λ s. moved_in (map_root image s id) (λ root. moved_by (reader image s id kind) root (numbers w)))
