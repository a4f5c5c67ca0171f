-- Where the walk's two ways down end, and what that says of the walk: the private contracts of `down_by` and `leftmost_from`.
--
--   EndsLeft .. level p m    m is the leftmost entry under the page at p, which `level` numbers lead to
--   EndsDown .. nums root d  d is where the way down from the root by the numbers nums ends
use Rattle.std.specs.Prelude.{ℕ, suc, ◌-◌, ◌≤◌, ◌<◌, ◌≡◌, List, [], ◌++◌, length, get_or, take, replicate, Ok, Err, Option, Some, None}
use Rattle.key.specs.declared.Kind.{Kind}
use Rattle.key.specs.Key.{Key}
use Rattle.refusal.specs.Refusal.{Outcome}
use Rattle.tree.specs.Walk.{over, stop, map_next}
use Rattle.tree.proofs.WalkLaws.{prefixed, raised, leftmost_at}
use Rattle.opening.specs.declared.Store.{Store}
use Rattle.content.specs.declared.Entry.{Entry}
use Rattle.cursor.specs.declared.follow.Down.{Down}
use Rattle.cursor.specs.declared.follow.Down.TheVariants as down
use Rattle.cursor.specs.declared.follow.Leftmost.{Leftmost}
use Rattle.store.specs.Store.{reader}

module _ (image : List ℕ) (store : Store) (map : ℕ) (kind : Kind) where
  -- whatever the numbers before are
  unfoldable pub EndsLeft : ℕ → ℕ → Outcome (Option Leftmost) → Type 0
  EndsLeft level p (Ok (Some m)) =
      (e : Key × Entry) × (e.1 ≡ m.entry) × (level < m.depth) × (m.depth ≤ 16) ×
      ((pre : List ℕ) → length pre ≡ level
      → leftmost_at (reader image store map kind) pre 0 p ≡ prefixed (pre ++ replicate (m.depth - 1 - level) 0) e 0 [])
  EndsLeft level p (Ok None) = (pre : List ℕ) → length pre ≡ level → leftmost_at (reader image store map kind) pre 0 p ≡ over
  EndsLeft level p (Err r) = (pre : List ℕ) → length pre ≡ level → leftmost_at (reader image store map kind) pre 0 p ≡ stop r

  unfoldable pub EndsDown : List ℕ → ℕ → Outcome Down → Type 0
  EndsDown nums root (Ok (down.Entry level number entry)) =
      (e : Key × Entry) × (e.1 ≡ entry) × (suc level ≡ length nums) × (number ≡ suc (get_or nums level 0)) ×
      (map_next (reader image store map kind) nums root ≡ prefixed (take level nums) e number [])
  EndsDown nums root (Ok (down.Left l)) =
      (l.level < length nums) × (l.number ≡ suc (get_or nums l.level 0)) ×
      (map_next (reader image store map kind) nums root ≡ leftmost_at (reader image store map kind) (raised nums l.level) 0 l.position.bits)
  EndsDown nums root (Ok down.Over) = map_next (reader image store map kind) nums root ≡ over
  EndsDown nums root (Err r) = map_next (reader image store map kind) nums root ≡ stop r
