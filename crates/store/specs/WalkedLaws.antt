-- Over a sound map a walk from the fresh state yields the entry list in order, one entry a step, and then Done: `sound_walks`.
use Prim.Native.Nat.{ℕ, zero, suc, ◌-◌, ◌≤◌}
use Rattle.std.specs.Prelude.{◌≡◌, refl, true, length, replicate, Ok, Some}
use Rattle.std.proofs.Common.{◌∙◌, le-leb}
use Rattle.std.proofs.Math.Path.{ap}
use mathlib.Core.List.{List, [], ◌∷◌}
use Rattle.std.proofs.Math.Seq.{take-append_seam, drop-append_seam}
use Rattle.key.specs.declared.Kind.{Kind}
use Rattle.key.specs.Key.{Key, compare_keys}
use Rattle.tree.specs.Asking.{map_entries}
use Rattle.tree.specs.Sound.{Sound}
use Rattle.tree.specs.Walk.{Moved, map_next, Yields}
use Rattle.tree.proofs.WalkTheorem.{Fits, next_fits, sound_yields}
use Rattle.opening.specs.declared.Store.{Store}
use Rattle.content.specs.declared.Entry.{Entry}
use Rattle.cursor.specs.declared.Walk.{Walk}
use Rattle.cursor.specs.Walk.{zeros, fresh, formed, numbers, leading, settled, moved_by, moved_in}
use Rattle.store.specs.Store.{reader, map_root}
use Rattle.store.specs.Walk.{step_in, Walks}

zeros_replicate : (n : ℕ) → zeros (replicate n 0) ≡ true
zeros_replicate zero = refl
zeros_replicate (suc n) = zeros_replicate n

-- the numbers of a step are those of the state that it leaves
numbers_leading : (i : ℕ) (is : List ℕ) → suc (length is) ≤ 16 → numbers (leading (i ∷ is)) ≡ Some (i ∷ is)
unfolding formed
numbers_leading i is h =
    let rest : List ℕ = replicate (16 - suc (length is)) 0 in
    rw (le-leb (suc (length is)) 16 h, drop-append_seam is rest, take-append_seam is rest, zeros_replicate (16 - suc (length is)))

module _ (image : List ℕ) (store : Store) (map : ℕ) (kind : Kind) (root : ℕ) (found : map_root image store map ≡ Ok root) where
  step_fresh : step_in image store map kind fresh ≡ settled fresh (map_next (reader image store map kind) [] root)
  unfolding step_in fresh formed
  step_fresh = ap (λ o. settled fresh (moved_in o (λ p. moved_by (reader image store map kind) p (numbers fresh)))) found

  step_leading : (i : ℕ) (is : List ℕ) → suc (length is) ≤ 16
      → step_in image store map kind (leading (i ∷ is)) ≡ settled (leading (i ∷ is)) (map_next (reader image store map kind) (i ∷ is) root)
  unfolding step_in
  step_leading i is h =
      let v = leading (i ∷ is) in
      ap (λ o. settled v (moved_in o (λ p. moved_by (reader image store map kind) p (numbers v)))) found
      ∙ ap (λ o. settled v (moved_by (reader image store map kind) root o)) (numbers_leading i is h)

  -- from a state whose step is m
  yields_walks : (w : Walk) (m : Moved (Key × Entry)) (es : List (Key × Entry)) → step_in image store map kind w ≡ settled w m → Fits m
      → Yields (reader image store map kind) root m es → Walks image store map kind w es
  unfolding settled
  yields_walks w m [] s h y = s ∙ ap (settled w) y
  yields_walks w m (e ∷ es) s h y =
      let i = y.0 in
      let is = y.1 in
      let fits : suc (length is) ≤ 16 = rw y.2 at h in
      let v = leading (i ∷ is) in
      let then = map_next (reader image store map kind) (i ∷ is) root in (
        v,
        s ∙ ap (settled w) y.2,
        yields_walks v then es (step_leading i is fits) (next_fits (reader image store map kind) (i ∷ is) root) y.3,
      )

  pub sound_walks : Sound compare_keys (reader image store map kind) root
      → Walks image store map kind fresh (map_entries (reader image store map kind) root)
  sound_walks s =
      yields_walks fresh (map_next (reader image store map kind) [] root) (map_entries (reader image store map kind) root) step_fresh
      (next_fits (reader image store map kind) [] root) (sound_yields compare_keys (reader image store map kind) root s)
