-- Beside demand 3: over a map that the examination passes, a walk from the fresh state yields the entry list in order, one entry a
-- step, and then Done, which is given again.
use Rattle.std.specs.Prelude.{ℕ, ◌≡◌, Ok, Err, None}
use Rattle.std.proofs.Math.Path.{refl, sym}
use Rattle.std.proofs.Common.{◌∙◌, ap, arith}
use mathlib.Core.List.{List, [], ◌∷◌}
use Rattle.key.specs.Key.{Key}
use Rattle.tree.specs.Page.{All}
use Rattle.tree.specs.Walk.{Moved, yield, over, stop}
use Rattle.opening.specs.declared.View.{View}
use Rattle.content.specs.declared.Entry.{Entry}
use Rattle.content.specs.Content.{key_in}
use Rattle.cursor.specs.declared.Walk.{Walk}
use Rattle.cursor.specs.declared.Stepped.{Stepped}
use Rattle.cursor.specs.Walk.{fresh, closed, done_number, yield_of, settled}
use Rattle.store.specs.AskLaws.{entries_key}
use Rattle.store.specs.Walk.{step_in, Walks}
use Rattle.store.specs.WalkedLaws.{sound_walks}
use Rattle.walk.specs.Stepping.{step_of, WalksOf}
use Rattle.walk.specs.Given.{next_by, step_by}
use Rattle.walk.specs.WalkLaws.{after_open, step_asked, step_done}
use Rattle.examine.specs.Demand3.{Map, entry_list, Passes}
use Rattle.examine.proofs.Theorem.{passes_sound}

-- a state that a step yields from is going on
going_on : (w v : Walk) (e : Key × Entry) (m : Moved (Key × Entry)) → settled w m ≡ record { walk = v; got = yield_of e } → v.last ≡ 0
unfolding settled
going_on w v e (yield x i is) h = sym (ap (λ (s : Stepped). s.walk.last) h)
going_on w v e over h =
    let got : Ok None ≡ yield_of e = ap (λ (s : Stepped). s.got) h in
    cc
going_on w v e (stop r) h =
    let got : Err r ≡ yield_of e = ap (λ (s : Stepped). s.got) h in
    cc

module _ {image : List ℕ} {view : View} {map kind : ℕ} (m : Map image view map kind) where
  -- the call is the step in the open store, with the key read at its place
  step_map : (w : Walk) → w.last ≡ 0 → {s : Stepped} → step_in image m.store m.id m.keys w ≡ s
      → step_of image view map kind w ≡ step_by image m.keys s
  step_map w going e =
      sym (after_open image view m.id m.keys w m.opens (sym e)
      ∙ step_asked image view map kind w (λ d. absurd (omega (arith, going, d))) (rw going) m.asked)

  walks_map : (w : Walk) → w.last ≡ 0 → (es : List (Key × Entry)) → All (λ x. x.0 ≡ key_in image m.keys x.1.key) es
      → Walks image m.store m.id m.keys w es → WalksOf image view map kind w es
  unfolding step_by next_by step_in
  walks_map w going [] keys s =
      (step_map w going s, sym (step_done image view map kind (closed w done_number) refl))
  walks_map w going (e ∷ es) keys (v, s, rest) =
      (v, step_map w going s ∙ rw keys.0, walks_map v (going_on w v e _ s) es keys.1 rest)

  pub passed_walks : Passes image view map kind → WalksOf image view map kind fresh (entry_list m)
  unfolding fresh
  passed_walks p =
      walks_map fresh refl (entry_list m) (entries_key image m.store m.id m.keys m.root)
      (sound_walks image m.store m.id m.keys m.root m.found ((passes_sound m).0 p))
