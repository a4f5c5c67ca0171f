-- Laws of one page of a descent, one for each way that the code takes. s is the image up to the page's end.
use Rattle.std.specs.Prelude.{ℕ, ◌+◌, max, ◌≡◌, List, get_or, take, Option, Ok, Err, option_map}
use Rattle.refusal.specs.declared.Refusal.{Refusal}
use Rattle.refusal.specs.Refusal.{Outcome, bind}
use Rattle.position.specs.declared.Position.{Position}
use Rattle.position.specs.Position.{of_bits}
use Rattle.key.specs.declared.Kind.{Kind}
use Rattle.key.specs.Key.{Key, compare_keys}
use Rattle.tree.specs.Asking.{find_in}
use Rattle.tree.specs.InnerPage.{lead}
use Rattle.tree.proofs.ChildrenLaws.{child_for-children_of}
use Rattle.page.specs.declared.Place.{Place}
use Rattle.page.specs.declared.Judged.{Judged}
use Rattle.page.specs.declared.Judged.TheVariants as judged
use Rattle.page.specs.declared.Leaf.{Leaf}
use Rattle.page.specs.declared.Inner.{Inner}
use Rattle.page.specs.Judged.{judged_at}
use Rattle.text.specs.declared.spot.Spot.{Spot}
use Rattle.content.specs.Content.{keys_in, positions_in, counts_in, entries_in, page_of, page_in}
use Rattle.metadata.specs.declared.Location.{Location}
use Rattle.metadata.specs.declared.descent.Step.{Step}
use Rattle.metadata.specs.declared.descent.Step.TheVariants as step
use Rattle.metadata.specs.Descent.{step_of, advance_by, advance_of}

-- ## A page
module _ (image : List ℕ) (c : Place) (p map : ℕ) (kind : Kind) (k : Key) {j : Outcome Judged} (g : j ≡ judged_at image c p map kind) where
  pub page_refuses : {r : Refusal} → j ≡ Err r → Err r ≡ step_of k (page_in image c p map kind)
  unfolding step_of page_in page_of
  page_refuses e = rw (← g, e)

  pub leaf_answers : {l : Leaf} → j ≡ Ok (judged.Leaf l) → {s : List ℕ} → s ≡ take l.end image → {v : Option Spot}
      → v ≡ option_map (λ e. e.value) (find_in compare_keys k (entries_in s kind l.n l.keys l.values))
      → Ok (step.Leaf v) ≡ step_of k (page_in image c p map kind)
  unfolding step_of page_in page_of
  leaf_answers e i h = rw (← g, e, ← i, h)

  pub inner_leads : {q : Inner} → j ≡ Ok (judged.Inner q) → {s : List ℕ} → s ≡ take q.end image
      → {l : ℕ} → l ≡ lead compare_keys k (keys_in s kind q.n q.keys)
      → {x : Position} → x ≡ of_bits (get_or (positions_in s (q.n + 1) q.positions) l 0) → Ok (step.Child x) ≡ step_of k (page_in image c p map kind)
  unfolding step_of page_in page_of
  inner_leads {q} e {s} i a b =
      rw (← g, e, ← i, child_for-children_of compare_keys k (positions_in s (q.n + 1) q.positions) (counts_in s (q.n + 1) q.counts) (keys_in s kind q.n q.keys), b, a)

-- ## A descent after it
pub advance_step : (s : Place → Outcome Step) (need : ℕ) {l : Outcome Location} {x : Place} {n : ℕ} (most : ℕ) {t u : Outcome Step}
    → l ≡ Ok (record { place = x; need = n }) → most ≡ max need n → u ≡ s x → u ≡ t → bind t (λ v. Ok (advance_by most v)) ≡ advance_of s need l
unfolding advance_of
advance_step s need most e i h f = rw (e, i, ← h, f)
