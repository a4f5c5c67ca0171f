-- Laws of one step, one for each way that the code takes.
use Rattle.std.specs.Prelude.{ℕ, ◌≤◌, ◌≡◌, true, leb, refl, List, Err, None, Ok, Option, Some}
use Rattle.std.proofs.Common.{eq-eqb, ne_eqb, leb-true}
use Rattle.std.proofs.Math.Bool.{and-eq-true_iff}
use Rattle.text.specs.Text.{within}
use Rattle.refusal.specs.declared.Refusal.{Refusal}
use Rattle.refusal.specs.Refusal.{Outcome, number_of, refusal_of}
use Rattle.key.specs.declared.Kind.{Kind}
use Rattle.key.specs.Key.{Key}
use Rattle.tree.specs.Walk.{Moved, yield, over, stop}
use Rattle.tree.proofs.WalkHoldsLaws.{Holds}
use Rattle.opening.specs.declared.View.{View}
use Rattle.opening.specs.declared.Store.{Store}
use Rattle.content.specs.declared.Entry.{Entry}
use Rattle.content.specs.InsideLaws.{EntryIn}
use Rattle.cursor.specs.declared.Walk.{Walk}
use Rattle.cursor.specs.declared.Stepped.{Stepped}
use Rattle.cursor.specs.Walk.{numbers, closed, done_number, moved_by, moved_in, settled}
use Rattle.store.specs.Store.{reader, map_root}
use Rattle.store.specs.AskLaws.{next_in_lem}
use Rattle.store.specs.Walk.{step_in}
use Rattle.viewing.specs.Viewing.{opened_store}
use Rattle.map.specs.declared.entry.Item.{Item}
use Rattle.map.specs.Map.{asked_map, item_at}
use Rattle.walk.specs.declared.Step.{Step}
use Rattle.walk.specs.Stepping.{recorded, given, moved_of, step_of}
use Rattle.walk.specs.Given.{next_by, step_by, moved_after}

-- ## What is yielded
module _ (image : List ℕ) (kind : Kind) {y : Outcome (Option Entry)} where
  pub next_done : y ≡ Ok None → Ok None ≡ next_by image kind y
  unfolding next_by
  next_done e = rw e

  pub next_refused : {r : Refusal} → y ≡ Err r → Err r ≡ next_by image kind y
  unfolding next_by
  next_refused e = rw e

  pub next_item : {x : Entry} → y ≡ Ok (Some x) → {i : Item} → i ≡ item_at image kind x → Ok (Some i) ≡ next_by image kind y
  unfolding next_by item_at
  next_item e f = rw (e, f)

pub step_next : (image : List ℕ) (kind : Kind) (s : Stepped) {n : Outcome (Option Item)} → n ≡ next_by image kind s.got
    → (let x : Step = record { walk = s.walk; next = n } in x) ≡ step_by image kind s
unfolding step_by
step_next image kind s e = rw e

pub step_refused : (w : Walk) (r : Refusal) {s : Stepped} → s ≡ record { walk = closed w (number_of r); got = Err r }
    → (let x : Step = record { walk = s.walk; next = Err r } in x) ≡ given w (stop r)
unfolding given
step_refused w r e = rw e

-- ## A map that may be asked for
-- an entry's key is the one at its place
step_keyed : (image : List ℕ) (kind : Kind) (w : Walk) (m : Moved (Key × Entry)) → Holds (EntryIn image kind) m
    → step_by image kind (settled w m) ≡ given w m
unfolding step_by settled given next_by
step_keyed image kind w (yield (k, e) i is) h = rw h.key_there
step_keyed image kind w over h = refl
step_keyed image kind w (stop r) h = refl

module _ (image : List ℕ) (view : View) (id : ℕ) (kind : Kind) (w : Walk) where
  pub after_shut : {r : Refusal} → opened_store image view ≡ Err r → given w (stop r) ≡ given w (moved_after image view id kind w)
  unfolding moved_after
  after_shut e = rw e

  pub after_open : {o : Store} → opened_store image view ≡ Ok o → {s : Stepped} → s ≡ step_in image o id kind w
      → step_by image kind s ≡ given w (moved_after image view id kind w)
  unfolding moved_after step_in
  after_open {o} e f = rw (e, f) (step_keyed image kind w _ (go (map_root image o id)))
    where
      by : (root : ℕ) (n : Option (List ℕ)) → Holds (EntryIn image kind) (moved_by (reader image o id kind) root n)
      by root None = tt
      by root (Some is) = next_in_lem image o id kind is root

      go : (r : Outcome ℕ) → Holds (EntryIn image kind) (moved_in r (λ root. moved_by (reader image o id kind) root (numbers w)))
      go (Err r) = tt
      go (Ok root) = by root (numbers w)

-- ## The call
pub table_small : (n : ℕ) → within 1 16 n ≡ true → n ≤ 16
table_small n t = leb-true n 16 ((and-eq-true_iff (leb 1 n) (leb n 16)).0 t).1

module _ (image : List ℕ) (view : View) (map kind : ℕ) (w : Walk) where
  pub step_done : w.last ≡ done_number → (let x : Step = record { walk = w; next = Ok None } in x) ≡ step_of image view map kind w
  unfolding step_of recorded
  step_done e = rw (eq-eqb w.last done_number e)

  module _ (other : ¬ (w.last ≡ done_number)) where
    pub step_again : {r : Refusal} → refusal_of w.last ≡ Some r
        → (let x : Step = record { walk = w; next = Err r } in x) ≡ step_of image view map kind w
    unfolding step_of recorded
    step_again e = rw (ne_eqb w.last done_number other, e)

    -- nothing is recorded
    module _ (free : refusal_of w.last ≡ None) where
      step_going : given w (moved_of image view map kind w) ≡ step_of image view map kind w
      unfolding step_of recorded
      step_going = rw (ne_eqb w.last done_number other, free)

      pub step_bad : {r : Refusal} → asked_map map kind ≡ Err r → given w (stop r) ≡ step_of image view map kind w
      unfolding moved_of
      step_bad e = rw e at step_going

      pub step_asked : {id : ℕ} {k : Kind} → asked_map map kind ≡ Ok (id, k) → given w (moved_after image view id k w) ≡ step_of image view map kind w
      unfolding moved_of moved_after
      step_asked e = rw e at step_going
