-- Laws of locating and of a descent with a memory, one for each way that the code takes.
--
--   tells-X           what locating a chunk tells
--   sought-X, came-X  what a descent answers; where it has come to
use Prim.Native.Nat.{ℕ, zero, suc, ◌-◌, ◌≤◌, ◌<◌, max}
use Rattle.std.specs.Prelude.{◌≡◌, List, Err, None, Ok}
use Rattle.std.proofs.Math.Path.{refl}
use Rattle.std.proofs.Common.{◌∙◌}
use native.Mathlib.Omega.{arith}
use Rattle.refusal.specs.declared.Refusal.{Refusal}
use Rattle.refusal.specs.Refusal.{Outcome, bind, ninth_question, out_of_place, too_deep}
use Rattle.position.specs.declared.Position.{Position}
use Rattle.key.specs.declared.Kind.{Kind}
use Rattle.key.specs.declared.Kind.TheVariants.{Text}
use Rattle.key.specs.Key.{Key, key_of, compare_keys}
use Rattle.position.specs.Position.{chunk_of}
use Rattle.tree.specs.Page.{Page, leaf, inner}
use Rattle.tree.specs.Asking.{find_in}
use Rattle.locating.specs.Known.{Known, read_with, CameTo}
use Rattle.locating.proofs.GateLaws.{gated_open, gated_shut, gated_zero}
use Rattle.locating.proofs.StepLaws.{newest_known, ninth_refused, page_zero, page_refused}
use Rattle.locating.proofs.StepLaws.{page_known, empty_found, root_reached, depth_refused, descent_refused, child_reached, leaf_found}
use Rattle.opening.specs.declared.Store.{Store}
use Rattle.page.specs.declared.Place.{Place}
use Rattle.content.specs.declared.Entry.{Entry}
use Rattle.content.specs.Content.{page_in}
use Rattle.metadata.specs.declared.Location.{Location}
use Rattle.metadata.specs.declared.Answer.{Answer}
use Rattle.metadata.specs.declared.descent.Advance.{Advance}
use Rattle.metadata.specs.declared.descent.Advance.TheVariants.{To, Done}
use Rattle.metadata.specs.Answers.{place_of}
use Rattle.metadata.specs.Keys.{chunk_key}
use Rattle.store.specs.Store.{metadata}
use Rattle.store.specs.Memory.{RightWords}
use Rattle.store.specs.Memory.{IsLocation, IsAnswer}
use Rattle.store.specs.SettleLaws.{settled_tells, settled_right}
use Rattle.metadata.specs.Descent.{step_of, advance_by, advance_of}
use Rattle.store.specs.Steps.{settled_location, settled_words}

module _ (image : List ℕ) (store : Store) where
  -- ## Locating a chunk
  module _ (q c : ℕ) where
    pub tells_newest : c ≡ store.newest.id → (l : Place) → l ≡ place_of store.newest → IsLocation image store q c (Ok (record { place = l; need = 0 }))
    unfolding IsLocation
    tells_newest e l i = (omega arith, rw i (newest_known (metadata image store) e))

    pub tells_ninth : ¬ (c ≡ store.newest.id) → q ≡ 0 → IsLocation image store q c (Err ninth_question)
    unfolding IsLocation
    tells_ninth other e = rw e (ninth_refused (metadata image store) other)

    module _ {l : Place} {n : ℕ} (known : Known (metadata image store) c l n) where
      pub tells_few : q < n → IsLocation image store q c (Err ninth_question)
      unfolding IsLocation
      tells_few h = gated_shut known q h

      pub tells_recalled : n ≤ q → IsLocation image store q c (Ok (record { place = l; need = n }))
      unfolding IsLocation
      tells_recalled h = (h, known)

  -- by the metadata's answer, and the memory after it
  module _ (q c : ℕ) (ws : List ℕ) (f : Outcome Answer) (other : ¬ (c ≡ store.newest.id)) (some_left : ¬ (q ≡ 0)) (few : q ≤ 8)
      (right : RightWords image store ws) (bytes : List ℕ) (is : bytes ≡ chunk_key c)
      (s : IsAnswer image store 0 Text store.newest.root.bits (key_of Text bytes) (q - 1) f) where
    tells_by : IsLocation image store q c (settled_location image store.edition c f)
    unfolding key_of
    tells_by =
        let e : suc (q - 1) ≡ q = omega arith in
        rw e at (settled_tells image store c (q - 1) other f (rw is at s))

    pub tells_settled : (t : Outcome Location) (zs : List ℕ) → t ≡ settled_location image store.edition c f → zs ≡ settled_words c ws t
        → RightWords image store zs × IsLocation image store q c t
    tells_settled t zs e d = (rw (d, e) (settled_right image store c q right (omega arith) f tells_by), rw e tells_by)

  -- ## A descent
  module _ (map : ℕ) (kind : Kind) (root : ℕ) (k : Key) (q : ℕ) where
    pub sought_empty : root ≡ 0 → IsAnswer image store map kind root k q (Ok (record { value = None; need = 0 }))
    unfolding IsAnswer
    sought_empty e =
        (None, refl, omega arith, gated_zero (empty_found (metadata image store) (λ l p. page_in image l p map kind) root k e))

    -- the page at p is due, the pages so far take `need` questions, and there may be `left` levels more
    pub record Came (need left p : ℕ) : Type 0 where
      pub enough : need ≤ q
      pub came : CameTo (metadata image store) (λ l p. page_in image l p map kind) root k need left p

    pub came_root : ¬ (root ≡ 0) → Came 0 16 root
    came_root other =
        record { enough = omega arith; came = root_reached (metadata image store) (λ l p. page_in image l p map kind) root k other }

    pub sought_deep : {need p : ℕ} (left : ℕ) → left ≡ 0 → Came need left p → IsAnswer image store map kind root k q (Err too_deep)
    unfolding IsAnswer
    sought_deep {p = p} zero e a = depth_refused (metadata image store) (λ l p. page_in image l p map kind) root k p q a.enough a.came
    sought_deep (suc left) e a = absurd (omega arith)

    pub sought_zero : {need : ℕ} (left p : ℕ) → 0 < left → p ≡ 0 → Came need left p → IsAnswer image store map kind root k q (Err out_of_place)
    unfolding IsAnswer
    sought_zero zero p h e a = absurd (omega arith)
    sought_zero (suc left) p h e a =
        descent_refused (metadata image store) (λ l p. page_in image l p map kind) root k p left a.came q a.enough
        (page_zero (metadata image store) (λ l p. page_in image l p map kind) e q)

    abbrev Advanced : ℕ → Outcome Advance → Type 0
    Advanced left (Ok (To p need)) = Came need left p.bits
    Advanced left (Ok (Done a)) = IsAnswer image store map kind root k q (Ok a)
    Advanced left (Err r) = IsAnswer image store map kind root k q (Err r)

    module _ {need left p : ℕ} (other : ¬ (p ≡ 0)) (a : Came need (suc left) p) where
      refused_advanced : (r : Refusal) → read_with (metadata image store) (λ l p. page_in image l p map kind) q p ≡ Err r
          → Advanced left (Err r)
      unfolding IsAnswer
      refused_advanced r e =
          descent_refused (metadata image store) (λ l p. page_in image l p map kind) root k p left a.came q a.enough e

      module _ (l : Place) (n : ℕ) (h : n ≤ q) (d : Known (metadata image store) (chunk_of p) l n) where
        page_advanced : (o : Outcome (Page Key Entry)) → page_in image l p map kind ≡ o
            → Advanced left (bind (step_of k o) (λ t. Ok (advance_by (max need n) t)))
        unfolding step_of IsAnswer
        page_advanced (Err r) i =
            refused_advanced r (gated_open (page_known (metadata image store) (λ l p. page_in image l p map kind) other d) q h ∙ i)
        page_advanced (Ok (leaf es)) i = (
          find_in compare_keys k es,
          refl,
          omega (arith, a.enough),
          leaf_found (metadata image store) (λ l p. page_in image l p map kind) root k p left a.came other d i,
        )
        page_advanced (Ok (inner cs)) i =
            record {
              enough = omega (arith, a.enough);
              came = child_reached (metadata image store) (λ l p. page_in image l p map kind) root k p left a.came other d i;
            }

      told_advanced : (l : Outcome Location) → IsLocation image store q (chunk_of p) l
          → Advanced left (advance_of (λ x. step_of k (page_in image x p map kind)) need l)
      unfolding IsLocation advance_of
      told_advanced (Err r) t =
          refused_advanced r (page_refused (metadata image store) (λ l p. page_in image l p map kind) other q t)
      told_advanced (Ok l) (h, d) = page_advanced l.place l.need h d (page_in image l.place p map kind) refl

    advanced : (need left p : ℕ) → 0 < left → ¬ (p ≡ 0) → Came need left p → (l : Outcome Location) → IsLocation image store q (chunk_of p) l
        → Advanced (left - 1) (advance_of (λ x. step_of k (page_in image x p map kind)) need l)
    advanced need zero p h other a l t = absurd (omega arith)
    advanced need (suc left) p h other a l t =
        let e : left ≡ suc left - 1 = omega arith in
        rw e at (told_advanced other a l t)

    -- in the code's terms
    module _ (need left p c : ℕ) (l : Outcome Location) (x : Outcome Advance) (h : 0 < left) (other : ¬ (p ≡ 0)) (a : Came need left p)
        (chunk : c ≡ chunk_of p) (t : IsLocation image store q c l) (is : x ≡ advance_of (λ x. step_of k (page_in image x p map kind)) need l) where
      on : Advanced (left - 1) x
      on = rw is (advanced need left p h other a l (rw chunk at t))

      pub came_on : {position : Position} {n : ℕ} → x ≡ Ok (To position n) → Came n (left - 1) position.bits
      came_on e = rw e at on

      pub sought_done : {a : Answer} → x ≡ Ok (Done a) → IsAnswer image store map kind root k q (Ok a)
      sought_done e = rw e at on

      pub sought_refused : {r : Refusal} → x ≡ Err r → IsAnswer image store map kind root k q (Err r)
      sought_refused e = rw e at on
