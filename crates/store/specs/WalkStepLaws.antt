-- Laws of a step of the walk, one for each way that the code takes.
use Rattle.std.specs.Prelude.{ℕ, suc, ◌+◌, ◌-◌, ◌≤◌, ◌<◌, ◌≡◌, Bool, true, false, cond, List, [], ◌∷◌, ◌++◌, eqb, Err, Ok, Option, Some, None}
use Rattle.std.proofs.Math.Path.{refl, sym, ap}
use Rattle.std.proofs.Common.{◌∙◌, append-nil, add-one, arith, eqb-true}
use Rattle.std.proofs.lemmas.Bool.{eqb-false}
use Rattle.std.proofs.Math.ListN.{length, take, replicate}
use Rattle.std.proofs.Math.Seq.{length-take-le, take-take}
use Rattle.refusal.specs.declared.Refusal.{Refusal}
use Rattle.refusal.specs.Refusal.{Outcome, number_of, unsound}
use Rattle.position.specs.declared.Position.{Position}
use Rattle.key.specs.declared.Kind.{Kind}
use Rattle.key.specs.Key.{Key}
use Rattle.tree.specs.Walk.{Moved, over, stop, map_next}
use Rattle.tree.proofs.WalkLaws.{raised, length_raised, zeros_more, leftmost_at, map_empty, map_empty_numbers, map_first}
use Rattle.opening.specs.declared.Store.{Store}
use Rattle.content.specs.declared.Entry.{Entry}
use Rattle.metadata.specs.Answers.{root_said}
use Rattle.cursor.specs.declared.Walk.{Walk}
use Rattle.cursor.specs.declared.Stepped.{Stepped}
use Rattle.cursor.specs.declared.follow.Down.{Down}
use Rattle.cursor.specs.declared.follow.Down.TheVariants as down
use Rattle.cursor.specs.declared.follow.Left.{Left}
use Rattle.cursor.specs.declared.follow.Leftmost.{Leftmost}
use Rattle.cursor.specs.Walk.{formed, numbers, leading, closed, done_number, settled, moved_by}
use Rattle.cursor.specs.Steps.{empty_step, numbered, left_step}
use Rattle.cursor.specs.StateLaws.{leading_placed, settled_prefixed}
use Rattle.store.specs.Store.{reader, map_root}
use Rattle.store.specs.Walk.{step_in}
use Rattle.store.specs.WalkWays.{EndsLeft, EndsDown}

-- ## A step from a state that is formed, or not
module _ (image : List ℕ) (store : Store) (map : ℕ) (kind : Kind) (root : ℕ) (w : Walk) where
  pub step_unformed : formed w ≡ false → {x : Stepped}
      → x ≡ record { walk = closed w (number_of unsound); got = Err unsound }
      → x ≡ settled w (moved_by (reader image store map kind) root (numbers w))
  unfolding settled
  step_unformed h e = e ∙ rw h

  module _ (h : formed w ≡ true) where
    step_by_lem : {m : Moved (Key × Entry)} → map_next (reader image store map kind) (take w.depth w.places) root ≡ m
        → settled w m ≡ settled w (moved_by (reader image store map kind) root (numbers w))
    step_by_lem e = rw (h, e)

    step_over : map_next (reader image store map kind) (take w.depth w.places) root ≡ over → {x : Stepped}
        → x ≡ record { walk = closed w done_number; got = Ok None }
        → x ≡ settled w (moved_by (reader image store map kind) root (numbers w))
    unfolding settled
    step_over m e = e ∙ step_by_lem m

    step_stop : {r : Refusal} → map_next (reader image store map kind) (take w.depth w.places) root ≡ stop r → {x : Stepped}
        → x ≡ record { walk = closed w (number_of r); got = Err r }
        → x ≡ settled w (moved_by (reader image store map kind) root (numbers w))
    unfolding settled
    step_stop m e = e ∙ step_by_lem m

    -- in an empty map
    pub step_empty : w.depth ≤ length w.places → root ≡ 0 → {x : Stepped} → x ≡ empty_step w
        → x ≡ settled w (moved_by (reader image store map kind) root (numbers w))
    unfolding empty_step
    step_empty few z e = e ∙ go (eqb w.depth 0) refl
      where
        len : length (take w.depth w.places) ≡ w.depth
        len = length-take-le w.depth w.places few

        go : (t : Bool) → eqb w.depth 0 ≡ t
            → cond t (record { walk = closed w done_number; got = Ok None }) (record { walk = closed w (number_of unsound); got = Err unsound })
            ≡ settled w (moved_by (reader image store map kind) root (numbers w))
        go true q = step_over (rw (eqb-true w.depth 0 q, z) (map_empty (reader image store map kind))) refl
        go false q =
            step_stop {r = unsound}
            (rw z (map_empty_numbers (reader image store map kind) (take w.depth w.places) (omega (arith, len, eqb-false w.depth 0 q)))) refl

    -- to the leftmost entry under the page that the numbers pre lead to
    step_left : (l n p : ℕ) (pre : List ℕ) (m : Outcome (Option Leftmost))
        → map_next (reader image store map kind) (take w.depth w.places) root ≡ leftmost_at (reader image store map kind) pre 0 p
        → EndsLeft image store map kind (length pre) p m
        → ((k depth : ℕ) → suc (length pre + k) ≡ depth → depth ≤ 16 → leading ((pre ++ replicate k 0) ++ (0 ∷ [])) ≡ numbered w.places l n depth)
        → left_step w l n m ≡ settled w (moved_by (reader image store map kind) root (numbers w))
    unfolding left_step EndsLeft settled
    step_left l n p pre (Ok (Some m)) e c lead =
        let k = m.depth - 1 - length pre in
        let there : leading ((pre ++ replicate k 0) ++ (0 ∷ [])) ≡ numbered w.places l n m.depth = lead k m.depth (omega (arith, c.2)) c.3 in
        (λ j. record { walk = sym there j; got = Ok (Some (sym c.1 j)) })
        ∙ sym (settled_prefixed w (pre ++ replicate k 0) c.0 0) ∙ step_by_lem (e ∙ c.4 pre refl)
    step_left l n p pre (Ok None) e c lead = step_by_lem (e ∙ c pre refl)
    step_left l n p pre (Err r) e c lead = step_by_lem (e ∙ c pre refl)

    pub step_first : w.depth ≡ 0 → 0 < root → (m : Outcome (Option Leftmost)) → EndsLeft image store map kind 0 root m → {x : Stepped} → x ≡ left_step w 0 0 m
        → x ≡ settled w (moved_by (reader image store map kind) root (numbers w))
    step_first d filled m c e = e
        ∙ step_left 0 0 root [] m (rw d (map_first (reader image store map kind) root filled)) c
        (λ k depth s most. ap leading (zeros_more [] k) ∙ leading_placed w 0 0 k depth (omega arith) s most)

    module _ (few : w.depth ≤ length w.places) where
      step_entry_at : (l n : ℕ) (y : Entry)
          → EndsDown image store map kind (take w.depth w.places) root (Ok (down.Entry l n y)) → w.depth ≤ 16
          → {x : Walk} → x ≡ numbered w.places l n w.depth
          → record { walk = x; got = Ok (Some y) } ≡ settled w (moved_by (reader image store map kind) root (numbers w))
      unfolding EndsDown
      step_entry_at l n y c most {x} e =
          let nums = take w.depth w.places in
          let long : length nums ≡ w.depth = length-take-le w.depth w.places few in
          let there : leading (take l nums ++ (n ∷ [])) ≡ numbered w.places l n w.depth =
          rw (take-take l w.depth w.places (omega (arith, long, c.2)), sym (append-nil (take l w.places ++ (n ∷ []))))
          (leading_placed w l n 0 w.depth (omega (arith, long, c.2)) (omega (arith, long, c.2)) most) in
          (λ j. record { walk = (e ∙ sym there) j; got = Ok (Some (sym c.1 j)) }) ∙ sym (settled_prefixed w (take l nums) c.0 n) ∙ step_by_lem c.4

      step_on_at : (y : Left) → EndsDown image store map kind (take w.depth w.places) root (Ok (down.Left y)) → (m : Outcome (Option Leftmost))
          → EndsLeft image store map kind (y.level + 1) y.position.bits m → {x : Stepped} → x ≡ left_step w y.level y.number m
          → x ≡ settled w (moved_by (reader image store map kind) root (numbers w))
      unfolding EndsDown
      step_on_at y c m left e =
          let l = y.level in
          let n = y.number in
          let nums = take w.depth w.places in
          let len : length nums ≡ w.depth = length-take-le w.depth w.places few in
          let low : l < w.depth = omega (arith, len, c.0) in
          let long : length (raised nums l) ≡ l + 1 = length_raised nums l c.0 ∙ sym (add-one l) in
          let head : raised nums l ≡ take l w.places ++ (n ∷ []) = rw (c.1, take-take l w.depth w.places (omega arith)) in
          e ∙ step_left l n y.position.bits (raised nums l) m c.2 (rw long left)
          (λ k depth s most. ap leading (zeros_more (raised nums l) k ∙ ap (◌++ replicate (suc k) 0) head)
          ∙ leading_placed w l n (suc k) depth (omega arith) (omega (arith, s, long)) most)

      module _ {d : Outcome Down} (c : EndsDown image store map kind (take w.depth w.places) root d) where
        pub step_entry : {l n : ℕ} {y : Entry} → d ≡ Ok (down.Entry l n y) → w.depth ≤ 16
            → {x : Walk} → x ≡ numbered w.places l n w.depth
            → record { walk = x; got = Ok (Some y) } ≡ settled w (moved_by (reader image store map kind) root (numbers w))
        step_entry {l} {n} {y} i most e = step_entry_at l n y (rw i at c) most e

        pub step_on : {y : Left} → d ≡ Ok (down.Left y) → (m : Outcome (Option Leftmost))
            → EndsLeft image store map kind (y.level + 1) y.position.bits m
            → {x : Stepped} → x ≡ left_step w y.level y.number m
            → x ≡ settled w (moved_by (reader image store map kind) root (numbers w))
        step_on {y} i m left e = step_on_at y (rw i at c) m left e

        pub step_done : d ≡ Ok down.Over → {x : Stepped} → x ≡ record { walk = closed w done_number; got = Ok None }
            → x ≡ settled w (moved_by (reader image store map kind) root (numbers w))
        unfolding EndsDown
        step_done i e = step_over (rw i at c) e

        pub step_refused : {r : Refusal} → d ≡ Err r → {x : Stepped}
            → x ≡ record { walk = closed w (number_of r); got = Err r }
            → x ≡ settled w (moved_by (reader image store map kind) root (numbers w))
        unfolding EndsDown
        step_refused {r} i e = step_stop {r = r} (rw i at c) e

        -- the level is one of the numbers'
        pub left_low : {y : Left} → d ≡ Ok (down.Left y) → y.level < w.depth
        unfolding EndsDown
        left_low {y} i =
            let t : EndsDown image store map kind (take w.depth w.places) root (Ok (down.Left y)) = rw i at c in
            omega (arith, t.0, length-take-le w.depth w.places few)

-- ## A step of the map that has an id
module _ (image : List ℕ) (store : Store) (map : ℕ) (kind : Kind) (w : Walk) {o : Outcome Position} (e : root_said o ≡ map_root image store map) where
  pub step_no_root : {r : Refusal} → o ≡ Err r → {x : Stepped} → x ≡ record { walk = closed w (number_of r); got = Err r }
      → x ≡ step_in image store map kind w
  unfolding step_in settled
  step_no_root i f = f ∙ rw (← e, i)

  pub step_from : {p : Position} → o ≡ Ok p → {x : Stepped} → x ≡ settled w (moved_by (reader image store map kind) p.bits (numbers w))
      → x ≡ step_in image store map kind w
  unfolding step_in
  step_from i f = f ∙ rw (← e, i)
