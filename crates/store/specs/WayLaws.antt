-- Laws of the walk's two ways down, page after page.
--
--   past_of nums left    the answer where no entry is left below: under the child that is next at a level, if there is one
--   Noted nums l left    that child is at a level above l, and the one after the child that the numbers lead to there
--   Going .. l p left    how far the way by the numbers has come: number l is used at the page at p
--   Lefting .. depth q   how far the leftmost way has come: `depth` numbers lead to the page at q
use Prim.Native.Nat.{ℕ, suc, ◌+◌, ◌-◌, ◌≤◌, ◌<◌}
use Rattle.std.specs.Prelude.{◌≡◌, ◌⊎◌, List, [], length, take, Err, Ok, Option, Some, None}
use Rattle.std.proofs.Math.Path.{sym, ap}
use Rattle.std.proofs.Common.{◌∙◌, ⊎_elim, length-take-le, get_or-take}
use Rattle.std.proofs.Math.Numerals.{add-one}
use native.Mathlib.Omega.{arith}
use Rattle.std.proofs.Math.Dec.{eqb}
use Rattle.std.proofs.Math.ListN.{get_or}
use Rattle.refusal.specs.declared.Refusal.{Refusal}
use Rattle.refusal.specs.Refusal.{Outcome, unsound, too_deep}
use Rattle.position.specs.declared.Position.{Position}
use Rattle.key.specs.declared.Kind.{Kind}
use Rattle.key.specs.Key.{Key}
use Rattle.tree.specs.Walk.{Moved, over, map_next}
use Rattle.tree.proofs.WalkLaws.{prefixed, raised, leftmost_at, next_at, map_next_lem}
use Rattle.tree.proofs.WalkLaws.{leftmost_deep}
use Rattle.opening.specs.declared.Store.{Store}
use Rattle.page.specs.declared.Judged.{Judged}
use Rattle.content.specs.declared.Entry.{Entry}
use Rattle.cursor.specs.declared.follow.After.{After}
use Rattle.cursor.specs.declared.follow.After.TheVariants as after
use Rattle.cursor.specs.declared.follow.Down.{Down}
use Rattle.cursor.specs.declared.follow.Down.TheVariants as down
use Rattle.cursor.specs.declared.follow.Left.{Left}
use Rattle.cursor.specs.Steps.{after_of, first_of, over_of}
use Rattle.store.specs.Store.{reader}
use Rattle.store.specs.Asking.{judged_by}
use Rattle.store.specs.WalkWays.{EndsLeft, EndsDown}
use Rattle.store.specs.WalkReadLaws.{FirstBy, NextBy, first_by, next_by_lem}

abbrev pub Noted : List ℕ → ℕ → Option Left → Type 0
Noted nums l None = Unit {0}
Noted nums l (Some x) = (x.level < l) × (x.number ≡ suc (get_or nums x.level 0))

noted_on : (nums : List ℕ) (l : ℕ) (left : Option Left) → Noted nums l left → Noted nums (l + 1) left
noted_on nums l None h = tt
noted_on nums l (Some x) h = (omega (arith, h.0), h.1)

module _ (image : List ℕ) (store : Store) (map : ℕ) (kind : Kind) where
  -- ## The way by the numbers
  abbrev pub past_of : List ℕ → Option Left → Moved (Key × Entry)
  past_of nums None = over
  past_of nums (Some x) = leftmost_at (reader image store map kind) (raised nums x.level) 0 x.position.bits

  past_came : (nums : List ℕ) (root l : ℕ) (left : Option Left) → l ≤ length nums → Noted nums l left
      → map_next (reader image store map kind) nums root ≡ past_of nums left
      → EndsDown image store map kind nums root (Ok (over_of left))
  unfolding EndsDown
  past_came nums root l None few h e = e
  past_came nums root l (Some x) few h e = (omega (arith, h.0), h.1, e)

  module _ (places : List ℕ) (depth root : ℕ) where
    pub record Going (l p : ℕ) (left : Option Left) : Type 0 where
      pub below : l < depth
      pub noted : Noted (take depth places) l left
      pub same : next_at (reader image store map kind) (take depth places) (past_of (take depth places) left) l p
          ≡ map_next (reader image store map kind) (take depth places) root

    module _ (fits : depth ≤ length places) (most : depth ≤ 16) where
      sized : length (take depth places) ≡ depth
      sized = length-take-le depth places fits

      pub going_root : 0 < depth → 0 < root → Going 0 root None
      going_root some_number filled = record {
        below = some_number;
        noted = tt;
        same = sym (map_next_lem (reader image store map kind) (take depth places) root (omega (arith, sized)) filled);
      }

      module _ {l p : ℕ} {left : Option Left} (g : Going l p left) {j : Outcome Judged} (r : j ≡ judged_by image store map kind p)
          {a : Outcome After} (f : a ≡ after_of image kind (get_or places l 0) (eqb (l + 1) depth) j) where
        here : get_or (take depth places) l 0 ≡ get_or places l 0
        here = get_or-take depth places l 0 g.below

        turned : {b : Outcome After} → a ≡ b → NextBy image store map kind (take depth places) (past_of (take depth places) left) l p b
        turned {b} came =
            let low : l < depth = g.below in
            let nums = take depth places in
            let e : after_of image kind (get_or nums l 0) (eqb (l + 1) (length nums)) (judged_by image store map kind p) ≡ b =
            rw (here, sized, ← r, ← f) came in
            rw e at (next_by_lem image store map kind (take depth places) (past_of (take depth places) left) l p (omega arith) (omega (arith, sized)))

        pub going_refused : {y : Refusal} → a ≡ Err y → EndsDown image store map kind (take depth places) root (Err y)
        unfolding EndsDown
        going_refused came = sym g.same ∙ turned came

        pub going_entry : {e : Entry} → a ≡ Ok (after.Entry e)
            → EndsDown image store map kind (take depth places) root (Ok (down.Entry l (get_or places l 0 + 1) e))
        unfolding EndsDown
        going_entry came =
            let t = turned came in
            let up : suc (get_or (take depth places) l 0) ≡ get_or places l 0 + 1 = omega (arith, here) in
            (t.0, t.1, t.2, sym up, sym g.same ∙ t.3 ∙ ap (λ n. prefixed (take l (take depth places)) t.0 n []) up)

        -- the number after it is one that the state can hold
        pub entry_few : {e : Entry} → a ≡ Ok (after.Entry e) → get_or places l 0 < 0x80000000
        entry_few came = omega (arith, (turned came).4, here)

        pub child_few : {q y : Position} → a ≡ Ok (after.Child q y) → get_or places l 0 < 0x80000000
        child_few came = omega (arith, (turned came).2, here)

        pub going_over : a ≡ Ok after.Over → {d : Down} → d ≡ over_of left → EndsDown image store map kind (take depth places) root (Ok d)
        going_over came e =
            rw e (past_came (take depth places) root l left (omega (arith, sized, g.below)) g.noted (sym g.same ∙ turned came))

        pub going_last : {q : Position} → a ≡ Ok (after.Last q) → Going (l + 1) q.bits left
        going_last {q} came =
            let t = turned came in
            record {
              below = omega (arith, t.0, sized);
              noted = noted_on (take depth places) l left g.noted;
              same = rw (add-one l) (sym t.1 ∙ g.same);
            }

        pub going_child : {q y : Position} → a ≡ Ok (after.Child q y)
            → Going (l + 1) q.bits (Some (record { level = l; number = get_or places l 0 + 1; position = y }))
        going_child {q} {y} came =
            let t = turned came in
            record {
              below = omega (arith, t.0, sized);
              noted = (omega arith, omega (arith, here));
              same = rw (add-one l) (sym t.1 ∙ g.same);
            }

  -- ## The leftmost way
  pub record Lefting (level p depth q : ℕ) : Type 0 where
    pub low : level ≤ depth
    pub most : depth ≤ 16
    pub same : (pre : List ℕ) → length pre ≡ level
        → leftmost_at (reader image store map kind) pre 0 p ≡ leftmost_at (reader image store map kind) pre (depth - level) q

  pub lefting_start : (level p : ℕ) → level ≤ 16 → Lefting level p level p
  lefting_start level p h =
      let none_yet : level - level ≡ 0 = omega arith in
      record { low = omega arith; most = h; same = λ pre e. rw none_yet }

  module _ {level p depth q : ℕ} (g : Lefting level p depth q) where
    pub lefting_deep : 16 ≤ depth → EndsLeft image store map kind level p (Err too_deep)
    unfolding EndsLeft
    lefting_deep h = λ pre e. g.same pre e ∙ leftmost_deep (reader image store map kind) pre (depth - level) q (omega (arith, g.low))

    module _ (room : depth < 16) {j : Outcome Judged} (r : j ≡ judged_by image store map kind q)
        {a : Outcome After} (f : a ≡ first_of image kind j) where
      firsted : {b : Outcome After} → a ≡ b → FirstBy image store map kind q b
      firsted {b} came =
          let e : first_of image kind (judged_by image store map kind q) ≡ b = rw (← r, ← f) came in
          rw e at (first_by image store map kind q)

      pub lefting_refused : {y : Refusal} → a ≡ Err y → EndsLeft image store map kind level p (Err y)
      unfolding EndsLeft
      lefting_refused came = λ pre e. g.same pre e ∙ firsted came pre (depth - level) (omega (arith, g.low))

      pub lefting_entry : {e : Entry} → a ≡ Ok (after.Entry e)
          → EndsLeft image store map kind level p (Ok (Some (record { depth = depth + 1; entry = e })))
      unfolding EndsLeft
      lefting_entry came =
          let t = firsted came in
          let down : depth + 1 - 1 - level ≡ depth - level = omega arith in
          (t.0, t.1, omega (arith, g.low), omega arith, λ pre e. rw down (g.same pre e ∙ t.2 pre (depth - level) (omega (arith, g.low))))

      pub lefting_over : a ≡ Ok after.Over → depth ≡ 0 → EndsLeft image store map kind level p (Ok None)
      unfolding EndsLeft
      lefting_over came z = λ pre e.
          g.same pre e ∙ (firsted came pre (depth - level) (omega (arith, g.low))).0 (omega (arith, g.low))

      pub lefting_empty : a ≡ Ok after.Over → (depth ≡ 0 → ⊥) → EndsLeft image store map kind level p (Err unsound)
      unfolding EndsLeft
      lefting_empty came other = λ pre e.
          g.same pre e ∙ (firsted came pre (depth - level) (omega (arith, g.low))).1 (omega (arith, g.low, other))

      pub lefting_last : {z : Position} → a ≡ Ok (after.Last z) → Lefting level p (depth + 1) z.bits
      lefting_last {z} came =
          let t = firsted came in
          record {
            low = omega (arith, g.low);
            most = omega arith;
            same = λ pre e.
                let more : depth + 1 - level ≡ suc (depth - level) = omega (arith, g.low) in
                rw more (g.same pre e ∙ t pre (depth - level) (omega (arith, g.low)));
          }

      -- the first child has no other noted with it
      pub lefting_child : {z y : Position} → a ≡ Ok (after.Child z y) → ⊥
      lefting_child came = firsted came

      -- either way a child is found at z
      pub lefting_on : {x : After} {z : Position} → a ≡ Ok x → (x ≡ after.Last z) ⊎ ((y : Position) × (x ≡ after.Child z y))
          → Lefting level p (depth + 1) z.bits
      lefting_on is came = ⊎_elim (λ last. lefting_last (is ∙ ap Ok last)) (λ child. absurd (lefting_child (is ∙ ap Ok child.1))) came
