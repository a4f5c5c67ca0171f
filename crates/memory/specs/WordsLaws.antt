-- What the words hold: of what is recalled, and of the words with a chunk more.
use Prim.Native.Nat.{ℕ, zero, suc, ◌+◌, ◌*◌, ◌-◌, ◌/◌, ◌%◌, ◌^◌, ◌<◌, ◌≤◌}
use Rattle.std.specs.Prelude.{◌≡◌, Bool, true, false, cond, ◌⊎◌, List, eqb, ltb, set, replicate}
use Rattle.std.proofs.Math.Path.{refl}
use Rattle.std.proofs.Common.{sym, ◌∙◌, arith, length-set, get_or-set_same, get_or-set_other, eqb-true, ltb-true}
use Rattle.std.proofs.Math.Logic.{inl, inr}
use Rattle.std.proofs.Math.ListN.{length, get_or}
use Rattle.std.proofs.lemmas.List.{length-replicate, get_or-replicate}
use Rattle.std.proofs.lemmas.Bool.{eqb-false}
use Rattle.page.specs.declared.Place.{Place}
use Rattle.memory.specs.declared.Recalled.{Recalled}
use Rattle.memory.specs.declared.Recalled.TheVariants.{At, Free, Full}
use Rattle.memory.specs.Words.{places, chunk_in, need_in, place_in, first_word, second_word, HeldBy, HeldIn, Holds, full_in, sought_in}
use Rattle.memory.specs.Words.{recalled_at, recalled_in, pair_set, inserted_from, remembered_by, remembered_in}
use Rattle.memory.specs.WayLaws.{room_last, pair_length}

-- ## What is recalled
-- what a place answers: it holds the chunk, or there is room and it is a place
Answered : List ℕ → ℕ → ℕ → Recalled → Type 0
Answered ws c i (At l need) = HeldIn ws c l need
Answered ws c i (Free j) = (j < places ws) × (get_or ws (2 * places ws - 2) 0 ≡ 0)
Answered ws c i Full = Unit {0}

module _ (ws : List ℕ) (c : ℕ) where
  answered : (i : ℕ) → Answered ws c i (recalled_at i ws c)
  unfolding recalled_at Answered
  answered i = inside (ltb i (places ws)) refl
    where
      w : ℕ
      w = get_or ws (2 * i) 0

      v : ℕ
      v = get_or ws (2 * i + 1) 0

      room : (t : Bool) → full_in ws ≡ t → i < places ws → Answered ws c i (cond t Full (Free i))
      room true e h = tt
      room false e h = (h, room_last ws e)

      this : (s : Bool) → eqb w 0 ≡ s → (t : Bool) → eqb (chunk_in w) c ≡ t → i < places ws
          → Answered ws c i (cond (cond s false t) (At (place_in w v) (need_in w)) (cond (full_in ws) Full (Free i)))
      this true q t r h = room (full_in ws) refl h
      this false q false r h = room (full_in ws) refl h
      this false q true r h = (i, h, (eqb-false w 0 q, eqb-true (chunk_in w) c r, refl, refl))

      inside : (t : Bool) → ltb i (places ws) ≡ t
          → Answered ws c i (cond t (cond (cond (eqb w 0) false (eqb (chunk_in w) c)) (At (place_in w v) (need_in w))
          (cond (full_in ws) Full (Free i))) Full)
      inside false p = tt
      inside true p = this (eqb w 0) refl (eqb (chunk_in w) c) refl (ltb-true i (places ws) p)

  pub recalled_was_held : {l : Place} {need : ℕ} → recalled_in ws c ≡ At l need → HeldIn ws c l need
  unfolding Answered
  recalled_was_held e = rw e at (answered (sought_in ws c))

  recalled_free : {i : ℕ} → recalled_in ws c ≡ Free i → (i < places ws) × (get_or ws (2 * places ws - 2) 0 ≡ 0)
  unfolding Answered
  recalled_free e = rw e at (answered (sought_in ws c))

-- ## Two words put at a place
module _ (ws : List ℕ) (i w v : ℕ) (inside : i < places ws) where
  pair_first : get_or (pair_set ws i w v) (2 * i) 0 ≡ w
  pair_first = get_or-set_other (set ws (2 * i) w) (2 * i + 1) (2 * i) v 0 (λ x. omega arith) ∙ get_or-set_same ws (2 * i) w 0 (omega arith)

  pair_second : get_or (pair_set ws i w v) (2 * i + 1) 0 ≡ v
  pair_second = get_or-set_same (set ws (2 * i) w) (2 * i + 1) v 0 (omega (arith, length-set ws (2 * i) w))

  module _ (j : ℕ) (other : ¬ (j ≡ i)) where
    other_first : get_or (pair_set ws i w v) (2 * j) 0 ≡ get_or ws (2 * j) 0
    other_first =
        get_or-set_other (set ws (2 * i) w) (2 * i + 1) (2 * j) v 0 (λ x. omega arith) ∙ get_or-set_other ws (2 * i) (2 * j) w 0 (λ x. other (omega arith))

    other_second : get_or (pair_set ws i w v) (2 * j + 1) 0 ≡ get_or ws (2 * j + 1) 0
    other_second =
        get_or-set_other (set ws (2 * i) w) (2 * i + 1) (2 * j + 1) v 0 (λ x. other (omega arith)) ∙ get_or-set_other ws (2 * i) (2 * j + 1) w 0 (λ x. omega arith)

  module _ {c : ℕ} {l : Place} {need : ℕ} where
    pair_here : HeldBy w v c l need → HeldIn (pair_set ws i w v) c l need
    pair_here h = (i, omega (arith, inside, pair_length ws i w v), rw (pair_first, pair_second) h)

    -- what was held is held still, or by the two words that were there
    pair_keeps : HeldIn ws c l need → HeldIn (pair_set ws i w v) c l need ⊎ HeldBy (get_or ws (2 * i) 0) (get_or ws (2 * i + 1) 0) c l need
    pair_keeps (j, h, held) = go (eqb j i) refl
      where
        go : (t : Bool) → eqb j i ≡ t → HeldIn (pair_set ws i w v) c l need ⊎ HeldBy (get_or ws (2 * i) 0) (get_or ws (2 * i + 1) 0) c l need
        go true e = inr (rw (eqb-true j i e) at held)
        go false e =
            let s = eqb-false j i e in
            inl (j, omega (arith, h, pair_length ws i w v), rw (other_first j s, other_second j s) held)

    pair_only : HeldIn (pair_set ws i w v) c l need → HeldIn ws c l need ⊎ HeldBy w v c l need
    pair_only (j, h, held) = go (eqb j i) refl
      where
        go : (t : Bool) → eqb j i ≡ t → HeldIn ws c l need ⊎ HeldBy w v c l need
        go true e = inr (rw (eqb-true j i e, pair_first, pair_second) at held)
        go false e =
            let s = eqb-false j i e in
            inl (j, omega (arith, h, pair_length ws i w v), rw (other_first j s, other_second j s) at held)

-- ## The words of a chunk
module _ (c : ℕ) (l : Place) (need : ℕ) where
  chunk_back : chunk_in (first_word c l need) ≡ c
  chunk_back = omega arith

  need_back : need < 16 → need_in (first_word c l need) ≡ need
  need_back few = omega arith

  place_back : l.block < 2 ^ 28 → l.first < 2 ^ 32 → place_in (first_word c l need) (second_word l) ≡ l
  place_back b f =
      let x : first_word c l need / 16 % 0x10000000 ≡ l.block = omega arith in
      let y : second_word l / 0x100000000 ≡ l.len = omega arith in
      let z : second_word l % 0x100000000 ≡ l.first = omega arith in
      rw (x, y, z)

-- ## Two words put in
inserted_length : (n i : ℕ) (ws : List ℕ) (w v : ℕ) → length (inserted_from n i ws w v) ≡ length ws
unfolding inserted_from
inserted_length zero i ws w v = refl
inserted_length (suc n) i ws w v =
    go (eqb (get_or ws (2 * i) 0) 0) (inserted_length n (i + 1) (pair_set ws i w v) (get_or ws (2 * i) 0) (get_or ws (2 * i + 1) 0))
  where
    on : List ℕ
    on = inserted_from n (i + 1) (pair_set ws i w v) (get_or ws (2 * i) 0) (get_or ws (2 * i + 1) 0)

    go : (t : Bool) → length on ≡ length (pair_set ws i w v) → length (cond t (pair_set ws i w v) on) ≡ length ws
    go true ih = pair_length ws i w v
    go false ih = ih ∙ pair_length ws i w v

module _ {c : ℕ} {l : Place} {need : ℕ} where
  inserted_only : (n i : ℕ) (ws : List ℕ) (w v : ℕ) → n ≤ places ws - i → HeldIn (inserted_from n i ws w v) c l need
      → HeldIn ws c l need ⊎ HeldBy w v c l need
  unfolding inserted_from
  inserted_only zero i ws w v h held = inl held
  inserted_only (suc n) i ws w v h held =
      go (eqb (get_or ws (2 * i) 0) 0) (inserted_only n (i + 1) (pair_set ws i w v) (get_or ws (2 * i) 0) (get_or ws (2 * i + 1) 0)
      (omega (arith, pair_length ws i w v))) held
    where
      Old : Type 0
      Old = HeldBy (get_or ws (2 * i) 0) (get_or ws (2 * i + 1) 0) c l need

      before : HeldIn (pair_set ws i w v) c l need ⊎ Old → HeldIn ws c l need ⊎ HeldBy w v c l need
      before (inl x) = pair_only ws i w v (omega arith) x
      before (inr x) = inl (i, omega arith, x)

      go : (t : Bool) → (HeldIn (inserted_from n (i + 1) (pair_set ws i w v) (get_or ws (2 * i) 0) (get_or ws (2 * i + 1) 0)) c l need
          → HeldIn (pair_set ws i w v) c l need ⊎ Old)
          → HeldIn (cond t (pair_set ws i w v) (inserted_from n (i + 1) (pair_set ws i w v) (get_or ws (2 * i) 0) (get_or ws (2 * i + 1) 0))) c l need
          → HeldIn ws c l need ⊎ HeldBy w v c l need
      go true ih x = before (inl x)
      go false ih x = before (ih x)

  -- the last place is free, so that no words fall off the end
  inserted_keeps : (n i : ℕ) (ws : List ℕ) (w v : ℕ) → n ≡ places ws - i → i < places ws → get_or ws (2 * places ws - 2) 0 ≡ 0
      → HeldIn ws c l need ⊎ HeldBy w v c l need → HeldIn (inserted_from n i ws w v) c l need
  unfolding inserted_from
  inserted_keeps zero i ws w v h k free held = absurd (omega arith)
  inserted_keeps (suc n) i ws w v h k free held =
      go (eqb (get_or ws (2 * i) 0) 0) refl (by held)
      (inserted_keeps n (i + 1) (pair_set ws i w v) (get_or ws (2 * i) 0) (get_or ws (2 * i + 1) 0) (omega (arith, h, pair_length ws i w v)))
    where
      Old : Type 0
      Old = HeldBy (get_or ws (2 * i) 0) (get_or ws (2 * i + 1) 0) c l need

      on : List ℕ
      on = inserted_from n (i + 1) (pair_set ws i w v) (get_or ws (2 * i) 0) (get_or ws (2 * i + 1) 0)

      by : HeldIn ws c l need ⊎ HeldBy w v c l need → HeldIn (pair_set ws i w v) c l need ⊎ Old
      by (inl x) = pair_keeps ws i w v k x
      by (inr x) = inl (pair_here ws i w v k x)

      go : (t : Bool) → eqb (get_or ws (2 * i) 0) 0 ≡ t → HeldIn (pair_set ws i w v) c l need ⊎ Old
          → (i + 1 < places (pair_set ws i w v) → get_or (pair_set ws i w v) (2 * places (pair_set ws i w v) - 2) 0 ≡ 0
          → HeldIn (pair_set ws i w v) c l need ⊎ Old → HeldIn on c l need)
          → HeldIn (cond t (pair_set ws i w v) on) c l need
      go true e (inl x) ih = x
      go true e (inr x) ih = absurd (x.0 (eqb-true (get_or ws (2 * i) 0) 0 e))
      go false e x ih =
          let taken = eqb-false (get_or ws (2 * i) 0) 0 e in
          let not_last : ¬ (i ≡ places ws - 1) = λ z. taken (let at : 2 * i ≡ 2 * places ws - 2 = omega (arith, z, k) in rw at free) in
          let last : 2 * places ws - 2 ≡ 2 * (places ws - 1) = omega arith in
          let still : get_or (pair_set ws i w v) (2 * (places ws - 1)) 0 ≡ 0 =
          other_first ws i w v k (places ws - 1) (λ z. not_last (sym z)) ∙ rw last at free in
          ih (omega (arith, k, not_last, pair_length ws i w v)) (rw (pair_length ws i w v, last) still) x

-- ## A chunk more
module _ (c : ℕ) (l : Place) (need : ℕ) (ws : List ℕ) where
  pub remembered_keeps : {d : ℕ} {k : Place} {m : ℕ} → HeldIn ws d k m → HeldIn (remembered_in ws c l need) d k m
  unfolding remembered_in
  remembered_keeps {d} {k} {m} held = go (recalled_in ws c) refl
    where
      go : (o : Recalled) → recalled_in ws c ≡ o → HeldIn (remembered_by ws c l need o) d k m
      go (At x y) e = held
      go (Free i) e =
          let free = recalled_free ws c e in
          inserted_keeps (places ws - i) i ws (first_word c l need) (second_word l) refl free.0 free.1 (inl held)
      go Full e = held

  pub remembered_length : length (remembered_in ws c l need) ≡ length ws
  unfolding remembered_in
  remembered_length = go (recalled_in ws c)
    where
      go : (o : Recalled) → length (remembered_by ws c l need o) ≡ length ws
      go (At x y) = refl
      go (Free i) = inserted_length (places ws - i) i ws (first_word c l need) (second_word l)
      go Full = refl

  -- of a place that two words hold
  module _ (block-small : l.block < 2 ^ 28) (first_small : l.first < 2 ^ 32) (few : need < 16) where
    new_is : {d : ℕ} {k : Place} {m : ℕ} → HeldBy (first_word c l need) (second_word l) d k m → (d ≡ c) × (k ≡ l) × (m ≡ need)
    new_is (f, x, y, z) =
        (sym x ∙ chunk_back c l need, sym y ∙ place_back c l need block-small first_small, sym z ∙ need_back c l need few)

    pub remembered_only_adds : {d : ℕ} {k : Place} {m : ℕ} → HeldIn (remembered_in ws c l need) d k m
        → HeldIn ws d k m ⊎ ((d ≡ c) × (k ≡ l) × (m ≡ need))
    unfolding remembered_in
    remembered_only_adds {d} {k} {m} held = go (recalled_in ws c) held
      where
        by : HeldIn ws d k m ⊎ HeldBy (first_word c l need) (second_word l) d k m → HeldIn ws d k m ⊎ ((d ≡ c) × (k ≡ l) × (m ≡ need))
        by (inl x) = inl x
        by (inr x) = inr (new_is x)

        go : (o : Recalled) → HeldIn (remembered_by ws c l need o) d k m → HeldIn ws d k m ⊎ ((d ≡ c) × (k ≡ l) × (m ≡ need))
        go (At x y) held = inl held
        go (Free i) held = by (inserted_only (places ws - i) i ws (first_word c l need) (second_word l) (omega arith) held)
        go Full held = inl held

    pub remembered_adds : {i : ℕ} → 0 < need → recalled_in ws c ≡ Free i → HeldIn (remembered_in ws c l need) c l need
    unfolding remembered_in
    remembered_adds {i} some e =
        let free = recalled_free ws c e in
        let new : HeldBy (first_word c l need) (second_word l) c l need =
        ((λ z. omega arith), chunk_back c l need, place_back c l need block-small first_small, need_back c l need few) in
        rw e (inserted_keeps (places ws - i) i ws (first_word c l need) (second_word l) refl free.0 free.1 (inr new))

-- ## What is true of each chunk held
module _ (P : ℕ → Place → ℕ → Type 0) where
  pub empty_holds : (n : ℕ) → Holds P (replicate n 0)
  empty_holds n c l need (i, h, held) =
      absurd (held.0 (get_or-replicate {A = ℕ} n (2 * i) 0 0 (omega (arith, h, length-replicate {A = ℕ} n 0))))

  pub recalled_holds : (ws : List ℕ) → Holds P ws → (c : ℕ) {l : Place} {need : ℕ} → recalled_in ws c ≡ At l need → P c l need
  recalled_holds ws holds c {l} {need} e = holds c l need (recalled_was_held ws c e)

  pub remembered_holds : (c : ℕ) (l : Place) (need : ℕ) → l.block < 2 ^ 28 → l.first < 2 ^ 32 → need < 16 →
      (ws : List ℕ) → Holds P ws → P c l need → Holds P (remembered_in ws c l need)
  remembered_holds c l need b f few ws holds p d k m held = go (remembered_only_adds c l need ws b f few held)
    where
      go : HeldIn ws d k m ⊎ ((d ≡ c) × (k ≡ l) × (m ≡ need)) → P d k m
      go (inl x) = holds d k m x
      go (inr (x, y, z)) = rw (x, y, z) p
