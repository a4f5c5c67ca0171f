-- Document 01's soundness, said of the reached pages, is soundness by recursion from the root down (sound_meets, meets_sound).
use Prim.Native.Nat.{ℕ, zero, suc}
use Rattle.std.proofs.Math.Path.{◌≡◌, refl, ap}
use Rattle.std.proofs.Common.{◌∙◌}
use Rattle.std.specs.Prelude.{Bool, Err, Ok}
use Rattle.std.proofs.Math.Bool.{true, false}
use mathlib.Core.List.{List, [], ◌∷◌}
use native.Mathlib.Omega.{arith}
use Rattle.std.proofs.Math.ListN.{length}
use Rattle.refusal.specs.Refusal.{Outcome, too_deep}
use Rattle.std.specs.declared.cmp.Ordering.{Ordering}
use Rattle.tree.specs.Page.{Children, Page, leaf, inner}
use Rattle.tree.specs.Asking.{entries, map_entries}
use Rattle.tree.specs.Sound.{IsChild, page_at, Reached, top, under, Rising, Sound}
use Rattle.tree.specs.Meets.{Filled, MeetsChildren, MeetsPage, Meets, MeetsMap}
use Rattle.tree.proofs.ListLaws.{children_imp, children_child, children_and}
use Rattle.tree.proofs.OutcomeLaws.{refuse_ok}

-- ## What Meets tells of a page, by what is read there
module _ {K W : Type 0} (cmp : K → K → Ordering) (read : ℕ → Outcome (Page K W)) where
  meets_inner : (levels : ℕ) (root : Bool) (p : ℕ) (cs : Children K) → Meets cmp read (suc levels) root p → read p ≡ Ok (inner cs)
      → MeetsChildren cmp (entries read levels) (Meets cmp read levels false) [] cs
  unfolding Meets
  meets_inner levels root p cs m e = rw e at m

  meets_child : (levels : ℕ) (root : Bool) (p q : ℕ) (cs : Children K) → Meets cmp read (suc levels) root p → read p ≡ Ok (inner cs)
      → IsChild q cs → Meets cmp read levels false q
  meets_child levels root p q cs m e i =
      children_child (Meets cmp read levels false) q cs (children_imp (λ x c h. h.1) cs (meets_inner levels root p cs m e).1) i

  meets_page : (levels : ℕ) (root : Bool) (p : ℕ) → Meets cmp read levels root p → (page : Page K W) × (page_at read levels p ≡ Ok page)
  unfolding Meets
  meets_page zero root p m = absurd m
  meets_page (suc levels) root p m = go (read p) refl m
    where
      go : (o : Outcome (Page K W)) → read p ≡ o → MeetsPage cmp (entries read levels) (Meets cmp read levels false) root o
          → (page : Page K W) × (read p ≡ Ok page)
      go (Ok page) e m = (page, e)
      go (Err x) e m = absurd m

  meets_empty : (levels p : ℕ) → Meets cmp read levels false p → read p ≡ Ok (leaf []) → ⊥
  unfolding Meets
  meets_empty zero p m e = m
  meets_empty (suc levels) p m e = rw e at m

-- ## Nothing is reached in the empty map
unreached : {K W : Type 0} (read : ℕ → Outcome (Page K W)) {levels p : ℕ} → Reached read 0 levels p → ⊥
unreached read (top n) = n refl
unreached read (under q cs w e i) = unreached read w

empty_sound : {K W : Type 0} (cmp : K → K → Ordering) (read : ℕ → Outcome (Page K W)) → Sound cmp read 0
unfolding map_entries
empty_sound cmp read =
    record {
      rules = λ levels p w. absurd (unreached read w);
      rising = tt;
      separated = λ levels p cs w. absurd (unreached read w);
      counts = λ levels p cs w. absurd (unreached read w);
      filled = λ levels p q cs w. absurd (unreached read w);
    }

-- ## From the root to the reached pages
module _ {K W : Type 0} (cmp : K → K → Ordering) (read : ℕ → Outcome (Page K W)) (root : ℕ) where
  reached_meets : {levels p : ℕ} → Meets cmp read 16 true root → Reached read root levels p → (r : Bool) × Meets cmp read levels r p
  reached_meets m (top n) = (true, m)
  reached_meets m (under {levels} {p} q cs w e i) = go (reached_meets m w)
    where
      go : (r : Bool) × Meets cmp read (suc levels) r p → (r : Bool) × Meets cmp read levels r q
      go h = (false, meets_child cmp read levels h.0 p q cs h.1 e i)

  reached_sound : Meets cmp read 16 true root → Rising cmp (map_entries read root) → Sound cmp read root
  reached_sound m r =
      record {
        rules = λ levels p w. let h = reached_meets m w in meets_page cmp read levels h.0 p h.1;
        rising = r;
        separated = λ levels p cs w e. let h = reached_meets m w in (meets_inner cmp read levels h.0 p cs h.1 e).0;
        counts =
            λ levels p cs w e.
            let h = reached_meets m w in children_imp (λ q c k. k.0) cs (meets_inner cmp read levels h.0 p cs h.1 e).1;
        filled =
            λ levels p q cs w e i z.
            let h = reached_meets m w in meets_empty cmp read levels q (meets_child cmp read levels h.0 p q cs h.1 e i) z;
      }

-- ## From the reached pages to the root
full_filled : {E : Type 0} (root : Bool) (es : List E) → (root ≡ false → es ≡ [] → ⊥) → Filled root es
full_filled true es f = tt
full_filled false [] f = f refl refl
full_filled false (x ∷ es) f = tt

module _ {K W : Type 0} (cmp : K → K → Ordering) (read : ℕ → Outcome (Page K W)) (root : ℕ) (S : Sound cmp read root) where
  sound_reached : (levels : ℕ) (r : Bool) (p : ℕ) → Reached read root levels p → (r ≡ false → read p ≡ Ok (leaf []) → ⊥)
      → Meets cmp read levels r p
  unfolding Meets
  sound_reached zero r p w f =
      let h = S.rules 0 p w in
      refuse_ok too_deep h.0 h.1
  sound_reached (suc levels) r p w f = go (λ q v g. sound_reached levels false q v g) (read p) refl
    where
      go : ((q : ℕ) → Reached read root levels q → (false ≡ false → read q ≡ Ok (leaf []) → ⊥) → Meets cmp read levels false q)
          → (o : Outcome (Page K W)) → read p ≡ o → MeetsPage cmp (entries read levels) (Meets cmp read levels false) r o
      go ih (Err x) e =
          let h = S.rules (suc levels) p w in
          refuse_ok x h.0 (rw e at h.1)
      go ih (Ok (leaf es)) e = full_filled r es (λ b y. f b (e ∙ ap (λ (l : List (K × W)). Ok (leaf l)) y))
      go ih (Ok (inner cs)) e = (
        S.separated levels p cs w e,
        children_and (λ q c. c ≡ length (entries read levels q)) (Meets cmp read levels false) cs (S.counts levels p cs w e)
            (λ q i. ih q (under q cs w e i) (λ _ z. S.filled levels p q cs w e i z)),
      )

-- ## Of a map
module _ {K W : Type 0} (cmp : K → K → Ordering) (read : ℕ → Outcome (Page K W)) where
  pub meets_sound : (root : ℕ) → MeetsMap cmp read root → Sound cmp read root
  unfolding MeetsMap map_entries
  meets_sound zero m = empty_sound cmp read
  meets_sound (suc p) m = reached_sound cmp read (suc p) m.0 m.1

  pub sound_meets : (root : ℕ) → Sound cmp read root → MeetsMap cmp read root
  unfolding MeetsMap map_entries
  sound_meets zero S = tt
  sound_meets (suc p) S =
      let present : ¬ (suc p ≡ 0) = λ e. omega arith in
      let allowed : true ≡ false → read (suc p) ≡ Ok (leaf []) → ⊥ = λ b e. let z : ◌≡◌ {A = ℕ} 0 1 = cc b in omega arith in
      (sound_reached cmp read (suc p) S 16 true (suc p) (top present) allowed, S.rising)
