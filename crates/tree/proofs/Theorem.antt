-- Demand 3, over any reading of pages and any strict total order of keys:
--
--   examined        the examination passes exactly the sound maps
--   sound_answers   a sound map's answers agree with its entry list
--   passed_answers  so do those of a map that the examination passes
--   passed_entries  its report counts the entry list
use Prim.Native.Nat.{ℕ, zero, suc}
use Rattle.std.specs.Prelude.{◌≡◌, ◌↔◌, length, None, Ok}
use Rattle.std.proofs.Math.Path.{refl, sym}
use Rattle.std.proofs.Common.{◌∙◌, ap}
use Rattle.std.proofs.Math.Bool.{true}
use Rattle.refusal.specs.Refusal.{Outcome}
use Rattle.std.specs.declared.cmp.Ordering.{Ordering}
use Rattle.order.specs.Order.{TotalOrder}
use Rattle.tree.specs.Page.{Page, nth}
use Rattle.tree.specs.Asking.{entries, map_lookup, map_index, map_count, map_entries}
use Rattle.tree.specs.Sound.{Sound}
use Rattle.tree.specs.declared.Report.{Report}
use Rattle.tree.specs.Examination.{nothing, map_examine}
use Rattle.tree.specs.Demand3.{Passes, Answers}
use Rattle.tree.specs.Meets.{MeetsMap}
use Rattle.tree.proofs.ListLaws.{all_always, nth_beyond, nth_element}
use Rattle.tree.proofs.LookupLaws.{assoc, assoc_present, assoc_absent, lookup_meets}
use Rattle.tree.proofs.IndexLaws.{index_meets, count_meets}
use Rattle.tree.proofs.PassedLaws.{same_entries}
use Rattle.tree.proofs.ExamineLaws.{examine_tells, examine_passes}
use Rattle.tree.proofs.ReachedLaws.{sound_meets, meets_sound}

module _ {K W : Type 0} {cmp : K → K → Ordering} (L : TotalOrder K cmp) (read : ℕ → Outcome (Page K W)) where
  -- ## Of a map, by its root
  map_lookup_lem : (root : ℕ) → MeetsMap cmp read root → (k : K) → map_lookup cmp read k root ≡ Ok (assoc cmp k (map_entries read root))
  unfolding MeetsMap map_lookup map_entries
  map_lookup_lem zero m k = refl
  map_lookup_lem (suc p) m k = lookup_meets L read k 16 true (suc p) m.0 m.1

  map_index_lem : (root : ℕ) → MeetsMap cmp read root → (i : ℕ) → map_index read i root ≡ nth i (map_entries read root)
  unfolding MeetsMap map_index map_entries
  map_index_lem zero m i = refl
  map_index_lem (suc p) m i = index_meets cmp read 16 true i (suc p) m.0

  map_count_lem : (root : ℕ) → MeetsMap cmp read root → map_count read root ≡ Ok (length (map_entries read root))
  unfolding MeetsMap map_count map_entries
  map_count_lem zero m = refl
  map_count_lem (suc p) m = count_meets cmp read 15 true (suc p) m.0

  map_tells : (root : ℕ) (r : Report) → map_examine cmp read root ≡ Ok r
      → MeetsMap cmp read root × (r.entries ≡ length (map_entries read root))
  unfolding MeetsMap map_examine map_entries
  map_tells zero r e =
      let same : nothing ≡ r = cc in
      (tt, sym (same_entries same))
  map_tells (suc p) r e =
      let h = examine_tells L read 16 true None None (suc p) r e in
      ((h.fact, h.within.rises), h.count)

  map_passes : (root : ℕ) → MeetsMap cmp read root → Passes cmp read root
  unfolding MeetsMap map_examine
  map_passes zero m = (nothing, refl)
  map_passes (suc p) m =
      let free = all_always _ (λ e. tt) (entries read 16 (suc p)) in
      let h = examine_passes L read 16 true None None (suc p) m.0 (record { rises = m.1; low = free; high = free }) in
      (h.0, h.1)

  -- ## The theorems
  pub examined : (root : ℕ) → Passes cmp read root ↔ Sound cmp read root
  examined root =
      (λ h. meets_sound cmp read root (map_tells root h.0 h.1).0, λ s. map_passes root (sound_meets cmp read root s))

  pub sound_answers : (root : ℕ) → Sound cmp read root → Answers cmp read root
  sound_answers root s =
      let m = sound_meets cmp read root s in
      let es = map_entries read root in
      record {
        answered = λ k. (assoc cmp k es, map_lookup_lem root m k);
        present = λ k w i. map_lookup_lem root m k ∙ ap Ok (assoc_present L k w i s.rising);
        absent = λ k n. map_lookup_lem root m k ∙ ap Ok (assoc_absent L k es n);
        indexed = λ i h. let e = nth_element i es h in (e.0, e.1, map_index_lem root m i ∙ e.2);
        beyond = λ i h. map_index_lem root m i ∙ nth_beyond i es h;
        number = map_count_lem root m;
      }

  pub passed_answers : (root : ℕ) → Passes cmp read root → Answers cmp read root
  passed_answers root h = sound_answers root ((examined root).0 h)

  pub passed_entries : (root : ℕ) (r : Report) → map_examine cmp read root ≡ Ok r → r.entries ≡ length (map_entries read root)
  passed_entries root r e = (map_tells root r e).1
