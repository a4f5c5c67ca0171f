-- Demand 3 for images, from the theorem of the tree crate at an image's pages.
--
--   demand3  the examination passes exactly the sound maps, and what it passes answers as its entry list
use Rattle.std.specs.Prelude.{ℕ, ◌≡◌, ◌↔◌, true, List}
use Rattle.std.proofs.Common.{sym, ◌∙◌}
use Rattle.refusal.specs.Refusal.{Outcome}
use Rattle.key.specs.declared.Kind.{Kind}
use Rattle.key.specs.Key.{Key, key_of, well_formed, compare_keys}
use Rattle.key.specs.Laws.{key_order}
use Rattle.tree.specs.Page.{Page}
use Rattle.tree.specs.Asking.{map_lookup, map_index, map_count}
use Rattle.tree.proofs.ListLaws.{all_member}
use Rattle.tree.specs.Examination.{map_examine}
use Rattle.tree.specs.Demand3.{Passes as PassesTree}
use Rattle.tree.proofs.Theorem.{examined, passed_answers, passed_entries}
use Rattle.opening.specs.declared.View.{View}
use Rattle.opening.specs.declared.Store.{Store}
use Rattle.content.specs.declared.Entry.{Entry}
use Rattle.store.specs.Store.{reader}
use Rattle.store.specs.Asking.{in_map, lookup_in, index_in, count_in}
use Rattle.store.specs.Examining.{examine_in}
use Rattle.store.specs.AskLaws.{entries_key}
use Rattle.map.specs.Map.{asked_map, keyed, asking, lookup_of, index_of, count_of}
use Rattle.examine.specs.Examine.{examine_of}
use Rattle.examine.specs.Demand3.{Map, SoundMap, Passes, Answers}

module _ {image : List ℕ} {view : View} {map kind : ℕ} (m : Map image view map kind) where
  abbrev read : ℕ → Outcome (Page Key Entry)
  read = reader image m.store m.id m.keys

  -- ## A call is what the tree says of the map's root
  asking_map : {A : Type 0} (ask : Store → ℕ → Kind → Outcome A)
      → asking (asked_map map kind) image view ask ≡ ask m.store m.id m.keys
  unfolding asking
  asking_map ask = rw (m.asked, m.opens)

  in_map_lem : {A : Type 0} (ask : ℕ → Outcome A) → in_map image m.store m.id ask ≡ ask m.root
  in_map_lem ask = rw m.found

  lookup_map : (key : List ℕ) → well_formed m.keys key ≡ true
      → lookup_of image view map kind key ≡ map_lookup compare_keys read (key_of m.keys key) m.root
  unfolding lookup_of asking keyed lookup_in
  lookup_map key w = rw (m.asked, w, m.opens) (in_map_lem (map_lookup compare_keys read (key_of m.keys key)))

  index_map : (i : ℕ) → index_of image view map kind i ≡ map_index read i m.root
  unfolding index_of index_in
  index_map i = asking_map (λ s id k. index_in image s id k i) ∙ in_map_lem (map_index read i)

  count_map : count_of image view map kind ≡ map_count read m.root
  unfolding count_of count_in
  count_map = asking_map (λ s id k. count_in image s id k) ∙ in_map_lem (map_count read)

  examine_map : examine_of image view map kind ≡ map_examine compare_keys read m.root
  unfolding examine_of examine_in
  examine_map = asking_map (λ s id k. examine_in image s id k) ∙ in_map_lem (map_examine compare_keys read)

  passes_map : Passes image view map kind → PassesTree compare_keys read m.root
  passes_map p = (p.0, sym examine_map ∙ p.1)

  -- ## Demand 3
  pub passes_sound : Passes image view map kind ↔ SoundMap m
  passes_sound = (
    λ p. (examined key_order read m.root).0 (passes_map p),
    λ s. let p = (examined key_order read m.root).1 s in (p.0, examine_map ∙ p.1),
  )

  passed_map : Passes image view map kind → Answers m
  passed_map p =
      let a = passed_answers key_order read m.root (passes_map p) in
      record {
        answered = λ key w. let o = a.answered (key_of m.keys key) in (o.0, lookup_map key w ∙ o.1);
        present = λ key w e i. lookup_map key w ∙ a.present (key_of m.keys key) e i;
        absent = λ key w n. lookup_map key w ∙ a.absent (key_of m.keys key) n;
        indexed = λ i h. let e = a.indexed i h in (e.0, e.1, index_map i ∙ e.2);
        beyond = λ i h. index_map i ∙ a.beyond i h;
        number = count_map ∙ a.number;
        report = λ r e. passed_entries key_order read m.root r (sym examine_map ∙ e);
        keys_there = λ k e i. all_member _ i (entries_key image m.store m.id m.keys m.root);
      }

  pub demand3 : (Passes image view map kind ↔ SoundMap m) × (Passes image view map kind → Answers m)
  demand3 = (passes_sound, passed_map)
