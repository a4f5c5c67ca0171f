-- Laws of the examination of a page and a map, one for each way that the code takes. Those of the loop over a page's children are
-- in CameLaws.
--
--   examined_at ..  what the examination from the page at p down hands back
--   lying, below    of an inner page: the test of its separators, and the examination of its children
--   Under b         of an inner page whose children are to be examined: nothing of it is missing, and they say what it is
use Prim.Native.Nat.{ℕ, zero, suc, ◌+◌, ◌-◌}
use Rattle.std.specs.Prelude.{◌≡◌, Bool, cond, ◌&&◌, List, length, Err, None, Ok}
use Rattle.std.proofs.Math.Path.{refl, ap}
use Rattle.std.proofs.Common.{sym, ◌∙◌, true≢false, add-one, sub-one}
use Rattle.std.proofs.Math.Bool.{true, false}
use Rattle.std.proofs.Math.ListN.{take}
use Rattle.refusal.specs.declared.Refusal.{Refusal}
use Rattle.refusal.specs.Refusal.{Outcome, bind, too_deep, unsound}
use Rattle.position.specs.declared.Position.{Position}
use Rattle.key.specs.declared.Kind.{Kind}
use Rattle.key.specs.Key.{compare_keys}
use Rattle.key.specs.Laws.{key_order}
use Rattle.tree.specs.Page.{branch}
use Rattle.tree.specs.Rising.{separators_test}
use Rattle.tree.proofs.RisingLaws.{keys_test_lem, separators_test_lem}
use Rattle.tree.specs.declared.Report.{Report}
use Rattle.tree.specs.Examination.{nothing, one_leaf, over, filled, keys_lie, examine_children, examine_page, examine, map_examine}
use Rattle.tree.proofs.ChildrenLaws.{separators_children_of}
use Rattle.opening.specs.declared.Store.{Store}
use Rattle.page.specs.declared.Judged.{Judged}
use Rattle.page.specs.declared.Judged.TheVariants as judged
use Rattle.page.specs.declared.Leaf.{Leaf}
use Rattle.page.specs.declared.Inner.{Inner}
use Rattle.content.specs.Content.{keys_in, positions_in, counts_in, entries_in, page_of}
use Rattle.content.specs.WholeLaws.{Whole, LeafWhole, children_in, keys_whole}
use Rattle.rising.specs.declared.Span.{Span}
use Rattle.rising.specs.Rising.{bound_key}
use Rattle.metadata.specs.Answers.{root_said}
use Rattle.soundness.specs.declared.Part.{Part}
use Rattle.soundness.specs.declared.Part.TheVariants as part
use Rattle.soundness.specs.Examining.{leaf_of, part_of}
use Rattle.soundness.specs.LeafLaws.{leaf_law}
use Rattle.store.specs.Store.{reader, map_root}
use Rattle.store.specs.Asking.{judged_by}
use Rattle.store.specs.ReadLaws.{reader_judged, judged_all}
use Rattle.store.specs.Examining.{examine_in, over_children, WholePage}

-- ## An inner page
over_examined : (o : Outcome Report) → over_children o ≡ bind o (λ a. Ok (over a))
unfolding over_children
over_examined (Ok a) = rw (add-one a.pages, add-one a.depth)
over_examined (Err r) = refl

-- ## What a leaf's report makes of the page
abbrev leaf_part : Outcome Report → Outcome Part
leaf_part o = bind o (λ a. Ok (part.Leaf a))

leaf_stops : (o : Outcome Report) {r : Refusal} → leaf_part o ≡ Err r → Err r ≡ o
leaf_stops (Err x) e = sym cc
leaf_stops (Ok a) e = absurd (true≢false cc)

leaf_says : (o : Outcome Report) {a : Report} → leaf_part o ≡ Ok (part.Leaf a) → Ok a ≡ o
leaf_says (Err x) e = absurd (true≢false cc)
leaf_says (Ok b) {a} e = let same : a ≡ b = cc in ap Ok same

leaf_has_none : (o : Outcome Report) {b : Inner} → leaf_part o ≡ Ok (part.Children b) → ⊥
leaf_has_none (Err x) e = cc
leaf_has_none (Ok a) e = cc

-- ## By the page's judgement
module _ (image : List ℕ) (store : Store) (m : ℕ) (kind : Kind) where
  abbrev pub examined_at : ℕ → Bool → Span → ℕ → Outcome Report
  examined_at levels top span p =
      examine compare_keys (reader image store m kind) levels top (bound_key image kind span.lo) (bound_key image kind span.hi) p

  module _ (levels : ℕ) (top : Bool) (span : Span) (p : ℕ) where
    pub examined_deep : levels ≡ 0 → Err too_deep ≡ examined_at levels top span p
    unfolding examine
    examined_deep e = rw e

    -- the page is read, at a level that is left
    at_page : ¬ (levels ≡ 0) → {j : Outcome Judged} → j ≡ judged_by image store m kind p
        → examine_page compare_keys (examine compare_keys (reader image store m kind) (levels - 1) false) top (bound_key image kind span.lo)
        (bound_key image kind span.hi) (page_of image kind j) ≡ examined_at levels top span p
    unfolding examine
    at_page some_left {j} e = go levels some_left
      where
        go : (l : ℕ) → ¬ (l ≡ 0)
            → examine_page compare_keys (examine compare_keys (reader image store m kind) (l - 1) false) top (bound_key image kind span.lo)
            (bound_key image kind span.hi) (page_of image kind j) ≡ examined_at l top span p
        go zero h = absurd (h refl)
        go (suc l) h = rw (sub-one, e, ← reader_judged image store m kind p)

    -- the page is judged to be j
    module _ (some_left : ¬ (levels ≡ 0)) {j : Outcome Judged} (is : j ≡ judged_by image store m kind p) where
      pub examined_refused : {r : Refusal} → j ≡ Err r → Err r ≡ examined_at levels top span p
      unfolding page_of
      examined_refused e = rw e at (at_page some_left is)

      whole : Whole image kind j
      whole = rw is (judged_all image store m kind p)

      module _ {l : Leaf} (k : j ≡ Ok (judged.Leaf l)) where
        leaf_read : branch (filled top (entries_in (take l.end image) kind l.n l.keys l.values)
            && keys_lie compare_keys (bound_key image kind span.lo) (bound_key image kind span.hi) None
            (entries_in (take l.end image) kind l.n l.keys l.values))
            (Ok (one_leaf (length (entries_in (take l.end image) kind l.n l.keys l.values)))) (Err unsound) ≡ examined_at levels top span p
        unfolding page_of
        leaf_read = rw k at (at_page some_left is)

        examined_leaf : leaf_of image kind l span top ≡ examined_at levels top span p
        unfolding leaf_of
        examined_leaf =
            let w : LeafWhole (take l.end image) kind l.n l.keys l.values = rw k at whole in
            leaf_law top (bound_key image kind span.lo) (bound_key image kind span.hi) (entries_in (take l.end image) kind l.n l.keys l.values)
            (keys_whole w) w.all_entries (keys_test_lem key_order _ _ _) ∙ leaf_read

      -- an inner page whose children are to be examined: nothing of it is missing, and they say what it is
      pub record Under (b : Inner) : Type 0 where
        pub all : WholePage image kind b
        pub children : over_children (examine_children (examine compare_keys (reader image store m kind) (levels - 1) false)
            (bound_key image kind span.lo) (bound_key image kind span.hi)
            (children_in (take b.end image) kind b.n b.positions b.counts b.keys)) ≡ examined_at levels top span p

      module _ {q : Inner} (k : j ≡ Ok (judged.Inner q)) where
        inner_stands : WholePage image kind q
        inner_stands = rw k at whole

        -- the test of its separators, and the examination of its children
        abbrev lying : Bool
        lying = separators_test compare_keys (bound_key image kind span.lo) (bound_key image kind span.hi) (keys_in (take q.end image) kind q.n q.keys)

        abbrev below : Outcome Report
        below =
            examine_children (examine compare_keys (reader image store m kind) (levels - 1) false) (bound_key image kind span.lo)
            (bound_key image kind span.hi) (children_in (take q.end image) kind q.n q.positions q.counts q.keys)

        inner_read : (t : Bool) → lying ≡ t → branch t (bind below (λ a. Ok (over a))) (Err unsound) ≡ examined_at levels top span p
        unfolding page_of
        inner_read t h =
            let s = take q.end image in
            let lie = separators_test_lem key_order (bound_key image kind span.lo) (bound_key image kind span.hi) (keys_in s kind q.n q.keys) in
            let all = separators_children_of (positions_in s (q.n + 1) q.positions) (counts_in s (q.n + 1) q.counts) (keys_in s kind q.n q.keys) in
            let r = rw k at (at_page some_left is) in
            rw (all, lie, h) at r

        examined_unsound : lying ≡ false → Err unsound ≡ examined_at levels top span p
        examined_unsound h = inner_read false h

        examined_inner : lying ≡ true → over_children below ≡ examined_at levels top span p
        examined_inner h = over_examined _ ∙ inner_read true h

        abbrev parted : Bool → Outcome Part
        parted t = cond t (Ok (part.Children q)) (Err unsound)

        inner_stops : {r : Refusal} (t : Bool) → lying ≡ t → parted t ≡ Err r → Err r ≡ examined_at levels top span p
        inner_stops true h d = absurd (true≢false cc)
        inner_stops {r} false h d = let same : r ≡ unsound = cc in ap Err same ∙ examined_unsound h

        inner_is_no_leaf : {a : Report} (t : Bool) → parted t ≡ Ok (part.Leaf a) → ⊥
        inner_is_no_leaf true d = cc
        inner_is_no_leaf false d = cc

        inner_under : {b : Inner} (t : Bool) → lying ≡ t → parted t ≡ Ok (part.Children b) → Under b
        inner_under {b} true h d =
            let same : b ≡ q = cc in
            rw same (record { all = inner_stands; children = examined_inner h })
        inner_under false h d = absurd (true≢false cc)

      -- by what it says by itself
      by_refusal : {r : Refusal} (i : Outcome Judged) → j ≡ i → part_of image kind span top i ≡ Err r → Err r ≡ examined_at levels top span p
      unfolding part_of
      by_refusal {r} (Err x) k e = let same : r ≡ x = cc in ap Err same ∙ examined_refused k
      by_refusal (Ok (judged.Leaf l)) k e = leaf_stops _ e ∙ examined_leaf k
      by_refusal (Ok (judged.Inner q)) k e = inner_stops k (lying k) refl e

      by_report : {a : Report} (i : Outcome Judged) → j ≡ i → part_of image kind span top i ≡ Ok (part.Leaf a) → Ok a ≡ examined_at levels top span p
      unfolding part_of
      by_report (Err x) k e = absurd (true≢false cc)
      by_report (Ok (judged.Leaf l)) k e = leaf_says _ e ∙ examined_leaf k
      by_report (Ok (judged.Inner q)) k e = absurd (inner_is_no_leaf k (lying k) e)

      by_children : {b : Inner} (i : Outcome Judged) → j ≡ i → part_of image kind span top i ≡ Ok (part.Children b) → Under b
      unfolding part_of
      by_children (Err x) k e = absurd (true≢false cc)
      by_children (Ok (judged.Leaf l)) k e = absurd (leaf_has_none _ e)
      by_children (Ok (judged.Inner q)) k e = inner_under k (lying k) refl e

      module _ {y : Outcome Part} (said : y ≡ part_of image kind span top j) where
        pub page_refused : {r : Refusal} → y ≡ Err r → Err r ≡ examined_at levels top span p
        page_refused e = by_refusal j refl (sym said ∙ e)

        pub page_leaf : {a : Report} → y ≡ Ok (part.Leaf a) → Ok a ≡ examined_at levels top span p
        page_leaf e = by_report j refl (sym said ∙ e)

        pub page_under : {b : Inner} → y ≡ Ok (part.Children b) → Under b
        page_under e = by_children j refl (sym said ∙ e)

-- ## A map
module _ (image : List ℕ) (store : Store) (m : ℕ) (kind : Kind) (r : Outcome Position) (is : root_said r ≡ map_root image store m) where
  by_root : {o : Outcome ℕ} → root_said r ≡ o → bind o (map_examine compare_keys (reader image store m kind)) ≡ examine_in image store m kind
  unfolding examine_in
  by_root e = rw (← e, is)

  pub map_refused : {x : Refusal} → r ≡ Err x → Err x ≡ examine_in image store m kind
  map_refused e = by_root (ap root_said e)

  module _ {p : Position} (e : r ≡ Ok p) where
    pub map_empty : p.bits ≡ 0 → Ok nothing ≡ examine_in image store m kind
    unfolding map_examine
    map_empty z = by_root (ap root_said e ∙ ap Ok z)

    pub map_examined : ¬ (p.bits ≡ 0) → examined_at image store m kind 16 true (record { lo = None; hi = None }) p.bits ≡ examine_in image store m kind
    unfolding map_examine bound_key
    map_examined other = go p.bits other (by_root (ap root_said e))
      where
        go : (q : ℕ) → ¬ (q ≡ 0)
            → map_examine compare_keys (reader image store m kind) q ≡ examine_in image store m kind
            → examine compare_keys (reader image store m kind) 16 true None None q ≡ examine_in image store m kind
        go zero h k = absurd (h refl)
        go (suc q) h k = k
