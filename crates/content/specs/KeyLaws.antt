-- A key among a page's keys: one step of each loop, of keys of either kind.
--
--   Seen i next same              the key at place i is not greater than k; `same`: it is equal
--   Greater i                     the key at place i is greater than k
--   Leading left i passed answer  the answer of a loop that has passed so many keys, with `left` more of them from place i on
--   Finding left i j answer       the answer of a loop that looks among `left` keys from place i on, their values from place j on
use Rattle.std.specs.Prelude.{ℕ, ◌+◌, ◌-◌, ◌≤◌, ◌<◌, ◌≡◌, ◌⊎◌, Bool, true, false, take, drop, Option, Some, None, option_map}
use Rattle.std.proofs.Math.Path.{refl, ap}
use Rattle.std.proofs.Common.{sym, ◌∙◌}
use mathlib.Core.List.{List, [], ◌∷◌}
use Rattle.std.proofs.Math.Logic.{inl, inr}
use Rattle.std.proofs.Math.Bool.{cond, true≢false}
use native.Mathlib.Omega.{arith}
use Rattle.std.specs.declared.cmp.Ordering.{Ordering}
use Rattle.std.specs.declared.cmp.Ordering.TheVariants as order
use Rattle.order.specs.Order.{below}
use Rattle.key.specs.declared.Kind.{Kind}
use Rattle.key.specs.declared.sized.Sized.{Sized}
use Rattle.key.specs.Key.{Key, key_of, compare_keys}
use Rattle.key.specs.Laws.{key_order}
use Rattle.item.specs.declared.Form.TheVariants.{Bytes}
use Rattle.item.specs.Step.{got, bad, up_to}
use Rattle.item.specs.StepLaws.{up_to_more, up_to_bad}
use Rattle.item.specs.Item.{Spot, item_at, items}
use Rattle.item.specs.ItemLaws.{items_at, items_bad, item_lies}
use Rattle.tree.specs.Asking.{three, find_in}
use Rattle.tree.specs.InnerPage.{lead}
use Rattle.page.specs.Judged.{key_form}
use Rattle.content.specs.declared.Probe.{Probe}
use Rattle.content.specs.Content.{key_in, keys_in, paired, entries_in, upto, probe_at}

module _ (s : List ℕ) (kind : Kind) (k : Key) where
  -- ## What a probe tells
  record Seen (i next : ℕ) (same : Bool) : Type 0 where
    spot : Spot
    reads : items s (key_form kind) i ≡ got spot next
    upto : below compare_keys k (key_in s kind spot) ≡ false
    order : compare_keys (key_in s kind spot) k ≡ cond same order.Equal order.Less

  record Greater (i : ℕ) : Type 0 where
    spot : Spot
    next : ℕ
    reads : items s (key_form kind) i ≡ got spot next
    order : compare_keys (key_in s kind spot) k ≡ order.Greater

  -- the key's bytes are those from its place up to the place after it
  pub probe_at_lem : (i : ℕ) {j : Sized} → item_at s (key_form kind) i ≡ Some j
      → probe_at s kind i k ≡ three (compare_keys (key_of kind (take (j.next - j.spot.at) (drop j.spot.at s))) k) (upto j.next false) (upto j.next true) None
  unfolding probe_at key_in
  probe_at_lem i {j} e =
      let n : j.next - j.spot.at ≡ j.spot.len = omega (arith, (item_lies s (key_form kind) i e).ends) in
      rw (e, n)

  -- the same, with how the two keys compare
  pub probe_ordered : (i : ℕ) {j : Sized} {o : Ordering} → item_at s (key_form kind) i ≡ Some j
      → compare_keys (key_of kind (take (j.next - j.spot.at) (drop j.spot.at s))) k ≡ o
      → probe_at s kind i k ≡ three o (upto j.next false) (upto j.next true) None
  probe_ordered i e q = rw (probe_at_lem i e, q)

  pub probe_bad : (i : ℕ) → item_at s (key_form kind) i ≡ None → probe_at s kind i k ≡ None
  unfolding probe_at
  probe_bad i e = rw e

  seen_at : (i : ℕ) (spot : Spot) (after : ℕ) {next : ℕ} {same : Bool} → items s (key_form kind) i ≡ got spot after
      → (o : Ordering) → compare_keys (key_in s kind spot) k ≡ o → three o (upto after false) (upto after true) None ≡ upto next same → Seen i next same
  seen_at i spot after {next} {same} r order.Less q e =
      let p : ◌≡◌ {A = Probe} (record { next = after; same = false }) (record { next = next; same = same }) = cc in
      let n : after ≡ next = ap (λ (x : Probe). x.next) p in
      let t : false ≡ same = ap (λ (x : Probe). x.same) p in
      record { spot = spot; reads = rw (← n) r; upto = rw (key_order.flip (key_in s kind spot) k, q); order = rw (← t) q }
  seen_at i spot after {next} {same} r order.Equal q e =
      let p : ◌≡◌ {A = Probe} (record { next = after; same = true }) (record { next = next; same = same }) = cc in
      let n : after ≡ next = ap (λ (x : Probe). x.next) p in
      let t : true ≡ same = ap (λ (x : Probe). x.same) p in
      record { spot = spot; reads = rw (← n) r; upto = rw (key_order.flip (key_in s kind spot) k, q); order = rw (← t) q }
  seen_at i spot after r order.Greater q e = absurd (true≢false cc)

  seen : (i : ℕ) {next : ℕ} {same : Bool} → probe_at s kind i k ≡ upto next same → Seen i next same
  unfolding probe_at
  seen i {next} {same} e = go (item_at s (key_form kind) i) refl
    where
      go : (it : Option Sized) → item_at s (key_form kind) i ≡ it → Seen i next same
      go (Some j) q = seen_at i _ j.next (items_at s (key_form kind) i q) _ refl (rw q at e)
      go None q = absurd (let f : None ≡ upto next same = rw q at e in true≢false cc)

  greater_at : (i : ℕ) (spot : Spot) (after : ℕ) → items s (key_form kind) i ≡ got spot after
      → (o : Ordering) → compare_keys (key_in s kind spot) k ≡ o → three o (upto after false) (upto after true) None ≡ None → Greater i
  greater_at i spot after r order.Less q e = absurd (true≢false cc)
  greater_at i spot after r order.Equal q e = absurd (true≢false cc)
  greater_at i spot after r order.Greater q e = record { spot = spot; next = after; reads = r; order = q }

  stopped : (i : ℕ) → probe_at s kind i k ≡ None → (items s (key_form kind) i ≡ bad) ⊎ Greater i
  unfolding probe_at
  stopped i e = go (item_at s (key_form kind) i) refl
    where
      go : (it : Option Sized) → item_at s (key_form kind) i ≡ it → (items s (key_form kind) i ≡ bad) ⊎ Greater i
      go (Some j) q = inr (greater_at i _ j.next (items_at s (key_form kind) i q) _ refl (rw q at e))
      go None q = inl (items_bad s (key_form kind) i q)

  -- ## The loops
  -- "how many leading keys, up to the first greater one, are not greater"
  pub record Leading (left i passed answer : ℕ) : Type 0 where
    pub so_far : passed + lead compare_keys k (keys_in s kind left i) ≡ answer

  -- "the first equal key that comes before any greater one"
  pub record Finding (left i j : ℕ) (answer : Option Spot) : Type 0 where
    pub so_far : option_map (λ e. e.value) (find_in compare_keys k (entries_in s kind left i j)) ≡ answer

module _ {s : List ℕ} {kind : Kind} {k : Key} {left i passed answer : ℕ} (l : Leading s kind k left i passed answer) where
  pub lead_none : left ≤ 0 → passed ≡ answer
  unfolding keys_in up_to
  lead_none h =
      let e : left ≡ 0 = omega arith in
      let f : passed + lead compare_keys k (keys_in s kind 0 i) ≡ answer = rw e at l.so_far in
      omega arith

  module _ {p : Option Probe} (h : 0 < left) (e : p ≡ probe_at s kind i k) where
    pub lead_seen : {q : Probe} → p ≡ Some q → Leading s kind k (left - 1) q.next (passed + 1) answer
    unfolding keys_in
    lead_seen t =
        let v = seen s kind k i (sym e ∙ t) in
        let f = rw (up_to_more (items s (key_form kind)) left i h v.reads, v.upto) at l.so_far in
        record { so_far = omega arith }

    pub lead_stopped : p ≡ None → passed ≡ answer
    unfolding keys_in
    lead_stopped t = go (stopped s kind k i (sym e ∙ t)) l.so_far
      where
        go : (items s (key_form kind) i ≡ bad) ⊎ Greater s kind k i → passed + lead compare_keys k (keys_in s kind left i) ≡ answer → passed ≡ answer
        go (inl b) f = let g = rw (up_to_bad (items s (key_form kind)) left i b) at f in omega arith
        go (inr v) f =
            let g = rw (up_to_more (items s (key_form kind)) left i h v.reads, key_order.flip (key_in s kind v.spot) k, v.order) at f in
            omega arith

paired_nil : (s : List ℕ) (kind : Kind) (ks : List Spot) → paired s kind ks [] ≡ []
unfolding paired
paired_nil s kind [] = refl
paired_nil s kind (x ∷ ks) = refl

module _ {s : List ℕ} {kind : Kind} {k : Key} {left i j : ℕ} {answer : Option Spot} (l : Finding s kind k left i j answer) where
  pub find_none : left ≤ 0 → None ≡ answer
  unfolding entries_in up_to paired
  find_none h =
      let e : left ≡ 0 = omega arith in
      rw e at l.so_far

  pub find_bad : {it : Option Sized} → it ≡ item_at s Bytes j → it ≡ None → None ≡ answer
  unfolding entries_in
  find_bad e t =
      rw (up_to_bad (items s Bytes) left j (items_bad s Bytes j (sym e ∙ t)), paired_nil s kind (up_to (items s (key_form kind)) left i)) at l.so_far

  module _ {p : Option Probe} (h : 0 < left) (e : p ≡ probe_at s kind i k) where
    pub find_stopped : p ≡ None → None ≡ answer
    unfolding entries_in paired
    find_stopped t = go (stopped s kind k i (sym e ∙ t)) (up_to (items s Bytes) left j) l.so_far
      where
        go : (items s (key_form kind) i ≡ bad) ⊎ Greater s kind k i → (vs : List Spot)
            → option_map (λ e. e.value) (find_in compare_keys k (paired s kind (up_to (items s (key_form kind)) left i) vs)) ≡ answer → None ≡ answer
        go (inl b) vs f = rw (up_to_bad (items s (key_form kind)) left i b) at f
        go (inr v) [] f = rw (paired_nil s kind (up_to (items s (key_form kind)) left i)) at f
        go (inr v) (x ∷ vs) f = rw (up_to_more (items s (key_form kind)) left i h v.reads, v.order) at f

    module _ {q : Probe} {v : Sized} {it : Option Sized} (t : p ≡ Some q) (f : it ≡ item_at s Bytes j) (u : it ≡ Some v) where
      pub find_same : q.same ≡ true → Some v.spot ≡ answer
      unfolding entries_in paired
      find_same y =
          let z = seen s kind k i (sym e ∙ t) in
          rw (
            up_to_more (items s (key_form kind)) left i h z.reads,
            up_to_more (items s Bytes) left j h (items_at s Bytes j (sym f ∙ u)),
            z.order ∙ ap (λ (b : Bool). cond b order.Equal order.Less) y,
          ) at l.so_far

      pub find_less : q.same ≡ false → Finding s kind k (left - 1) q.next v.next answer
      unfolding entries_in paired
      find_less y =
          let z = seen s kind k i (sym e ∙ t) in
          record {
            so_far = rw (
              up_to_more (items s (key_form kind)) left i h z.reads,
              up_to_more (items s Bytes) left j h (items_at s Bytes j (sym f ∙ u)),
              z.order ∙ ap (λ (b : Bool). cond b order.Equal order.Less) y,
            ) at l.so_far;
          }
