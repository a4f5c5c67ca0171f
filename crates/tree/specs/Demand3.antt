-- Demand 3, over any reading of pages and any strict total order of keys: what it says.
--
--   Passes cmp read root   "The examination passes a map if it doesn't refuse."
--   Answers cmp read root  lookup of any key, every index and the count agree with the entry list
use Rattle.std.specs.Prelude.{ℕ, ◌<◌, ◌≤◌, ◌≡◌, length, Err, None, Ok, Option, Some, slice_get}
use mathlib.Core.List.{Memᴰ}
use Rattle.refusal.specs.Refusal.{Outcome, bad_index}
use Rattle.std.specs.declared.cmp.Ordering.{Ordering}
use Rattle.tree.specs.Page.{Page}
use Rattle.tree.specs.Asking.{map_lookup, map_index, map_count, map_entries}
use Rattle.tree.specs.declared.Report.{Report}
use Rattle.tree.specs.Examination.{map_examine}

module _ {K W : Type 0} (cmp : K → K → Ordering) (read : ℕ → Outcome (Page K W)) (root : ℕ) where
  abbrev pub Passes : Type 0
  Passes = (a : Report) × (map_examine cmp read root ≡ Ok a)

  pub record Answers : Type 0 where
    pub answered : (k : K) → (o : Option W) × (map_lookup cmp read k root ≡ Ok o)
    pub present : (k : K) (w : W) → Memᴰ (k, w) (map_entries read root) → map_lookup cmp read k root ≡ Ok (Some w)
    pub absent : (k : K) → ((w : W) → Memᴰ (k, w) (map_entries read root) → ⊥) → map_lookup cmp read k root ≡ Ok None
    pub indexed : (i : ℕ) → i < length (map_entries read root)
        → (e : K × W) × (slice_get (map_entries read root) i ≡ Some e) × (map_index read i root ≡ Ok e)
    pub beyond : (i : ℕ) → length (map_entries read root) ≤ i → map_index read i root ≡ Err bad_index
    pub number : map_count read root ≡ Ok (length (map_entries read root))
