-- What one page adds to an examination, after document 01: the words of the contracts.
--
--   leaf_of, child_of  a leaf; the child that the cursors stand at
--   part_of .. j       what a page that is judged says by itself: all, or that its children are to be examined
use Rattle.std.specs.Prelude.{ℕ, zero, suc, ◌+◌, Bool, true, cond, ◌&&◌, List, ltb, get_or, take, Err, Ok, Option, Some, None, unwrap_or}
use Rattle.refusal.specs.Refusal.{Outcome, bind, unsound}
use Rattle.key.specs.declared.Kind.{Kind}
use Rattle.key.specs.declared.sized.Sized.{Sized}
use Rattle.key.specs.Key.{compare_keys}
use Rattle.numeral.specs.declared.Numeral.{Numeral}
use Rattle.numeral.specs.Var.{var_at}
use Rattle.text.specs.declared.spot.Spot.{Spot}
use Rattle.tree.specs.declared.Report.{Report}
use Rattle.tree.specs.Examination.{one_leaf}
use Rattle.tree.specs.Rising.{keys_test, separators_test}
use Rattle.item.specs.Item.{item_at, count_limit}
use Rattle.page.specs.declared.Judged.{Judged}
use Rattle.page.specs.declared.Judged.TheVariants as judged
use Rattle.page.specs.declared.Leaf.{Leaf}
use Rattle.page.specs.declared.Inner.{Inner}
use Rattle.page.specs.Judged.{key_form}
use Rattle.position.specs.Position.{of_bits}
use Rattle.content.specs.Content.{keys_in, positions_in}
use Rattle.rising.specs.declared.Span.{Span}
use Rattle.rising.specs.Rising.{bound_key}
use Rattle.soundness.specs.declared.Part.{Part}
use Rattle.soundness.specs.declared.Part.TheVariants as part
use Rattle.soundness.specs.declared.Child.{Child}
use Rattle.soundness.specs.declared.Separator.{Separator}

-- ## A leaf
-- "only the root may be an empty leaf", by the number of its entries
abbrev pub full_by : Bool → ℕ → Bool
full_by top zero = top
full_by top (suc n) = true

unfoldable pub leaf_of : List ℕ → Kind → Leaf → Span → Bool → Outcome Report
leaf_of image kind l span top =
    let ks = keys_in (take l.end image) kind l.n l.keys in
    cond (full_by top l.n && keys_test compare_keys (bound_key image kind span.lo) (bound_key image kind span.hi) ks)
    (Ok (one_leaf l.n)) (Err unsound)

-- ## A page
-- "a page's own rules before its keys, its separators before its children"
unfoldable pub part_of : List ℕ → Kind → Span → Bool → Outcome Judged → Outcome Part
part_of image kind span top (Err r) = Err r
part_of image kind span top (Ok (judged.Leaf l)) = bind (leaf_of image kind l span top) (λ a. Ok (part.Leaf a))
part_of image kind span top (Ok (judged.Inner p)) =
    let ks = keys_in (take p.end image) kind p.n p.keys in
    cond (separators_test compare_keys (bound_key image kind span.lo) (bound_key image kind span.hi) ks)
    (Ok (part.Children p)) (Err unsound)

-- ## The children of an inner page
-- the recorded count at a place, and the place after it
abbrev pub recorded_by : Option Numeral → Numeral
recorded_by o = unwrap_or o (record { value = 0; next = 0 })

unfoldable pub recorded_at : List ℕ → ℕ → Numeral
recorded_at s i = recorded_by (var_at count_limit s i)

-- the separator at a place as a bound, and the place after it
abbrev pub separator_by : Option Sized → Separator
separator_by (Some k) = record { bound = Some k.spot; next = k.next }
separator_by None = record { bound = None; next = 0 }

unfoldable pub separator_at : List ℕ → Kind → ℕ → Separator
separator_at s kind i = separator_by (item_at s (key_form kind) i)

-- child number j: to the right of the last child stands the page's own right bound
unfoldable pub child_of : List ℕ → Kind → Inner → ℕ → ℕ → ℕ → Option Spot → Child
child_of image kind b j counts keys hi =
    let s = take b.end image in
    let c = recorded_at s counts in
    let k = cond (ltb j b.n) (separator_at s kind keys) (record { bound = hi; next = keys }) in
    record {
      position = of_bits (get_or (positions_in s (b.n + 1) b.positions) j 0);
      count = c.value;
      hi = k.bound;
      counts = c.next;
      keys = k.next;
    }
