-- What a page's entries are given by lies in the page, and so in the image.
--
--   Inside s p        the bytes at the spot p all stand in s
--   EntryIn s kind x  the entry's key and value do, and its key is the one that stands there
use Prim.Native.Nat.{ℕ, zero, suc, ◌+◌, ◌≤◌}
use Rattle.std.specs.Prelude.{◌≡◌, length, take, drop, Option, Some, None, Ok, Err}
use Rattle.std.proofs.Math.Path.{refl, ap}
use Rattle.std.proofs.Common.{◌∙◌, arith, take-take}
use mathlib.Core.List.{List, [], ◌∷◌}
use Rattle.std.proofs.Math.ListN.{length-take}
use Rattle.refusal.specs.Refusal.{Outcome}
use Rattle.key.specs.declared.Kind.{Kind}
use Rattle.key.specs.declared.sized.Sized.{Sized}
use Rattle.key.specs.Key.{Key, key_of}
use Rattle.tree.specs.Page.{All}
use Rattle.tree.proofs.ListLaws.{all_imp}
use Rattle.tree.proofs.HoldsLaws.{InLeaf}
use Rattle.item.specs.declared.Form.{Form}
use Rattle.item.specs.declared.Form.TheVariants.{Bytes}
use Rattle.item.specs.Step.{got, bad, on_step, up_to}
use Rattle.item.specs.Item.{Spot, on_sized, item_at, items}
use Rattle.item.specs.ItemLaws.{item_lies}
use Rattle.page.specs.declared.Judged.{Judged}
use Rattle.page.specs.declared.Judged.TheVariants.{Leaf, Inner}
use Rattle.page.specs.Judged.{key_form}
use Rattle.content.specs.declared.Entry.{Entry}
use Rattle.content.specs.Content.{key_in, paired, entries_in, page_of}

abbrev pub Inside : List ℕ → Spot → Type 0
Inside s p = p.at + p.len ≤ length s

pub record EntryIn (s : List ℕ) (kind : Kind) (x : Key × Entry) : Type 0 where
  pub key_inside : Inside s x.1.key
  pub value_inside : Inside s x.1.value
  pub key_there : x.0 ≡ key_in s kind x.1.key

module _ (s : List ℕ) where
  pub items_inside : (f : Form) (n i : ℕ) → All (Inside s) (up_to (items s f) n i)
  unfolding up_to items
  items_inside f zero i = tt
  items_inside f (suc n) i = go (λ j. items_inside f n j) (item_at s f i) refl
    where
      go : ((j : ℕ) → All (Inside s) (up_to (items s f) n j)) → (it : Option Sized) → item_at s f i ≡ it
          → All (Inside s) (on_step (on_sized it bad (λ at len next. got (record { at = at; len = len }) next)) [] (λ a d. a ∷ up_to (items s f) n d))
      go ih (Some k) q =
          let l = item_lies s f i q in
          (omega (arith, l.ends, l.inside), ih k.next)
      go ih None q = tt

  paired_in : (kind : Kind) (ks vs : List Spot) → All (Inside s) ks → All (Inside s) vs → All (EntryIn s kind) (paired s kind ks vs)
  unfolding paired
  paired_in kind [] vs h k = tt
  paired_in kind (x ∷ ks) [] h k = tt
  paired_in kind (x ∷ ks) (y ∷ vs) h k =
      (record { key_inside = h.0; value_inside = k.0; key_there = refl }, paired_in kind ks vs h.1 k.1)

  entries_in_lem : (kind : Kind) (n keys values : ℕ) → All (EntryIn s kind) (entries_in s kind n keys values)
  unfolding entries_in
  entries_in_lem kind n keys values = paired_in kind _ _ (items_inside (key_form kind) n keys) (items_inside Bytes n values)

-- ## In the image
-- bytes that end by e are the same
pub part_cut : (at len e : ℕ) (l : List ℕ) → at + len ≤ e → take len (drop at (take e l)) ≡ take len (drop at l)
part_cut zero len e l h = take-take len e l (omega arith)
part_cut (suc at) len zero l h = absurd (omega arith)
part_cut (suc at) len (suc e) [] h = refl
part_cut (suc at) len (suc e) (x ∷ l) h = part_cut at len e l (omega arith)

module _ (image : List ℕ) (kind : Kind) where
  cut_in : (e : ℕ) (x : Key × Entry) → EntryIn (take e image) kind x → EntryIn image kind x
  unfolding key_in
  cut_in e x h = record {
    key_inside = omega (arith, length-take e image, h.key_inside);
    value_inside = omega (arith, length-take e image, h.value_inside);
    key_there = h.key_there ∙ ap (key_of kind) (part_cut x.1.key.at x.1.key.len e image (omega (arith, length-take e image, h.key_inside)));
  }

  pub page_in_lem : (j : Outcome Judged) → InLeaf (EntryIn image kind) (page_of image kind j)
  unfolding page_of
  page_in_lem (Err r) = tt
  page_in_lem (Ok (Leaf p)) =
      all_imp (cut_in p.end) (entries_in (take p.end image) kind p.n p.keys p.values) (entries_in_lem (take p.end image) kind p.n p.keys p.values)
  page_in_lem (Ok (Inner p)) = tt
