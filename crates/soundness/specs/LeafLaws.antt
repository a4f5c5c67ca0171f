-- Laws of the examination of a leaf, one for each way that the code takes.
--
--   one_page n  the report of a leaf with n entries
use Rattle.std.specs.Prelude.{ℕ, zero, suc, ◌≡◌, Bool, ◌&&◌, List, [], ◌∷◌, length, take, Err, None, Ok, Option}
use Rattle.std.proofs.Math.Path.{refl}
use Rattle.std.proofs.Common.{sym}
use Rattle.std.proofs.Math.Bool.{true, false, cond}
use Rattle.refusal.specs.Refusal.{Outcome, unsound}
use Rattle.key.specs.declared.Kind.{Kind}
use Rattle.key.specs.Key.{Key, compare_keys}
use Rattle.tree.specs.Page.{branch}
use Rattle.tree.specs.Rising.{keys_of, keys_test}
use Rattle.page.specs.declared.Leaf.{Leaf}
use Rattle.tree.specs.declared.Report.{Report}
use Rattle.tree.specs.Examination.{one_leaf, filled, keys_lie}
use Rattle.content.specs.Content.{keys_in}
use Rattle.rising.specs.declared.Span.{Span}
use Rattle.rising.specs.Rising.{bound_key}
use Rattle.soundness.specs.Examining.{full_by, leaf_of}

abbrev pub one_page : ℕ → Outcome Report
one_page n = Ok (one_leaf n)

filled_full : {W : Type 0} (top : Bool) (es : List (Key × W)) → full_by top (length es) ≡ filled top es
filled_full true [] = refl
filled_full true (e ∷ es) = refl
filled_full false [] = refl
filled_full false (e ∷ es) = refl

leaf_branch : (t : Bool) (n : ℕ) → branch t (Ok (one_leaf n)) (Err unsound) ≡ cond t (one_page n) (Err unsound)
leaf_branch true n = refl
leaf_branch false n = refl

pub leaf_law : {W : Type 0} (top : Bool) (lo hi : Option Key) (es : List (Key × W)) {ks : List Key} {n : ℕ} → keys_of es ≡ ks → length es ≡ n
    → keys_lie compare_keys lo hi None es ≡ keys_test compare_keys lo hi (keys_of es)
    → cond (full_by top n && keys_test compare_keys lo hi ks) (one_page n) (Err unsound)
    ≡ branch (filled top es && keys_lie compare_keys lo hi None es) (Ok (one_leaf (length es))) (Err unsound)
leaf_law top lo hi es e d t =
    rw (← e, ← d, ← t, filled_full top es) (sym (leaf_branch (filled top es && keys_lie compare_keys lo hi None es) (length es)))

pub full_top : (n : ℕ) {top : Bool} → top ≡ true → full_by top n ≡ true
full_top zero e = e
full_top (suc n) e = refl

pub full_some : (n : ℕ) (top : Bool) → ¬ (n ≡ 0) → full_by top n ≡ true
full_some zero top h = absurd (h refl)
full_some (suc n) top h = refl

module _ (image : List ℕ) (kind : Kind) (l : Leaf) (span : Span) (top : Bool) where
  pub leaf_empty : l.n ≡ 0 → top ≡ false → Err unsound ≡ leaf_of image kind l span top
  unfolding leaf_of
  leaf_empty z f = rw (z, f)

  module _ {t : Bool} (lie : t ≡ keys_test compare_keys (bound_key image kind span.lo) (bound_key image kind span.hi) (keys_in (take l.end image) kind l.n l.keys)) where
    pub leaf_falls : t ≡ false → Err unsound ≡ leaf_of image kind l span top
    unfolding leaf_of
    leaf_falls f = rw (← lie, f) (go (full_by top l.n))
      where
        go : (u : Bool) → Err unsound ≡ cond (u && false) (one_page l.n) (Err unsound)
        go true = refl
        go false = refl

    pub leaf_passed : full_by top l.n ≡ true → t ≡ true → one_page l.n ≡ leaf_of image kind l span top
    unfolding leaf_of
    leaf_passed full f = rw (← lie, f, full)
