-- Where bytes after their length, and keys, lie.
use Rattle.std.specs.Prelude.{ℕ, ◌+◌, ◌≤◌, ◌≡◌, refl, Bool, true, false, cond, List, leb, length, take, drop, Option, Some, None}
use Rattle.std.proofs.Common.{◌∙◌, subst, leb-true}
use Rattle.text.specs.Text.{every, is_printable}
use Rattle.numeral.specs.declared.Numeral.{Numeral}
use Rattle.numeral.specs.Var.{var_at}
use Rattle.key.specs.declared.Kind.{Kind}
use Rattle.key.specs.declared.Kind.TheVariants.{Number, Text}
use Rattle.key.specs.declared.sized.Sized.{Sized}
use Rattle.key.specs.Sized.{sized_of, follow, sized_at}
use Rattle.key.specs.Key.{printable, key_at}

pub record Lies (s : List ℕ) (k : Sized) : Type 0 where
  pub ends : k.next ≡ k.spot.at + k.spot.len
  pub inside : k.next ≤ length s

follow_lies : (s : List ℕ) (r : Option Numeral) {k : Sized} → follow (length s) r ≡ Some k → Lies s k
follow_lies s None e = cc
follow_lies s (Some n) {k} e = go (leb (n.next + n.value) (length s)) refl e
  where
    go : (t : Bool) → leb (n.next + n.value) (length s) ≡ t → cond t (sized_of n.next n.value (n.next + n.value)) None ≡ Some k → Lies s k
    go true q e =
        let h = leb-true (n.next + n.value) (length s) q in
        let same : record { spot = record { at = n.next; len = n.value }; next = n.next + n.value } ≡ k = cc in
        subst (Lies s) same (record { ends = refl; inside = h })
    go false q e = cc

pub sized_lies : (limit : ℕ) (s : List ℕ) (i : ℕ) {k : Sized} → sized_at limit s i ≡ Some k → Lies s k
unfolding sized_at
sized_lies limit s i e = follow_lies s (var_at limit s i) e

pub key_lies : (kind : Kind) (s : List ℕ) (i : ℕ) {k : Sized} → key_at kind s i ≡ Some k → Lies s k
unfolding key_at
key_lies Number s i {k} e = go (leb (i + 8) (length s)) refl e
  where
    go : (t : Bool) → leb (i + 8) (length s) ≡ t → cond t (sized_of i 8 (i + 8)) None ≡ Some k → Lies s k
    go true q e =
        let h = leb-true (i + 8) (length s) q in
        let same : record { spot = record { at = i; len = 8 }; next = i + 8 } ≡ k = cc in
        subst (Lies s) same (record { ends = refl; inside = h })
    go false q e = cc
key_lies Text s i {k} e = go (sized_at 1025 s i) refl e
  where
    by : (t : Bool) {j : Sized} → sized_at 1025 s i ≡ Some j → cond t (Some j) None ≡ Some k → Lies s k
    by true q e = sized_lies 1025 s i (q ∙ e)
    by false q e = cc

    go : (r : Option Sized) → sized_at 1025 s i ≡ r → printable s r ≡ Some k → Lies s k
    go (Some j) q e = by (every is_printable (take j.spot.len (drop j.spot.at s))) q e
    go None q e = cc
