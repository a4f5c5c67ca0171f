-- Laws of an entry by its number, as the code reads it. s is the image up to the page's end.
use Rattle.std.specs.Prelude.{ℕ, ◌≡◌, List, take, slice_get, Ok, Option, Some, None, option_map, MatchOption}
use Rattle.std.proofs.Math.Path.{refl}
use Rattle.std.proofs.Common.{ap}
use Rattle.key.specs.declared.Kind.{Kind}
use Rattle.key.specs.Key.{Key}
use Rattle.page.specs.declared.Judged.{Judged}
use Rattle.page.specs.declared.Judged.TheVariants as judged
use Rattle.page.specs.declared.Leaf.{Leaf}
use Rattle.refusal.specs.Refusal.{Outcome}
use Rattle.content.specs.declared.Entry.{Entry}
use Rattle.content.specs.Content.{entries_in}
use Rattle.cursor.specs.declared.follow.After.{After}
use Rattle.cursor.specs.declared.follow.After.TheVariants as after
use Rattle.cursor.specs.Steps.{entry_after, first_of}

-- the entry if there is one, else that there is none
pub entry_or_over : (o : Option (Key × Entry)) {e : Option Entry} {a : After} → e ≡ option_map (λ x. x.1) o
    → MatchOption e (a ≡ after.Over) (λ x. a ≡ after.Entry x) → a ≡ entry_after o
entry_or_over (Some x) p q = rw p at q
entry_or_over None p q = rw p at q

entry_after_lem : (o : Option (Key × Entry)) {e : Entry} → option_map (λ x. x.1) o ≡ Some e → after.Entry e ≡ entry_after o
entry_after_lem None h = cc
entry_after_lem (Some x) h = cc

over_after : (o : Option (Key × Entry)) → option_map (λ x. x.1) o ≡ None → after.Over ≡ entry_after o
over_after None h = refl
over_after (Some x) h = cc

module _ (image : List ℕ) (kind : Kind) (n keys values end i : ℕ) (s : List ℕ) (c : s ≡ take end image) where
  pub entry_there : {e : Entry} → option_map (λ x. x.1) (slice_get (entries_in s kind n keys values) i) ≡ Some e
      → after.Entry e ≡ entry_after (slice_get (entries_in (take end image) kind n keys values) i)
  entry_there h = rw (← c) (entry_after_lem (slice_get (entries_in s kind n keys values) i) h)

  pub entry_out_lem : option_map (λ x. x.1) (slice_get (entries_in s kind n keys values) i) ≡ None
      → after.Over ≡ entry_after (slice_get (entries_in (take end image) kind n keys values) i)
  entry_out_lem h = rw (← c) (over_after (slice_get (entries_in s kind n keys values) i) h)

module _ (image : List ℕ) (kind : Kind) {j : Outcome Judged} {l : Leaf} (i : j ≡ Ok (judged.Leaf l))
    (s : List ℕ) (c : s ≡ take l.end image) where
  pub first_there : {e : Entry} → option_map (λ x. x.1) (slice_get (entries_in s kind l.n l.keys l.values) 0) ≡ Some e
      → Ok (after.Entry e) ≡ first_of image kind j
  unfolding first_of
  first_there h = rw i (ap Ok (entry_there image kind l.n l.keys l.values l.end 0 s c h))

  pub first_out : option_map (λ x. x.1) (slice_get (entries_in s kind l.n l.keys l.values) 0) ≡ None
      → Ok after.Over ≡ first_of image kind j
  unfolding first_of
  first_out h = rw i (ap Ok (entry_out_lem image kind l.n l.keys l.values l.end 0 s c h))
