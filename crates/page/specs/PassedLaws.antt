-- What is known of a page that is judged and not refused. s is the image up to its end.
--
--   LeafPassed, InnerPassed  its parts follow one another, up to its end
--   Passed image kind j      the same of what a page was judged to be
use Rattle.std.specs.Prelude.{ℕ, zero, suc, ◌+◌, ◌^◌, ◌<◌, ◌≡◌, List, [], ◌∷◌, Bool, true, false, cond, eqb, length, take, Option, Some, None, Ok, Err}
use Rattle.std.proofs.Math.Path.{refl}
use Rattle.std.proofs.Common.{ap, eqb-true}
use Rattle.refusal.specs.declared.Refusal.{Refusal}
use Rattle.refusal.specs.Refusal.{Outcome, bind, bad_contents}
use Rattle.position.specs.Position.{type_of}
use Rattle.key.specs.declared.Kind.{Kind}
use Rattle.page.specs.declared.Place.{Place}
use Rattle.item.specs.declared.Form.TheVariants.{Word, Bytes}
use Rattle.item.specs.Item.{skipped, counted}
use Rattle.page.specs.declared.Head.{Head}
use Rattle.page.specs.declared.Judged.{Judged}
use Rattle.page.specs.declared.Judged.TheVariants as judged
use Rattle.page.specs.declared.Leaf.{Leaf}
use Rattle.page.specs.declared.Inner.{Inner}
use Rattle.page.specs.Judged.{readable, key_form, leaf_at, inner_at, body_at, head_at, judged_at}
use Rattle.page.specs.JudgedLaws.{head_body}

pub record LeafPassed (s : List ℕ) (kind : Kind) (p : Leaf) : Type 0 where
  pub few : p.n < 2 ^ 31
  pub key_items : skipped s (key_form kind) p.n p.keys ≡ Some p.values
  pub value_items : skipped s Bytes p.n p.values ≡ Some p.end

pub record InnerPassed (s : List ℕ) (kind : Kind) (p : Inner) : Type 0 where
  pub few : p.n < 2 ^ 31
  pub position_items : skipped s Word (p.n + 1) p.positions ≡ Some p.counts
  pub count_items : counted s (p.n + 1) p.counts ≡ Some (record { total = p.total; next = p.keys })
  pub key_items : skipped s (key_form kind) p.n p.keys ≡ Some p.end

abbrev pub Passed : List ℕ → Kind → Outcome Judged → Type 0
Passed image kind (Err r) = Unit {0}
Passed image kind (Ok (judged.Leaf p)) = LeafPassed (take p.end image) kind p
Passed image kind (Ok (judged.Inner p)) = InnerPassed (take p.end image) kind p

take_again : (m : ℕ) (s : List ℕ) → take (length (take m s)) s ≡ take m s
take_again zero s = refl
take_again (suc m) [] = refl
take_again (suc m) (x ∷ s) = ap (x ∷◌) (take_again m s)

module _ (image : List ℕ) (kind : Kind) where
  -- ## A page that is not refused has passed each test on the way
  cond_passed : (t : Bool) (page : Outcome Judged) (r : Refusal) → (t ≡ true → Passed image kind page) → Passed image kind (cond t page (Err r))
  cond_passed true page r h = h refl
  cond_passed false page r h = tt

  readable_passed : {A : Type 0} (x : Option A) (go : A → Outcome Judged) → ((a : A) → x ≡ Some a → Passed image kind (go a))
      → Passed image kind (readable x go)
  readable_passed (Some a) go h = h a refl
  readable_passed None go h = tt

  -- ## A page that ends with s, a beginning of the image
  module _ (s : List ℕ) (cut : take (length s) image ≡ s) where
    cut_end : (e : ℕ) → eqb e (length s) ≡ true → take e image ≡ s
    cut_end e t = rw (eqb-true e (length s) t) cut

    module _ (n : ℕ) (few : n < 2 ^ 31) where
      leaf_passed : (keys : ℕ) → Passed image kind (leaf_at s (key_form kind) n keys)
      unfolding leaf_at
      leaf_passed keys =
          readable_passed (skipped s (key_form kind) n keys) _ (λ values p.
          readable_passed (skipped s Bytes n values) _ (λ e q.
          cond_passed (eqb e (length s)) _ bad_contents (λ t.
          rw (cut_end e t) (record { few = few; key_items = p; value_items = q }))))

      inner_passed : (positions : ℕ) → Passed image kind (inner_at s (key_form kind) n positions)
      unfolding inner_at
      inner_passed positions =
          readable_passed (skipped s Word (n + 1) positions) _ (λ counts p.
          readable_passed (counted s (n + 1) counts) _ (λ sum c.
          readable_passed (skipped s (key_form kind) n sum.next) _ (λ e q.
          cond_passed (eqb e (length s)) _ bad_contents (λ t.
          rw (cut_end e t)
          (record { few = few; position_items = p; count_items = c; key_items = q })))))

      body_passed : (type i : ℕ) → Passed image kind (body_at s type (key_form kind) n i)
      body_passed type i = go (eqb type 0)
        where
          go : (t : Bool) → Passed image kind (cond t (leaf_at s (key_form kind) n i) (inner_at s (key_form kind) n i))
          go true = leaf_passed i
          go false = inner_passed i

  pub judged_passed : (c : Place) (p map : ℕ) → Passed image kind (judged_at image c p map kind)
  unfolding judged_at
  judged_passed c p map = go (head_at image c p map) refl
    where
      go : (o : Outcome Head) → head_at image c p map ≡ o
          → Passed image kind (bind o (λ h. body_at (take h.end image) (type_of p) (key_form kind) h.n h.at))
      go (Err r) q = tt
      go (Ok h) q = body_passed (take h.end image) (take_again h.end image) h.n (head_body image c p map q).0 (type_of p) h.at
