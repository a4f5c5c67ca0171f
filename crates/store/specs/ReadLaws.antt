-- Laws of a page that is read by its position: one for each way that the code takes, and that it is the page as data.
use Rattle.std.specs.Prelude.{ℕ, ◌≡◌, Bool, List, eqb, Err, Ok}
use Rattle.std.proofs.Math.Path.{refl}
use Rattle.std.proofs.Common.{◌∙◌, ap, eq-eqb, ne_eqb}
use Rattle.std.proofs.Math.Bool.{true, false}
use Rattle.refusal.specs.declared.Refusal.{Refusal}
use Rattle.refusal.specs.Refusal.{Outcome, bind, out_of_place}
use Rattle.position.specs.Position.{chunk_of}
use Rattle.key.specs.declared.Kind.{Kind}
use Rattle.opening.specs.declared.Store.{Store}
use Rattle.tree.specs.Page.{branch}
use Rattle.page.specs.declared.Place.{Place}
use Rattle.page.specs.Judged.{judged_at}
use Rattle.content.specs.Content.{page_of, page_in}
use Rattle.content.specs.WholeLaws.{Whole, judged_whole}
use Rattle.metadata.specs.declared.Location.{Location}
use Rattle.metadata.specs.Answers.{located_by}
use Rattle.store.specs.Store.{chunk_at, reader}
use Rattle.store.specs.Asking.{judged_by}
use Rattle.store.specs.Memory.{IsLocation}
use Rattle.store.specs.AnswerLaws.{place_told}

module _ (image : List ℕ) (store : Store) (map : ℕ) (kind : Kind) (p : ℕ) where
  -- ## The ways that the code takes
  pub judged_zero : p ≡ 0 → Err out_of_place ≡ judged_by image store map kind p
  unfolding judged_by
  judged_zero e = rw (eq-eqb p 0 e)

  judged_chunk : ¬ (p ≡ 0) → {o : Outcome Place} → o ≡ chunk_at image store 8 (chunk_of p)
      → bind o (λ c. judged_at image c p map kind) ≡ judged_by image store map kind p
  unfolding judged_by
  judged_chunk other e = rw (ne_eqb p 0 other, e)

  module _ (other : ¬ (p ≡ 0)) {c : ℕ} (t : Outcome Location) (e : c ≡ chunk_of p) (tells : IsLocation image store 8 c t) where
    judged_told : bind (located_by t) (λ l. judged_at image l p map kind) ≡ judged_by image store map kind p
    judged_told = judged_chunk other (place_told image store c t tells ∙ ap (chunk_at image store 8) e)

    pub judged_there : {l : Location} → t ≡ Ok l → judged_at image l.place p map kind ≡ judged_by image store map kind p
    unfolding located_by
    judged_there i = rw i at judged_told

    pub judged_nowhere : {r : Refusal} → t ≡ Err r → Err r ≡ judged_by image store map kind p
    unfolding located_by
    judged_nowhere i = rw i at judged_told

  -- ## As data
  pub reader_judged : reader image store map kind p ≡ page_of image kind (judged_by image store map kind p)
  unfolding reader judged_by page_in page_of
  reader_judged = go (eqb p 0) (chunk_at image store 8 (chunk_of p))
    where
      go : (t : Bool) (o : Outcome Place)
          → branch t (Err out_of_place) (bind o (λ c. page_in image c p map kind))
          ≡ page_of image kind (branch t (Err out_of_place) (bind o (λ c. judged_at image c p map kind)))
      go true o = refl
      go false (Ok c) = refl
      go false (Err r) = refl

  -- nothing is missing from a page that is judged good
  pub judged_all : Whole image kind (judged_by image store map kind p)
  unfolding judged_by
  judged_all = go (eqb p 0) (chunk_at image store 8 (chunk_of p))
    where
      go : (t : Bool) (o : Outcome Place)
          → Whole image kind (branch t (Err out_of_place) (bind o (λ c. judged_at image c p map kind)))
      go true o = tt
      go false (Ok c) = judged_whole image c p map kind
      go false (Err r) = tt
