-- What the theory of maps needs of the reading of an image's pages: leaves have fewer than 2^31 entries, inner pages record fewer
-- than 2^48.
use Rattle.std.specs.Prelude.{ℕ, ◌^◌, ◌≡◌, Bool, List, eqb, Err, Ok}
use Rattle.std.proofs.Math.Bool.{true, false}
use Rattle.std.proofs.Common.{arith}
use Rattle.refusal.specs.Refusal.{bind, out_of_place}
use Rattle.position.specs.Position.{chunk_of}
use Rattle.key.specs.declared.Kind.{Kind}
use Rattle.key.specs.Key.{Key}
use Rattle.opening.specs.declared.Store.{Store}
use Rattle.tree.specs.Page.{branch, Page, leaf, inner}
use Rattle.tree.proofs.OutcomeLaws.{refuse_ok, bind_ok}
use Rattle.tree.proofs.Bounds.{ReadsBelow}
use Rattle.page.specs.declared.Place.{Place}
use Rattle.content.specs.declared.Entry.{Entry}
use Rattle.content.specs.Content.{page_in}
use Rattle.content.specs.WholeLaws.{leaf_below, inner_below}
use Rattle.store.specs.Store.{chunk_at, reader}

module _ (image : List ℕ) (store : Store) (map : ℕ) (kind : Kind) where
  -- a page that is read stands in a located chunk
  pub reader_page : (p : ℕ) (page : Page Key Entry) → reader image store map kind p ≡ Ok page
      → (l : Place) × (page_in image l p map kind ≡ Ok page)
  unfolding reader
  reader_page p page e = go (eqb p 0) e
    where
      go : (t : Bool)
          → branch t (Err out_of_place) (bind (chunk_at image store 8 (chunk_of p)) (λ l. page_in image l p map kind)) ≡ Ok page
          → (l : Place) × (page_in image l p map kind ≡ Ok page)
      go true e = refuse_ok out_of_place page e
      go false e =
          let h = bind_ok (chunk_at image store 8 (chunk_of p)) (λ l. page_in image l p map kind) page e in
          (h.0, h.2)

  pub reader_below : ReadsBelow (2 ^ 48) (reader image store map kind)
  reader_below =
      record {
        leaves =
            λ p es e.
            let h = reader_page p (leaf es) e in
            omega (arith, leaf_below image h.0 p map kind h.1);
        inners =
            λ p cs e.
            let h = reader_page p (inner cs) e in
            inner_below image h.0 p map kind h.1;
      }
