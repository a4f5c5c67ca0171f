-- One law for each branch of the code, with what is known for every number of questions.
--
--   newest-X, ninth-X, asked-X, placed-X  a chunk: the newest; no question left; by a lookup that is refused, or by its answer
--   page-X                                a page: at 0; its chunk refused or known
--   X-refused, X-reached, X-found         a descent ends with a refusal, goes on to a page, ends with an answer
use Prim.Native.Nat.{ℕ, zero, suc, ◌≤◌, max}
use Rattle.std.specs.Prelude.{◌≡◌, List, Err, None, Ok, Option}
use Rattle.std.proofs.Math.Path.{refl, ap}
use Rattle.std.proofs.Common.{sym, ◌∙◌, arith, eq-eqb, ne_eqb}
use Rattle.refusal.specs.declared.Refusal.{Refusal}
use Rattle.refusal.specs.Refusal.{Outcome, bind, ninth_question, out_of_place, too_deep}
use Rattle.tree.specs.Page.{Children, Page, leaf, inner}
use Rattle.tree.specs.Asking.{child_for, find_in, lookup_page, lookup, map_lookup}
use Rattle.locating.specs.Locating.{Metadata, placed, located, asked, gate}
use Rattle.locating.specs.Known.{Gated, Known, read_with, asked_below, asked_in, CameTo}
use Rattle.locating.proofs.GateLaws.{gate_shut, gate_suc, gated_open, gated_zero, gated_then, gated_same, gated_through}

-- ## A chunk
module _ {K W L : Type 0} (m : Metadata K W L) {c : ℕ} where
  pub newest_known : c ≡ m.newest → Known m c m.newest_at 0
  unfolding located
  newest_known e = gated_zero same
    where
      same : (r : ℕ) → located m r c ≡ Ok m.newest_at
      same zero = rw (eq-eqb c m.newest e)
      same (suc r) = rw (eq-eqb c m.newest e)

  module _ (other : ¬ (c ≡ m.newest)) where
    pub ninth_refused : located m 0 c ≡ Err ninth_question
    unfolding located
    ninth_refused = rw (ne_eqb c m.newest other)

    located_asked : (r : ℕ) → located m (suc r) c ≡ placed m c (asked m (m.key_of c) r)
    unfolding located
    located_asked r = rw (ne_eqb c m.newest other)

    pub asked_refused : (q : ℕ) {x : Refusal} → asked m (m.key_of c) q ≡ Err x → located m (suc q) c ≡ Err x
    asked_refused q e = located_asked q ∙ ap (placed m c) e

    asked_known : {n : ℕ} {a : Outcome (Option W)} → Gated n (asked m (m.key_of c)) (λ r. a)
        → Gated (suc n) (λ r. located m r c) (λ r. placed m c a)
    asked_known {n} {a} e = record { with = go }
      where
        go : (r : ℕ) → located m r c ≡ gate (suc n) r (placed m c a)
        go zero = ninth_refused ∙ sym (gate_shut (suc n) 0 (placed m c a) (omega arith))
        go (suc r) = located_asked r ∙ (gated_through e (λ r. placed m c) (λ r. refl)).with r ∙ sym (gate_suc n r (placed m c a))

    module _ {n : ℕ} {a : Outcome (Option W)} (e : Gated n (asked m (m.key_of c)) (λ r. a)) where
      pub placed_refused : (q : ℕ) {x : Refusal} → n ≤ q → placed m c a ≡ Err x → located m (suc q) c ≡ Err x
      placed_refused q h i = gated_open (asked_known e) (suc q) (omega arith) ∙ i

      pub placed_known : {l : L} → placed m c a ≡ Ok l → Known m c l (suc n)
      placed_known i = gated_same (asked_known e) (λ r. i)

-- ## A page
module _ {K W L : Type 0} (m : Metadata K W L) (page_in : L → ℕ → Outcome (Page K W)) {p : ℕ} where
  pub page_zero : p ≡ 0 → (r : ℕ) → read_with m page_in r p ≡ Err out_of_place
  page_zero e r = rw (eq-eqb p 0 e)

  module _ (other : ¬ (p ≡ 0)) where
    page_located : (r : ℕ) → read_with m page_in r p ≡ bind (located m r (m.chunk_of p)) (λ l. page_in l p)
    page_located r = rw (ne_eqb p 0 other)

    pub page_refused : (r : ℕ) {x : Refusal} → located m r (m.chunk_of p) ≡ Err x → read_with m page_in r p ≡ Err x
    page_refused r e = page_located r ∙ rw e

    pub page_known : {l : L} {n : ℕ} → Known m (m.chunk_of p) l n → Gated n (λ r. read_with m page_in r p) (λ r. page_in l p)
    page_known e =
        let d = gated_through e (λ r o. bind o (λ l. page_in l p)) (λ r. refl) in
        record { with = λ r. page_located r ∙ d.with r }

-- ## A descent
module _ {K W L : Type 0} (m : Metadata K W L) (page_in : L → ℕ → Outcome (Page K W)) (root : ℕ) (k : K) where
  pub empty_found : root ≡ 0 → (r : ℕ) → asked_in m page_in root k r ≡ Ok None
  unfolding map_lookup
  empty_found e r = rw e

  pub root_reached : ¬ (root ≡ 0) → CameTo m page_in root k 0 16 root
  unfolding map_lookup
  root_reached other = gated_zero (go root other)
    where
      go : (p : ℕ) → ¬ (p ≡ 0) → (r : ℕ) → asked_in m page_in p k r ≡ asked_below m page_in k 16 p r
      go zero f r = absurd (f refl)
      go (suc p) f r = refl

  module _ {n : ℕ} (p : ℕ) where
    pub depth_refused : (q : ℕ) → n ≤ q → CameTo m page_in root k n 0 p → asked_in m page_in root k q ≡ Err too_deep
    unfolding lookup
    depth_refused q h e = gated_open e q h

    module _ (levels : ℕ) (e : CameTo m page_in root k n (suc levels) p) where
      pub descent_refused : (q : ℕ) {x : Refusal} → n ≤ q → read_with m page_in q p ≡ Err x → asked_in m page_in root k q ≡ Err x
      unfolding lookup
      descent_refused q h d = gated_open e q h ∙ ap (lookup_page m.compare k (λ c. asked_below m page_in k levels c q)) d

      descent_page : {j : ℕ} {o : Outcome (Page K W)} → Gated j (λ r. read_with m page_in r p) (λ r. o)
          → Gated (max n j) (asked_in m page_in root k) (λ r. lookup_page m.compare k (λ c. asked_below m page_in k levels c r) o)
      unfolding lookup
      descent_page d = gated_then e (gated_through d (λ r. lookup_page m.compare k (λ c. asked_below m page_in k levels c r)) (λ r. refl))

      module _ (other : ¬ (p ≡ 0)) {l : L} {j : ℕ} (d : Known m (m.chunk_of p) l j) where
        pub child_reached : {cs : Children K} → page_in l p ≡ Ok (inner cs)
            → CameTo m page_in root k (max n j) levels (child_for m.compare k cs)
        child_reached i = descent_page (gated_same (page_known m page_in other d) (λ r. i))

        pub leaf_found : {es : List (K × W)} → page_in l p ≡ Ok (leaf es)
            → Gated (max n j) (asked_in m page_in root k) (λ r. Ok (find_in m.compare k es))
        leaf_found i = descent_page (gated_same (page_known m page_in other d) (λ r. i))
