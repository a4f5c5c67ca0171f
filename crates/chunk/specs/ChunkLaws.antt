-- Laws of standing chunks.
use Rattle.std.specs.Prelude.{ℕ, ◌+◌, ◌-◌, ◌^◌, ◌<◌, ◌≤◌, ◌≡◌, Bool, cond, List, eqb, ltb, Option, Some, None}
use Rattle.std.proofs.Math.Path.{refl}
use Rattle.std.proofs.Common.{sym, ◌∙◌, ap, subst, true≢false, arith, ltb-true, leb-true, leb-false, eqb-true, le-leb}
use Rattle.std.proofs.Math.Bool.{true, false, and-eq-true_iff}
use Rattle.std.proofs.lemmas.Bool.{lt-leb}
use Rattle.std.proofs.Math.Dec.{leb}
use Rattle.fletcher.specs.declared.Edition.{Edition}
use Rattle.line.specs.Fields.{name_block, name_chunk, name_len}
use Rattle.chunk.specs.declared.image.Reading.{Reading}
use Rattle.chunk.specs.declared.Chunk.{Chunk}
use Rattle.chunk.specs.Image.{blocks_in, chunk_line, footer_line, value}
use Rattle.chunk.specs.Chunk.{needed, fitting, chunk_by, footer_of, footed, said_at, with_footer, stands_at, kept}
use Rattle.chunk.specs.ImageLaws.{blocks_most, newline_small}

-- ## A header that fits its block
pub record Fits (blocks b : ℕ) (r : Option Reading) : Type 0 where
  pub id_small : value r name_chunk < 2 ^ 26
  pub block_right : value r name_block ≡ b
  pub len_some : 1 ≤ value r name_len
  pub inside : b + value r name_len ≤ blocks

pub fitting_fits : (blocks b : ℕ) (r : Option Reading) → fitting blocks b r ≡ true → Fits blocks b r
unfolding fitting
fitting_fits blocks b r e =
    let one = (and-eq-true_iff (ltb (value r name_chunk) (2 ^ 26)) _).0 e in
    let two = (and-eq-true_iff (eqb (value r name_block) b) _).0 one.1 in
    let three = (and-eq-true_iff (leb 1 (value r name_len)) (leb (b + value r name_len) blocks)).0 two.1 in
    record {
      id_small = ltb-true (value r name_chunk) (2 ^ 26) one.0;
      block_right = eqb-true (value r name_block) b two.0;
      len_some = leb-true 1 (value r name_len) three.0;
      inside = leb-true (b + value r name_len) blocks three.1;
    }

-- the test as the code makes it, which has no sum
pub room_test : (n b blocks : ℕ) → b ≤ blocks → leb n (blocks - b) ≡ leb (b + n) blocks
room_test n b blocks h = go (leb n (blocks - b)) refl
  where
    go : (t : Bool) → leb n (blocks - b) ≡ t → leb n (blocks - b) ≡ leb (b + n) blocks
    go true e = e ∙ sym (le-leb (b + n) blocks (omega (arith, leb-true n (blocks - b) e)))
    go false e = e ∙ sym (lt-leb (b + n) blocks (omega (arith, leb-false n (blocks - b) e)))

-- ## What a header says, a law for each way that the code takes
module _ (image : List ℕ) (b : ℕ) where
  pub said_header : b < 2 → said_at image b ≡ None
  unfolding said_at
  said_header h = rw (lt-leb 2 b h)

  pub said_unneeded : needed (chunk_line image b) ≡ false → said_at image b ≡ None
  unfolding said_at
  said_unneeded e = go (leb 2 b) refl
    where
      go : (t : Bool) → leb 2 b ≡ t → said_at image b ≡ None
      go true q = rw (q, e)
      go false q = rw q

  pub said_unread : chunk_line image b ≡ None → said_at image b ≡ None
  unfolding needed
  said_unread e = said_unneeded (rw e)

  pub said_unfit : fitting (blocks_in image) b (chunk_line image b) ≡ false → said_at image b ≡ None
  unfolding said_at
  said_unfit e = go (leb 2 b) refl (needed (chunk_line image b)) refl
    where
      go : (t : Bool) → leb 2 b ≡ t → (u : Bool) → needed (chunk_line image b) ≡ u → said_at image b ≡ None
      go true q true n = rw (q, n, e)
      go true q false n = rw (q, n)
      go false q u n = rw q

  pub said_fit : 2 ≤ b → needed (chunk_line image b) ≡ true → fitting (blocks_in image) b (chunk_line image b) ≡ true →
      said_at image b ≡ Some (chunk_by b (chunk_line image b))
  unfolding said_at
  said_fit h n e = rw (le-leb 2 b h, n, e)

  -- nothing is said past the last block
  pub said_past : blocks_in image ≤ b → said_at image b ≡ None
  said_past h = go (fitting (blocks_in image) b (chunk_line image b)) refl
    where
      go : (t : Bool) → fitting (blocks_in image) b (chunk_line image b) ≡ t → said_at image b ≡ None
      go true e = let f = fitting_fits (blocks_in image) b (chunk_line image b) e in absurd (omega (arith, f.len_some, f.inside))
      go false e = said_unfit e

module _ (image : List ℕ) (b : ℕ) {c : Chunk} (s : said_at image b ≡ Some c) where
  said_told : (2 ≤ b) × (needed (chunk_line image b) ≡ true) × (fitting (blocks_in image) b (chunk_line image b) ≡ true)
  said_told = go (leb 2 b) refl (needed (chunk_line image b)) refl (fitting (blocks_in image) b (chunk_line image b)) refl
    where
      never : said_at image b ≡ None → ⊥
      never e = true≢false cc

      go : (t : Bool) → leb 2 b ≡ t → (u : Bool) → needed (chunk_line image b) ≡ u → (v : Bool) →
          fitting (blocks_in image) b (chunk_line image b) ≡ v →
          (2 ≤ b) × (needed (chunk_line image b) ≡ true) × (fitting (blocks_in image) b (chunk_line image b) ≡ true)
      go true q true n true f = (leb-true 2 b q, n, f)
      go true q true n false f = absurd (never (said_unfit image b f))
      go true q false n v f = absurd (never (said_unneeded image b n))
      go false q u n v f = absurd (never (said_header image b (leb-false 2 b q)))

  said_chunk : chunk_by b (chunk_line image b) ≡ c
  said_chunk = let t = said_told in let e = sym (said_fit image b t.0 t.1 t.2) ∙ s in cc

  pub said_inside : c.block + c.len ≤ blocks_in image
  said_inside = rw (← said_chunk) (fitting_fits (blocks_in image) b (chunk_line image b) said_told.2).inside

  pub stands_footed : (edition : Edition) → stands_at image edition b ≡ footed image edition c
  unfolding stands_at
  stands_footed edition = rw s

pub stands_unsaid : (image : List ℕ) (edition : Edition) (b : ℕ) → said_at image b ≡ None → stands_at image edition b ≡ None
unfolding stands_at
stands_unsaid image edition b s = rw s

-- ## What holds of a chunk that stands
footed_same : (image : List ℕ) (edition : Edition) (c : Chunk) {d : Chunk} → footed image edition c ≡ Some d → Some c ≡ Some d
unfolding footed
footed_same image edition c {d} e = go (footer_of c (footer_line image edition (c.block + c.len))) e
  where
    go : (t : Bool) → cond t (Some c) None ≡ Some d → Some c ≡ Some d
    go true e = e
    go false e = cc

-- it is what the header in its block says
stands_said : (image : List ℕ) (edition : Edition) (b : ℕ) {c : Chunk} → stands_at image edition b ≡ Some c → said_at image b ≡ Some c
unfolding stands_at
stands_said image edition b {c} e = go (said_at image b) e
  where
    go : (s : Option Chunk) → with_footer image edition s ≡ Some c → s ≡ Some c
    go None e = e
    go (Some d) e = footed_same image edition d e

pub record Stood (image : List ℕ) (c : Chunk) : Type 0 where
  pub len_some : 1 ≤ c.len
  pub inside : c.block + c.len ≤ blocks_in image
  pub first_small : c.first ≤ 1024

module _ (image : List ℕ) (edition : Edition) (b : ℕ) {c : Chunk} (s : stands_at image edition b ≡ Some c) where
  stands_chunk : chunk_by b (chunk_line image b) ≡ c
  stands_chunk = said_chunk image b (stands_said image edition b s)

  pub stands_block : c.block ≡ b
  stands_block = ap (λ (k : Chunk). k.block) (sym stands_chunk)

  pub stands_stood : Stood image c
  stands_stood =
      let f = fitting_fits (blocks_in image) b (chunk_line image b) (said_told image b (stands_said image edition b s)).2 in
      subst (λ (k : Chunk). Stood image k) stands_chunk
      (record { len_some = f.len_some; inside = f.inside; first_small = omega (arith, newline_small image b) })

-- no chunk ends past the largest image
pub stood_most : (image : List ℕ) {c : Chunk} → Stood image c → c.block + c.len ≤ 2 ^ 28
stood_most image s = omega (arith, s.inside, blocks_most image)

-- ## A chunk that is kept
pub kept_told : (P : Chunk → Bool) (s : Option Chunk) {d : Chunk} → kept P s ≡ Some d → (s ≡ Some d) × (P d ≡ true)
kept_told P None e = (e, cc)
kept_told P (Some c) {d} e = go (P c) refl e
  where
    go : (t : Bool) → P c ≡ t → cond t (Some c) None ≡ Some d → (Some c ≡ Some d) × (P d ≡ true)
    go true q e = let s : c ≡ d = cc in (e, rw s at q)
    go false q e = (cc, cc)
