-- Laws of the two starts, one for each way that the code takes.
use Rattle.std.specs.Prelude.{ℕ, ◌+◌, ◌<◌, ◌≤◌, ◌≡◌, Bool, List, Some, None}
use Rattle.std.proofs.Math.Path.{refl}
use Rattle.std.proofs.Math.Bool.{true, false, cond}
use Rattle.std.proofs.Common.{arith}
use borrow.Author.Tests.{eq-eqb, ne_eqb, lt-ltb, le-ltb}
use Rattle.fletcher.specs.declared.Edition.{Edition}
use Rattle.chunk.specs.declared.Chunk.{Chunk}
use Rattle.chunk.specs.Image.{footer_line}
use Rattle.chunk.specs.Chunk.{footer_of, footed, kept}
use Rattle.opening.specs.Opening.{ends_at, higher}

-- ## The higher start
module _ (a b : Chunk) where
  pub higher_newer : a.version < b.version → higher (Some a) (Some b) ≡ Some b
  unfolding higher
  higher_newer h = rw (lt-ltb a.version b.version h)

  pub higher_older : b.version < a.version → higher (Some a) (Some b) ≡ Some a
  unfolding higher
  higher_older h = rw (le-ltb a.version b.version (omega arith), ne_eqb a.version b.version (omega arith))

  module _ (p : a.version ≤ b.version) (q : b.version ≤ a.version) where
    pub higher_tie_second : b.block < a.block → higher (Some a) (Some b) ≡ Some b
    unfolding higher
    higher_tie_second h =
        rw (le-ltb a.version b.version q, eq-eqb a.version b.version (omega arith), lt-ltb b.block a.block h)

    pub higher_tie_first : a.block ≤ b.block → higher (Some a) (Some b) ≡ Some a
    unfolding higher
    higher_tie_first h =
        rw (le-ltb a.version b.version q, eq-eqb a.version b.version (omega arith), le-ltb b.block a.block h)

-- ## The image's last footer is the footer of a chunk that ends where the image ends
module _ (image : List ℕ) (edition : Edition) (c : Chunk) (e : ℕ) where
  pub footed_elsewhere : (c.block + c.len ≡ e → ⊥) → kept (ends_at e) (footed image edition c) ≡ None
  unfolding footed
  footed_elsewhere h = go (footer_of c (footer_line image edition (c.block + c.len)))
    where
      go : (t : Bool) → kept (ends_at e) (cond t (Some c) None) ≡ None
      go true = rw (ne_eqb (c.block + c.len) e h)
      go false = refl

  pub footed_ending : c.block + c.len ≡ e → kept (ends_at e) (footed image edition c) ≡ cond (footer_of c (footer_line image edition e)) (Some c) None
  unfolding footed
  footed_ending h = rw h (go (footer_of c (footer_line image edition e)))
    where
      go : (t : Bool) → kept (ends_at e) (cond t (Some c) None) ≡ cond t (Some c) None
      go true = rw (eq-eqb (c.block + c.len) e h)
      go false = refl
