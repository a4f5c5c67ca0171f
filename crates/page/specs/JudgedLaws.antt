-- What the tests of a page's place tell, and what its head tells of the page.
--
--   Within m h  of a head that is not refused: its numbers, in an image of length m
--   head_body   a page's items begin inside the page, the page ends inside the image, and its keys are fewer than 2^31
use Rattle.std.specs.Prelude.{ℕ, ◌+◌, ◌-◌, ◌^◌, ◌<◌, ◌≤◌, ◌≡◌, refl, List, Bool, true, false, cond, eqb, ltb, leb, get_or, take, Option, Some, None, Ok, Err}
use Rattle.std.proofs.Math.Bool.{and-false, and-eq-true_iff}
use Rattle.std.proofs.Common.{arith}
use borrow.Author.Tests.{leb-true, lt-leb, ltb-true}
use Rattle.std.proofs.Math.ListN.{length, length-take}
use Rattle.refusal.specs.declared.Refusal.{Refusal}
use Rattle.refusal.specs.Refusal.{Outcome}
use Rattle.numeral.specs.BigEndian.{big_endian_at}
use Rattle.numeral.specs.Var.{var_at}
use Rattle.numeral.specs.VarLaws.{var_at_read}
use Rattle.position.specs.Position.{chunk_of, offset_of, code_of, type_of, check_of}
use Rattle.page.specs.declared.Place.{Place}
use Rattle.page.specs.declared.Head.{Head}
use Rattle.page.specs.Judged.{readable, start_of, footer_at, begins, length_fits, fields_at, head_at}

-- "nor less than 9 bytes before the footer"
pub begins_room : (c : Place) (offset : ℕ) → begins c offset ≡ true → start_of c + offset + 9 ≤ footer_at c
unfolding begins
begins_room c offset e = leb-true (start_of c + offset + 9) (footer_at c) ((and-eq-true_iff (leb c.first offset) _).0 e).1

pub begins_no_room : (c : Place) (offset : ℕ) → footer_at c < start_of c + offset + 9 → begins c offset ≡ false
unfolding begins
begins_no_room c offset h = rw (lt-leb (start_of c + offset + 9) (footer_at c) h) (and-false (leb c.first offset))

-- ## What is known of a head that is not refused
abbrev Within : ℕ → Outcome Head → Type 0
Within m (Err r) = Unit {0}
Within m (Ok h) = (h.n < 2 ^ 31) × (h.at ≤ h.end) × (h.end ≤ m)

module _ (m : ℕ) where
  cond_within : (t : Bool) (h : Outcome Head) (r : Refusal) → (t ≡ true → Within m h) → Within m (cond t h (Err r))
  cond_within true h r w = w refl
  cond_within false h r w = tt

  readable_within : {A : Type 0} (x : Option A) (go : A → Outcome Head) → ((a : A) → x ≡ Some a → Within m (go a)) → Within m (readable x go)
  readable_within (Some a) go w = w a refl
  readable_within None go w = tt

  fields_within : (s : List ℕ) → length s ≤ m → (i type map : ℕ) → Within m (fields_at s i type map)
  unfolding fields_at
  fields_within s l i type map =
      readable_within (var_at (2 ^ 31) s i) _ (λ id a.
      cond_within (eqb id.value map) _ _ (λ t.
      readable_within (var_at (2 ^ 31) s id.next) _ (λ n b.
      cond_within (ltb n.next (length s)) _ _ (λ u.
      cond_within (eqb (get_or s n.next 0) type) _ _ (λ v.
      ((var_at_read (2 ^ 31) s id.next b).below, omega (arith, ltb-true n.next (length s) u), l))))))

module _ (image : List ℕ) (c : Place) (p map : ℕ) where
  head_within : Within (length image) (head_at image c p map)
  unfolding head_at
  head_within =
      let m = length image in
      let at = start_of c + offset_of p in
      let n = big_endian_at 4 image at in
      cond_within m (begins c (offset_of p)) _ _ (λ t.
      cond_within m (length_fits (code_of p) n (footer_at c - at)) _ _ (λ u.
      cond_within m (eqb (big_endian_at 2 image (at + 4)) (check_of (chunk_of p) (offset_of p) n)) _ _ (λ v.
      fields_within m (take (at + n) image) (simp length-take (omega arith)) (at + 6) (type_of p) map)))

  pub head_body : {h : Head} → head_at image c p map ≡ Ok h → (h.n < 2 ^ 31) × (h.at ≤ h.end) × (h.end ≤ length image)
  head_body e = rw e at head_within
