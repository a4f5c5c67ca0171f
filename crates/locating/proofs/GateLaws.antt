-- Answers that take a number of questions: `gate n r o` is refusal 6 where r is below n, and o elsewhere.
--
--   gate-X, gated-X  one number of questions; every number of questions
use Rattle.std.specs.Prelude.{ℕ, suc, ◌<◌, ◌≤◌, max, ◌≡◌, refl, Bool, true, false, ltb, Err}
use Rattle.std.proofs.Common.{sym, ◌∙◌, ap, arith, ltb-true, ltb-false, lt-ltb, le-ltb}
use Rattle.std.proofs.Math.Dec.{leb-suc-suc}
use Rattle.refusal.specs.Refusal.{Outcome, ninth_question}
use Rattle.tree.specs.Page.{branch}
use Rattle.locating.specs.Locating.{gate}
use Rattle.locating.specs.Known.{Gated}

module _ {A : Type 0} (n r : ℕ) (o : Outcome A) where
  gate_open : n ≤ r → gate n r o ≡ o
  unfolding gate
  gate_open h = rw (le-ltb r n h)

  pub gate_shut : r < n → gate n r o ≡ Err ninth_question
  unfolding gate
  gate_shut h = rw (lt-ltb r n h)

  pub gate_suc : gate (suc n) (suc r) o ≡ gate n r o
  unfolding gate
  gate_suc = rw (leb-suc-suc (suc r) n)

gate_zero : {A : Type 0} (r : ℕ) (o : Outcome A) → gate 0 r o ≡ o
gate_zero r o = gate_open 0 r o (omega arith)

gate_max : {A : Type 0} (n k r : ℕ) (o : Outcome A) → gate n r (gate k r o) ≡ gate (max n k) r o
gate_max n k r o = go (ltb r n) refl (ltb r k) refl
  where
    go : (s : Bool) → ltb r n ≡ s → (t : Bool) → ltb r k ≡ t → gate n r (gate k r o) ≡ gate (max n k) r o
    go true e t f = gate_shut n r (gate k r o) (ltb-true r n e) ∙ sym (gate_shut (max n k) r o (omega (arith, ltb-true r n e)))
    go false e t f = gate_open n r (gate k r o) (ltb-false r n e) ∙ rest t f
      where
        rest : (t : Bool) → ltb r k ≡ t → gate k r o ≡ gate (max n k) r o
        rest true f = gate_shut k r o (ltb-true r k f) ∙ sym (gate_shut (max n k) r o (omega (arith, ltb-true r k f)))
        rest false f =
            let h : max n k ≤ r = omega (arith, ltb-false r n e, ltb-false r k f) in
            gate_open k r o (ltb-false r k f) ∙ sym (gate_open (max n k) r o h)

-- what hands refusal 6 up unchanged goes through
gate_through : {A B : Type 0} (f : Outcome A → Outcome B) → f (Err ninth_question) ≡ Err ninth_question
    → (n r : ℕ) (o : Outcome A) → f (gate n r o) ≡ gate n r (f o)
unfolding gate
gate_through f h n r o = go (ltb r n)
  where
    go : (t : Bool) → f (branch t (Err ninth_question) o) ≡ branch t (Err ninth_question) (f o)
    go true = h
    go false = refl

module _ {A : Type 0} {n : ℕ} {f g : ℕ → Outcome A} (e : Gated n f g) where
  pub gated_open : (q : ℕ) → n ≤ q → f q ≡ g q
  gated_open q h = e.with q ∙ gate_open n q (g q) h

  pub gated_shut : (q : ℕ) → q < n → f q ≡ Err ninth_question
  gated_shut q h = e.with q ∙ gate_shut n q (g q) h

  pub gated_then : {k : ℕ} {h : ℕ → Outcome A} → Gated k g h → Gated (max n k) f h
  gated_then {k} {h} d = record { with = λ r. e.with r ∙ ap (gate n r) (d.with r) ∙ gate_max n k r (h r) }

  pub gated_same : {h : ℕ → Outcome A} → ((r : ℕ) → g r ≡ h r) → Gated n f h
  gated_same d = record { with = λ r. e.with r ∙ ap (gate n r) (d r) }

  pub gated_through : {B : Type 0} (t : ℕ → Outcome A → Outcome B) → ((r : ℕ) → t r (Err ninth_question) ≡ Err ninth_question)
      → Gated n (λ r. t r (f r)) (λ r. t r (g r))
  gated_through t h = record { with = λ r. ap (t r) (e.with r) ∙ gate_through (t r) (h r) n r (g r) }

pub gated_zero : {A : Type 0} {f g : ℕ → Outcome A} → ((r : ℕ) → f r ≡ g r) → Gated 0 f g
gated_zero {g = g} e = record { with = λ r. e r ∙ sym (gate_zero r (g r)) }
