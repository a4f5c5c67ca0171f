-- Laws of the loops of `fill`, `none_in` and `judge`.
use Rattle.std.specs.Prelude.{ℕ, ◌+◌, ◌-◌, ◌*◌, ◌≤◌, ◌<◌, ◌≡◌, Bool, List, length, get_or, take, drop, set}
use Rattle.std.proofs.Math.Path.{refl}
use Rattle.std.proofs.Common.{sym, ◌∙◌, ap, length-set, get_or-set_same, length-take-le}
use Rattle.std.proofs.Math.Bool.{true, false, cond, and-false}
use native.Mathlib.Omega.{arith}
use borrow.Author.Tests.{le-leb}
use Rattle.std.proofs.Math.Dec.{leb}
use Rattle.text.specs.Text.{span, within, is_not, is_letter}
use Rattle.text.specs.Laws.{span_le}
use Rattle.names.specs.declared.tree.Search.{Search}
use Rattle.names.specs.declared.tree.Search.TheVariants.{Met, Free, Deep}
use Rattle.names.specs.Names.{comma, parts_after, distinct, distinct_names}
use Rattle.names.specs.Tree.{name_at, name_end, sought_in, is_in, parts_from, clear, apart, stopped_by, Room, FullAt, Filling}
use Rattle.names.specs.PartsLaws.{parts_more, part_inside}
use Rattle.names.specs.NameAtLaws.{name_found}
use Rattle.names.specs.DistinctLaws.{apart_none, apart_clear, apart_hit, apart_end, clear_end, apart_met_at, apart_unnamed_at, clear_met_at, clear_on_at, apart_on_at}
use Rattle.names.specs.TreeLaws.{slot_empty, sought_root, is_in_grown, is_in_met, is_in_free}

-- ## The place after a name
pub record NamedAt (line : List ℕ) (i to : ℕ) : Type 0 where
  pub letters : to ≡ i + span is_letter (drop i line)
  pub after : i < to
  pub right : within 1 16 (length (take (to - i) (drop i line))) ≡ true

module _ (line : List ℕ) (i : ℕ) where
  abbrev n : ℕ
  n = span is_letter (drop i line)

  letters_length : length (take (i + n - i) (drop i line)) ≡ n
  letters_length =
      let k : i + n - i ≡ n = omega arith in
      rw k (length-take-le n (drop i line) (span_le is_letter (drop i line)))

  pub named_end : {to : ℕ} → to ≡ name_end line i → (to ≡ i → ⊥) → NamedAt line i to
  unfolding name_end
  named_end {to} e f = go (leb n 16) refl e
    where
      go : (t : Bool) → leb n 16 ≡ t → to ≡ cond t (i + n) i → NamedAt line i to
      go true q e =
          record {
            letters = e;
            after = omega (arith, f);
            right = rw (e, letters_length, le-leb 1 n (omega (arith, f)), q);
          }
      go false q e = absurd (f e)

  -- no letters, or too many
  pub unnamed_end : (K : List ℕ → Bool) {to : ℕ} → to ≡ name_end line i → to ≡ i → apart K (parts_from line i) ≡ false
  unfolding name_end
  unnamed_end K {to} e f = apart_unnamed_at K line i refl (rw letters_length (go (leb n 16) refl (sym e ∙ f)))
    where
      go : (t : Bool) → leb n 16 ≡ t → cond t (i + n) i ≡ i → within 1 16 n ≡ false
      go true q e = let none : n ≡ 0 = omega arith in rw none
      go false q e = rw q (and-false (leb 1 n))

-- ## The loop of `fill`
pub record Judging (line : List ℕ) (from : ℕ) (places kids : List ℕ) (used i : ℕ) : Type 0 where
  pub room : Room places kids
  pub few : used ≤ 2047
  pub inside : i ≤ length line
  pub on : from + used ≤ i
  pub root : used ≡ 0 → get_or kids 0 0 ≡ 0
  pub rest : apart (is_in line from places kids used) (parts_from line i) ≡ distinct (parts_from line from)

pub judging_start : {line places kids : List ℕ} {from : ℕ} → from ≤ length line → Room places kids → Judging line from places (set kids 0 0) 0 from
judging_start {line} {places} {kids} {from} h r =
    let root = get_or-set_same kids 0 0 0 (omega (arith, r.slots)) in
    record {
      room = record { nodes = r.nodes; slots = simp length-set r.slots };
      few = omega arith;
      inside = h;
      on = omega arith;
      root = λ z. root;
      rest =
          apart_none (is_in line from places (set kids 0 0) 0)
          (λ n. is_in_free line from places (set kids 0 0) 0 n 0 (sought_root line from places (set kids 0 0) 0 n root)) (parts_from line from);
    }

module _ {line places kids : List ℕ} {from used i : ℕ} (j : Judging line from places kids used i) where
  pub judging_full : from < i → FullAt line from places kids i used
  judging_full h = record { after = h; inside = j.inside; few = j.few; rest = j.rest }

  pub judging_unnamed : {to : ℕ} → to ≡ name_end line i → to ≡ i → false ≡ distinct (parts_from line from)
  judging_unnamed e f = sym (unnamed_end line i (is_in line from places kids used) e f) ∙ j.rest

  module _ {to : ℕ} (p : NamedAt line i to) {o : Search}
      (s : o ≡ sought_in line from places kids used (take (to - i) (drop i line))) where
    abbrev found : List ℕ
    found = take (to - i) (drop i line)

    -- a way that does not end at a free slot; that of the first name does
    pub judging_stopped : ((slot : ℕ) → o ≡ Free slot → ⊥) → Filling line from places kids used (stopped_by o i)
    judging_stopped taken = go o s taken
      where
        go : (x : Search) → x ≡ sought_in line from places kids used found → ((slot : ℕ) → x ≡ Free slot → ⊥) →
            Filling line from places kids used (stopped_by x i)
        go Met s taken =
            sym (apart_met_at (is_in line from places kids used) line i p.letters (is_in_met line from places kids used found (sym s))) ∙
            j.rest
        go (Free slot) s taken = absurd (taken slot refl)
        go Deep s taken =
            let some_used : used ≡ 0 → ⊥ = λ z. taken 0 (s ∙ sought_root line from places kids used found (j.root z)) in
            judging_full (omega (arith, j.on, some_used))

    module _ {slot : ℕ} (free : o ≡ Free slot) where
      pub judging_slot : slot < 2 * (used + 1)
      judging_slot = (slot_empty line from places kids used slot (i - from) found (sym s ∙ free)).below

      module _ {places' kids' : List ℕ} (more_room : used ≡ 2047 → ⊥) (ps : places' ≡ set places (used + 1) (i - from))
          (ks : kids' ≡ set (set (set kids (2 * (used + 1)) 0) (2 * (used + 1) + 1) 0) slot (used + 1)) where
        pub judging_room : Room places' kids'
        judging_room =
            record { nodes = ap length ps ∙ simp length-set j.room.nodes; slots = ap length ks ∙ simp length-set j.room.slots }

        module _ {end : ℕ} (f : end ≡ to + span (is_not comma) (drop to line)) where
          judging_next : apart (is_in line from places' kids' (used + 1)) (parts_after line end) ≡ distinct (parts_from line from)
          judging_next =
              let few : used < 2047 = omega (arith, j.few, more_room) in
              let place : from + (i - from) ≡ i = omega (arith, j.on) in
              let here : name_at line (from + (i - from)) ≡ found = rw place (name_found line i to p.letters) in
              let more =
              is_in_grown line from places kids used slot (i - from) found (sym s ∙ free) few j.room.nodes j.room.slots here in
              let none = is_in_free line from places kids used found slot (sym s ∙ free) in
              rw (ps, ks)
              (sym (apart_on_at (is_in line from places kids used) line i p.letters f none p.right
              (is_in line from (set places (used + 1) (i - from))
              (set (set (set kids (2 * (used + 1)) 0) (2 * (used + 1) + 1) 0) slot (used + 1))
              (used + 1))
              more) ∙
              j.rest)

          pub judging_right : end ≡ length line → true ≡ distinct (parts_from line from)
          judging_right e = sym (apart_end (is_in line from places' kids' (used + 1)) line end (omega arith)) ∙ judging_next

          pub judging_on : (end ≡ length line → ⊥) → Judging line from places' kids' (used + 1) (end + 1)
          judging_on e =
              let inside : end < length line = omega (arith, part_inside line i to p.letters f j.inside, e) in
              record {
                room = judging_room;
                few = omega (arith, j.few, more_room);
                inside = omega arith;
                on = omega (arith, j.on, p.after, f);
                root = λ z. absurd (omega arith);
                rest = rw (parts_more line end inside) at judging_next;
              }

-- ## The loop of `none_in`
pub record Looking (line : List ℕ) (K : List ℕ → Bool) (next i : ℕ) : Type 0 where
  pub inside : i ≤ length line
  pub on : next ≤ i
  pub rest : clear K (parts_from line i) ≡ clear K (parts_from line next)

module _ {line : List ℕ} {K : List ℕ → Bool} {next i : ℕ} (l : Looking line K next i) {to : ℕ}
    (e : to ≡ i + span is_letter (drop i line)) where
  pub looking_met : K (take (to - i) (drop i line)) ≡ true → false ≡ clear K (parts_from line next)
  looking_met q = sym (clear_met_at K line i e q) ∙ l.rest

  module _ {end : ℕ} (f : end ≡ to + span (is_not comma) (drop to line)) (q : K (take (to - i) (drop i line)) ≡ false) where
    looking_next : clear K (parts_after line end) ≡ clear K (parts_from line next)
    looking_next = sym (clear_on_at K line i e f q) ∙ l.rest

    pub looking_right : end ≡ length line → true ≡ clear K (parts_from line next)
    looking_right h = sym (clear_end K line end (omega arith)) ∙ looking_next

    pub looking_on : (end ≡ length line → ⊥) → Looking line K next (end + 1)
    looking_on h =
        let inside : end < length line = omega (arith, part_inside line i to e f l.inside, h) in
        record { inside = omega arith; on = omega (arith, l.on); rest = rw (parts_more line end inside) at looking_next }

-- ## The loop of `judge`
pub record Turning (line places kids : List ℕ) (i : ℕ) : Type 0 where
  pub inside : i ≤ length line
  pub room : Room places kids
  pub rest : distinct (parts_from line i) ≡ distinct_names line

pub turning_start : (line : List ℕ) {places kids : List ℕ} → Room places kids → Turning line places kids 0
unfolding distinct_names
turning_start line r = record { inside = omega arith; room = r; rest = refl }

module _ {line places kids places' kids' : List ℕ} {i next used : ℕ} (t : Turning line places kids i) (f : FullAt line i places' kids' next used)
    {r : Bool} (h : r ≡ clear (is_in line i places' kids' used) (parts_from line next)) where
  pub turning_stopped : r ≡ false → false ≡ distinct_names line
  turning_stopped e =
      sym (apart_hit (is_in line i places' kids' used) (parts_from line next) (sym h ∙ e)) ∙ f.rest ∙ t.rest

  pub turning_on : r ≡ true → Room places' kids' → Turning line places' kids' next
  turning_on e room =
      record {
        inside = f.inside;
        room = room;
        rest = sym (apart_clear (is_in line i places' kids' used) (parts_from line next) (sym h ∙ e)) ∙ f.rest ∙ t.rest;
      }
