-- Laws of lines whose names are distinct: a name that is read has not been given, and comes no more. A line whose names are not
-- distinct says nothing.
use Rattle.std.specs.Prelude.{ℕ, ◌+◌, ◌-◌, ◌<◌, ◌≡◌, refl, Bool, not, ◌&&◌, ◌||◌, List, [], ◌∷◌, ltb, length, get_or, take, drop, None, Option, Some, option_map, is_some}
use Rattle.std.proofs.Common.{sym, ◌∙◌, true≢false, ltb-true, ltb-false}
use Rattle.std.proofs.Math.Bool.{true, false, cond}
use Rattle.text.specs.Text.{within, same, split}
use Rattle.names.specs.Names.{comma, part_from, parts_after, name_of, named_in, distinct, distinct_names}
use Rattle.names.specs.Tree.{clear, apart}
use Rattle.names.specs.PartsLaws.{parts_more}
use Rattle.names.specs.DistinctLaws.{clear_like, clear_more, apart_none, First, apart_both}
use Rattle.line.specs.declared.read.Fields.{Fields}
use Rattle.line.specs.declared.field.Field.{Field}
use Rattle.line.specs.Field.{Named, field_of}
use Rattle.line.specs.Fields.{on_some, none_twice, all_fields, fields_of, listed, read_of}
use Rattle.line.specs.Reading.{slot_of, nothing_yet, put, seen, finish}
use Rattle.line.specs.FieldLaws.{Placed, field_named}
use Rattle.line.specs.ReadingLaws.{parts_placed, finish_put}
use Rattle.line.specs.FillLaws.{Sized, taken, put_sized, put_unknown, taken_added, none_taken, start_sized}
use Rattle.line.specs.FinishLaws.{named_has, finish_all}

-- ## Fields are distinct exactly where no name occurs twice
distinct_fields : (ps : List (List ℕ)) (fs : List Named) → all_fields ps ≡ Some fs → distinct ps ≡ none_twice fs
unfolding all_fields distinct none_twice
distinct_fields [] fs e = let n : fs ≡ [] = cc in rw n
distinct_fields (p ∷ ps) fs e = go (field_of p) refl (all_fields ps) refl (distinct_fields ps) e
  where
    go : (o : Option Named) → field_of p ≡ o → (os : Option (List Named)) → all_fields ps ≡ os →
        ((gs : List Named) → all_fields ps ≡ Some gs → distinct ps ≡ none_twice gs) →
        on_some o None (λ f. on_some os None (λ gs. Some (f ∷ gs))) ≡ Some fs →
        ((within 1 16 (length (name_of p)) && not (named_in (name_of p) ps)) && distinct ps) ≡ none_twice fs
    go None q os r ih e = absurd (true≢false cc)
    go (Some f) q None r ih e = absurd (true≢false cc)
    go (Some f) q (Some gs) r ih e =
        let n : fs ≡ f ∷ gs = cc in
        let named = field_named p f q in
        rw (n, named.right, ← named.letters, named_has f.name ps gs r, ih gs r)

pub read_indistinct : (line : List ℕ) → distinct_names line ≡ false → read_of line ≡ None
unfolding distinct_names read_of fields_of
read_indistinct line e = go (all_fields (split comma line)) (distinct_fields (split comma line))
  where
    go : (o : Option (List Named)) → ((fs : List Named) → o ≡ Some fs → distinct (split comma line) ≡ none_twice fs) →
        option_map listed (on_some o None (λ fs. cond (none_twice fs) (Some fs) None)) ≡ None
    go None f = refl
    go (Some fs) f = let twice : none_twice fs ≡ false = sym (f fs refl) ∙ e in rw twice

-- ## The loop of `read_each`, with the names known to be distinct or not
pub record ReadUpTo (line : List ℕ) (known-apart : Bool) (acc : Fields) (i : ℕ) : Type 0 where
  pub sized : Sized acc
  pub once : known-apart ≡ true → apart (taken acc) (split comma (drop i line)) ≡ true
  pub rest : finish acc (split comma (drop i line)) ≡ read_of line

pub read_start : (line : List ℕ) {known-apart : Bool} → (known-apart ≡ true → distinct_names line ≡ true) →
    ReadUpTo line known-apart nothing_yet 0
unfolding distinct_names
read_start line d =
    record {
      sized = start_sized;
      once = λ t. apart_none (taken nothing_yet) none_taken (split comma line) ∙ d t;
      rest = finish_all line;
    }

module _ (acc : Fields) (q : List ℕ) (ps : List (List ℕ)) (new : taken acc q ≡ false) (once : named_in q ps ≡ false) where
  unseen : seen acc (slot_of q) q ps ≡ false
  unfolding seen
  unseen = go (ltb (slot_of q) 11)
    where
      go : (t : Bool) → cond t (is_some (get_or acc.values (slot_of q) None)) (named_in q ps) ≡ false
      go true = new
      go false = once

  clear_put : (v : ℕ) → Sized acc → clear (taken acc) ps ≡ true → clear (taken (put acc (slot_of q) v)) ps ≡ true
  clear_put v z c = go (ltb (slot_of q) 11) refl
    where
      go : (t : Bool) → ltb (slot_of q) 11 ≡ t → clear (taken (put acc (slot_of q) v)) ps ≡ true
      go true k =
          clear_like (taken (put acc (slot_of q) v)) (λ n. same q n || taken acc n) (taken_added acc q v z (ltb-true (slot_of q) 11 k)) ps ∙
          clear_more (taken acc) q ps ∙ rw (once, c)
      go false k = rw (put_unknown acc (slot_of q) v (ltb-false (slot_of q) 11 k)) c

module _ {line : List ℕ} {known-apart : Bool} {acc : Fields} {i : ℕ} (r : ReadUpTo line known-apart acc i)
    {f : Field} (p : Placed line i f) where
  abbrev name : List ℕ
  name = take (f.colon - i) (drop i line)

  first : known-apart ≡ true → First (taken acc) (part_from line i) (parts_after line f.end)
  first t = apart_both (taken acc) (part_from line i) (parts_after line f.end) (rw (parts_placed p) at (r.once t))

  part_name : name_of (part_from line i) ≡ name
  part_name = sym (field_named (part_from line i) _ p.field).letters

  pub read_unseen : known-apart ≡ true → seen acc (slot_of name) name (parts_after line f.end) ≡ false
  read_unseen t =
      let new = first t in
      unseen acc name (parts_after line f.end) (rw part_name at new.none) (rw part_name at new.once)

  pub read_on : {b : Bool} → b ≡ seen acc (slot_of name) name (parts_after line f.end) → b ≡ false → f.end < length line →
      {acc' : Fields} → acc' ≡ put acc (slot_of name) f.value → {next : ℕ} → next ≡ f.end + 1 → ReadUpTo line known-apart acc' next
  unfolding apart
  read_on s t h a n =
      rw (a, n)
      (record {
        sized = put_sized acc (slot_of name) f.value r.sized;
        once = λ t.
            let new = first t in
            let clears = clear_put acc name (parts_after line f.end) (rw part_name at new.none) (rw part_name at new.once) f.value r.sized new.clears in
            rw (← parts_more line f.end h, clears) new.rest;
        rest = rw (← parts_more line f.end h) (sym (finish_put acc line i p s t) ∙ r.rest);
      })
