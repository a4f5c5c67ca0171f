-- What the exports hand to C, case by case, after document 01, "Numbers given back": "A refusal returns its number, all else 0".
use Rattle.std.specs.Prelude.{ℕ, pos, Err, Ok, Option, Some, None}
use Rattle.refusal.specs.Refusal.{Outcome, number_of}
use Rattle.opening.specs.declared.Store.{Store}
use Rattle.text.specs.declared.spot.Spot.{Spot}
use Rattle.tree.specs.declared.Report.{Report as Figures}
use Rattle.cursor.specs.declared.Walk.{Walk}
use Rattle.walk.specs.declared.Step.{Step as Stepped}
use Rattle.map.specs.declared.entry.Item.{Item}
use Rattle.map.specs.declared.entry.Key.{Key}
use Rattle.map.specs.declared.entry.Key.TheVariants as given
use Rattle.mvstore.specs.declared.answer.Newest.{Newest}
use Rattle.mvstore.specs.declared.answer.Value.{Value}
use Rattle.mvstore.specs.declared.answer.Entry.{Entry}
use Rattle.mvstore.specs.declared.answer.Count.{Count}
use Rattle.mvstore.specs.declared.answer.Id.{Id}
use Rattle.mvstore.specs.declared.answer.Step.{Step}
use Rattle.mvstore.specs.declared.answer.Report.{Report}

-- opening
unfoldable pub newest_out : Outcome Store → Newest
newest_out (Ok s) =
    let c = s.newest in
    record { refusal = 0; chunk = c.id; block = c.block; blocks = c.len; version = c.version }
newest_out (Err r) = record { refusal = number_of r; chunk = 0; block = 0; blocks = 0; version = 0 }

-- lookup and copy: Absent is neither a refusal nor a value of length 0
unfoldable pub value_out : Outcome (Option Spot) → Value
value_out (Ok (Some s)) = record { refusal = 0; found = 1; at = s.at; len = s.len }
value_out (Ok None) = record { refusal = 0; found = 0; at = 0; len = 0 }
value_out (Err r) = record { refusal = number_of r; found = 0; at = 0; len = 0 }

-- index
abbrev pub keyed_out : Key → Spot → Entry
keyed_out (given.Number z) v = record { refusal = 0; number = z; key_at = 0; key_len = 0; at = v.at; len = v.len }
keyed_out (given.Text k) v = record { refusal = 0; number = pos 0; key_at = k.at; key_len = k.len; at = v.at; len = v.len }

unfoldable pub entry_out : Outcome Item → Entry
entry_out (Ok i) = keyed_out i.key i.value
entry_out (Err r) = record { refusal = number_of r; number = pos 0; key_at = 0; key_len = 0; at = 0; len = 0 }

-- count
unfoldable pub count_out : Outcome ℕ → Count
count_out (Ok n) = record { refusal = 0; count = n }
count_out (Err r) = record { refusal = number_of r; count = 0 }

-- a map's id
unfoldable pub id_out : Outcome ℕ → Id
id_out (Ok n) = record { refusal = 0; id = n }
id_out (Err r) = record { refusal = number_of r; id = 0 }

-- a step of the walk: the state also after a refusal
abbrev pub stop_out : ℕ → ℕ → Walk → Step
stop_out refusal done w =
    record { refusal = refusal; done = done; number = pos 0; key_at = 0; key_len = 0; at = 0; len = 0; walk = w }

abbrev pub yielded_out : Walk → Key → Spot → Step
yielded_out w (given.Number z) v =
    record { refusal = 0; done = 0; number = z; key_at = 0; key_len = 0; at = v.at; len = v.len; walk = w }
yielded_out w (given.Text k) v =
    record { refusal = 0; done = 0; number = pos 0; key_at = k.at; key_len = k.len; at = v.at; len = v.len; walk = w }

abbrev pub item_out : Walk → Item → Step
item_out w i = yielded_out w i.key i.value

abbrev pub next_out : Walk → Outcome (Option Item) → Step
next_out w (Ok (Some i)) = item_out w i
next_out w (Ok None) = stop_out 0 1 w
next_out w (Err r) = stop_out (number_of r) 0 w

unfoldable pub step_out : Stepped → Step
step_out s = next_out s.walk s.next

-- the examination
unfoldable pub report_out : Outcome Figures → Report
report_out (Ok a) = record { refusal = 0; depth = a.depth; entries = a.entries; pages = a.pages }
report_out (Err r) = record { refusal = number_of r; depth = 0; entries = 0; pages = 0 }
