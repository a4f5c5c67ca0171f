-- One page of a descent, and a descent after it.
--
--   step_of k o          what a page answers a lookup of k: a child's position, a value, Absent or its refusal
--   advance_of s need l  a descent after one page more: l says where the page's chunk is, s what the page there answers
use Rattle.std.specs.Prelude.{ℕ, max, Err, Ok, option_map}
use Rattle.refusal.specs.Refusal.{Outcome, bind}
use Rattle.position.specs.Position.{of_bits}
use Rattle.key.specs.Key.{Key, compare_keys}
use Rattle.tree.specs.Page.{Page, leaf, inner}
use Rattle.tree.specs.Asking.{find_in, child_for}
use Rattle.page.specs.declared.Place.{Place}
use Rattle.content.specs.declared.Entry.{Entry}
use Rattle.metadata.specs.declared.Location.{Location}
use Rattle.metadata.specs.declared.descent.Step.{Step}
use Rattle.metadata.specs.declared.descent.Step.TheVariants as step
use Rattle.metadata.specs.declared.descent.Advance.{Advance}
use Rattle.metadata.specs.declared.descent.Advance.TheVariants.{To, Done}

unfoldable pub step_of : Key → Outcome (Page Key Entry) → Outcome Step
step_of k (Err r) = Err r
step_of k (Ok (leaf es)) = Ok (step.Leaf (option_map (λ e. e.value) (find_in compare_keys k es)))
step_of k (Ok (inner cs)) = Ok (step.Child (of_bits (child_for compare_keys k cs)))

abbrev pub advance_by : ℕ → Step → Advance
advance_by need (step.Child p) = To p need
advance_by need (step.Leaf v) = Done (record { value = v; need = need })

unfoldable pub advance_of : (Place → Outcome Step) → ℕ → Outcome Location → Outcome Advance
advance_of s need l = bind l (λ x. bind (s x.place) (λ t. Ok (advance_by (max need x.need) t)))
