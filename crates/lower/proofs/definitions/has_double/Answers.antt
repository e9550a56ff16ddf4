-- The table of defined wires, then the lists by it. Assumes nothing.
use Rattle.std.proofs.Common.{sym, ap, ◌∙◌}
use Rattle.lower.specs.Tables.{lists_double}
use Rattle.lower.proofs.Doubles.{in_table, double_lists}
use Rattle.lower.proofs.Checks.{checked}
use Rattle.lower.proofs.definitions.has_double.Goals as goal

pub mark-requires : goal.mark-requires
mark-requires c = rw c.destinations.ensures (in_table _ _ (checked _ _ c.requires.places_sound) c.requires.wires_bound)

pub returns : goal.returns
returns c = let y = checked _ _ c.requires.places_sound in c.lists_double.ensures ∙ ap (lists_double _ _) c.mark.ensures ∙ rw c.destinations.ensures (sym (double_lists _ _ y c.requires.wires_bound))
