-- The table is made, then walked by. Assumes nothing.
use Rattle.legraph.specs.Walked.{Sound}
use Prim.Native.Nat.{ℕ}
use mathlib.Core.List.{List}
use mathlib.Core.Path.{sym, subst}
use Rattle.commit_set.proofs.order_definitions.Goals as goal

pub walk-requires : goal.walk-requires
walk-requires c = record {
  sound = subst (λ (l : List ℕ). Sound c.args.system.now.stores.old.now c.args.system.now.stores.new.now c.args.system.now.rhss.now l 1024) (sym c.add_lin_defs.ensures) c.requires.sound;
  all_there = (c.requires.in_bounds.1, c.requires.all_there);
}
