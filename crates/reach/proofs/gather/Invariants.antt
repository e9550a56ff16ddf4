use Rattle.reach.specs.Steps.{Gathered, Filled}
use lib.ListN.{length}
use Rattle.reach.proofs.gather.Given as goal

abbrev pub invariant-loop-i : goal.invariant-loop-i
invariant-loop-i l = record { rest : Filled (length l.dsts) l.initial.out l.out; front : Gathered l.i l.dsts l.masks l.out }
