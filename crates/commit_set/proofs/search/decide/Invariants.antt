use Prim.Native.Nat.{◌+◌, ◌≤◌}
use mathlib.Core.Path.{◌≡◌}
use mathlib.Core.List.{map}
use mathlib.Core.Bool.{false, ◌||◌}
use lib.ListN.{length, drop}
use Rattle.legraph.specs.Tables.{use_at, next_at, listed}
use Rattle.operand.specs.Numbers.{term_of}
use Rattle.commit_set.specs.Numbers.{state_at}
use Rattle.commit_set.specs.Decision.{context_of, shifts_of, some_over}
use Rattle.commit_set.specs.Runs.{join, join_all}
use Rattle.commit_set.proofs.Seeking.{terms_over}
use Rattle.commit_set.proofs.search.decide.Given as goal

abbrev pub invariant-loop-t : goal.invariant-loop-t
invariant-loop-t l = (l.over ≡ false)
    × (some_over l.slots (map (context_of (state_at l.decisions)) (listed l.first l.uses l.first)) (shifts_of (map term_of l.ts)) ≡ (terms_over l.slots (context_of (state_at l.decisions) (use_at l.u)) (drop l.t-index (shifts_of (map term_of l.ts))) || some_over l.slots (map (context_of (state_at l.decisions)) (listed (next_at l.u) l.uses (next_at l.u))) (shifts_of (map term_of l.ts))))
    × ((l.many || (terms_over 1 (context_of (state_at l.decisions) (use_at l.u)) (drop l.t-index (shifts_of (map term_of l.ts))) || some_over 1 (map (context_of (state_at l.decisions)) (listed (next_at l.u) l.uses (next_at l.u))) (shifts_of (map term_of l.ts)))) ≡ some_over 1 (map (context_of (state_at l.decisions)) (listed l.first l.uses l.first)) (shifts_of (map term_of l.ts)))

abbrev pub invariant-out : goal.invariant-out
invariant-out l = (l.n + l.h ≤ l.first) × (l.over ≡ false)
    × (some_over l.slots (map (context_of (state_at l.decisions)) (listed l.first l.uses l.first)) (shifts_of (map term_of l.ts)) ≡ some_over l.slots (map (context_of (state_at l.decisions)) (listed l.h l.uses l.h)) (shifts_of (map term_of l.ts)))
    × ((l.many || some_over 1 (map (context_of (state_at l.decisions)) (listed l.h l.uses l.h)) (shifts_of (map term_of l.ts))) ≡ some_over 1 (map (context_of (state_at l.decisions)) (listed l.first l.uses l.first)) (shifts_of (map term_of l.ts)))
    × (join l.joined (join_all (map (context_of (state_at l.decisions)) (listed l.h l.uses l.h))) ≡ join_all (map (context_of (state_at l.decisions)) (listed l.first l.uses l.first)))
    × (l.n + length (map (context_of (state_at l.decisions)) (listed l.h l.uses l.h)) ≡ length (map (context_of (state_at l.decisions)) (listed l.first l.uses l.first)))

abbrev pub decreases-out : goal.decreases-out
decreases-out l = l.h
