-- The starred examples hold. Assumes nothing.
use mathlib.Core.Path.{◌≡◌, refl}
use Prim.Native.Nat.{ℕ}
use native.Mathlib.Omega.{arith}
use mathlib.Core.Bool.{Bool, true, false, ◌||◌}
use mathlib.Core.List.{List, [], ◌∷◌}
use Rattle.operand.specs.Examples as O
use Rattle.operand.proofs.Shown as Shown
use Rattle.lower.specs.Lists.{All, done, more}
use Rattle.lower.proofs.Laws.{all_both, all_map}
use Rattle.commit_set.specs.Decision.{some_over, too_deep, multiplies_out, commits}
use Rattle.commit_set.specs.Examples.{Holds, shifts, multiplies, examples}

each : (l : List O.Example) → O.All l → All O.Holds l
each [] h = done
each (e ∷ l) h = more h.0 (each l h.1)

or_last : (a b : Bool) → (a || (b || true)) ≡ true
or_last true b = refl
or_last false true = refl
or_last false false = refl

three_three : Holds (multiplies 3 3 4 false)
three_three = (refl, λ cs ss t u k. (rw (k, t, u), λ e. absurd (let z : ◌≡◌ {A = ℕ} 0 1 = cc in omega arith)))

two_six : Holds (multiplies 2 6 5 true)
unfolding commits
two_six = (refl, λ cs ss t u k. (rw (k, t, u), λ e slots. let m : multiplies_out cs ss ≡ true = rw (k, t, u) in rw m (or_last (some_over slots cs ss) (too_deep cs ss))))

-- THE THEOREM
pub examples_hold : All Holds examples
examples_hold = all_both Holds (all_map Holds shifts O.examples (each O.examples Shown.examples_hold)) (more three_three (more two_six done))
