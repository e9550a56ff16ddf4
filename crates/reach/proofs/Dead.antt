-- What the program passes over expands to nothing, where the store that it looks at holds the masks of the definitions. Assumes nothing.
--
-- The bound of the expansion must not be less than the depth of the wire: where it is, an expansion stops at a definition that the masks
-- look through.
use mathlib.Core.Path.{◌≡◌, sym, ap, ◌∙◌}
use Prim.Native.Nat.{ℕ, suc}
use mathlib.Core.Bool.{true}
use mathlib.Core.List.{[]}
use mathlib.Core.Option.{some}
use lib.ListN.{get_or}
use borrow.Author.Tests.{eqb-true, eq-eqb}
use Rattle.operand.specs.Numbers.{Term, Operand}
use Rattle.lower.specs.Lists.{All}
use Rattle.lower.specs.Accepted.{ShiftsOf}
use Rattle.patch.specs.Expansion.{below, expand, Fits, Within}
use Rattle.patch.specs.Spelling.{Source, in_place, alive_at, dead}
use Rattle.reach.specs.Alive.{carried, alive, IsAlive}
use Rattle.reach.proofs.Writing.{tells_opened, only_alive}

module _ (s : Source) (sound : (w : ℕ) (rhs : Operand) → in_place s w ≡ some rhs → All ShiftsOf rhs)
    (a : ℕ → ℕ) (is : IsAlive (in_place s) a) (held : (w : ℕ) (rhs : Operand) → in_place s w ≡ some rhs → alive_at s (get_or s.table w 0) ≡ a w) where
  pub dead_tells : (n : ℕ) (t : Term) (rhs : Operand) → in_place s t.wire ≡ some rhs → Within (in_place s) (suc n) t.wire → Fits (in_place s) (suc n) t → dead s t ≡ true
      → below (expand (in_place s) n) t rhs ≡ []
  unfolding dead
  dead_tells n t rhs e w f k =
      let z : carried t (alive_at s (get_or s.table t.wire 0)) ≡ 0 = eqb-true _ 0 k in
      let q : carried t (alive (in_place s) (suc n) t.wire) ≡ 0 = ap (carried t) (sym (held t.wire rhs e ∙ only_alive (in_place s) a is (suc n) t.wire w)) ∙ z in
      rw e at ((tells_opened (in_place s) sound n t rhs e f).1 q)

  -- and what it does not pass over writes something
  pub tells_dead : (n : ℕ) (t : Term) (rhs : Operand) → in_place s t.wire ≡ some rhs → Within (in_place s) (suc n) t.wire → Fits (in_place s) (suc n) t
      → below (expand (in_place s) n) t rhs ≡ [] → dead s t ≡ true
  unfolding dead
  tells_dead n t rhs e w f k =
      let q : carried t (alive (in_place s) (suc n) t.wire) ≡ 0 = (tells_opened (in_place s) sound n t rhs e f).0 (rw e k) in
      eq-eqb _ 0 (ap (carried t) (held t.wire rhs e ∙ only_alive (in_place s) a is (suc n) t.wire w) ∙ q)
