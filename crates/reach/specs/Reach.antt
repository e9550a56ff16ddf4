-- Which bits of a wire's word get into some rebuilt operand (01, "The patched lists"): a mask a wire, so that which definitions are met is
-- told without expanding anything.
--
--   from_root w t         the bits of the wire w that t, a term of an operand that is rebuilt, takes in
--   from_term m w u       the bits of w that u, a term of a definition of which the bits m get in, takes in
--   from_definition r w   the bits of w that a definition takes in, none where it is committed
--   reach_by r w          all of them, from the masks r of the definitions
--   IsReach r            every mask is a word, and that of a definition is what the occurrences of its wire say, committed or not
--   ReachIn n dsts out   the masks of n definitions stand in the store `out`
--
-- No order of the definitions is named.
--
-- Assumes nothing.
use Rattle.std.specs.Prelude.{◌≡◌, ℕ, ◌^◌, ◌<◌, Bool, true, cond, eqb, List, get_or}
use Rattle.std.specs.Int.Bits.{bit_or}
use Rattle.shift.specs.Shifts.{shift_at}
use Rattle.operand.specs.Numbers.{Term}
use Rattle.alive.specs.Masks.{ones, pulled}
use Rattle.lower.specs.Lists.{joined}
use Rattle.lower.specs.Model.{Definition, System, defines}
use Rattle.patch.specs.Patch.{rebuilds}
use Rattle.reach.specs.Alive.{or_all}

abbrev pub from_root : ℕ → Term → ℕ
from_root w t = cond (eqb t.wire w) (pulled (shift_at t.inner) (pulled (shift_at t.outer) ones)) 0

abbrev pub from_term : ℕ → ℕ → Term → ℕ
from_term m w u = cond (eqb u.wire w) (pulled (shift_at u.inner) m) 0

-- p is the system, c the set of committed wires
module _ (p : System) (c : ℕ → Bool) where
  -- "then every committed definition": its terms are those of an operand that is rebuilt
  abbrev pub from_definition : (ℕ → ℕ) → ℕ → Definition → ℕ
  from_definition r w d = cond (c d.dst) 0 (or_all (from_term (r d.dst) w) d.rhs)

  abbrev pub reach_by : (ℕ → ℕ) → ℕ → ℕ
  reach_by r w = bit_or (or_all (from_root w) (joined (rebuilds p c))) (or_all (from_definition r w) p.linears)

  pub record IsReach (r : ℕ → ℕ) : Type 0 where
    pub words : (w : ℕ) → r w < 2 ^ 64
    pub sums : (w : ℕ) → defines p.linears w ≡ true → r w ≡ reach_by r w

  -- the masks of the definitions, n of them with these destinations, stand in a store
  pub record ReachIn (n : ℕ) (dsts out : List ℕ) : Type 0 where
    pub reach : ℕ → ℕ
    pub is_reach : IsReach reach
    pub stands_in : (d : ℕ) → d < n → get_or out d 0 ≡ reach (get_or dsts d 0)
