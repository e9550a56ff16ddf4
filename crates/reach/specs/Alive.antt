-- Which bits of a wire's word an expansion goes on with (01, "The patched lists"): a mask a wire, so that whether a term writes anything is
-- told without expanding it.
--
--   or_all f l         the or of what f gives at the elements
--   carried t x       the word x under the two shifts of the term t
--   through a u       what the mask of the wire of u, a term of a definition, becomes under its shift
--   alive D n w       the bits of w that some undefined or committed wire below it has a part in; D and n as in an expansion
--   IsAlive D a       what these masks are, with no bound
--   alive_wire         the masks of a system, for a set of committed wires; AliveIn, that they stand in a store
--
-- A shift copies bits or drops them, and an expansion looks at shifts alone: two terms never cancel, so masks join by or.
--
-- Assumes nothing.
use Rattle.std.specs.Prelude.{◌≡◌, ℕ, zero, suc, ◌<◌, Bool, List, [], ◌∷◌, get_or}
use Rattle.std.proofs.Math.Option.{Option, none, some}
use Rattle.std.specs.Int.Bits.{bit_or}
use Rattle.shift.specs.Shifts.{shift_at, apply_of}
use Rattle.operand.specs.Numbers.{Term, Operand}
use Rattle.alive.specs.Masks.{ones}
use Rattle.lower.specs.Model.{System}
use Rattle.patch.specs.Patch.{inlined, depth}

abbrev pub or_all : {A : Type 0} → (A → ℕ) → List A → ℕ
or_all f [] = 0
or_all f (x ∷ xs) = bit_or (f x) (or_all f xs)

-- "the inner one applied first"
abbrev pub carried : Term → ℕ → ℕ
carried t x = apply_of (shift_at t.outer) (apply_of (shift_at t.inner) x)

-- a definition's terms have one shift
abbrev pub through : (ℕ → ℕ) → Term → ℕ
through a u = apply_of (shift_at u.inner) (a u.wire)

-- "until a committed or undefined wire stands"
abbrev pub alive_by : (ℕ → ℕ) → Option Operand → ℕ
alive_by a none = ones
alive_by a (some rhs) = or_all (through a) rhs

module _ (D : ℕ → Option Operand) where
  abbrev pub alive : ℕ → ℕ → ℕ
  alive zero w = ones
  alive (suc n) w = alive_by (λ v. alive n v) (D w)

  pub record IsAlive (a : ℕ → ℕ) : Type 0 where
    pub alive_stands : (w : ℕ) → D w ≡ none → a w ≡ ones
    pub alive_opens : (w : ℕ) (rhs : Operand) → D w ≡ some rhs → a w ≡ or_all (through a) rhs

unfoldable pub alive_wire : System → (ℕ → Bool) → ℕ → ℕ
alive_wire p c = alive (inlined p c) (depth p c)

-- the masks of n definitions with these destinations stand in a store, one number a definition
abbrev pub AliveIn : System → (ℕ → Bool) → ℕ → List ℕ → List ℕ → Type 0
AliveIn p c n dsts out = (d : ℕ) → d < n → get_or out d 0 ≡ alive_wire p c (get_or dsts d 0)
