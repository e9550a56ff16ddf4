-- What deciding answers, and what it leaves in the store of decisions (01, "Numbers given back": 3, 4, 5, 6, 7, 8, 9, 10, 11, 12).
--
--   SLOTS, CIRCLE, ROOM    their numbers
--   slots_fault slots       7: slots neither 1 nor 2
--   decision_fault          all that is checked before circles, in 01's order
--   Solution slots p l l'  of the store l there is left l': its first numbers are the decisions of a solution, and the rest is kept
--   Decides .. r           the answer r, and the store before and after, for each case in turn
--
-- Assumes nothing.
use Rattle.std.specs.Prelude.{◌≡◌, ℕ, ◌≤◌, ◌<◌, ◌||◌, List, eqb, length, get_or, drop}
use Rattle.lower.specs.declared.Sizes.{Sizes}
use Rattle.lower.specs.Model.{System}
use Rattle.lower.specs.Accepted.{MAX_TERMS, Reaches, NoCircle}
use Rattle.lower.specs.Stores.{Stores, system_of}
use Rattle.lower.specs.Faults.{or_else, unless, memory_fault, definition_fault}
use Rattle.commit_set.specs.Decision.{Solves}
use Rattle.commit_set.specs.Numbers.{decision_number, state_at}

abbrev pub SLOTS : ℕ
SLOTS = 7

abbrev pub CIRCLE : ℕ
CIRCLE = 11

abbrev pub ROOM : ℕ
ROOM = 12

-- "slots neither 1 nor 2"
abbrev pub slots_fault : ℕ → ℕ
slots_fault slots = unless (eqb slots 1 || eqb slots 2) SLOTS

-- "fusing checks 4 and 5 .., 6, 7 to 11, 12"
unfoldable pub decision_fault : ℕ → Sizes → Stores → ℕ
decision_fault slots z s = or_else (memory_fault MAX_TERMS z s) (or_else (slots_fault slots) (definition_fault (system_of z s)))

pub record Solution (slots : ℕ) (p : System) (l l' : List ℕ) : Type 0 where
  pub solves : Solves slots p (state_at l')
  pub exact : (d : ℕ) → d < length p.linears → get_or l' d 0 ≡ decision_number (state_at l' d)
  pub long : length l' ≡ length l
  pub kept : drop (length p.linears) l' ≡ drop (length p.linears) l

-- "a refusal fills nothing"
pub data Decides (slots : ℕ) (z : Sizes) (s : Stores) (l l' : List ℕ) : ℕ → Type 0 where
  refused : {r : ℕ} → r ≡ decision_fault slots z s → (r ≡ 0 → ⊥) → l' ≡ l → Decides slots z s l l' r
  circular : decision_fault slots z s ≡ 0 → (w : ℕ) → Reaches (system_of z s) w w → l' ≡ l → Decides slots z s l l' CIRCLE
  short : decision_fault slots z s ≡ 0 → NoCircle (system_of z s) → length l < z.linears → l' ≡ l → Decides slots z s l l' ROOM
  decided : decision_fault slots z s ≡ 0 → NoCircle (system_of z s) → z.linears ≤ length l → Solution slots (system_of z s) l l' → Decides slots z s l l' 0
