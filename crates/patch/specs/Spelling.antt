-- Expansion as the program does it: terms are written one after the other to a store, and what is known to write nothing is passed over.
--
--   source_of          what the program reads, as it is lent; source_in, with the stores and the right sides of a system that is lent
--   in_place           what is put in the place of a wire, by the table of definitions and the decisions: none where the wire stands
--   dead alive t       no bit that can be set in the wire of t gets through the shifts of t: nothing would be written
--   spelt              the store of new terms and how far it is filled, as a state of Steps.antt; spelt_to, the same where that is one
--                      number: past the end of the store it says that a term found no room
--   Over x             x is the number of a term with valid shifts and no wire: the two shifts that a definition's terms are written under
--   inner_of, outer_of   the shifts of the term of a number; bare, a term with no wire
--   folded_as p         what a fold leaves, by such a number
--   spell              a term expanded and written; spell_under, the terms of its definition that are left
--   look .. u          the mask of a term u of a definition: the bits that can be set in its wire, below its shift; all where the wire stands
--   Sees k i o         the mask k takes in just what gets through the shifts i, then o
--   NextLive ms from k r   r is the first place from `from` on whose mask k takes in something, or the end of the masks ms
--   laid .. u          the entry of a term u of a definition, one number: its shift and its wire where that stands, else its shift, the
--                      definition in the wire's place, and a mark
--   Entries, Lookable  what writing the masks and the entries of terms leaves, and what it asks
--   Looks s d          the store of masks has, from 1024 on, where the masks of the terms of each definition begin and how many they are,
--                      and has them there, and the entries behind them
--   Opened s d n       what the definition d is opened with, no chain below it longer than n; Openable, of some source with this store
--   Entered s t e k n  the same of a term of the number t, that has the entry e, and of which the mask k takes in something; Enterable
--
-- Assumes nothing.
use Rattle.std.specs.Prelude.{◌≡◌, ℕ, zero, suc, ◌+◌, ◌*◌, ◌/◌, ◌%◌, ◌^◌, ◌≤◌, ◌<◌, Bool, true, false, cond, List, [], ◌∷◌, eqb, ltb, length, get_or, Some, None, Option as Answer}
use Rattle.std.proofs.Math.Option.{Option, none, some}
use Rattle.std.specs.Int.Bits.{bit_and}
use Rattle.shift.specs.declared.Shift.{Shift}
use Rattle.shift.specs.Shifts.{number_of, valid_number, shift_at, apply_of}
use Rattle.operand.specs.declared.PushInner.{PushInner}
use Rattle.operand.specs.declared.PushInner.TheVariants.{Seq, Zero, OverBudget}
use Rattle.operand.specs.Numbers.{Term, Operand, term_of, term_number, operand_at, terms_at}
use Rattle.operand.specs.Push.{push_valid}
use Rattle.alive.specs.Masks.{ones}
use Rattle.lower.specs.Lists.{All, some_of}
use Rattle.lower.specs.Tables.{marked}
use Rattle.lower.specs.Accepted.{ShiftsOf}
use Rattle.lower.specs.declared.LentSystem.{LentSystem}
use Rattle.lower.specs.Stores.{Stands}
use Rattle.legraph.specs.Walked.{rhs_in}
use Rattle.patch.specs.declared.Cursor.{Cursor}
use Rattle.patch.specs.declared.LentSource.{LentSource}
use Rattle.patch.specs.Expansion.{Within}
use Rattle.patch.specs.Steps.{Written, wrote, put, write_down}

-- the stores that expansion reads
pub record Source : Type 0 where
  pub old : List ℕ
  pub new : List ℕ
  pub rhss : List ℕ
  pub table : List ℕ
  pub decisions : List ℕ
  pub alive : List ℕ

abbrev pub source : List ℕ → List ℕ → List ℕ → List ℕ → List ℕ → List ℕ → Source
source old new rhss table decisions alive = record { old = old; new = new; rhss = rhss; table = table; decisions = decisions; alive = alive }

abbrev pub source_of : LentSource → Source
source_of s = source s.stores.old.now s.stores.new.now s.rhss.now s.table.now s.decisions.now s.alive.now

abbrev pub source_in : LentSystem → List ℕ → List ℕ → List ℕ → Source
source_in s table decisions alive = source s.stores.old.now s.stores.new.now s.rhss.now table decisions alive

-- n is a node: 0 where the wire is not defined, or its definition, counted from 1; a decision of 0 is Commit
abbrev pub place_of : Source → ℕ → Option Operand
place_of s zero = none
place_of s (suc d) = cond (eqb (get_or s.decisions d 0) 0) none (some (rhs_in s.old s.new s.rhss d))

unfoldable pub in_place : Source → ℕ → Option Operand
in_place s w = place_of s (get_or s.table w 0)

-- the node of what is put in the place of a node
abbrev pub inlined_number : List ℕ → ℕ → ℕ
inlined_number decisions zero = 0
inlined_number decisions (suc d) = cond (eqb (get_or decisions d 0) 0) 0 (suc d)

abbrev pub alive_at : Source → ℕ → ℕ
alive_at s zero = 0
alive_at s (suc d) = get_or s.alive d 0

unfoldable pub dead : Source → Term → Bool
dead s t = eqb (apply_of (shift_at t.outer) (apply_of (shift_at t.inner) (alive_at s (get_or s.table t.wire 0)))) 0

-- no definition is marked on the way: that is told by other means
abbrev pub spelt : List ℕ → Cursor → Written
spelt l c = wrote l c.count [] c.full

abbrev pub cursor_at : ℕ → ℕ → Cursor
cursor_at end n = cond (ltb end n) (record { count = end; full = true }) (record { count = n; full = false })

unfoldable pub spelt_to : List ℕ → ℕ → Written
spelt_to l n = spelt l (cursor_at (length l) n)

abbrev pub inner_of : ℕ → Shift
inner_of t = shift_at (term_of t).inner

abbrev pub outer_of : ℕ → Shift
outer_of t = shift_at (term_of t).outer

abbrev pub bare : Term → Term
bare t = record { wire = 0; inner = t.inner; outer = t.outer }

abbrev pub Over : ℕ → Type 0
Over x = ((term_of x).wire ≡ 0) × ShiftsOf (term_of x)

abbrev pub folded_as : PushInner → Answer ℕ
folded_as (Seq a b) = Some (65536 * number_of a + 4294967296 * number_of b)
folded_as Zero = None
folded_as OverBudget = None

-- the terms of a definition that are left, below the shifts i and o
unfoldable pub spell_under : (Term → Written → Written) → Shift → Shift → Operand → Written → Written
spell_under go i o [] m = m
spell_under go i o (u ∷ us) m = spell_under go i o us (write_down go u.wire (push_valid i o (shift_at u.inner) 2) m)

unfoldable pub spell_by : Source → (Term → Written → Written) → Term → Option Operand → Written → Written
spell_by s go t none m = put t m
spell_by s go t (some rhs) m = cond (dead s t) m (spell_under go (shift_at t.inner) (shift_at t.outer) rhs m)

unfoldable pub spell : Source → ℕ → Term → Written → Written
spell s zero t m = cond m.full m (put t m)
spell s (suc n) t m = cond m.full m (spell_by s (spell s n) t (in_place s t.wire) m)

abbrev pub Sees : ℕ → Shift → Shift → Type 0
Sees k i o = (k < 2 ^ 64) × ((w : ℕ) → w < 2 ^ 64 → (bit_and w k ≡ 0 → apply_of o (apply_of i w) ≡ 0) × (apply_of o (apply_of i w) ≡ 0 → bit_and w k ≡ 0))

abbrev pub NextLive : List ℕ → ℕ → ℕ → ℕ → Type 0
NextLive ms from k r = (from ≤ r) × (r ≤ length ms) × ((i : ℕ) → from ≤ i → i < r → bit_and (get_or ms i 0) k ≡ 0) × (r < length ms → bit_and (get_or ms r 0) k ≡ 0 → ⊥)

-- n is the node of what is put in the place of the term's wire
abbrev pub look_by : List ℕ → Term → ℕ → ℕ
look_by alive u zero = ones
look_by alive u (suc d) = apply_of (shift_at u.inner) (get_or alive d 0)

unfoldable pub look : (table decisions alive : List ℕ) → Term → ℕ
look table decisions alive u = look_by alive u (inlined_number decisions (get_or table u.wire 0))

-- so with the entry; a definition stands where the wire would, and 1 for the outer shift, which a term of a definition has not
abbrev pub laid_by : Term → ℕ → ℕ
laid_by u zero = term_number (record { wire = u.wire; inner = u.inner; outer = 0 })
laid_by u (suc d) = term_number (record { wire = d; inner = u.inner; outer = 1 })

unfoldable pub laid : (table decisions : List ℕ) → Term → ℕ
laid table decisions u = laid_by u (inlined_number decisions (get_or table u.wire 0))

abbrev pub terms_in : Source → ℕ → List ℕ
terms_in s d = terms_at s.old s.new (operand_at (get_or s.rhss d 0))

abbrev pub looks_from : Source → ℕ → ℕ
looks_from s d = get_or s.alive (1024 + d) 0 % 65536

abbrev pub looks_count : Source → ℕ → ℕ
looks_count s d = get_or s.alive (1024 + d) 0 / 65536

pub record Looks (s : Source) (d : ℕ) : Type 0 where
  pub begins : 1024 + d < length s.alive
  pub as_many : looks_count s d ≡ length (terms_in s d)
  pub ends : looks_from s d + 2 * length (terms_in s d) ≤ length s.alive
  pub masks : (i : ℕ) → i < length (terms_in s d) → get_or s.alive (looks_from s d + i) 0 ≡ look s.table s.decisions s.alive (term_of (get_or (terms_in s d) i 0))
  pub entries : (i : ℕ) → i < length (terms_in s d) → get_or s.alive (looks_from s d + length (terms_in s d) + i) 0 ≡ laid s.table s.decisions (term_of (get_or (terms_in s d) i 0))

-- the masks of the first i terms of ts, which are n, are written from `at` on, their entries behind all n, and what stands before is left
pub record Entries (table decisions before after ts : List ℕ) (at n i : ℕ) : Type 0 where
  pub long : length after ≡ length before
  pub kept : (j : ℕ) → j < at → get_or after j 0 ≡ get_or before j 0
  pub looked : (j : ℕ) → j < i → get_or after (at + j) 0 ≡ look table decisions before (term_of (get_or ts j 0))
  pub listed : (j : ℕ) → j < i → get_or after (at + n + j) 0 ≡ laid table decisions (term_of (get_or ts j 0))

-- what is asked of n definitions whose terms are looked at; a node is no place of the masks of terms
pub record Lookable (old new rhss table : List ℕ) (n : ℕ) : Type 0 where
  pub right_sides : n ≤ length rhss
  pub few : n ≤ 1024
  pub nodes : (w : ℕ) → get_or table w 0 ≤ 1024
  pub stand : (d : ℕ) → d < n → Stands old new (get_or rhss d 0)
  pub shifts_there : (d : ℕ) → d < n → All (λ (u : Term). valid_number u.inner ≡ true) (rhs_in old new rhss d)

-- what is read on the way is there: right sides in their stores, with valid shifts, and the masks of their terms
pub record Opens (s : Source) (d : ℕ) : Type 0 where
  pub right_side : d < length s.rhss
  pub stands : Stands s.old s.new (get_or s.rhss d 0)
  pub shifts : All (λ (u : Term). valid_number u.inner ≡ true) (rhs_in s.old s.new s.rhss d)
  pub looks : Looks s d

abbrev pub Readable : Source → Type 0
Readable s = (w d : ℕ) → get_or s.table w 0 ≡ suc d → Opens s d

-- a source with this store of masks
abbrev pub reading : Source → List ℕ → Source
reading s store = source s.old s.new s.rhss s.table s.decisions store

pub record Opened (s : Source) (d below : ℕ) : Type 0 where
  pub nodes : (w : ℕ) → get_or s.table w 0 < 65536
  pub readable : Readable s
  pub opens : Opens s d
  pub deep : All (λ (u : Term). Within (in_place s) below u.wire) (rhs_in s.old s.new s.rhss d)

pub record Openable (store : List ℕ) (d below : ℕ) : Type 0 where
  pub rest : Source
  pub opened : Opened (reading rest store) d below

pub record Entered (s : Source) (t e k below : ℕ) : Type 0 where
  pub nodes : (w : ℕ) → get_or s.table w 0 < 65536
  pub readable : Readable s
  pub entry : e ≡ laid s.table s.decisions (term_of t)
  pub shift : valid_number (term_of t).inner ≡ true
  pub deep : Within (in_place s) below (term_of t).wire
  pub live : bit_and (look s.table s.decisions s.alive (term_of t)) k ≡ 0 → ⊥

pub record Enterable (store : List ℕ) (e k below : ℕ) : Type 0 where
  pub rest : Source
  pub number : ℕ
  pub entered : Entered (reading rest store) number e k below

-- some term names a defined wire, by the table; so with the operands of a row
unfoldable pub names_one : List ℕ → Operand → Bool
names_one table o = some_of (λ (t : Term). marked table t.wire) o

unfoldable pub row_names : List ℕ → List Operand → Bool
row_names table r = some_of (names_one table) r
