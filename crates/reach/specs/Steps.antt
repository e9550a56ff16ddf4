-- The masks in stores: one number a wire, made definition by definition.
--
--   Held                the definitions in stores, and what is decided of each
--   held_in             those of a system that is lent
--   mask_at l w          the mask of the wire w in the store l
--   alive_step h d l     the store l after the definition d: the mask of its wire is made from those of its terms' wires, unless it is committed
--   alive_from h ds l    the store l after the definitions ds, the last one first
--   pull_term m u l      the store l after the term u of an operand of which the bits m get in; pull_terms, after an operand's terms;
--                       pull_operands, after operands that are rebuilt, of which every bit gets in
--   taken h d l         the bits of the definition d that get in: all, where it is committed
--   reach_step h d l     the store l after the definition d; reach_from, after the definitions ds, one after the other
--   Gathered n dsts masks out   the masks of the wires of n definitions stand in the store `out`, one number a definition
--   Filled n before out         of the store `before` there is left `out`: at most its first n numbers are written
--   Order rhs table n ds        an order of n definitions, each before those that it names; OrderOf, of the definitions of a system that is lent
--   Pullable .. hs n            the first n of the operands hs end within their stores, and their terms are usable
--   Usable n t          the term t names one of n wires, and its shift is valid
--   Able h n d          what is needed of the definition d: it has its right side, its destination is one of n wires, its terms are usable
--
-- Assumes nothing.
use Rattle.std.specs.Prelude.{◌≡◌, ℕ, ◌≤◌, ◌<◌, Bool, true, cond, eqb, length, get_or, set, take, drop, replicate}
use mathlib.Core.List.{List, [], ◌∷◌, Memᴰ}
use Rattle.std.specs.Int.Bits.{bit_or}
use Rattle.shift.specs.Shifts.{valid_number, shift_at}
use Rattle.operand.specs.Numbers.{Term, Operand, operand_of}
use Rattle.alive.specs.Masks.{ones, pulled}
use Rattle.lower.specs.declared.LentSystem.{LentSystem}
use Rattle.lower.specs.Lists.{All}
use Rattle.lower.specs.Stores.{Stands}
use Rattle.legraph.specs.Orders.{Posted}
use Rattle.legraph.specs.Tables.{numbered}
use Rattle.legraph.specs.Walked.{rhs_in}
use Rattle.reach.specs.Alive.{or_all, through}

pub record Held : Type 0 where
  pub old : List ℕ
  pub new : List ℕ
  pub dsts : List ℕ
  pub rhss : List ℕ
  pub decisions : List ℕ

abbrev pub held : List ℕ → List ℕ → List ℕ → List ℕ → List ℕ → Held
held old new dsts rhss decisions = record { old = old; new = new; dsts = dsts; rhss = rhss; decisions = decisions }

abbrev pub held_in : LentSystem → List ℕ → Held
held_in s decisions = held s.stores.old.now s.stores.new.now s.dsts.now s.rhss.now decisions

abbrev pub rhs_at : Held → ℕ → Operand
rhs_at h d = rhs_in h.old h.new h.rhss d

abbrev pub dst_at : Held → ℕ → ℕ
dst_at h d = get_or h.dsts d 0

-- 0 is the number of a decision to commit
abbrev pub committed_at : Held → ℕ → Bool
committed_at h d = eqb (get_or h.decisions d 0) 0

abbrev pub mask_at : List ℕ → ℕ → ℕ
mask_at l w = get_or l w 0

unfoldable pub alive_step : Held → ℕ → List ℕ → List ℕ
alive_step h d l = cond (committed_at h d) l (set l (dst_at h d) (or_all (through (mask_at l)) (rhs_at h d)))

unfoldable pub alive_from : Held → List ℕ → List ℕ → List ℕ
alive_from h [] l = l
alive_from h (d ∷ ds) l = alive_step h d (alive_from h ds l)

abbrev pub Usable : ℕ → Term → Type 0
Usable n t = (t.wire < n) × (valid_number t.inner ≡ true)

pub record Able (h : Held) (n d : ℕ) : Type 0 where
  pub right_side : d < length h.rhss
  pub destination : d < length h.dsts
  pub decided : d < length h.decisions
  pub place : dst_at h d < n
  pub stands : Stands h.old h.new (get_or h.rhss d 0)
  pub usable : All (Usable n) (rhs_at h d)

-- ---- the bits that get into rebuilt operands

unfoldable pub pull_term : ℕ → Term → List ℕ → List ℕ
pull_term m u l = set l u.wire (bit_or (mask_at l u.wire) (pulled (shift_at u.inner) m))

unfoldable pub pull_terms : ℕ → Operand → List ℕ → List ℕ
pull_terms m [] l = l
pull_terms m (u ∷ us) l = pull_terms m us (pull_term m u l)

unfoldable pub pull_operands : List ℕ → List ℕ → List ℕ → List ℕ → List ℕ
pull_operands old new [] l = l
pull_operands old new (h ∷ hs) l = pull_operands old new hs (pull_terms ones (operand_of old new h) l)

abbrev pub taken : Held → ℕ → List ℕ → ℕ
taken h d l = cond (committed_at h d) ones (mask_at l (dst_at h d))

unfoldable pub reach_step : Held → ℕ → List ℕ → List ℕ
reach_step h d l = pull_terms (taken h d l) (rhs_at h d) l

unfoldable pub reach_from : Held → List ℕ → List ℕ → List ℕ
reach_from h [] l = l
reach_from h (d ∷ ds) l = reach_from h ds (reach_step h d l)

-- the masks of the wires of n definitions, one number a definition
pub record Gathered (n : ℕ) (dsts masks out : List ℕ) : Type 0 where
  pub gathered : (d : ℕ) → d < n → get_or out d 0 ≡ mask_at masks (get_or dsts d 0)

-- the rest is kept
pub record Filled (n : ℕ) (before out : List ℕ) : Type 0 where
  pub long : length out ≡ length before
  pub kept : drop n out ≡ drop n before

-- an order of all n definitions, each before those that it names
pub record Order (rhs : ℕ → Operand) (table : List ℕ) (n : ℕ) (ds : List ℕ) : Type 0 where
  pub posted : Posted rhs table ds
  pub only : (d : ℕ) → Memᴰ d ds → d < n
  pub whole : (d : ℕ) → d < n → Memᴰ d ds

-- by the table that the program makes: which definition each of 4096 wires has
abbrev pub OrderOf : LentSystem → List ℕ → Type 0
OrderOf s ds = Order (rhs_in s.stores.old.now s.stores.new.now s.rhss.now) (numbered 0 (take s.sizes.linears s.dsts.now) (replicate 4096 0)) s.sizes.linears ds

-- the first n of the operands hs end within their stores, and their terms are usable
pub record Pullable (old new : List ℕ) (wires : ℕ) (hs : List ℕ) (n : ℕ) : Type 0 where
  pub there : n ≤ length hs
  pub standing : All (Stands old new) (take n hs)
  pub fit : All (λ (h : ℕ). All (Usable wires) (operand_of old new h)) (take n hs)
