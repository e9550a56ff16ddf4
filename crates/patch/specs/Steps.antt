-- Expansion as a program does it, with two stores: terms are written one after the other, and the definitions met are marked.
--
--   Written            the store of new terms and how many it has; marks by wire, 1 where its definition is met; whether a term found no room
--   put t, meet w      a term is written; the definition of a wire is met. Once a term found no room nothing is done
--   write_term          a term expanded: it stands, or its definition is met and write_below goes through the definition's terms
--   write_operand       an operand's terms, one after the other; write_all, operands one after the other
--   Spilt              a store that is full of the first of some terms, and a term found no room
--   Does f ts ws       f writes the terms ts and marks the wires ws; where there is no room for all of ts, as many as there is room for
--
-- Assumes nothing.
use Rattle.std.specs.Prelude.{◌≡◌, ℕ, zero, suc, ◌+◌, ◌-◌, ◌≤◌, ◌<◌, Bool, true, false, cond, List, [], ◌∷◌, map, ltb, length, take, set}
use Rattle.std.proofs.Math.Option.{Option, none, some}
use Rattle.std.proofs.lemmas.List.Edits.{sets}
use Rattle.operand.specs.declared.PushInner.{PushInner}
use Rattle.operand.specs.declared.PushInner.TheVariants.{Seq, Zero, OverBudget}
use Rattle.operand.specs.Numbers.{Term, Operand, term_number}
use Rattle.lower.specs.Model.{System}
use Rattle.lower.specs.Tables.{marks}
use Rattle.patch.specs.Expansion.{under, folded}
use Rattle.patch.specs.Patch.{inlined, depth}

pub record Written : Type 0 where
  pub new : List ℕ
  pub count : ℕ
  pub met : List ℕ
  pub full : Bool

abbrev pub wrote : List ℕ → ℕ → List ℕ → Bool → Written
wrote new count met full = record { new = new; count = count; met = met; full = full }

abbrev pub filled : Written → Written
filled m = wrote m.new m.count m.met true

unfoldable pub put : Term → Written → Written
put t m =
    cond m.full m
    (cond (ltb m.count (length m.new)) (wrote (set m.new m.count (term_number t)) (suc m.count) m.met false)
    (filled m))

unfoldable pub meet : ℕ → Written → Written
meet w m = cond m.full m (wrote m.new m.count (set m.met w 1) false)

abbrev pub write_down : (Term → Written → Written) → ℕ → PushInner → Written → Written
write_down go w (Seq i o) m = go (under w i o) m
write_down go w Zero m = m
write_down go w OverBudget m = m

-- the terms of a definition that are left, below a term t that names it
unfoldable pub write_below : (Term → Written → Written) → Term → Operand → Written → Written
write_below go t [] m = m
write_below go t (u ∷ us) m = write_below go t us (write_down go u.wire (folded t u) m)

abbrev pub write_by : (Term → Written → Written) → Term → Option Operand → Written → Written
write_by go t none m = put t m
write_by go t (some rhs) m = write_below go t rhs (meet t.wire m)

abbrev pub write : (ℕ → Option Operand) → ℕ → Term → Written → Written
write D zero t m = put t m
write D (suc n) t m = write_by (λ u l. write D n u l) t (D t.wire) m

-- the terms of an operand that are left
unfoldable pub write_terms : (Term → Written → Written) → Operand → Written → Written
write_terms go [] m = m
write_terms go (t ∷ ts) m = write_terms go ts (go t m)

-- the operands that are left
unfoldable pub write_operands : (Term → Written → Written) → List Operand → Written → Written
write_operands go [] m = m
write_operands go (o ∷ os) m = write_operands go os (write_terms go o m)

module _ (p : System) (c : ℕ → Bool) where
  unfoldable pub write_term : Term → Written → Written
  write_term = write (inlined p c) (depth p c)

  abbrev pub write_operand : Operand → Written → Written
  write_operand = write_terms write_term

  abbrev pub write_all : List Operand → Written → Written
  write_all = write_operands write_term

abbrev pub after : Written → List Term → List ℕ → Written
after m ts ws = wrote (sets m.new m.count (map term_number ts)) (m.count + length ts) (marks m.met ws) false

-- new and count are the store and how many it had before
pub record Spilt (new : List ℕ) (count : ℕ) (ts : List Term) (m : Written) : Type 0 where
  pub front : m.new ≡ sets new count (map term_number (take (length new - count) ts))
  pub at_end : m.count ≡ length new
  pub no_room : m.full ≡ true

pub record Does (f : Written → Written) (ts : List Term) (ws : List ℕ) : Type 0 where
  pub stays : (m : Written) → m.full ≡ true → f m ≡ m
  pub fits : (m : Written) → m.full ≡ false → m.count + length ts ≤ length m.new → f m ≡ after m ts ws
  pub over : (m : Written) → m.full ≡ false → m.count ≤ length m.new → length m.new < m.count + length ts → Spilt m.new m.count ts (f m)
