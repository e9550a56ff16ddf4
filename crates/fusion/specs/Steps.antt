-- What stands between the steps of fusing.
--
--   Ready          a system that nothing is refused in, and its decisions
--   Ordered        the definition of each wire, and an order of all definitions, each before those that it names
--   chosen         the wires that they commit
--   numbers_in n    the numbers of the operands that are rebuilt, where the store of new terms has n places
--   Rebuilt        what rebuilding leaves, whether all fits or not: as many new terms as there is room for, the numbers of their operands, and
--                  how far the store is filled
--   Holds          the new terms, and the numbers of their operands from the front of their store on
--   lacks_room      12, once rebuilding is done
--   Closable       what closing up the definitions asks
--   counts_by       the counts, by those of what is left
--   Fresh          the stores of a call that fuses, before anything is put there
--   Prepared       the definition of each wire, the decisions, the masks and all that is rebuilt; Prepares, of each answer
--
-- Assumes nothing.
use Rattle.std.specs.Prelude.{◌≡◌, ℕ, ◌+◌, ◌-◌, ◌≤◌, ◌<◌, Bool, ◌||◌, List, map, ltb, length, take, replicate, Result, Ok, Err}
use Rattle.std.proofs.lemmas.List.Edits.{sets}
use Rattle.refusal.specs.declared.Refusal.{Refusal}
use Rattle.refusal.specs.declared.Refusal.TheVariants.{Circle}
use Rattle.operand.specs.Numbers.{term_number}
use Rattle.lower.specs.declared.Sizes.{Sizes}
use Rattle.lower.specs.Model.{System}
use Rattle.lower.specs.Accepted.{Reaches, NoCircle}
use Rattle.lower.specs.Stores.{Stores, system_of}
use Rattle.legraph.specs.Tables.{numbered}
use Rattle.legraph.specs.Walked.{rhs_in}
use Rattle.commit_set.specs.Decision.{Solves}
use Rattle.commit_set.specs.Numbers.{state_at}
use Rattle.commit_set.specs.Answer.{decision_fault}
use Rattle.patch.specs.declared.Cursor.{Cursor}
use Rattle.patch.specs.Patch.{commit_set, expand_operand, written, terms_written, rebuilds}
use Rattle.patch.specs.Handles.{handles_from, cut_at}
use Rattle.patch.specs.Spelling.{cursor_at}
use Rattle.reach.specs.Reach.{ReachIn}
use Rattle.reach.specs.Steps.{Order}
use Rattle.apply.specs.Applied.{is_stranded, keep_from, committed_wires}
use Rattle.fusion.specs.declared.Counts.{Counts}
use Rattle.fusion.specs.declared.Linears.{Linears}
use Rattle.fusion.specs.Left.{numbers}

pub record Ready (z : Sizes) (s : Stores) (decisions : List ℕ) : Type 0 where
  pub slots : ℕ
  pub fault : decision_fault slots z s ≡ 0
  pub no_circle : NoCircle (system_of z s)
  pub solves : Solves slots (system_of z s) (state_at decisions)
  pub long : z.linears ≤ length decisions

pub record Ordered (z : Sizes) (s : Stores) (table order : List ℕ) : Type 0 where
  pub table_is : table ≡ numbered 0 (take z.linears s.dsts) (replicate 4096 0)
  pub named : Order (rhs_in s.old s.new s.rhss) (numbered 0 (take z.linears s.dsts) (replicate 4096 0)) z.linears order
  pub few : length order < 65536

abbrev pub chosen : Sizes → Stores → List ℕ → ℕ → Bool
chosen z s decisions = commit_set (system_of z s) (state_at decisions)

-- held is the new terms, list the store of operand numbers
pub record Holds (p : System) (c : ℕ → Bool) (held list : List ℕ) : Type 0 where
  pub terms : held ≡ map term_number (written p c)
  pub listed : take (length (rebuilds p c)) list ≡ numbers p c
  pub there : length (rebuilds p c) ≤ length list

-- an operand that is cut off, or comes after it, has the terms that stand in the store; `numbers`, where all fit
unfoldable pub numbers_in : System → (ℕ → Bool) → ℕ → List ℕ
numbers_in p c n = handles_from 0 (cut_at n (map (expand_operand p c) (rebuilds p c)))

-- out and list are the stores of new terms and of operand numbers before, out' and list' after
pub record Rebuilt (p : System) (c : ℕ → Bool) (out list out' list' : List ℕ) (b : Cursor) : Type 0 where
  pub cursor : b ≡ cursor_at (length out) (terms_written p c)
  pub terms : out' ≡ sets out 0 (map term_number (take (length out) (written p c)))
  pub listed : list' ≡ sets list 0 (numbers_in p c (length out))

-- new and flags are the lengths of what is lent
unfoldable pub lacks_room : Cursor → ℕ → ℕ → ℕ → Bool
lacks_room c new flags wires = c.full || (ltb new c.count || ltb flags wires)

-- what is asked where definitions are closed up: every store is long enough
pub record Closable (dsts rhss : List ℕ) (n wires : ℕ) (decisions table reach list : List ℕ) : Type 0 where
  pub dsts_there : n ≤ length dsts
  pub rhss_there : n ≤ length rhss
  pub wires_few : wires < 65536
  pub left_few : length (keep_from (is_stranded decisions reach) 0 (take n dsts)) + length (committed_wires table decisions 0 wires) ≤ n
  pub list_there : length (committed_wires table decisions 0 wires) ≤ length list

-- what is told, by the numbers of stranded and of committed definitions and of new terms
unfoldable pub counts_by : Sizes → Linears → ℕ → Counts
counts_by z l written =
    record {
      gone = z.linears - l.stranded - l.committed;
      stranded = l.stranded;
      committed = l.committed;
      written = written;
      kept = z.wires - (z.linears - l.committed);
    }

-- the stores of a call, before anything is put there
pub record Fresh (table decisions reach out list : List ℕ) : Type 0 where
  pub table_fresh : table ≡ replicate 4096 0
  pub decisions_long : length decisions ≡ 1024
  pub reach_long : length reach ≡ 1024
  pub out_long : length out ≡ 16384
  pub list_long : length list ≡ 7168

-- out and list are the stores of new terms and of operand numbers before, out' and list' after
pub record Prepared (slots : ℕ) (z : Sizes) (s : Stores) (table decisions reach out list out' list' : List ℕ) (c : Cursor) : Type 0 where
  pub no_circle : NoCircle (system_of z s)
  pub solves : Solves slots (system_of z s) (state_at decisions)
  pub long : z.linears ≤ length decisions
  pub table_is : table ≡ numbered 0 (take z.linears s.dsts) (replicate 4096 0)
  pub reach_in : ReachIn (system_of z s) (chosen z s decisions) z.linears s.dsts reach
  pub rebuilt : Rebuilt (system_of z s) (chosen z s decisions) out list out' list' c

pub data Prepares (slots : ℕ) (z : Sizes) (s : Stores) (table decisions reach out list out' list' : List ℕ) : Result Cursor Refusal → Type 0 where
  circular : decision_fault slots z s ≡ 0 → (w : ℕ) → Reaches (system_of z s) w w → Prepares slots z s table decisions reach out list out' list' (Err Circle)
  prepared : {c : Cursor} → decision_fault slots z s ≡ 0 → Prepared slots z s table decisions reach out list out' list' c → Prepares slots z s table decisions reach out list out' list' (Ok c)
