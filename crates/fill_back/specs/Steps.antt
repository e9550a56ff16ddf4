-- Filling back in stores: the definitions of an order, the last one first.
--
--   Held                 the definitions in stores, and the flags; held_in, those of a lent system
--   fill_step h d ws      the words ws after the definition d: its wire has the value of its right side, unless it is committed
--   fill_from h ds ws     the words ws after the definitions ds, the last one first
--   Able h n d           what is needed of the definition d, with n words: it has its right side, its wire has a flag and a word, and its
--                        terms can be evaluated
--
-- Assumes nothing.
use Rattle.std.specs.Prelude.{ℕ, ◌<◌, cond, List, [], ◌∷◌, length, get_or, set}
use Rattle.operand.specs.Numbers.{Operand}
use Rattle.lower.specs.declared.LentSystem.{LentSystem}
use Rattle.lower.specs.Lists.{All}
use Rattle.lower.specs.Values.{value, word_of}
use Rattle.lower.specs.Accepted.{ShiftsOf}
use Rattle.lower.specs.Stores.{Stands}
use Rattle.legraph.specs.Walked.{rhs_in}
use Rattle.fill_back.specs.Filling.{flagged}

pub record Held : Type 0 where
  pub old : List ℕ
  pub new : List ℕ
  pub dsts : List ℕ
  pub rhss : List ℕ
  pub flags : List ℕ

abbrev pub held : List ℕ → List ℕ → List ℕ → List ℕ → List ℕ → Held
held old new dsts rhss flags = record { old = old; new = new; dsts = dsts; rhss = rhss; flags = flags }

abbrev pub held_in : LentSystem → List ℕ → Held
held_in s flags = held s.stores.old.now s.stores.new.now s.dsts.now s.rhss.now flags

abbrev pub rhs_at : Held → ℕ → Operand
rhs_at h d = rhs_in h.old h.new h.rhss d

abbrev pub dst_at : Held → ℕ → ℕ
dst_at h d = get_or h.dsts d 0

unfoldable pub fill_step : Held → ℕ → List ℕ → List ℕ
fill_step h d ws = cond (flagged h.flags (dst_at h d)) ws (set ws (dst_at h d) (value (word_of ws) (rhs_at h d)))

unfoldable pub fill_from : Held → List ℕ → List ℕ → List ℕ
fill_from h [] ws = ws
fill_from h (d ∷ ds) ws = fill_step h d (fill_from h ds ws)

pub record Able (h : Held) (n d : ℕ) : Type 0 where
  pub right_side : d < length h.rhss
  pub destination : d < length h.dsts
  pub flag : dst_at h d < length h.flags
  pub place : dst_at h d < n
  pub stands : Stands h.old h.new (get_or h.rhss d 0)
  pub shifted : All ShiftsOf (rhs_at h d)
