-- Demand 3: removing is undone by recomputing (01, "Strength of the contracts"), for a system, a set of committed wires and any meanings
-- of Imul and Bmul.
--
--   Clear p c t       the term t names no uncommitted defined wire; ClearDefinition, so with a definition
--   MentionsNone p c q    no constraint of the system q mentions an uncommitted defined wire of p
--   Undone            the five parts over assignments that are functions of a wire
--   Demand3           the five parts over assignments that are lists, one word a wire
--
-- `live` is the patched system, its stranded definitions set aside.
--
-- Assumes nothing.
use Rattle.std.specs.Prelude.{◌≡◌, ◌↔◌, ℕ, Bool, List, length}
use Rattle.std.proofs.Math.Option.{none}
use Rattle.operand.specs.Numbers.{Term}
use Rattle.lower.specs.Lists.{All}
use Rattle.lower.specs.Model.{Definition, System}
use Rattle.lower.specs.Values.{word_of, Satisfies}
use Rattle.patch.specs.Patch.{inlined, patched, live}
use Rattle.undo.specs.FillBack.{IsWord, Assignment, Agree, FillsBack, fill_back, Overwritten, FilledBack, filled_list}

module _ (p : System) (c : ℕ → Bool) where
  abbrev pub Clear : Term → Type 0
  Clear t = inlined p c t.wire ≡ none

  abbrev pub ClearDefinition : Definition → Type 0
  ClearDefinition d = (inlined p c d.dst ≡ none) × All Clear d.rhs

  pub record MentionsNone (q : System) : Type 0 where
    pub ands_clear : All (All (All Clear)) q.ands
    pub imuls_clear : All (All (All Clear)) q.imuls
    pub bmuls_clear : All (All (All Clear)) q.bmuls
    pub zeros_clear : All (All (All Clear)) q.zeros
    pub linears_clear : All ClearDefinition q.linears

  module _ (Imul Bmul : List ℕ → Type 0) where
    pub record Undone : Type 0 where
      pub vanished : MentionsNone (live p c)
      pub fills : (w : ℕ → ℕ) → FillsBack p c w (fill_back p c w)
      pub one_filling : (w v : ℕ → ℕ) → FillsBack p c w v → (i : ℕ) → v i ≡ fill_back p c w i
      pub exactly : (w v : ℕ → ℕ) → ((i : ℕ) → IsWord (w i)) → FillsBack p c w v → Satisfies Imul Bmul w (live p c) ↔ Satisfies Imul Bmul v p
      pub no_other : (w v : ℕ → ℕ) → Agree p c w v → Satisfies Imul Bmul v p → FillsBack p c w v
      pub still : (w : ℕ → ℕ) → ((i : ℕ) → IsWord (w i)) → Satisfies Imul Bmul w p → Satisfies Imul Bmul w (patched p c)
      pub returns : (w v u : ℕ → ℕ) → Satisfies Imul Bmul w p → Agree p c w v → FillsBack p c v u → (i : ℕ) → u i ≡ w i

    -- the assignment that a list of words is satisfies the system q
    abbrev pub Holds : List ℕ → System → Type 0
    Holds ws q = Satisfies Imul Bmul (word_of ws) q

    pub record Demand3 : Type 0 where
      -- (a) no patched constraint, stranded definitions set aside, mentions an uncommitted defined wire
      pub vanished : MentionsNone (live p c)
      -- filling back gives an assignment, and one only
      pub fills : (ws : List ℕ) → Assignment p ws → Assignment p (filled_list p c ws) × FilledBack p c ws (filled_list p c ws)
      pub one_filling : (ws vs : List ℕ) → Assignment p ws → length vs ≡ p.wires → FilledBack p c ws vs → vs ≡ filled_list p c ws
      -- (b) these constraints hold exactly when the filled-back assignment satisfies all the original constraints
      pub exactly : (ws : List ℕ) → Assignment p ws → Holds ws (live p c) ↔ Holds (filled_list p c ws) p
      -- (c) no other filling of the uncommitted defined wires does
      pub no_other : (ws vs : List ℕ) → Assignment p ws → length vs ≡ p.wires → Overwritten p c ws vs → Holds vs p → vs ≡ filled_list p c ws
      -- (d) an assignment that satisfies the originals satisfies every patched constraint, stranded ones too
      pub still : (ws : List ℕ) → Assignment p ws → Holds ws p → Holds ws (patched p c)
      -- (e) overwrite its uncommitted defined wires at will, fill back, and it returns bit for bit
      pub returns : (ws vs : List ℕ) → Assignment p ws → Assignment p vs → Holds ws p → Overwritten p c ws vs → filled_list p c vs ≡ ws
