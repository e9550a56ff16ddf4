-- Deciding one definition after the other, in stores.
--
--   decide_in .. l d     the decision of d, by the lists of uses and the decisions in the store l
--   decided_from .. ds l the store l after the definitions ds, each decided when its turn comes
--   held_by x            what the lists x of `steps` hold
--   Ready .. ds l       what is needed on the way: each definition has its right side, its list of uses and its place, and its decision is
--                       within the bits of its number
--
-- Assumes nothing.
use Rattle.std.specs.Prelude.{ℕ, ◌≤◌, ◌<◌, List, [], ◌∷◌, map, length, get_or, set}
use Rattle.lower.specs.Stores.{Stands}
use Rattle.legraph.specs.Tables.{listed, Linked}
use Rattle.legraph.specs.Walked.{rhs_in}
use Rattle.commit_set.specs.declared.Decision.{Decision}
use Rattle.commit_set.specs.declared.steps.UseLists.{UseLists}
use Rattle.commit_set.specs.Decision.{context_of, shifts_of, decide}
use Rattle.commit_set.specs.Numbers.{decision_number, state_at, Packs}

-- right sides in two stores, and lists of uses
pub record Held : Type 0 where
  pub old : List ℕ
  pub new : List ℕ
  pub rhss : List ℕ
  pub first : List ℕ
  pub uses : List ℕ

abbrev pub held : List ℕ → List ℕ → List ℕ → List ℕ → List ℕ → Held
held old new rhss first uses = record { old = old; new = new; rhss = rhss; first = first; uses = uses }

abbrev pub held_by : UseLists → Held
held_by x = held x.stores.old.now x.stores.new.now x.rhss.now x.first.now x.uses.now

unfoldable pub decide_in : ℕ → Held → List ℕ → ℕ → Decision
decide_in slots h l d =
    decide slots (map (context_of (state_at l)) (listed (get_or h.first d 0) h.uses (get_or h.first d 0))) (shifts_of (rhs_in h.old h.new h.rhss d))

unfoldable pub decided_from : ℕ → Held → List ℕ → List ℕ → List ℕ
decided_from slots h [] l = l
decided_from slots h (d ∷ ds) l = decided_from slots h ds (set l d (decision_number (decide_in slots h l d)))

pub record Able (slots : ℕ) (h : Held) (l : List ℕ) (d : ℕ) : Type 0 where
  pub right_side : d < length h.rhss
  pub stands : Stands h.old h.new (get_or h.rhss d 0)
  pub few_terms : length (rhs_in h.old h.new h.rhss d) ≤ 65536
  pub list : d < length h.first
  pub few_uses : get_or h.first d 0 ≤ 65536
  pub linked : Linked h.uses (get_or h.first d 0)
  pub place : d < length l
  pub packs : Packs (decide_in slots h l d)

unfoldable pub Ready : ℕ → Held → List ℕ → List ℕ → Type 0
Ready slots h [] l = Unit
Ready slots h (d ∷ ds) l = Able slots h l d × Ready slots h ds (set l d (decision_number (decide_in slots h l d)))
