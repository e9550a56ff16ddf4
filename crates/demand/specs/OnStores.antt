-- Demand 3, removing is undone by recomputing (01, "Strength of the contracts"), of what fusing leaves in the lent stores, and of what
-- filling back leaves in an assignment.
--
--   after z k          the sizes afterwards, by the counts that are told
--   left z l' k        the patched system as it stands in the stores afterwards
--   flags_left z l'     the flags as they stand there, one a wire
--   set_aside n q       the system q without its first n definitions
--   Fills, Agrees      filling back for the original system with these flags; assignments that agree but for uncommitted defined wires
--   standing           the patched system, its stranded definitions set aside
--   UndoneOnStores     the five parts; l is what was lent before, l' after
--
-- Assumes nothing.
use Rattle.std.specs.Prelude.{◌≡◌, ◌↔◌, ℕ, ◌+◌, Bool, false, length, take, drop}
use mathlib.Core.List.{List, Memᴰ}
use Rattle.lower.specs.declared.Sizes.{Sizes}
use Rattle.lower.specs.Lists.{All}
use Rattle.lower.specs.Model.{Definition, System}
use Rattle.lower.specs.Values.{word_of, Satisfies}
use Rattle.lower.specs.Stores.{system_of}
use Rattle.undo.specs.FillBack.{Assignment, Overwritten, filled_list}
use Rattle.undo.specs.Demand3.{MentionsNone}
use Rattle.fusion.specs.declared.Counts.{Counts}
use Rattle.fusion.specs.Left.{Lent, input, output, fused}
use Rattle.fill_back.specs.Filling.{flagged, FillsIs}

-- "the other four lists keep their lengths"
unfoldable pub after : Sizes → Counts → Sizes
after z k =
    record {
      wires = z.wires;
      ands = z.ands;
      imuls = z.imuls;
      bmuls = z.bmuls;
      zeros = z.zeros;
      linears = k.stranded + k.committed;
    }

abbrev pub left : Sizes → Lent → Counts → System
left z l' k = system_of (after z k) (output l')

-- "fusing writes 1 or 0"
abbrev pub flags_left : Sizes → Lent → List ℕ
flags_left z l' = take z.wires l'.flags

-- "Each list: what was neither rebuilt nor gone, in old order, then what was rebuilt": the stranded definitions stand first
unfoldable pub set_aside : ℕ → System → System
set_aside n q =
    record {
      wires = q.wires;
      ands = q.ands;
      imuls = q.imuls;
      bmuls = q.bmuls;
      zeros = q.zeros;
      linears = drop n q.linears;
    }

module _ (z : Sizes) (l l' : Lent) where
  -- the committed wires, by the flags that are left
  abbrev pub flagged_left : ℕ → Bool
  flagged_left = flagged (flags_left z l')

  -- filling back for the original system, with these flags: of the assignment ws it leaves ws', and answers r
  abbrev pub Fills : (ws ws' : List ℕ) → ℕ → Type 0
  Fills ws ws' r = FillsIs z (input l) (flags_left z l') ws ws' r

  -- two assignments agree but for the uncommitted defined wires
  abbrev pub Agrees : (ws vs : List ℕ) → Type 0
  Agrees ws vs = Overwritten (fused z l) flagged_left ws vs

  -- "Imul and Bmul by any fixed relation of their values, demand 3 being proved for all such"
  module _ (k : Counts) (Imul Bmul : List ℕ → Type 0) where
    -- the patched system, its stranded definitions set aside
    abbrev pub standing : System
    standing = set_aside k.stranded (left z l' k)

    -- the assignment that a list of words is satisfies the system q
    abbrev pub Holds : List ℕ → System → Type 0
    Holds ws q = Satisfies Imul Bmul (word_of ws) q

    pub record UndoneOnStores : Type 0 where
      -- (a) no patched constraint, stranded definitions set aside, mentions an uncommitted defined wire
      pub vanished : MentionsNone (fused z l) flagged_left standing
      -- what is set aside are uncommitted definitions of the original, unchanged
      pub aside : All (λ (d : Definition). Memᴰ d (fused z l).linears × (flagged_left d.dst ≡ false)) (take k.stranded (left z l' k).linears)
      -- filling back never refuses, and leaves one assignment only
      pub answered : (ws ws' : List ℕ) (r : ℕ) → Assignment (fused z l) ws → Fills ws ws' r → r ≡ 0
      pub fills : (ws : List ℕ) → Assignment (fused z l) ws → Fills ws (filled_list (fused z l) flagged_left ws) 0
      pub one_filling : (ws ws' : List ℕ) → Assignment (fused z l) ws → Fills ws ws' 0 → ws' ≡ filled_list (fused z l) flagged_left ws
      pub filled_words : (ws ws' : List ℕ) → Assignment (fused z l) ws → Fills ws ws' 0 → Assignment (fused z l) ws'
      -- (b) these constraints hold exactly when the filled-back assignment satisfies all the original constraints
      pub exactly : (ws ws' : List ℕ) → Assignment (fused z l) ws → Fills ws ws' 0 → Holds ws standing ↔ Holds ws' (fused z l)
      -- (c) no other filling of the uncommitted defined wires does
      pub no_other : (ws ws' vs : List ℕ) → Assignment (fused z l) ws → Fills ws ws' 0 → length vs ≡ z.wires → Agrees ws vs → Holds vs (fused z l) → vs ≡ ws'
      -- (d) an assignment that satisfies the originals satisfies every patched constraint, stranded ones too
      pub still : (ws : List ℕ) → Assignment (fused z l) ws → Holds ws (fused z l) → Holds ws (left z l' k)
      -- (e) overwrite its uncommitted defined wires at will, fill back, and it returns bit for bit
      pub returns : (ws vs vs' : List ℕ) → Assignment (fused z l) ws → Assignment (fused z l) vs → Holds ws (fused z l) → Agrees ws vs → Fills vs vs' 0 → vs' ≡ ws
