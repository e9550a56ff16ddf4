-- What fusing leaves in the lent stores (01, "The patched lists", "Numbers given back"), for a set of committed wires.
--
--   Lent             all that is lent: the term stores, the numbers of operands of the five lists, destinations, and a flag a wire
--   input, output    the system to fuse, whose operands stand in the old store; the patched one, whose new operands stand in the new store
--   flags_of          a flag a wire
--   numbers          the numbers of the operands that are rebuilt, in the order of the rebuilding
--   is_kept           a row of operand numbers is not rebuilt
--   leaves z l c     what is left of what was lent: each store's front is what 01 says, and the rest is as it was
--   sizes_after       the sizes of the patched system
--   has_room          the whole result fits
--   counts_of         what is told of it
--
-- Assumes nothing.
use Rattle.std.specs.Prelude.{ℕ, ◌+◌, Bool, cond, not, ◌&&◌, List, [], ◌++◌, map, leb, length, take, drop}
use Rattle.std.proofs.lemmas.List.Edits.{sets}
use Rattle.operand.specs.Numbers.{operand_of, term_number}
use Rattle.lower.specs.declared.Sizes.{Sizes}
use Rattle.lower.specs.Lists.{keep}
use Rattle.lower.specs.Model.{System, destinations}
use Rattle.lower.specs.Stores.{Stores, stores, system_of}
use Rattle.patch.specs.Lists.{up_to}
use Rattle.patch.specs.Handles.{handles_from, keep_by}
use Rattle.patch.specs.Patch.{expand_operand, rebuilt, row_rebuilds, rebuilds, written, terms_written, commits, gone, stranded, stays, kept}
use Rattle.apply.specs.Applied.{kept_rows}
use Rattle.fusion.specs.declared.Counts.{Counts}

pub record Lent : Type 0 where
  pub old : List ℕ
  pub new : List ℕ
  pub ands : List ℕ
  pub imuls : List ℕ
  pub bmuls : List ℕ
  pub zeros : List ℕ
  pub dsts : List ℕ
  pub rhss : List ℕ
  pub flags : List ℕ

abbrev pub lent : List ℕ → List ℕ → List ℕ → List ℕ → List ℕ → List ℕ → List ℕ → List ℕ → List ℕ → Lent
lent old new ands imuls bmuls zeros dsts rhss flags =
    record {
      old = old;
      new = new;
      ands = ands;
      imuls = imuls;
      bmuls = bmuls;
      zeros = zeros;
      dsts = dsts;
      rhss = rhss;
      flags = flags;
    }

abbrev pub input : Lent → Stores
input l = stores l.old [] l.ands l.imuls l.bmuls l.zeros l.dsts l.rhss

abbrev pub output : Lent → Stores
output l = stores l.old l.new l.ands l.imuls l.bmuls l.zeros l.dsts l.rhss

-- p is the system, c the set of committed wires
module _ (p : System) (c : ℕ → Bool) where
  -- "fusing writes 1 or 0"
  unfoldable pub flags_of : List ℕ
  flags_of = map (λ (w : ℕ). cond (c w) 1 0) (up_to p.wires)

  -- "New terms go to a second store": one operand after the other, from its front on
  unfoldable pub numbers : List ℕ
  numbers = handles_from 0 (map (expand_operand p c) (rebuilds p c))

  -- where the numbers of each kind begin
  abbrev pub ands_end : ℕ
  ands_end = length (row_rebuilds p c p.ands)

  abbrev pub imuls_end : ℕ
  imuls_end = ands_end + length (row_rebuilds p c p.imuls)

  abbrev pub bmuls_end : ℕ
  bmuls_end = imuls_end + length (row_rebuilds p c p.bmuls)

  abbrev pub zeros_end : ℕ
  zeros_end = bmuls_end + length (row_rebuilds p c p.zeros)

  -- "a lent store too short for the whole result, or over 16,384 terms in the result store"
  unfoldable pub has_room : Lent → Bool
  has_room l = leb (terms_written p c) 16384 && (leb (terms_written p c) (length l.new) && leb p.wires (length l.flags))

  -- "gone, stranded, committed, terms written, kept"
  unfoldable pub counts_of : Counts
  counts_of =
      record {
        gone = length (gone p c);
        stranded = length (stranded p c);
        committed = length (commits p c);
        written = terms_written p c;
        kept = kept p c;
      }

  -- "Definitions before = gone + stranded + committed; the other four lists keep their lengths"
  unfoldable pub sizes_after : Sizes → Sizes
  sizes_after z =
      record {
        wires = z.wires;
        ands = z.ands;
        imuls = z.imuls;
        bmuls = z.bmuls;
        zeros = z.zeros;
        linears = length (stranded p c) + length (commits p c);
      }

-- z is the sizes of the system, l what is lent
module _ (z : Sizes) (l : Lent) where
  abbrev pub fused : System
  fused = system_of z (input l)

  -- "Every non-linear constraint that names a defined wire is rebuilt"
  unfoldable pub is_kept : List ℕ → Bool
  is_kept r = not (rebuilt fused.linears (map (operand_of l.old []) r))

  -- "Each list: what was neither rebuilt nor gone, in old order, then what was rebuilt"; "A store keeps what an answer doesn't fill"
  unfoldable pub leaves : (ℕ → Bool) → Lent
  leaves c =
      lent l.old
      (sets l.new 0 (map term_number (written fused c)))
      (sets l.ands 0 (kept_rows is_kept 3 z.ands l.ands ++ take (ands_end fused c) (numbers fused c)))
      (sets l.imuls 0 (kept_rows is_kept 4 z.imuls l.imuls ++ take (length (row_rebuilds fused c fused.imuls)) (drop (ands_end fused c) (numbers fused c))))
      (sets l.bmuls 0 (kept_rows is_kept 6 z.bmuls l.bmuls ++ take (length (row_rebuilds fused c fused.bmuls)) (drop (imuls_end fused c) (numbers fused c))))
      (sets l.zeros 0 (kept_rows is_kept 1 z.zeros l.zeros ++ take (length (row_rebuilds fused c fused.zeros)) (drop (bmuls_end fused c) (numbers fused c))))
      (sets l.dsts 0 (keep (stays fused c) (take z.linears l.dsts) ++ destinations (commits fused c)))
      (sets l.rhss 0 (keep_by (stays fused c) (take z.linears l.dsts) (take z.linears l.rhss) ++ drop (zeros_end fused c) (numbers fused c)))
      (sets l.flags 0 (flags_of fused c))
