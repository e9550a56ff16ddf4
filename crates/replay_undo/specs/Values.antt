-- The values of operands: where they stand, and what is counted of them.
--
--   rows_of n            n, or the limit of rows and definitions where n is more
--   places_of z          where the values of each list begin, in the writer's order
--   count_of z           how many values there are
--   sizes_after z k      the sizes of the patched system
--   holding_of           how many of the first n definitions hold: the value of the right side is the destination's word
--   definitions_seen     these counted, and all values digested
--   same_values          how many values of And, Imul, Bmul and Zero are the same in both lists, up to the order of the rows
--   compared_of          the values of a patched system against those before, counted
--
-- Assumes nothing.
use Rattle.std.specs.Prelude.{ℕ, ◌+◌, ◌*◌, min, List, slice_index}
use Rattle.lower.specs.declared.Sizes.{Sizes}
use Rattle.fusion.specs.declared.Counts.{Counts}
use Rattle.replay_undo.specs.declared.tally.Tally.{Tally}
use Rattle.replay_undo.specs.declared.values.Places.{Places}
use Rattle.replay_undo.specs.Places.{turns, same_of, same_rows, digest_of}
use Rattle.replay_undo.specs.Tallies.{system_counted, values_counted, definitions_counted}

abbrev pub rows_of : ℕ → ℕ
rows_of n = min n 1024

unfoldable pub places_of : Sizes → Places
places_of z =
    record {
      imuls = 3 * rows_of z.ands;
      bmuls = 3 * rows_of z.ands + 4 * rows_of z.imuls;
      zeros = 3 * rows_of z.ands + 4 * rows_of z.imuls + 6 * rows_of z.bmuls;
      linears = 3 * rows_of z.ands + 4 * rows_of z.imuls + 6 * rows_of z.bmuls + rows_of z.zeros;
    }

unfoldable pub count_of : Sizes → ℕ
count_of z = (places_of z).linears + rows_of z.linears

abbrev pub sizes_after : Sizes → Counts → Sizes
sizes_after z k =
    record {
      wires = z.wires;
      ands = z.ands;
      imuls = z.imuls;
      bmuls = z.bmuls;
      zeros = z.zeros;
      linears = rows_of k.stranded + rows_of k.committed;
    }

abbrev pub holding_of : List ℕ → List ℕ → ℕ → ℕ → List ℕ → ℕ
holding_of dsts values at n words = turns ℕ (λ i c. c + same_of (slice_index values (at + i)) (slice_index words (slice_index dsts i))) n 0

unfoldable pub definitions_seen : List ℕ → List ℕ → Sizes → List ℕ → Tally → Tally
definitions_seen dsts values z words t =
    definitions_counted t (holding_of dsts values (places_of z).linears (rows_of z.linears) words) (rows_of z.linears)
    (digest_of values ((places_of z).linears + rows_of z.linears) t.digest)

unfoldable pub same_values : List ℕ → List ℕ → Sizes → ℕ
same_values a b z =
    same_rows a b 0 (rows_of z.ands) 3
    + same_rows a b (places_of z).imuls (rows_of z.imuls) 4
    + same_rows a b (places_of z).bmuls (rows_of z.bmuls) 6
    + same_rows a b (places_of z).zeros (rows_of z.zeros) 1

unfoldable pub compared_of : List ℕ → List ℕ → Sizes → List ℕ → List ℕ → Tally → Tally
compared_of out values z dsts words t =
    definitions_seen dsts out z words (values_counted (system_counted t) (same_values out values z) (places_of z).linears)
