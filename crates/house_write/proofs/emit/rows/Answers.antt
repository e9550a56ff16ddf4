-- What is left to store, stored from where the walk stands, makes the bytes that are asked for. Assumes nothing.
use mathlib.Core.Path.{◌≡◌, sym, ap, ◌∙◌, refl}
use Prim.Native.Nat.{ℕ, ◌+◌, ◌-◌, ◌*◌}
use native.Mathlib.Omega.{arith}
use lib.ListN.{length, take}
use mathlib.Core.List.{List, map}
use Rattle.house_file.specs.Format.{row_entry, entry_bytes, list_bytes}
use Rattle.lower.proofs.Laws.{all_left, all_right}
use Rattle.lower.specs.Stores.{rows_of}
use Rattle.operand.specs.Numbers.{operand_of}
use Rattle.house_write.proofs.Counting.{rows_room, rows_narrow, rows_apart}
use Rattle.house_write.proofs.Storing.{row_size, sets_rows, rows_size, sets_no_rows, no_rows_size}
use Rattle.house_write.specs.Sizes.{Ready, rows_wide}
use Rattle.house_write.proofs.emit.rows.Goals as goal

pub split_at-requires : goal.split_at-requires
split_at-requires c =
    omega (arith, c.loop.invariant.room, rows_room c.args.k c.args.n c.loop.counter c.loop.rest.now (omega arith))

pub row-q-requires : goal.row-q-requires
row-q-requires c =
    let a = c.args in
    let rest = c.loop.rest.now in
    let s = c.split_at.ensures in
    let y = all_left (Ready a.stores.now.old.now a.stores.now.new.now) (take a.k rest) _ (rw (rows_apart a.k a.n c.loop.counter rest (omega arith)) at c.loop.invariant.ready) in
    let w = rows_narrow a.k a.n c.loop.counter rest (omega arith) c.loop.invariant.narrow in
    record {
      place = (c.requires.place.0, (omega (arith, s.front_len, c.requires), omega (arith, c.loop.invariant.near, c.requires)));
      operands_fit = rw s.front (y, w.0);
    }

pub loop-preserved : goal.loop-preserved
loop-preserved c =
    let a = c.args in
    let old = a.stores.now.old.now in
    let new = a.stores.now.new.now in
    let f = operand_of old new in
    let rest = c.loop.rest.now in
    let i = c.loop.counter in
    let s = c.split_at.ensures in
    let here = take a.k rest in
    let y = rw (rows_apart a.k a.n i rest (omega arith)) at c.loop.invariant.ready in
    let w = rows_narrow a.k a.n i rest (omega arith) c.loop.invariant.narrow in
    let g = rw s.front at c.row-q.ensures in
    let size = row_size old new a.tag here c.requires.place.0 (all_left (Ready old new) here _ y) in
    let e : c.loop.q + length (entry_bytes (row_entry a.tag (map f here))) ≡ c.row-q.result = omega (arith, g.0, size) in
    record {
      bytes = c.loop.invariant.bytes ∙ sets_rows f a.tag a.k a.n i rest (omega arith) c.loop.out c.loop.q c.row-q.result e ∙ rw (g.1, s.back);
      place = rw s.back (omega (arith, c.loop.invariant.place, e, rows_size f a.tag a.k a.n i rest (omega arith)));
      ready = rw s.back (all_right (Ready old new) here _ y);
      narrow = rw s.back w.1;
      room = omega (arith, c.loop.invariant.room, s.back_len, rows_room a.k a.n i rest (omega arith));
      near = omega (arith, c.loop.invariant.near, g.0, w.0);
    }

pub returns : goal.returns
returns c =
    let a = c.args in
    let done : a.n - c.loop.counter ≡ 0 = omega arith in
    let f = operand_of a.stores.now.old.now a.stores.now.new.now in
    let rest = c.loop.rest.now in (
      omega (arith, c.loop.invariant.place, ap (λ (n : ℕ). length (list_bytes (map (row_entry a.tag) (rows_of f a.k n rest)))) done, no_rows_size f a.tag a.k rest),
      (omega (arith, c.loop.invariant.near), sym (c.loop.invariant.bytes ∙ rw (done, sets_no_rows f a.tag a.k rest c.loop.out c.loop.q))),
    )
