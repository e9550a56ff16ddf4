-- What is left to store, stored from where the walk stands, makes the bytes that are asked for. Assumes nothing.
use Rattle.lower.specs.Model.{Definition}
use Rattle.house_write.proofs.Storing.{all_at, operand_bytes_lem, definition_size, definitions_size, definitions_narrow, sets_definitions, sets_no_definitions, no_definitions_size}
use mathlib.Core.Path.{◌≡◌, sym, ◌∙◌, refl}
use Prim.Native.Nat.{◌+◌, ◌<◌, ◌≤◌}
use native.Mathlib.Omega.{arith}
use lib.ListN.{length, get_or}
use Rattle.house_file.specs.Format.{linear_entry, entry_bytes}
use Rattle.operand.specs.Numbers.{operand_of}
use Rattle.house_write.proofs.emit.definitions.Goals as goal

pub loop-i-init : goal.loop-i-init
loop-i-init c = record { bytes = refl; place = refl; narrow = c.requires.definitions_fit.1; near = omega arith }

pub definition-q-requires : goal.definition-q-requires
definition-q-requires c =
    let a = c.args in
    let i = c.loop-i.i in
    let y = all_at a.rhss.now i c.requires.definitions_fit.0 (omega arith) in
    let k = definitions_narrow a.rhss.now i (omega arith) c.loop-i.invariant.narrow in
    (y, (omega (arith, c.type_inv.dsts i), (k.0, omega (arith, c.loop-i.invariant.near, c.requires))))

pub loop-i-preserved : goal.loop-i-preserved
loop-i-preserved c =
    let a = c.args in
    let i = c.loop-i.i in
    let f = operand_of a.stores.now.old.now a.stores.now.new.now in
    let h = get_or a.rhss.now i 0 in
    let d : Definition = record { dst = get_or a.dsts.now i 0; rhs = f h } in
    let in_dsts : i < length a.dsts.now = omega (arith, c.requires.place) in
    let in_rhss : i < length a.rhss.now = omega arith in
    let y = all_at a.rhss.now i c.requires.definitions_fit.0 in_rhss in
    let k = definitions_narrow a.rhss.now i in_rhss c.loop-i.invariant.narrow in
    let e : c.loop-i.q + length (entry_bytes (linear_entry d)) ≡ c.definition-q.result = omega (arith, c.definition-q.ensures.0, definition_size d, operand_bytes_lem a.stores.now.old.now a.stores.now.new.now h y.stands) in
    record {
      bytes = c.loop-i.invariant.bytes ∙ sets_definitions f a.dsts.now a.rhss.now i in_dsts in_rhss c.loop-i.out c.loop-i.q c.definition-q.result e ∙ rw c.definition-q.ensures.1;
      place = omega (arith, c.loop-i.invariant.place, e, definitions_size f a.dsts.now a.rhss.now i in_dsts in_rhss);
      narrow = k.1;
      near = omega (arith, c.loop-i.invariant.near, c.definition-q.ensures.0, k.0);
    }

pub returns : goal.returns
returns c =
    let a = c.args in
    let f = operand_of a.stores.now.old.now a.stores.now.new.now in
    let over : length a.dsts.now ≤ c.loop-i.i = omega (arith, c.requires.place) in (
      omega (arith, c.loop-i.invariant.place, no_definitions_size f a.dsts.now a.rhss.now c.loop-i.i over),
      (omega (arith, c.loop-i.invariant.near), sym (c.loop-i.invariant.bytes ∙ sets_no_definitions f a.dsts.now a.rhss.now c.loop-i.i over c.loop-i.out c.loop-i.q)),
    )
