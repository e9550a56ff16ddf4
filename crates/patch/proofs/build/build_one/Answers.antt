-- The two ways of the definition, a place in the list or none. Assumes nothing.
use Rattle.patch.proofs.Builds.{cursor_grows, build_full, build_room}
use Rattle.patch.specs.Building.{Built, built_by}
use Rattle.patch.specs.Spelling.{Source, source_of, spell}
use Rattle.patch.specs.Steps.{Written}
use Rattle.operand.specs.Numbers.{Term, Operand, operand_of}
use native.Mathlib.Omega.{arith}
use Prim.Native.Nat.{ℕ}
use Rattle.patch.proofs.build.build_one.Goals as goal

pub returns-then-list-n : goal.returns-then-list-n
returns-then-list-n c = let q : Source = source_of c.args.source.now in let go : Term → Written → Written = spell q c.args.below in let f : ℕ → Operand = operand_of c.args.source.now.stores.old.now c.args.source.now.stores.new.now in let z : Built = built_by c.args.out.now c.args.list.now c.args.progress in
    (build_full go (f c.args.h) z c.if-list-n.true, c.requires.rooted.1.0)

pub process_operand-c-requires : goal.process_operand-c-requires
process_operand-c-requires c = record { readable = c.requires.ready.0; within = c.requires.ready.1; rooted = (c.requires.rooted.0, c.requires.rooted.1.0) }

pub handle-requires : goal.handle-requires
handle-requires c = let q : Source = source_of c.args.source.now in let go : Term → Written → Written = spell q c.args.below in let f : ℕ → Operand = operand_of c.args.source.now.stores.old.now c.args.source.now.stores.new.now in
    (cursor_grows q c.args.below (f c.args.h) c.args.out.now _ c.args.progress.cursor c.process_operand-c.result c.process_operand-c.ensures.0, omega (arith, c.process_operand-c.ensures.1, c.requires.rooted.1.1))

pub returns : goal.returns
returns c = let q : Source = source_of c.args.source.now in let go : Term → Written → Written = spell q c.args.below in let f : ℕ → Operand = operand_of c.args.source.now.stores.old.now c.args.source.now.stores.new.now in let z : Built = built_by c.args.out.now c.args.list.now c.args.progress in
    (build_room go (f c.args.h) z _ c.handle.result c.if-list-n.false c.process_operand-c.ensures.0 c.handle.ensures, c.process_operand-c.ensures.1)
