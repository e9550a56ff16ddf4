-- The four lists one after the other. Assumes nothing.
use Rattle.patch.proofs.Builds.{roots_are, build_cut}
use Rattle.patch.specs.Building.{Built, built_by, build_all, Rooted, rows_in}
use Rattle.patch.specs.Spelling.{Source, source_of, spell}
use Rattle.patch.specs.Steps.{Written}
use Rattle.operand.specs.Numbers.{Term, Operand}
use native.Mathlib.Omega.{arith}
use mathlib.Core.List.{List}
use mathlib.Core.Path.{refl, sym, ap, ◌∙◌, subst}
use Prim.Native.Nat.{ℕ}
use lib.ListN.{take}
use Rattle.lower.specs.Lists.{All}
use Rattle.patch.proofs.build.build_root_patches.Goals as goal

pub build_rows-first-requires : goal.build_rows-first-requires
build_rows-first-requires c =
    record {
      ready = c.requires.buildable.ready;
      wide = omega arith;
      rooted = (c.requires.buildable.ands_there.1, c.requires.room);
    }

pub build_rows-second-requires : goal.build_rows-second-requires
build_rows-second-requires c =
    record {
      ready = c.requires.buildable.ready;
      wide = omega arith;
      rooted = (c.requires.buildable.imuls_there.1, (omega (arith, c.build_rows-first.ensures.1), omega (arith, c.requires.room.1)));
    }

pub build_rows-third-requires : goal.build_rows-third-requires
build_rows-third-requires c =
    record {
      ready = c.requires.buildable.ready;
      wide = omega arith;
      rooted = (c.requires.buildable.bmuls_there.1, (omega (arith, c.build_rows-second.ensures.1), omega (arith, c.requires.room.1)));
    }

pub build_rows-requires : goal.build_rows-requires
build_rows-requires c =
    record {
      ready = c.requires.buildable.ready;
      wide = omega arith;
      rooted = (subst (λ (n : ℕ). All (Rooted c.args.source.now.stores.old.now c.args.source.now.stores.new.now) (take n c.args.system.now.zeros.now)) (omega arith) c.requires.buildable.zeros_there.1, (omega (arith, c.build_rows-third.ensures.1), omega (arith, c.requires.room.1)));
    }

pub returns : goal.returns
returns c =
    let q : Source = source_of c.args.source.now in
    let y = c.args.system.now in
    let z = y.sizes in
    let have = c.requires.buildable in
    let go : Term → Written → Written = spell q z.linears in
    let i : List Operand = rows_in q 4 z.imuls y.imuls.now in
    let m : List Operand = rows_in q 6 z.bmuls y.bmuls.now in
    let o : List Operand = rows_in q 1 z.zeros y.zeros.now in (
      c.build_rows.ensures.0 ∙ build_cut go q 1 z.zeros _ y.zeros.now _ (omega arith) have.zeros_there.0 (omega arith)
          ∙ ap (build_all go o) (c.build_rows-third.ensures.0 ∙ build_cut go q 6 z.bmuls _ y.bmuls.now _ (omega arith) have.bmuls_there.0 refl)
          ∙ ap (λ (x : Built). build_all go o (build_all go m x)) (c.build_rows-second.ensures.0 ∙ build_cut go q 4 z.imuls _ y.imuls.now _ (omega arith) have.imuls_there.0 refl)
          ∙ ap (λ (x : Built). build_all go o (build_all go m (build_all go i x))) (c.build_rows-first.ensures.0 ∙ build_cut go q 3 z.ands _ y.ands.now _ (omega arith) have.ands_there.0 refl)
          ∙ sym (roots_are go q z y.ands.now y.imuls.now y.bmuls.now y.zeros.now (built_by c.args.out.now c.args.list.now c.args.progress)),
      omega (arith, c.build_rows.ensures.1),
    )
