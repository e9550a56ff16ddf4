-- Each list after the one before it. Assumes nothing.
use mathlib.Core.Path.{◌≡◌, sym, ◌∙◌}
use mathlib.Core.List.{map}
use Prim.Native.Nat.{◌*◌}
use native.Mathlib.Omega.{arith}
use lib.ListN.{take}
use lib.Seq.{length-take-le}
use Rattle.house_file.specs.Format.{row_entry, linear_entry, entries_of}
use Rattle.lower.specs.Stores.{stores_of, rows_of, definitions_of, system_of}
use Rattle.operand.specs.Numbers.{operand_of}
use Rattle.house_write.proofs.Storing.{sets_lists, lists_size}
use Rattle.house_write.proofs.Whole.{fine, few, ready, narrow}
use Rattle.house_write.proofs.emit.lists.Goals as goal

pub rows-a-requires : goal.rows-a-requires
rows-a-requires c =
    let z = c.args.system.now.sizes in
    let s = stores_of c.args.system.now in
    let y = fine z s c.requires.0 in
    let k = few z s c.requires.0 in
    record { place = omega (arith, y.ands_in, k, c.requires.1.1); rows_fit = (ready z s y _ y.ands_sound, (narrow z s y c.requires.1.0).ands_narrow) }

pub rows-b-requires : goal.rows-b-requires
rows-b-requires c =
    let z = c.args.system.now.sizes in
    let s = stores_of c.args.system.now in
    let y = fine z s c.requires.0 in
    let k = few z s c.requires.0 in
    record { place = omega (arith, y.imuls_in, k, c.requires.1.1, c.rows-a.ensures.1.0); rows_fit = (ready z s y _ y.imuls_sound, (narrow z s y c.requires.1.0).imuls_narrow) }

pub rows-c-requires : goal.rows-c-requires
rows-c-requires c =
    let z = c.args.system.now.sizes in
    let s = stores_of c.args.system.now in
    let y = fine z s c.requires.0 in
    let k = few z s c.requires.0 in
    record { place = omega (arith, y.bmuls_in, k, c.requires.1.1, c.rows-a.ensures.1.0, c.rows-b.ensures.1.0); rows_fit = (ready z s y _ y.bmuls_sound, (narrow z s y c.requires.1.0).bmuls_narrow) }

pub rows-d-requires : goal.rows-d-requires
rows-d-requires c =
    let z = c.args.system.now.sizes in
    let s = stores_of c.args.system.now in
    let y = fine z s c.requires.0 in
    let k = few z s c.requires.0 in
    let one : z.zeros ≡ 1 * z.zeros = omega arith in
    record { place = omega (arith, y.zeros_in, k, c.requires.1.1, c.rows-a.ensures.1.0, c.rows-b.ensures.1.0, c.rows-c.ensures.1.0); rows_fit = (rw one at (ready z s y (take z.zeros s.zeros) y.zeros_sound), (narrow z s y c.requires.1.0).zeros_narrow) }

pub slice_bounds-definitions-end : goal.slice_bounds-definitions-end
slice_bounds-definitions-end c =
    let z = c.args.system.now.sizes in
    let s = stores_of c.args.system.now in
    sym (length-take-le z.linears s.dsts (fine z s c.requires.0).dsts_in)

pub slice_bounds-definitions-end-2 : goal.slice_bounds-definitions-end-2
slice_bounds-definitions-end-2 c =
    let z = c.args.system.now.sizes in
    let s = stores_of c.args.system.now in
    sym (length-take-le z.linears s.rhss (fine z s c.requires.0).rhss_in)

pub definitions-requires : goal.definitions-requires
definitions-requires c =
    let z = c.args.system.now.sizes in
    let s = stores_of c.args.system.now in
    let y = fine z s c.requires.0 in
    let k = few z s c.requires.0 in
    let in_dsts = length-take-le z.linears s.dsts y.dsts_in in
    let in_rhss = length-take-le z.linears s.rhss y.rhss_in in
    record { place = omega (arith, in_dsts, in_rhss, k, c.requires.1.1, c.rows-a.ensures.1.0, c.rows-b.ensures.1.0, c.rows-c.ensures.1.0, c.rows-d.ensures.1.0); definitions_fit = (ready z s y _ y.rhss_sound, (narrow z s y c.requires.1.0).rhss_narrow) }

pub returns : goal.returns
unfolding entries_of system_of
returns c =
    let z = c.args.system.now.sizes in
    let s = stores_of c.args.system.now in
    let y = fine z s c.requires.0 in
    let k = few z s c.requires.0 in
    let in_rhss = length-take-le z.linears s.rhss y.rhss_in in
    let f = operand_of s.old s.new in
    let a = map (row_entry 2) (rows_of f 3 z.ands s.ands) in
    let i = map (row_entry 3) (rows_of f 4 z.imuls s.imuls) in
    let b = map (row_entry 4) (rows_of f 6 z.bmuls s.bmuls) in
    let o = map (row_entry 5) (rows_of f 1 z.zeros s.zeros) in
    let d = map linear_entry (definitions_of f (take z.linears s.dsts) (take z.linears s.rhss)) in (
      c.definitions.ensures.0 ∙ lists_size a i b o d c.args.p _ _ _ _ c.rows-a.ensures.0 c.rows-b.ensures.0 c.rows-c.ensures.0 c.rows-d.ensures.0,
      (
        omega (arith, k, in_rhss, c.requires.1.1, c.rows-a.ensures.1.0, c.rows-b.ensures.1.0, c.rows-c.ensures.1.0, c.rows-d.ensures.1.0, c.definitions.ensures.1.0),
        c.definitions.ensures.1.1 ∙ rw (c.rows-d.ensures.1.1, c.rows-c.ensures.1.1, c.rows-b.ensures.1.1, c.rows-a.ensures.1.1)
            (sym (sets_lists a i b o d c.args.p _ _ _ _ c.rows-a.ensures.0 c.rows-b.ensures.0 c.rows-c.ensures.0 c.rows-d.ensures.0 c.args.out.now)),
      ),
    )
