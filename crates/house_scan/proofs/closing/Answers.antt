-- An end field whose payload is empty and after which nothing stands ends the reading; each return is one failure of that. Assumes nothing.
use Rattle.house_scan.specs.Parts.{end_fault}
use Rattle.house_file.specs.Decoding.{u16_at}
use borrow.Author.Tests.{lt-ltb, le-ltb, eq-eqb, ne_eqb}
use native.Mathlib.Omega.{arith}
use Prim.Native.Nat.{◌+◌}
use mathlib.Core.Path.{◌≡◌}
use Rattle.house_scan.proofs.closing.Goals as goal

pub returns-then-after-end : goal.returns-then-after-end
unfolding end_fault
returns-then-after-end c =
    let h : u16_at c.args.s.now (c.args.at + 1) ≡ 0 → ⊥ = λ e. omega arith in
    simp (ne_eqb _ _ h)

pub returns-then-after-s : goal.returns-then-after-s
unfolding end_fault
returns-then-after-s c =
    let h : u16_at c.args.s.now (c.args.at + 1) ≡ 0 = omega arith in
    simp (eq-eqb _ _ h, lt-ltb _ _ c.if-after-s.true)

pub returns : goal.returns
unfolding end_fault
returns c =
    let h : u16_at c.args.s.now (c.args.at + 1) ≡ 0 = omega arith in
    simp (eq-eqb _ _ h, le-ltb _ _ c.if-after-s.false)
