-- The row is struck, or moved down whole. Assumes nothing.
use Rattle.apply.proofs.Closing.{paste_sets, kept_no, kept_yes, untouched-told}
use lib.Seq.{paste, length-take-le}
use lib.ListN.{take, drop, length-drop}
use native.Mathlib.Omega.{arith}
use mathlib.Core.Bool.{not}
use mathlib.Core.Path.{◌≡◌, ap, ◌∙◌}
use Prim.Native.Nat.{ℕ, ◌+◌, ◌-◌}
use Rattle.apply.proofs.keep_row.Goals as goal

pub returns-then-row_names : goal.returns-then-row_names
returns-then-row_names c = let row = take c.args.k (drop c.args.from c.args.hs.now) in
    let e : c.args.from + c.args.k - c.args.from ≡ c.args.k = omega arith in
    let k = kept_no _ c.args.hs.now c.args.to row
    (untouched-told c.args.stores.now.old.now c.args.stores.now.new.now c.args.table.now row _ _ (ap (λ (m : ℕ). take m (drop c.args.from c.args.hs.now)) e) c.row_names.ensures ∙ ap not c.if-row_names.true) in
    record { hs_after = k.0; value = k.1 }

pub returns : goal.returns
returns c = let row = take c.args.k (drop c.args.from c.args.hs.now) in
    let e : c.args.from + c.args.k - c.args.from ≡ c.args.k = omega arith in
    let k = kept_yes _ c.args.hs.now _ c.args.to c.args.k row
    (untouched-told c.args.stores.now.old.now c.args.stores.now.new.now c.args.table.now row _ _ (ap (λ (m : ℕ). take m (drop c.args.from c.args.hs.now)) e) c.row_names.ensures ∙ ap not c.if-row_names.false)
    (length-take-le c.args.k (drop c.args.from c.args.hs.now) (omega (arith, length-drop c.args.from c.args.hs.now, c.requires.1)))
    (c.copy_within.ensures.after ∙ ap (λ (m : ℕ). paste c.args.hs.now c.args.to (drop c.args.from c.args.hs.now) m) e
    ∙ paste_sets c.args.hs.now c.args.to (drop c.args.from c.args.hs.now) c.args.k (omega (arith, c.requires.0, c.requires.1)) (omega (arith, length-drop c.args.from c.args.hs.now, c.requires.1))) in
    record { hs_after = k.0; value = k.1 }
