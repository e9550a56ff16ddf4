-- A definition's payload has four bytes and six a term. Assumes nothing.
use mathlib.Core.Path.{◌≡◌, sym, ap, ◌∙◌}
use mathlib.Core.Bool.{true, false}
use Prim.Native.Nat.{ℕ, ◌+◌}
use borrow.Author.Tests.{lt-ltb, le-ltb}
use native.Mathlib.Omega.{arith}
use lib.ListN.{get_or, drop_of_length-le}
use Rattle.operand.specs.declared.WireOperand.{WireOperand}
use Rattle.house_write.specs.Sizes.{handle_size, is_wide, definitions_wide}
use Rattle.lower.specs.Faults.{length_of}
use Rattle.lower.proofs.Firsts.{drop_step}
use Rattle.lower.proofs.Somes.{some_stop, some_go}
use Rattle.house_write.proofs.count.definitions_wide.Goals as goal

pub returns-then-len-gt-MAX_PAYLOAD : goal.returns-then-len-gt-MAX_PAYLOAD
unfolding definitions_wide
returns-then-len-gt-MAX_PAYLOAD c =
    let h = get_or c.args.rhss.now c.loop-h.h-index 0 in
    let n : c.len.result ≡ length_of h = c.len.ensures ∙ ap (λ (o : WireOperand). o.len) c.from_number.ensures in
    let e : is_wide (2 + handle_size h) ≡ true = lt-ltb 65535 (2 + handle_size h) (omega (arith, n, c.if-len-gt-MAX_PAYLOAD.true)) in
    sym (c.loop-h.invariant ∙ some_stop (λ (x : ℕ). is_wide (2 + handle_size x)) c.args.rhss.now c.loop-h.h-index h (drop_step c.args.rhss.now c.loop-h.h-index 0 c.loop-h-test.true) e)

pub loop-h-preserved : goal.loop-h-preserved
unfolding definitions_wide
loop-h-preserved c =
    let h = get_or c.args.rhss.now c.loop-h.h-index 0 in
    let n : c.len.result ≡ length_of h = c.len.ensures ∙ ap (λ (o : WireOperand). o.len) c.from_number.ensures in
    let e : is_wide (2 + handle_size h) ≡ false = le-ltb 65535 (2 + handle_size h) (omega (arith, n, c.if-len-gt-MAX_PAYLOAD.false)) in
    c.loop-h.invariant ∙ some_go (λ (x : ℕ). is_wide (2 + handle_size x)) c.args.rhss.now c.loop-h.h-index h (drop_step c.args.rhss.now c.loop-h.h-index 0 c.loop-h-test.true) e

pub returns : goal.returns
unfolding definitions_wide
returns c = sym (c.loop-h.invariant ∙ rw (drop_of_length-le c.args.rhss.now {i = c.loop-h.h-index} c.loop-h-test.false))
