-- A term and an operand are one number each, and only one. Assumes nothing.
use mathlib.Core.Path.{◌≡◌, refl, sym, ap, ◌∙◌}
use mathlib.Core.Bool.{Bool, true, false, cond}
use Prim.Native.Nat.{ℕ, ◌+◌, ◌*◌, ◌/◌, ◌%◌, ◌<◌}
use native.Mathlib.Nat.{div-div-eq-div-mul}
use native.Mathlib.Omega.{arith}
use lib.Dec.{leb}
use borrow.Author.Tests.{le-leb, lt-leb, leb-true, leb-false}
use Rattle.operand.specs.declared.WireOperand.{WireOperand}
use Rattle.operand.specs.Numbers.{Term, term_of, term_number, operand_at, operand_number}

pub term_there : (t : Term) → t.wire < 65536 → t.inner < 65536 → term_of (term_number t) ≡ t
term_there t p q =
    let n = term_number t in
    let w : n % 65536 ≡ t.wire = omega arith in
    let d : n / 65536 ≡ t.inner + 65536 * t.outer = omega arith in
    let m : (t.inner + 65536 * t.outer) % 65536 ≡ t.inner = omega arith in
    let i : n / 65536 % 65536 ≡ t.inner = rw d m in
    let o : n / 4294967296 ≡ t.outer = omega arith in
    rw (w, i, o)

pub term_back : (n : ℕ) → term_number (term_of n) ≡ n
term_back n =
    let h : n / 4294967296 ≡ n / 65536 / 65536 = sym (div-div-eq-div-mul n 65536 65536) in
    parts n (n / 65536) (n / 4294967296) refl h
  where
    parts : (n d o : ℕ) → d ≡ n / 65536 → o ≡ d / 65536 → n % 65536 + 65536 * (d % 65536) + 4294967296 * o ≡ n
    parts n d o e f = omega arith

-- a term is one number only
pub term_unique : (a b : ℕ) → term_of a ≡ term_of b → a ≡ b
term_unique a b e = sym (term_back a) ∙ ap term_number e ∙ term_back b

pub operand_there : (o : WireOperand) → o.start < 2147483648 → o.len < 4294967296 → operand_at (operand_number o) ≡ o
operand_there o p q = go o.new refl
  where
    go : (b : Bool) → o.new ≡ b → operand_at (operand_number o) ≡ o
    go true e =
        let n = o.len + 4294967296 * o.start + 9223372036854775808 in
        let s : n / 4294967296 % 2147483648 ≡ o.start = omega arith in
        let l : n % 4294967296 ≡ o.len = omega arith in
        let b : leb 9223372036854775808 n ≡ true = le-leb 9223372036854775808 n (omega arith) in
        rw (e, s, l, b)
    go false e =
        let n = o.len + 4294967296 * o.start + 0 in
        let s : n / 4294967296 % 2147483648 ≡ o.start = omega arith in
        let l : n % 4294967296 ≡ o.len = omega arith in
        let b : leb 9223372036854775808 n ≡ false = lt-leb 9223372036854775808 n (omega arith) in
        rw (e, s, l, b)

pub operand_back : (h : ℕ) → h < 18446744073709551616 → operand_number (operand_at h) ≡ h
operand_back h p = go (leb 9223372036854775808 h) refl
  where
    go : (b : Bool) → leb 9223372036854775808 h ≡ b → h % 4294967296 + 4294967296 * (h / 4294967296 % 2147483648) + cond b 9223372036854775808 0 ≡ h
    go true e = let q = leb-true 9223372036854775808 h e in omega arith
    go false e = let q = leb-false 9223372036854775808 h e in omega arith
