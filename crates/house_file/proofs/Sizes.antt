-- How many bytes the parts of a file have. Assumes nothing.
use mathlib.Core.Path.{◌≡◌, refl, ◌∙◌}
use mathlib.Core.Bool.{Bool, true, false, cond}
use mathlib.Core.List.{List, [], ◌∷◌}
use Prim.Native.Nat.{ℕ, ◌+◌, ◌*◌}
use native.Mathlib.Omega.{arith}
use lib.Dec.{eqb}
use lib.ListN.{length, length-append}
use Rattle.operand.specs.Numbers.{Term, Operand}
use Rattle.lower.specs.Lists.{sum_of}
use Rattle.house_file.specs.Format.{le16, terms_bytes, operands_bytes, operand_size, Entry, LINEAR, payload_bytes, payload_size, entry_bytes, list_bytes, file_bytes, file_size}

pub terms_size : (ts : List Term) → length (terms_bytes ts) ≡ 6 * length ts
unfolding terms_bytes
terms_size [] = refl
terms_size (t ∷ ts) = omega (arith, terms_size ts)

pub operands_size : (os : List Operand) → length (operands_bytes os) ≡ sum_of operand_size os
unfolding operands_bytes
operands_size [] = refl
operands_size (o ∷ os) = omega (arith, length-append (terms_bytes o) (operands_bytes os), terms_size o, operands_size os)

dst_size : (b : Bool) (d : ℕ) → length (cond b (le16 d) []) ≡ cond b 2 0
dst_size true d = refl
dst_size false d = refl

pub payload_size_lem : (e : Entry) → length (payload_bytes e) ≡ payload_size e
unfolding payload_bytes payload_size
payload_size_lem e =
    length-append (cond (eqb e.tag LINEAR) (le16 e.dst) []) (operands_bytes e.operands)
    ∙ rw (dst_size (eqb e.tag LINEAR) e.dst, operands_size e.operands)

pub entry_size : (e : Entry) → length (entry_bytes e) ≡ 3 + payload_size e
unfolding entry_bytes
entry_size e = omega (arith, payload_size_lem e)

pub list_size : (es : List Entry) → length (list_bytes es) ≡ sum_of (λ (e : Entry). 3 + payload_size e) es
unfolding list_bytes
list_size [] = refl
list_size (e ∷ es) = omega (arith, length-append (entry_bytes e) (list_bytes es), entry_size e, list_size es)

pub file_size_lem : (wires : ℕ) (es : List Entry) → length (file_bytes wires es) ≡ file_size es
unfolding file_bytes file_size
file_size_lem wires es = omega (arith, length-append (list_bytes es) (7 ∷ le16 0), list_size es)
