-- No file that the reader accepts is as long as the longest that is looked at. Assumes nothing.
use mathlib.Core.Path.{◌≡◌, refl, ap}
use Prim.Native.Nat.{ℕ, zero, suc, ◌+◌, ◌*◌, ◌≤◌, ◌<◌}
use native.Mathlib.Omega.{arith}
use mathlib.Core.Bool.{Bool, true, false, cond}
use mathlib.Core.List.{List, [], ◌∷◌}
use lib.Dec.{eqb}
use lib.ListN.{length}
use Rattle.std.specs.Prelude.{Ok}
use Rattle.operand.specs.Numbers.{Operand}
use Rattle.lower.specs.declared.Sizes.{Sizes}
use Rattle.lower.specs.Lists.{All, done, more, sum_of}
use Rattle.house_file.specs.Format.{Entry, LINEAR, operand_size, payload_size, file_size, arity, EntryOk}
use Rattle.house_file.specs.Decoding.{entries_at}
use Rattle.house_file.specs.Reading.{total, read_of}
use Rattle.house_file.specs.declared.FileRead.{FileRead}
use Rattle.house_file.proofs.Sizes.{file_size_lem}
use Rattle.house_fill.specs.Layout.{terms_count, terms_in_all}
use Rattle.house_read.proofs.Answers.{read_fits}
use Rattle.house_read.proofs.Tallies.{terms_of_lem}
use Rattle.house_read.proofs.Exact.{accepted_entries, accepted_file}

operands_bytes_lem : (os : List Operand) → sum_of operand_size os ≡ 2 * length os + 6 * terms_count os
unfolding terms_count
operands_bytes_lem [] = refl
operands_bytes_lem (o ∷ os) = omega (arith, operands_bytes_lem os)

arity_few : (tag : ℕ) → arity tag ≤ 6
unfolding arity
arity_few tag = go (eqb tag 2) (eqb tag 3) (eqb tag 4)
  where
    go : (a b c : Bool) → cond a 3 (cond b 4 (cond c 6 1)) ≤ 6
    go true b c = omega arith
    go false true c = omega arith
    go false false true = omega arith
    go false false false = omega arith

entry_few : {w : ℕ} (e : Entry) → EntryOk w e → 3 + payload_size e ≤ 17 + 6 * terms_count e.operands
unfolding payload_size
entry_few e k = omega (arith, operands_bytes_lem e.operands, k.count_ok, arity_few e.tag, two (eqb e.tag LINEAR))
  where
    two : (b : Bool) → cond b 2 0 ≤ 2
    two true = omega arith
    two false = omega arith

entries_few : {w : ℕ} (es : List Entry) → All (EntryOk w) es → sum_of (λ (e : Entry). 3 + payload_size e) es ≤ 17 * length es + 6 * terms_in_all es
unfolding terms_in_all
entries_few [] done = omega arith
entries_few (e ∷ es) (more k h) = omega (arith, entry_few e k, entries_few es h)

entries_count : (s : List ℕ) (n at : ℕ) → length (entries_at s n at) ≡ n
unfolding entries_at
entries_count s zero at = refl
entries_count s (suc n) at = ap suc (entries_count s n _)

-- 8 bytes, 17 and less for each of 2,048 fields, and 6 for each of 8,192 terms
pub accepted_short : (s : List ℕ) (x : FileRead) → All (λ (b : ℕ). b < 256) s → read_of s ≡ Ok x → length s ≤ 83976
unfolding file_size
accepted_short s x b e =
    let es = entries_at s (total x.sizes) 5 in
    let k = accepted_entries s x.sizes x.terms e in
    let f = read_fits s x e in
    omega (
      arith,
      ap length (accepted_file s x.sizes x.terms e b),
      file_size_lem x.sizes.wires es,
      entries_few es k.sound.entries_ok,
      entries_count s (total x.sizes) 5,
      terms_of_lem x.sizes.wires es k.sound.entries_ok,
      k.sound.limits.terms_few,
      f.0,
      f.1,
    )
