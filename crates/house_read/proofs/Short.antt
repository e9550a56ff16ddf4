-- How far a file is read: a field has 17 bytes and less without its terms, and 6 a term; the counts are within the limits wherever the
-- reading goes on. So no file that is accepted has over 83,976 bytes, and no refusal stands later. Assumes nothing.
use mathlib.Core.Path.{◌≡◌, refl, sym, ◌∙◌, ap}
use mathlib.Core.Bool.{Bool, true, false, cond}
use mathlib.Core.List.{List}
use Prim.Native.Nat.{ℕ, zero, suc, ◌+◌, ◌*◌, ◌≤◌, ◌<◌}
use native.Mathlib.Omega.{arith}
use lib.ListN.{length, get_or}
use lib.Dec.{eqb}
use Rattle.lower.specs.declared.Sizes.{Sizes}
use Rattle.std.specs.Prelude.{Result, Ok, Err}
use Rattle.house_file.specs.declared.FileRead.{FileRead}
use Rattle.house_file.specs.declared.FileFault.{FileFault}
use Rattle.house_file.specs.Format.{LINEAR, arity}
use Rattle.house_file.specs.Decoding.{operand_next, operands_next, operands_terms, field_end, operands_start}
use Rattle.house_file.specs.Reading.{ROOM, END, counted, Small, counts_after, field_fault, none, sizes_of, total, read_of, Fault, fault, file_read, by_number}
use Rattle.house_file.specs.First.{FaultFrom, here, after, later, FirstFault, in_the_first, in_another}
use Rattle.house_file.specs.declared.Counts.{Counts}
use Rattle.refusal.specs.Refusals.{number_of}
use Rattle.house_file.proofs.Faults.{numbers_are}
use Rattle.house_read.specs.Answer.{room_of, with_room, ReadIs}
use Rattle.house_read.proofs.Round.{total-counted}
use Rattle.house_read.proofs.Runs.{Runs, ended, onward, entry-field, wires_are, read_whole}
use Rattle.house_read.proofs.Exact.{payload_fault_lem}
use Rattle.house_read.proofs.Refusals.{refusal_right}

-- ---- the bytes of a field

arity_few : (tag : ℕ) → arity tag ≤ 6
unfolding arity
arity_few tag = go (eqb tag 2) (eqb tag 3) (eqb tag 4)
  where
    go : (a b c : Bool) → cond a 3 (cond b 4 (cond c 6 1)) ≤ 6
    go true b c = omega arith
    go false true c = omega arith
    go false false true = omega arith
    go false false false = omega arith

start_few : (tag at : ℕ) → operands_start tag at ≤ at + 2
unfolding operands_start
start_few tag at = go (eqb tag LINEAR)
  where
    go : (b : Bool) → cond b (at + 2) at ≤ at + 2
    go true = omega arith
    go false = omega arith

next_place : (s : List ℕ) (k at : ℕ) → operands_next s k at ≡ at + 2 * k + 6 * operands_terms s k at
unfolding operands_next operands_terms
next_place s zero at = omega arith
next_place s (suc k) at = omega (arith, next_place s k (operand_next s at))

-- ---- where the reading can stand

-- 5 bytes of the first field, and those of the fields and terms that are counted
pub record Near (c : Counts) (at : ℕ) : Type 0 where
  pub small : Small c
  pub near : at ≤ 5 + 17 * total (sizes_of 0 c) + 6 * c.terms

pub near_first : Near none 5
near_first = record { small = (omega arith, (omega arith, omega arith)); near = omega arith }

pub near_next : (s : List ℕ) (w : ℕ) (c : Counts) (at : ℕ) → 0 < w → field_fault s w c at ≡ 0 → eqb (get_or s at 0) END ≡ false → Near c at
    → Near (counts_after s c at) (field_end s at)
unfolding counts_after counted
near_next s w c at z f g n =
    let tag = get_or s at 0 in
    let q = operands_start tag (at + 3) in
    let k = entry-field s w c at f g in
    let p = payload_fault_lem s w tag (field_end s at) (at + 3) z (omega arith) k.payload in
    record {
      small = k.small;
      near =
          omega (
            arith,
            n.near,
            p.ends,
            next_place s (arity tag) q,
            arity_few tag,
            start_few tag (at + 3),
            total-counted 0 c tag (operands_terms s (arity tag) q) k.head.low_ok k.head.high_ok,
          );
    }

pub near_short : {c : Counts} {at : ℕ} → Near c at → at ≤ 83973
near_short n = omega (arith, n.near, n.small.0, n.small.1.0, n.small.1.1)

fault_short : {s : List ℕ} {w n j : ℕ} {c : Counts} {at : ℕ} → 0 < w → FaultFrom s w n j c at → Near c at → j ≤ 83976
fault_short z (here f p e) k = omega (arith, e, near_short k)
fault_short z (after f g h a b) k = omega (arith, b, near_short k)
fault_short {s} {w} {c = c} {at = at} z (later f g q) k = fault_short z q (near_next s w c at z f g k)

runs_short : {s : List ℕ} {w : ℕ} {c : Counts} {at n : ℕ} {d : Counts} → 0 < w → Runs s w c at n d → Near c at → length s ≤ 83976
runs_short z (ended f g h) k = omega (arith, h, near_short k)
runs_short {s} {w} {c} {at} z (onward f g r) k = runs_short z r (near_next s w c at z f g k)

-- ---- the whole file

first_short : (s : List ℕ) (n j : ℕ) → FirstFault s n j → j ≤ 83976
first_short s n j (in_the_first f p e) = omega (arith, e)
first_short s n j (in_another f q) = fault_short (wires_are s f).some q near_first

-- no refusal stands later, whatever the numbers of s are
pub offset_short : (s : List ℕ) (n p : ℕ) → read_of s ≡ Err (fault n p) → p ≤ 83976
offset_short s n p e = first_short s n p ((refusal_right s n p).0 e)

-- 8 bytes, 17 and less for each of 2,048 fields, and 6 for each of 8,192 terms
pub accepted_short : (s : List ℕ) (z : Sizes) (t : ℕ) → read_of s ≡ Ok (file_read z t) → length s ≤ 83976
accepted_short s z t e =
    let f = read_whole s z t e in
    runs_short f.first.some f.run.runs near_first

-- ---- with the room of the stores

module _ (s : List ℕ) (n p t a i b o d r : ℕ) where
  by_room : (x : FileRead) (q : Bool) → length s ≤ 83976 → cond q (Ok x) (Err (fault ROOM (length s))) ≡ Err (fault n p) → p ≤ 83976
  by_room x true h e = absurd (let x : ◌≡◌ {A = ℕ} 0 1 = cc in omega arith)
  by_room x false h e = let k = numbers_are ROOM n (length s) p e in omega (arith, k.1)

  by_answer : (x : Result FileRead Fault) → read_of s ≡ x → with_room x (length s) t a i b o d r ≡ Err (fault n p) → p ≤ 83976
  unfolding with_room
  by_answer (Err f) h e = offset_short s n p (h ∙ e)
  by_answer (Ok x) h e = by_room x (room_of x.sizes x.terms t a i b o d r) (accepted_short s x.sizes x.terms h) e

  -- ROOM stands at the length of a file that is accepted
  pub room_offset_short : with_room (read_of s) (length s) t a i b o d r ≡ Err (fault n p) → p ≤ 83976
  room_offset_short e = by_answer (read_of s) refl e

-- no refusal that `read` answers stands later
pub read_offset_short : {s terms ands imuls bmuls zeros dsts rhss : List ℕ} {r : Result FileRead FileFault} {terms' ands' imuls' bmuls' zeros' dsts' rhss' : List ℕ} {f : FileFault}
    → ReadIs s terms ands imuls bmuls zeros dsts rhss r terms' ands' imuls' bmuls' zeros' dsts' rhss' → r ≡ Err f → f.at ≤ 83976
read_offset_short {s} {terms} {ands} {imuls} {bmuls} {zeros} {dsts} {rhss} {f = f} k e =
    room_offset_short s (number_of f.refusal) f.at (length terms) (length ands) (length imuls) (length bmuls) (length zeros) (length dsts) (length rhss) (sym k.answer ∙ ap by_number e)
