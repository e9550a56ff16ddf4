-- Which number is given, and the answer that it makes. Assumes nothing.
use mathlib.Core.Path.{◌≡◌, refl, sym, ◌∙◌}
use mathlib.Core.Bool.{Bool, true, false, not}
use mathlib.Core.List.{List}
use Prim.Native.Nat.{ℕ, zero, suc, ◌≤◌, ◌<◌}
use native.Mathlib.Omega.{arith}
use lib.ListN.{length}
use lib.Seq.{sets}
use lib.Dec.{leb}
use borrow.Author.Tests.{le-leb, lt-leb, leb-true}
use Rattle.lower.specs.declared.Sizes.{Sizes}
use Rattle.lower.specs.Stores.{Stores, system_of}
use Rattle.lower.specs.Faults.{memory_fault}
use Rattle.lower.proofs.Firsts.{else_some, else_first, else_second, unless_holds}
use Rattle.house_file.specs.Format.{entries_of, file_of, file_size}
use Rattle.house_file.specs.Reading.{ROOM, WIDE}
use Rattle.house_write.specs.Write.{MAX_WRITTEN_TERMS, wide, wide_fault, write_fault, bytes_by, numbered, WriteIs}
use Rattle.std.specs.Prelude.{Ok, Err}
use Rattle.refusal.specs.declared.Refusal.{Refusal}
use Rattle.refusal.specs.Refusals.{number_of}
use Rattle.house_file.proofs.Faults.{number_above}
use Rattle.house_write.proofs.Storing.{file_length}

module _ (z : Sizes) (s : Stores) (room : ℕ) where
  pub fault_memory : (f : ℕ) → f ≡ memory_fault MAX_WRITTEN_TERMS z s → (f ≡ 0 → ⊥) → f ≡ write_fault z s room
  unfolding write_fault
  fault_memory f e h = rw (← e) (sym (else_some f _ h))

  module _ (e : memory_fault MAX_WRITTEN_TERMS z s ≡ 0) where
    pub fault_wide : wide (system_of z s) ≡ true → WIDE ≡ write_fault z s room
    unfolding write_fault
    fault_wide h = rw (e, h)

    module _ (h : wide (system_of z s) ≡ false) where
      pub fault_room : room < file_size (entries_of (system_of z s)) → ROOM ≡ write_fault z s room
      unfolding write_fault
      fault_room p = rw (e, h, lt-leb _ _ p)

      pub fault_none : file_size (entries_of (system_of z s)) ≤ room → 0 ≡ write_fault z s room
      unfolding write_fault
      fault_none p = rw (e, h, le-leb _ _ p)

  module _ (e : write_fault z s room ≡ 0) where
    pub none_memory : memory_fault MAX_WRITTEN_TERMS z s ≡ 0
    unfolding write_fault
    none_memory = else_first (memory_fault MAX_WRITTEN_TERMS z s) _ e

    pub none-wide : wide (system_of z s) ≡ false
    unfolding write_fault
    none-wide =
        let f = else_second (memory_fault MAX_WRITTEN_TERMS z s) _ e in
        go (wide (system_of z s)) (unless_holds (not (wide (system_of z s))) WIDE (omega arith) (else_first (wide_fault (system_of z s)) _ f))
      where
        go : (b : Bool) → not b ≡ true → b ≡ false
        go true h = sym h
        go false h = refl

    pub none_room : file_size (entries_of (system_of z s)) ≤ room
    unfolding write_fault
    none_room =
        let f = else_second (memory_fault MAX_WRITTEN_TERMS z s) _ e in
        leb-true _ _ (unless_holds (leb (file_size (entries_of (system_of z s))) room) ROOM (omega arith) (else_second (wide_fault (system_of z s)) _ f))

module _ (z : Sizes) (s : Stores) (out : List ℕ) where
  pub write_refused : (r : Refusal) → number_of r ≡ write_fault z s (length out) → WriteIs z s out (Err r) out
  unfolding bytes_by numbered
  write_refused r e = by (write_fault z s (length out)) refl e
    where
      by : (f : ℕ) → write_fault z s (length out) ≡ f → number_of r ≡ f → WriteIs z s out (Err r) out
      by zero h e = absurd (omega (arith, number_above r))
      by (suc f) h e = record { answer = e ∙ sym h; length_is = tt; tells = rw (h, e) refl; bytes_are = rw h refl }

  pub write_done : 0 ≡ write_fault z s (length out) → (n : ℕ) (out' : List ℕ) → n ≡ length (file_of (system_of z s)) → out' ≡ sets out 0 (file_of (system_of z s)) → WriteIs z s out (Ok n) out'
  unfolding bytes_by numbered
  write_done h n out' a b =
      let m : n ≡ file_size (entries_of (system_of z s)) = a ∙ file_length (system_of z s) in
      record { answer = h; length_is = m; tells = rw (← h, m) refl; bytes_are = rw (← h) b }
