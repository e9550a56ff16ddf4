-- What the number that writing gives says of the system. Assumes nothing.
use mathlib.Core.Path.{◌≡◌, refl, sym, ◌∙◌}
use mathlib.Core.Logic.{◌↔◌, ◌⊎◌, inl, inr}
use mathlib.Core.Bool.{Bool, true, false}
use Prim.Native.Nat.{ℕ, zero, suc, ◌≤◌, ◌<◌}
use native.Mathlib.Omega.{arith}
use lib.Dec.{leb}
use borrow.Author.Tests.{le-ltb, ltb-false, leb-true, leb-false}
use Rattle.lower.specs.declared.Sizes.{Sizes}
use Rattle.lower.specs.Stores.{Stores, system_of}
use Rattle.lower.specs.Model.{System}
use Rattle.lower.specs.Explained.{Standing}
use Rattle.lower.specs.Faults.{terms_in, places_fault, memory_fault}
use Rattle.lower.proofs.Firsts.{else_only}
use Rattle.lower.proofs.Laws.{all_imp}
use Rattle.lower.proofs.Somes.{none_all, all_none}
use Rattle.lower.proofs.Sounds.{only_345}
use Rattle.lower.proofs.Accepts.{full_only}
use Rattle.lower.proofs.Explains.{standing_right}
use Rattle.house_file.specs.Format.{Entry, entries_of, payload_size, file_size}
use Rattle.house_file.specs.Reading.{ROOM, WIDE}
use Rattle.house_write.specs.Sizes.{MAX_PAYLOAD, is_wide}
use Rattle.house_write.specs.Write.{MAX_WRITTEN_TERMS, Narrow, wide, write_fault, Explains}
use Rattle.house_write.proofs.Answering.{fault_memory, fault_wide, fault_room, fault_none, none_memory, none-wide, none_room}

module _ (p : System) where
  narrow_right : wide p ≡ false ↔ Narrow p
  unfolding wide
  narrow_right = (
    λ e. all_imp (λ x k. ltb-false MAX_PAYLOAD (payload_size x) k) (entries_of p) (none_all (λ (x : Entry). is_wide (payload_size x)) (entries_of p) e),
    λ h. all_none (λ (x : Entry). is_wide (payload_size x)) (entries_of p) (all_imp (λ x k. le-ltb MAX_PAYLOAD (payload_size x) k) (entries_of p) h),
  )

module _ (z : Sizes) (s : Stores) (room : ℕ) where
  abbrev p : System
  p = system_of z s

  abbrev m : ℕ
  m = memory_fault MAX_WRITTEN_TERMS z s

  memory_only : (Q : ℕ → Type 0) → Q 0 → Q 3 → Q 4 → Q 5 → Q 6 → Q m
  unfolding memory_fault
  memory_only Q n a b c d = else_only Q (places_fault z s) _ (only_345 z s Q n a b c) (full_only Q MAX_WRITTEN_TERMS z (terms_in z s) n d)

  -- 14 and 12 come after the checks in memory
  memory_none : (n : ℕ) → 6 < n → write_fault z s room ≡ n → m ≡ 0
  memory_none n h e = go m refl
    where
      far : (k : ℕ) → k ≤ 6 → k ≡ n → ⊥
      far k l x = omega (arith, h, l, x)

      go : (k : ℕ) → m ≡ k → m ≡ 0
      go zero x = x
      go (suc k) x =
          let g : m ≡ write_fault z s room = fault_memory z s room m refl (λ y. absurd (omega (arith, x, y))) in
          absurd (memory_only (λ j. j ≡ n → ⊥) (far 0 (omega arith)) (far 3 (omega arith)) (far 4 (omega arith)) (far 5 (omega arith)) (far 6 (omega arith)) (g ∙ e))

  after-wide : m ≡ 0 → wide p ≡ false → (n : ℕ) → write_fault z s room ≡ n → (n ≡ 0) ⊎ ((n ≡ ROOM) × (room < file_size (entries_of p)))
  after-wide e k n h = go (leb (file_size (entries_of p)) room) refl
    where
      go : (t : Bool) → leb (file_size (entries_of p)) room ≡ t → (n ≡ 0) ⊎ ((n ≡ ROOM) × (room < file_size (entries_of p)))
      go true x = inl (sym h ∙ sym (fault_none z s room e k (leb-true (file_size (entries_of p)) room x)))
      go false x = let l = leb-false (file_size (entries_of p)) room x in inr (sym h ∙ sym (fault_room z s room e k l), l)

  none_is : write_fault z s room ≡ 0 ↔ Standing z s MAX_WRITTEN_TERMS × Narrow p × (file_size (entries_of p) ≤ room)
  none_is = (
    λ e. ((standing_right MAX_WRITTEN_TERMS z s).0 (none_memory z s room e), (narrow_right p).0 (none-wide z s room e), none_room z s room e),
    λ y. sym (fault_none z s room ((standing_right MAX_WRITTEN_TERMS z s).1 y.0) ((narrow_right p).1 y.1) y.2),
  )

  wide-right : write_fault z s room ≡ WIDE ↔ Standing z s MAX_WRITTEN_TERMS × (Narrow p → ⊥)
  wide-right = (
    λ e. let k = memory_none WIDE (omega arith) e in ((standing_right MAX_WRITTEN_TERMS z s).0 k, λ h. not_both (after-wide k ((narrow_right p).1 h) WIDE e)),
    λ y. go ((standing_right MAX_WRITTEN_TERMS z s).1 y.0) y.1 (wide p) refl,
  )
    where
      not_both : (WIDE ≡ 0) ⊎ ((WIDE ≡ ROOM) × (room < file_size (entries_of p))) → ⊥
      not_both (inl x) = omega (arith, x)
      not_both (inr x) = omega (arith, x.0)

      go : m ≡ 0 → (Narrow p → ⊥) → (b : Bool) → wide p ≡ b → write_fault z s room ≡ WIDE
      go e h true k = sym (fault_wide z s room e k)
      go e h false k = absurd (h ((narrow_right p).0 k))

  short_right : write_fault z s room ≡ ROOM ↔ Standing z s MAX_WRITTEN_TERMS × Narrow p × (room < file_size (entries_of p))
  short_right = (
    λ e. let k = memory_none ROOM (omega arith) e in let w = narrow_of k e (wide p) refl in
        ((standing_right MAX_WRITTEN_TERMS z s).0 k, (narrow_right p).0 w, only (after-wide k w ROOM e)),
    λ y. sym (fault_room z s room ((standing_right MAX_WRITTEN_TERMS z s).1 y.0) ((narrow_right p).1 y.1) y.2),
  )
    where
      narrow_of : m ≡ 0 → write_fault z s room ≡ ROOM → (b : Bool) → wide p ≡ b → wide p ≡ false
      narrow_of k e true x = absurd (let g = fault_wide z s room k x in omega (arith, g, e))
      narrow_of k e false x = x

      only : (ROOM ≡ 0) ⊎ ((ROOM ≡ ROOM) × (room < file_size (entries_of p))) → room < file_size (entries_of p)
      only (inl x) = absurd (omega (arith, x))
      only (inr x) = x.1

  -- the number that `write` gives
  pub explains : Explains z s room (write_fault z s room)
  explains = record { none = none_is; memory = λ h. sym (fault_memory z s room m refl h); wide_is = wide-right; short = short_right }
