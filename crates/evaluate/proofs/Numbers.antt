-- What the number that evaluating gives says. Assumes nothing.
use mathlib.Core.Path.{◌≡◌, refl, sym, ◌∙◌}
use mathlib.Core.Logic.{◌↔◌, ◌⊎◌, inl, inr}
use mathlib.Core.Bool.{Bool, true, false}
use Prim.Native.Nat.{ℕ, zero, suc, ◌≤◌, ◌<◌}
use native.Mathlib.Omega.{arith}
use lib.Dec.{leb, eqb}
use lib.ListN.{length}
use borrow.Author.Tests.{leb-true, leb-false, eqb-true, eqb-false}
use Rattle.lower.specs.declared.Sizes.{Sizes}
use Rattle.lower.specs.Model.{operands_of}
use Rattle.lower.specs.Stores.{Stores, system_of}
use Rattle.lower.specs.Explained.{Standing}
use Rattle.lower.specs.Faults.{terms_in, places_fault, memory_fault}
use Rattle.lower.proofs.Firsts.{else_only}
use Rattle.lower.proofs.Sounds.{only_345}
use Rattle.lower.proofs.Accepts.{full_only}
use Rattle.lower.proofs.Explains.{standing_right}
use Rattle.evaluate.specs.Evaluation.{MAX_WRITTEN_TERMS, ROOM, SIZE, evaluation_fault}
use Rattle.evaluate.specs.Explained.{Explains}
use Rattle.evaluate.proofs.Answering.{fault_memory, fault_size, fault_room, fault_none, none_memory, none_size, none_room}

module _ (z : Sizes) (s : Stores) (n room : ℕ) where
  abbrev count : ℕ
  count = length (operands_of (system_of z s))

  abbrev m : ℕ
  m = memory_fault MAX_WRITTEN_TERMS z s

  abbrev f : ℕ
  f = evaluation_fault z s n room

  abbrev Stood : Type 0
  Stood = Standing z s MAX_WRITTEN_TERMS

  memory_only : (Q : ℕ → Type 0) → Q 0 → Q 3 → Q 4 → Q 5 → Q 6 → Q m
  unfolding memory_fault
  memory_only Q n a b c d = else_only Q (places_fault z s) _ (only_345 z s Q n a b c) (full_only Q MAX_WRITTEN_TERMS z (terms_in z s) n d)

  -- 13 and 12 come after the checks in memory
  memory_none : (k : ℕ) → 6 < k → f ≡ k → m ≡ 0
  memory_none k h e = go m refl
    where
      far : (j : ℕ) → j ≤ 6 → j ≡ k → ⊥
      far j l x = omega (arith, h, l, x)

      go : (j : ℕ) → m ≡ j → m ≡ 0
      go zero x = x
      go (suc j) x =
          let g : m ≡ f = fault_memory z s n room m refl (λ y. absurd (omega (arith, x, y))) in
          absurd (memory_only (λ i. i ≡ k → ⊥) (far 0 (omega arith)) (far 3 (omega arith)) (far 4 (omega arith)) (far 5 (omega arith)) (far 6 (omega arith)) (g ∙ e))

  after_size : m ≡ 0 → n ≡ z.wires → (f ≡ 0) ⊎ ((f ≡ ROOM) × (room < count))
  after_size e k = go (leb count room) refl
    where
      go : (t : Bool) → leb count room ≡ t → (f ≡ 0) ⊎ ((f ≡ ROOM) × (room < count))
      go true x = inl (sym (fault_none z s n room e k (leb-true count room x)))
      go false x = let l = leb-false count room x in inr (sym (fault_room z s n room e k l), l)

  none_is : f ≡ 0 ↔ Stood × (n ≡ z.wires) × (count ≤ room)
  none_is = (
    λ e. ((standing_right MAX_WRITTEN_TERMS z s).0 (none_memory z s n room e), none_size z s n room e, none_room z s n room e),
    λ y. sym (fault_none z s n room ((standing_right MAX_WRITTEN_TERMS z s).1 y.0) y.1 y.2),
  )

  size_is : f ≡ SIZE ↔ Stood × (n ≡ z.wires → ⊥)
  size_is = (
    λ e. let k = memory_none SIZE (omega arith) e in ((standing_right MAX_WRITTEN_TERMS z s).0 k, λ h. not_both e (after_size k h)),
    λ y. sym (fault_size z s n room ((standing_right MAX_WRITTEN_TERMS z s).1 y.0) y.1),
  )
    where
      not_both : f ≡ SIZE → (f ≡ 0) ⊎ ((f ≡ ROOM) × (room < count)) → ⊥
      not_both e (inl x) = omega (arith, e, x)
      not_both e (inr x) = omega (arith, e, x.0)

  short_is : f ≡ ROOM ↔ Stood × (n ≡ z.wires) × (room < count)
  short_is = (
    λ e. let k = memory_none ROOM (omega arith) e in let w = as_many k e (eqb n z.wires) refl in
        ((standing_right MAX_WRITTEN_TERMS z s).0 k, w, only e (after_size k w)),
    λ y. sym (fault_room z s n room ((standing_right MAX_WRITTEN_TERMS z s).1 y.0) y.1 y.2),
  )
    where
      as_many : m ≡ 0 → f ≡ ROOM → (b : Bool) → eqb n z.wires ≡ b → n ≡ z.wires
      as_many k e true x = eqb-true n z.wires x
      as_many k e false x = absurd (let g = fault_size z s n room k (eqb-false n z.wires x) in omega (arith, g, e))

      only : f ≡ ROOM → (f ≡ 0) ⊎ ((f ≡ ROOM) × (room < count)) → room < count
      only e (inl x) = absurd (omega (arith, e, x))
      only e (inr x) = x.1

  -- the number that `evaluate` gives
  pub evaluate_explained : Explains z s n room (evaluation_fault z s n room)
  evaluate_explained = record { none = none_is; memory = λ h. sym (fault_memory z s n room m refl h); size = size_is; short = short_is }
