-- What a refusal says: it is the first fault in byte order, and each first fault is the refusal. Assumes nothing.
use mathlib.Core.Path.{◌≡◌, refl, sym, ap, ◌∙◌}
use mathlib.Core.Bool.{Bool, true, false, cond}
use mathlib.Core.Logic.{◌↔◌}
use mathlib.Core.List.{List}
use Prim.Native.Nat.{ℕ, zero, suc, ◌+◌, ◌≤◌, ◌<◌}
use native.Mathlib.Nat.{not-suc-le-zero}
use native.Mathlib.Omega.{arith}
use lib.ListN.{length, get_or}
use lib.Dec.{eqb, ltb}
use borrow.Author.Tests.{ltb-true, lt-ltb}
use Rattle.lower.specs.Faults.{SHAPE}
use Rattle.std.specs.Prelude.{None, Result, Ok, Err}
use Rattle.house_file.specs.declared.FileRead.{FileRead}
use Rattle.house_file.specs.Decoding.{u16_at, field_end}
use Rattle.house_file.specs.Reading.{END, counts_after, field_fault, done_of, turn_by, turn_of, follow, read_from, wires_fault, none, read_by, read_of, Fault, fault}
use Rattle.house_file.proofs.Faults.{numbers_are}
use Rattle.house_file.specs.First.{FaultFrom, here, after, later, FirstFault, in_the_first, in_another}
use Rattle.house_file.specs.declared.Counts.{Counts}
use Rattle.house_read.proofs.Runs.{entry-field, wires_are}

module _ (s : List ℕ) (w n j : ℕ) where
  at_end : (c : Counts) (at : ℕ) (go : Counts → ℕ → Result FileRead Fault) (b : Bool) → ltb (at + 3) (length s) ≡ b → field_fault s w c at ≡ 0 → eqb (get_or s at 0) END ≡ true
      → follow w c go (cond b (Err (fault SHAPE (at + 3))) (Ok None)) ≡ Err (fault n j) → FaultFrom s w n j c at
  at_end c at go true h f g e =
      let k = numbers_are SHAPE n (at + 3) j e in
      after f g (ltb-true _ _ h) (sym k.0) (sym k.1)
  at_end c at go false h f g e = absurd (let h : ◌≡◌ {A = ℕ} 0 1 = cc in omega arith)

  by_turn : (c : Counts) (at : ℕ) (go : Counts → ℕ → Result FileRead Fault) (f : ℕ) (b : Bool) → field_fault s w c at ≡ f → eqb (get_or s at 0) END ≡ b
      → (field_fault s w c at ≡ 0 → eqb (get_or s at 0) END ≡ false → go (counts_after s c at) (field_end s at) ≡ Err (fault n j) → FaultFrom s w n j (counts_after s c at) (field_end s at))
      → follow w c go (turn_by f s c at) ≡ Err (fault n j) → FaultFrom s w n j c at
  unfolding turn_by
  by_turn c at go (suc f) b h g next e =
      let k = numbers_are (suc f) n at j e in
      here (h ∙ k.0) (omega (arith, k.0)) (sym k.1)
  by_turn c at go zero true h g next e = at_end c at go (ltb (at + 3) (length s)) refl h g (rw g at e)
  by_turn c at go zero false h g next e = later h g (next h g (rw g at e))

  from_fault : (k : ℕ) (c : Counts) (at : ℕ) → length s < at + k → at ≤ length s → read_from s w k c at ≡ Err (fault n j) → FaultFrom s w n j c at
  unfolding read_from turn_of
  from_fault zero c at l i e = absurd (omega (arith, l, i))
  from_fault (suc k) c at l i e =
      by_turn c at (read_from s w k) (field_fault s w c at) (eqb (get_or s at 0) END) refl refl
      (λ f g. from_fault k (counts_after s c at) (field_end s at) (omega (arith, l)) (entry-field s w c at f g).head.inside) e

  to_end : (c : Counts) (at : ℕ) (go : Counts → ℕ → Result FileRead Fault) → field_fault s w c at ≡ 0 → eqb (get_or s at 0) END ≡ true → at + 3 < length s
      → follow w c go (turn_of s w c at) ≡ Err (fault SHAPE (at + 3))
  unfolding turn_of turn_by
  to_end c at go f g h = simp (f, g, lt-ltb _ _ h)

  to_next : (c : Counts) (at : ℕ) (go : Counts → ℕ → Result FileRead Fault) → field_fault s w c at ≡ 0 → eqb (get_or s at 0) END ≡ false
      → follow w c go (turn_of s w c at) ≡ go (counts_after s c at) (field_end s at)
  unfolding turn_of turn_by
  to_next c at go f g = simp (f, g)

  to_fault : (f : ℕ) (c : Counts) (at : ℕ) (go : Counts → ℕ → Result FileRead Fault) → 0 < f → follow w c go (turn_by f s c at) ≡ Err (fault f at)
  unfolding turn_by
  to_fault zero c at go h = absurd (not-suc-le-zero h)
  to_fault (suc f) c at go h = refl

  by_fault : (k : ℕ) (c : Counts) (at : ℕ) → length s < at + k → at ≤ length s → FaultFrom s w n j c at → read_from s w k c at ≡ Err (fault n j)
  unfolding read_from turn_of
  by_fault zero c at l i q = absurd (omega (arith, l, i))
  by_fault (suc k) c at l i (here f p e) =
      ap (λ (m : ℕ). follow w c (read_from s w k) (turn_by m s c at)) f ∙ to_fault n c at (read_from s w k) p ∙ ap (λ (k : ℕ). Err (fault n k)) (sym e)
  by_fault (suc k) c at l i (after f g h a b) = to_end c at (read_from s w k) f g h ∙ rw (a, b)
  by_fault (suc k) c at l i (later f g q) =
      to_next c at (read_from s w k) f g
      ∙ by_fault k (counts_after s c at) (field_end s at) (omega (arith, l)) (entry-field s w c at f g).head.inside q

module _ (s : List ℕ) (n j : ℕ) where
  first_by : (f : ℕ) → wires_fault s ≡ f → read_by f s ≡ Err (fault n j) → FirstFault s n j
  first_by zero h e =
      let g = wires_are s h in
      in_another h (from_fault s (u16_at s 3) n j (length s) none 5 (omega arith) (omega (arith, g.head.inside, g.size)) e)
  first_by (suc f) h e =
      let k = numbers_are (suc f) n 0 j e in
      in_the_first (h ∙ k.0) (omega (arith, k.0)) (sym k.1)

  read_by_lem : (f : ℕ) → 0 < f → read_by f s ≡ Err (fault f 0)
  read_by_lem zero h = absurd (not-suc-le-zero h)
  read_by_lem (suc f) h = refl

  refusal_first : read_of s ≡ Err (fault n j) → FirstFault s n j
  unfolding read_of
  refusal_first e = first_by (wires_fault s) refl e

  first_refusal : FirstFault s n j → read_of s ≡ Err (fault n j)
  unfolding read_of
  first_refusal (in_the_first f p e) = ap (λ (m : ℕ). read_by m s) f ∙ read_by_lem n p ∙ ap (λ (k : ℕ). Err (fault n k)) (sym e)
  first_refusal (in_another f q) =
      let g = wires_are s f in
      ap (λ (m : ℕ). read_by m s) f ∙ by_fault s (u16_at s 3) n j (length s) none 5 (omega arith) (omega (arith, g.head.inside, g.size)) q

  -- a refusal is the first fault, and the first fault is the refusal
  pub refusal_right : read_of s ≡ Err (fault n j) ↔ FirstFault s n j
  refusal_right = (refusal_first, first_refusal)
