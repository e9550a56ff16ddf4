-- A file that is read and written again is the same file up to the order of its fields: they stand in tag order, and those of one tag as
-- they stood. Assumes nothing.
use mathlib.Core.Path.{◌≡◌, refl, sym, ap, ◌∙◌}
use mathlib.Core.Bool.{Bool, true, false, cond}
use mathlib.Core.List.{List, [], ◌∷◌, ◌++◌, map, append-nil}
use Prim.Native.Nat.{ℕ}
use native.Mathlib.Omega.{arith}
use lib.Dec.{eqb}
use lib.ListN.{length}
use borrow.Author.Tests.{eqb-true}
use Rattle.operand.specs.Numbers.{Operand}
use Rattle.lower.specs.declared.Sizes.{Sizes}
use Rattle.lower.specs.Lists.{All, done, more, joined}
use Rattle.std.specs.Prelude.{Ok}
use Rattle.house_file.specs.Format.{Entry, LINEAR, row_entry, linear_entry, entries_of, file_bytes, file_of, of_kind, rows_from, definition_from, system_from, arity, EntryOk}
use Rattle.house_file.specs.Decoding.{entries_at}
use Rattle.house_file.specs.Reading.{read_of, total, file_read}
use Rattle.house_read.proofs.Exact.{accepted_entries}

-- the entries by kind, each kind in its order
unfoldable pub in_tag_order : List Entry → List Entry
in_tag_order es = of_kind 2 es ++ (of_kind 3 es ++ (of_kind 4 es ++ (of_kind 5 es ++ of_kind LINEAR es)))

module _ (w : ℕ) where
  row_by : (b : Bool) (kind : ℕ) (e : Entry) (l : List Entry) → (b ≡ true → row_entry kind e.operands ≡ e) → map (row_entry kind) (map (λ (e : Entry). e.operands) l) ≡ l
      → map (row_entry kind) (map (λ (e : Entry). e.operands) (cond b (e ∷ l) l)) ≡ cond b (e ∷ l) l
  row_by true kind e l k h = ap (λ (x : Entry). x ∷ map (row_entry kind) (map (λ (e : Entry). e.operands) l)) (k refl) ∙ ap (λ (l : List Entry). e ∷ l) h
  row_by false kind e l k h = h

  row_again : (kind : ℕ) → (kind ≡ LINEAR → ⊥) → (e : Entry) → EntryOk w e → eqb e.tag kind ≡ true → row_entry kind e.operands ≡ e
  row_again kind n e k h =
      let t : e.tag ≡ kind = eqb-true _ _ h in
      let d : e.dst ≡ 0 = k.dst_none (λ f. n (sym t ∙ f)) in
      rw (← t, ← d)

  rows_again : (kind : ℕ) → (kind ≡ LINEAR → ⊥) → (es : List Entry) → All (EntryOk w) es → map (row_entry kind) (rows_from kind es) ≡ of_kind kind es
  rows_again kind n [] done = refl
  rows_again kind n (e ∷ es) (more k ks) = row_by (eqb e.tag kind) kind e (of_kind kind es) (row_again kind n e k) (rows_again kind n es ks)

  one_operand : (os : List Operand) → length os ≡ 1 → joined os ∷ [] ≡ os
  one_operand [] h = absurd (omega (arith, h))
  one_operand (o ∷ []) h = rw (append-nil o)
  one_operand (o ∷ p ∷ os) h = absurd (omega (arith, h))

  linear_one : arity LINEAR ≡ 1
  unfolding arity
  linear_one = refl

  linear_again : (e : Entry) → EntryOk w e → eqb e.tag LINEAR ≡ true → linear_entry (definition_from e) ≡ e
  linear_again e k h =
      let t : e.tag ≡ LINEAR = eqb-true _ _ h in
      let o = one_operand e.operands (k.count_ok ∙ ap arity t ∙ linear_one) in
      ap (λ (os : List Operand). record { tag = LINEAR; dst = e.dst; operands = os }) o ∙ ap (λ (n : ℕ). record { tag = n; dst = e.dst; operands = e.operands }) (sym t)

  linear_by : (b : Bool) (e : Entry) (l : List Entry) → (b ≡ true → linear_entry (definition_from e) ≡ e) → map linear_entry (map definition_from l) ≡ l
      → map linear_entry (map definition_from (cond b (e ∷ l) l)) ≡ cond b (e ∷ l) l
  linear_by true e l k h = ap (λ (x : Entry). x ∷ map linear_entry (map definition_from l)) (k refl) ∙ ap (λ (l : List Entry). e ∷ l) h
  linear_by false e l k h = h

  linears_again : (es : List Entry) → All (EntryOk w) es → map linear_entry (map definition_from (of_kind LINEAR es)) ≡ of_kind LINEAR es
  linears_again [] done = refl
  linears_again (e ∷ es) (more k ks) = linear_by (eqb e.tag LINEAR) e (of_kind LINEAR es) (linear_again e k) (linears_again es ks)

  pub entries_sorted : (es : List Entry) → All (EntryOk w) es → entries_of (system_from w es) ≡ in_tag_order es
  unfolding entries_of system_from in_tag_order
  entries_sorted es k =
      rw (
        rows_again 2 (λ f. absurd (omega (arith, f))) es k,
        rows_again 3 (λ f. absurd (omega (arith, f))) es k,
        rows_again 4 (λ f. absurd (omega (arith, f))) es k,
        rows_again 5 (λ f. absurd (omega (arith, f))) es k,
        linears_again es k,
      )

-- the file of the system that a file says
pub file_sorted : (s : List ℕ) (z : Sizes) (t : ℕ) → read_of s ≡ Ok (file_read z t)
    → file_of (system_from z.wires (entries_at s (total z) 5)) ≡ file_bytes z.wires (in_tag_order (entries_at s (total z) 5))
unfolding file_of system_from
file_sorted s z t e =
    ap (file_bytes z.wires) (entries_sorted z.wires (entries_at s (total z) 5) (accepted_entries s z t e).sound.entries_ok)
