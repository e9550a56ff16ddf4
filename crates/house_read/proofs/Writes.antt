-- The file that a system is written as reads back to the system. Assumes nothing.
use mathlib.Core.Path.{◌≡◌, refl, sym, ap, ◌∙◌}
use mathlib.Core.Bool.{Bool, true, false, cond}
use mathlib.Core.List.{List, [], ◌∷◌, ◌++◌, map, append-nil}
use Prim.Native.Nat.{ℕ, ◌≤◌, ◌<◌}
use native.Mathlib.Omega.{arith}
use lib.Dec.{eqb}
use lib.ListN.{length}
use Rattle.operand.specs.Numbers.{Term, Operand}
use Rattle.lower.specs.Lists.{All, done, more, joined}
use Rattle.lower.specs.Model.{Row, Definition, System, row_operands, definition_operands, operands_of, terms_of}
use Rattle.lower.specs.Accepted.{Shaped, Named, Shifted, ShiftsOf, Limits, MAX_TERMS}
use Rattle.lower.proofs.Laws.{all_left, all_right, all_both}
use Rattle.lower.proofs.Alls.{all_zip, all_unjoin}
use Rattle.std.specs.Prelude.{Ok}
use Rattle.house_file.specs.Format.{Entry, LINEAR, row_entry, linear_entry, entries_of, file_of, of_kind, rows_from, definition_from, system_from, sizes_in, arity, TermOk, EntryOk, Sound}
use Rattle.house_file.specs.Reading.{read_of, entries_read, file_read}
use Rattle.house_read.proofs.Tallies.{accepts}

-- ---- the entries of a system make the system

kind_append : (kind : ℕ) (a b : List Entry) → of_kind kind (a ++ b) ≡ of_kind kind a ++ of_kind kind b
kind_append kind [] b = refl
kind_append kind (e ∷ a) b = go (eqb e.tag kind) (kind_append kind a b)
  where
    go : (t : Bool) → of_kind kind (a ++ b) ≡ of_kind kind a ++ of_kind kind b
        → cond t (e ∷ of_kind kind (a ++ b)) (of_kind kind (a ++ b)) ≡ cond t (e ∷ of_kind kind a) (of_kind kind a) ++ of_kind kind b
    go true h = ap (λ (l : List Entry). e ∷ l) h
    go false h = h

module _ {A : Type 0} (f : A → Entry) (kind : ℕ) where
  kind_all : ((x : A) → eqb (f x).tag kind ≡ true) → (l : List A) → of_kind kind (map f l) ≡ map f l
  kind_all e [] = refl
  kind_all e (x ∷ l) =
      ap (λ (b : Bool). cond b (f x ∷ of_kind kind (map f l)) (of_kind kind (map f l))) (e x) ∙ ap (λ (l : List Entry). f x ∷ l) (kind_all e l)

  kind_none : ((x : A) → eqb (f x).tag kind ≡ false) → (l : List A) → of_kind kind (map f l) ≡ []
  kind_none e [] = refl
  kind_none e (x ∷ l) = ap (λ (b : Bool). cond b (f x ∷ of_kind kind (map f l)) (of_kind kind (map f l))) (e x) ∙ kind_none e l

rows_back : (kind : ℕ) (l : List Row) → map (λ (e : Entry). e.operands) (map (row_entry kind) l) ≡ l
rows_back kind [] = refl
rows_back kind (r ∷ l) = ap (λ (l : List Row). r ∷ l) (rows_back kind l)

definitions_back : (l : List Definition) → map definition_from (map linear_entry l) ≡ l
definitions_back [] = refl
definitions_back (d ∷ l) = rw (append-nil d.rhs, definitions_back l)

module _ (p : System) where
  kinds : (kind : ℕ) → of_kind kind (entries_of p)
      ≡ of_kind kind (map (row_entry 2) p.ands)
      ++ (of_kind kind (map (row_entry 3) p.imuls)
      ++ (of_kind kind (map (row_entry 4) p.bmuls) ++ (of_kind kind (map (row_entry 5) p.zeros) ++ of_kind kind (map linear_entry p.linears))))
  unfolding entries_of
  kinds kind =
      let a = map (row_entry 2) p.ands in
      let i = map (row_entry 3) p.imuls in
      let b = map (row_entry 4) p.bmuls in
      let o = map (row_entry 5) p.zeros in
      let d = map linear_entry p.linears in
      rw (kind_append kind a (i ++ (b ++ (o ++ d))), kind_append kind i (b ++ (o ++ d)), kind_append kind b (o ++ d), kind_append kind o d)

  all_of : (j : ℕ) (l : List Row) → eqb j j ≡ true → of_kind j (map (row_entry j) l) ≡ map (row_entry j) l
  all_of j l e = kind_all (row_entry j) j (λ r. e) l

  none_of : (j k : ℕ) (l : List Row) → eqb j k ≡ false → of_kind k (map (row_entry j) l) ≡ []
  none_of j k l e = kind_none (row_entry j) k (λ r. e) l

  none_linear : (k : ℕ) → eqb LINEAR k ≡ false → of_kind k (map linear_entry p.linears) ≡ []
  none_linear k e = kind_none linear_entry k (λ d. e) p.linears

  ands_back : rows_from 2 (entries_of p) ≡ p.ands
  ands_back =
      rw (kinds 2, all_of 2 p.ands refl, none_of 3 2 p.imuls refl, none_of 4 2 p.bmuls refl, none_of 5 2 p.zeros refl, none_linear 2 refl, append-nil (map (row_entry 2) p.ands))
      (rows_back 2 p.ands)

  imuls_back : rows_from 3 (entries_of p) ≡ p.imuls
  imuls_back =
      rw (kinds 3, none_of 2 3 p.ands refl, all_of 3 p.imuls refl, none_of 4 3 p.bmuls refl, none_of 5 3 p.zeros refl, none_linear 3 refl, append-nil (map (row_entry 3) p.imuls))
      (rows_back 3 p.imuls)

  bmuls_back : rows_from 4 (entries_of p) ≡ p.bmuls
  bmuls_back =
      rw (kinds 4, none_of 2 4 p.ands refl, none_of 3 4 p.imuls refl, all_of 4 p.bmuls refl, none_of 5 4 p.zeros refl, none_linear 4 refl, append-nil (map (row_entry 4) p.bmuls))
      (rows_back 4 p.bmuls)

  zeros_back : rows_from 5 (entries_of p) ≡ p.zeros
  zeros_back =
      rw (kinds 5, none_of 2 5 p.ands refl, none_of 3 5 p.imuls refl, none_of 4 5 p.bmuls refl, all_of 5 p.zeros refl, none_linear 5 refl, append-nil (map (row_entry 5) p.zeros))
      (rows_back 5 p.zeros)

  linears_back : map definition_from (of_kind LINEAR (entries_of p)) ≡ p.linears
  linears_back =
      rw (kinds LINEAR, none_of 2 6 p.ands refl, none_of 3 6 p.imuls refl, none_of 4 6 p.bmuls refl, none_of 5 6 p.zeros refl, kind_all linear_entry LINEAR (λ d. refl) p.linears)
      (definitions_back p.linears)

  -- the system that its entries are
  pub entries_back : system_from p.wires (entries_of p) ≡ p
  unfolding system_from
  entries_back = rw (ands_back, imuls_back, bmuls_back, zeros_back, linears_back)

-- ---- what holds of all terms holds of each entry's

abbrev OperandOk : ℕ → Operand → Type 0
OperandOk w o = All (TermOk w) o

rows_ok : (w kind k : ℕ) → 2 ≤ kind → kind ≤ 5 → 0 < w → arity kind ≡ k → (l : List Row) → All (λ (r : Row). length r ≡ k) l → All (OperandOk w) (joined l)
    → All (EntryOk w) (map (row_entry kind) l)
rows_ok w kind k a b z e [] done h = done
rows_ok w kind k a b z e (r ∷ l) (more s ss) h =
    more
    (record { low = a; high = omega arith; dst_ok = z; dst_none = λ f. refl; count_ok = s ∙ sym e; operands_ok = all_left (OperandOk w) r (joined l) h })
    (rows_ok w kind k a b z e l ss (all_right (OperandOk w) r (joined l) h))

linears_ok : (w : ℕ) (l : List Definition) → All (λ (d : Definition). d.dst < w) l → All (OperandOk w) (map (λ (d : Definition). d.rhs) l)
    → All (EntryOk w) (map linear_entry l)
unfolding arity
linears_ok w [] done done = done
linears_ok w (d ∷ l) (more s ss) (more o os) =
    let e : EntryOk w (linear_entry d) = record { low = omega arith; high = omega arith; dst_ok = s; dst_none = λ f. absurd (f refl); count_ok = refl; operands_ok = more o done } in
    more e (linears_ok w l ss os)

module _ (p : System) (shaped : Shaped p) (named : Named p) (shifted : Shifted p) (limits : Limits MAX_TERMS p) where
  terms_ok : All (TermOk p.wires) (terms_of p)
  terms_ok =
      all_zip {P = λ (t : Term). t.wire < p.wires} {Q = ShiftsOf} (λ t n s. record { wire_ok = n; inner_ok = s.0; outer_ok = s.1 }) (terms_of p) named.terms_named shifted

  operands_ok : All (OperandOk p.wires) (operands_of p)
  operands_ok = all_unjoin (TermOk p.wires) (operands_of p) terms_ok

  entries_good : All (EntryOk p.wires) (entries_of p)
  unfolding entries_of row_operands definition_operands arity
  entries_good =
      let w = p.wires in
      let P = OperandOk w in
      let r = all_left P (row_operands p) (definition_operands p) operands_ok in
      let d = all_right P (row_operands p) (definition_operands p) operands_ok in
      let a = all_left P (joined p.ands) _ r in
      let r₁ = all_right P (joined p.ands) _ r in
      let i = all_left P (joined p.imuls) _ r₁ in
      let r₂ = all_right P (joined p.imuls) _ r₁ in
      let b = all_left P (joined p.bmuls) _ r₂ in
      let o = all_right P (joined p.bmuls) _ r₂ in
      let z = limits.wires_some in
      all_both (EntryOk w) (rows_ok w 2 3 (omega arith) (omega arith) z refl p.ands shaped.ands_shaped a)
      (all_both (EntryOk w) (rows_ok w 3 4 (omega arith) (omega arith) z refl p.imuls shaped.imuls_shaped i)
      (all_both (EntryOk w) (rows_ok w 4 6 (omega arith) (omega arith) z refl p.bmuls shaped.bmuls_shaped b)
      (all_both (EntryOk w) (rows_ok w 5 1 (omega arith) (omega arith) z refl p.zeros shaped.zeros_shaped o)
      (linears_ok w p.linears named.destinations_named d))))

  -- the entries of a system that can be fused can stand in a file
  pub system_sound : Sound p.wires (entries_of p)
  system_sound = record { entries_ok = entries_good; limits = rw (entries_back p) limits }

  -- "Written files of at most 8,192 terms read back to the same lists"
  pub record ReadBack : Type 0 where
    pub answer : read_of (file_of p) ≡ Ok (file_read (sizes_in p) (length (terms_of p)))
    pub same : system_from p.wires (entries_read (file_of p) (read_of (file_of p))) ≡ p

  pub file_back : ReadBack
  unfolding file_of
  file_back =
      let r = accepts p.wires (entries_of p) system_sound in
      let a : read_of (file_of p) ≡ Ok (file_read (sizes_in p) (length (terms_of p))) = rw (entries_back p) at r.accepted in
      record {
        answer = a;
        same = rw (a) (ap (system_from p.wires) (rw (entries_back p) at r.same) ∙ entries_back p);
      }
