-- What was read stands in memory: the checks there find none of 3, 4, 5 and 6. Assumes nothing.
use mathlib.Core.Path.{◌≡◌, refl, sym, ap, ◌∙◌, subst}
use mathlib.Core.Bool.{Bool, true, false, cond}
use mathlib.Core.List.{List, [], ◌∷◌, map}
use Prim.Native.Nat.{ℕ, ◌+◌, ◌*◌, ◌≤◌, ◌<◌}
use native.Mathlib.Omega.{arith}
use lib.Dec.{eqb}
use lib.ListN.{length, take, drop, length-map}
use lib.Seq.{sets, length-sets, take_at}
use Rattle.operand.specs.Numbers.{Term, Operand, Within}
use Rattle.operand.proofs.Stored.{operand_there}
use Rattle.lower.specs.declared.Sizes.{Sizes}
use Rattle.lower.specs.Lists.{All, done, more, joined}
use Rattle.lower.specs.Model.{Row, Definition, row_operands, definition_operands, operands_of, terms_of}
use Rattle.lower.specs.Accepted.{Named, Shifted, ShiftsOf, Limits, MAX_TERMS}
use Rattle.lower.specs.Stores.{stores, system_of, row_handles, Stands, Placed}
use Rattle.lower.specs.Faults.{memory_fault}
use Rattle.lower.proofs.Laws.{all_both, all_imp}
use Rattle.lower.proofs.Alls.{all_join}
use Rattle.lower.proofs.Explains.{standing_right}
use Rattle.std.specs.Prelude.{Result, Ok}
use Rattle.house_file.specs.declared.FileRead.{FileRead}
use Rattle.house_file.specs.declared.FileFault.{FileFault}
use Rattle.house_file.specs.Format.{Entry, LINEAR, of_kind, rows_from, definition_from, system_from, arity, TermOk, EntryOk}
use Rattle.house_file.specs.Decoding.{entries_at}
use Rattle.house_file.specs.Reading.{read_of, total, file_read, by_number}
use Rattle.house_fill.specs.Layout.{Filled, terms_count, terms_in_all, terms_laid, number_from, numbers_from, shown, list_laid, destinations_laid}
use Rattle.house_read.specs.Answer.{ReadIs}
use Rattle.house_read.proofs.Tallies.{terms_of_lem}
use Rattle.house_read.proofs.Exact.{accepted_entries}
use Rattle.house_read.proofs.Stored.{Laid, list_length, sets_front, linear_one}
use Rattle.house_read.proofs.Backs.{answered, entry-laid, read_back}

-- ---- the system of sound entries

abbrev OperandOk : ℕ → Operand → Type 0
OperandOk w o = All (TermOk w) o

row_ok : (b : Bool) (w : ℕ) (e : Entry) (l : List Entry) → All (OperandOk w) e.operands → All (λ (r : Row). All (OperandOk w) r) (map (λ (e : Entry). e.operands) l)
    → All (λ (r : Row). All (OperandOk w) r) (map (λ (e : Entry). e.operands) (cond b (e ∷ l) l))
row_ok true w e l k h = more k h
row_ok false w e l k h = h

rows_ok : (w kind : ℕ) (es : List Entry) → All (EntryOk w) es → All (λ (r : Row). All (OperandOk w) r) (rows_from kind es)
rows_ok w kind [] done = done
rows_ok w kind (e ∷ es) (more k ks) = row_ok (eqb e.tag kind) w e (of_kind kind es) k.operands_ok (rows_ok w kind es ks)

abbrev DefinitionOk : ℕ → Definition → Type 0
DefinitionOk w d = (d.dst < w) × OperandOk w d.rhs

definition_ok : (b : Bool) (w : ℕ) (e : Entry) (l : List Entry) → EntryOk w e → All (DefinitionOk w) (map definition_from l) → All (DefinitionOk w) (map definition_from (cond b (e ∷ l) l))
definition_ok true w e l k h = more {x = definition_from e} (k.dst_ok, all_join (TermOk w) e.operands k.operands_ok) h
definition_ok false w e l k h = h

definitions_ok : (w : ℕ) (es : List Entry) → All (EntryOk w) es → All (DefinitionOk w) (map definition_from (of_kind LINEAR es))
definitions_ok w [] done = done
definitions_ok w (e ∷ es) (more k ks) = definition_ok (eqb e.tag LINEAR) w e (of_kind LINEAR es) k (definitions_ok w es ks)

rhss_ok : (w : ℕ) (l : List Definition) → All (DefinitionOk w) l → All (OperandOk w) (map (λ (d : Definition). d.rhs) l)
rhss_ok w [] done = done
rhss_ok w (d ∷ l) (more k ks) = more k.1 (rhss_ok w l ks)

module _ (w : ℕ) (es : List Entry) (ok : All (EntryOk w) es) where
  terms_ok : All (TermOk w) (terms_of (system_from w es))
  unfolding system_from row_operands definition_operands
  terms_ok =
      let P = OperandOk w in
      let row : (kind : ℕ) → All P (joined (rows_from kind es)) = λ kind. all_join P (rows_from kind es) (rows_ok w kind es ok) in
      all_join (TermOk w) (operands_of (system_from w es))
      (all_both P (all_both P (row 2) (all_both P (row 3) (all_both P (row 4) (row 5)))) (rhss_ok w (map definition_from (of_kind LINEAR es)) (definitions_ok w es ok)))

  pub named : Named (system_from w es)
  unfolding system_from
  named =
      record {
        terms_named = all_imp {P = TermOk w} {Q = λ (t : Term). t.wire < w} (λ t k. k.wire_ok) (terms_of (system_from w es)) terms_ok;
        destinations_named = all_imp {P = DefinitionOk w} {Q = λ (d : Definition). d.dst < w} (λ d k. k.0) (map definition_from (of_kind LINEAR es)) (definitions_ok w es ok);
      }

  pub shifted : Shifted (system_from w es)
  shifted = all_imp {P = TermOk w} {Q = ShiftsOf} (λ t k. (k.inner_ok, k.outer_ok)) (terms_of (system_from w es)) terms_ok

-- ---- operands end within the terms

module _ (T : List ℕ) where
  number_stands : (t n : ℕ) → t + n ≤ length T → t < 2147483648 → n < 4294967296 → Stands T [] (number_from t n)
  number_stands t n h p q = subst (Within T []) (sym (operand_there (record { start = t; len = n; new = false }) p q)) h

  numbers_stand : (t : ℕ) (os : List Operand) → t + terms_count os ≤ length T → t + terms_count os < 2147483648 → All (Stands T []) (numbers_from t os)
  unfolding numbers_from terms_count
  numbers_stand t [] h p = done
  numbers_stand t (o ∷ os) h p =
      more (number_stands t (length o) (omega (arith, h)) (omega (arith, p)) (omega (arith, p))) (numbers_stand (t + length o) os (omega (arith, h)) (omega (arith, p)))

  shown_stand : (b : Bool) (l : List ℕ) → All (Stands T []) l → All (Stands T []) (cond b l [])
  shown_stand true l h = h
  shown_stand false l h = done

  list_stands : (kind t : ℕ) (es : List Entry) → t + terms_in_all es ≤ length T → t + terms_in_all es < 2147483648 → All (Stands T []) (list_laid kind t es)
  unfolding list_laid shown terms_in_all
  list_stands kind t [] h p = done
  list_stands kind t (e ∷ es) h p =
      all_both (Stands T []) (shown_stand (eqb e.tag kind) (numbers_from t e.operands) (numbers_stand t e.operands (omega (arith, h)) (omega (arith, p))))
      (list_stands kind (t + terms_count e.operands) es (omega (arith, h)) (omega (arith, p)))

-- ---- the checks in memory

front_is : (hs L : List ℕ) (m : ℕ) → length L ≡ m → m ≤ length hs → take m (sets hs 0 L) ≡ L
front_is hs L m e h = ap (take m) (sets_front hs L (omega (arith, e, h))) ∙ take_at L (drop (length L) hs) m e

module _ (z : Sizes) (es : List Entry) (laid : All Laid es) (T hs : List ℕ) (room : terms_in_all es ≤ length T) (few : terms_in_all es < 2147483648) where
  -- the numbers of a kind's list stand
  list_there : (kind k m n : ℕ) → arity kind ≡ k → n ≡ length (of_kind kind es) → m ≡ k * n → m ≤ length hs → All (Stands T []) (take m (sets hs 0 (list_laid kind 0 es)))
  list_there kind k m n a c e h =
      let l : length (list_laid kind 0 es) ≡ m = list_length kind k a 0 es laid ∙ ap (λ (j : ℕ). k * j) (sym c) ∙ sym e in
      subst (All (Stands T [])) (sym (front_is hs (list_laid kind 0 es) m l h)) (list_stands T kind 0 es (omega (arith, room)) (omega (arith, few)))

arities : (arity 2 ≡ 3) × ((arity 3 ≡ 4) × ((arity 4 ≡ 6) × (arity 5 ≡ 1)))
unfolding arity
arities = (refl, (refl, (refl, refl)))

module _ {s terms ands imuls bmuls zeros dsts rhss : List ℕ} {r : Result FileRead FileFault} {terms' ands' imuls' bmuls' zeros' dsts' rhss' : List ℕ} where
  pub read_stands : (z : Sizes) (n : ℕ) → ReadIs s terms ands imuls bmuls zeros dsts rhss r terms' ands' imuls' bmuls' zeros' dsts' rhss' → r ≡ Ok (file_read z n)
      → memory_fault MAX_TERMS z (stores terms' [] ands' imuls' bmuls' zeros' dsts' rhss') ≡ 0
  unfolding system_from row_handles
  read_stands z n is e =
      let es = entries_at s (total z) 5 in
      let w = z.wires in
      let held = stores terms' [] ands' imuls' bmuls' zeros' dsts' rhss' in
      let g = answered (length terms) (length ands) (length imuls) (length bmuls) (length zeros) (length dsts) (length rhss) (read_of s) (length s) z n (sym is.answer ∙ ap by_number e) in
      let m = g.1 in
      let k = accepted_entries s z n g.0 in
      let f : Filled es terms ands imuls bmuls zeros dsts rhss terms' ands' imuls' bmuls' zeros' dsts' rhss' = rw e at is.filled in
      let ok = k.sound.entries_ok in
      let laid : All Laid es = all_imp {P = EntryOk w} {Q = Laid} (entry-laid w k.sound.limits.wires_few) es ok in
      let count = terms_of_lem w es ok in
      let few : terms_in_all es < 2147483648 = omega (arith, count, k.sound.limits.terms_few) in
      let T : length terms' ≡ length terms = ap length f.terms_are ∙ length-sets terms 0 (terms_laid es) in
      let room : terms_in_all es ≤ length terms' = omega (arith, count, k.terms_are, m.terms_fit, T) in
      let back : system_of z held ≡ system_from w es = read_back z n is e in
      let a : z.ands ≡ length (of_kind 2 es) = ap (λ (x : Sizes). x.ands) k.sizes_are ∙ length-map (of_kind 2 es) (λ (e : Entry). e.operands) in
      let i : z.imuls ≡ length (of_kind 3 es) = ap (λ (x : Sizes). x.imuls) k.sizes_are ∙ length-map (of_kind 3 es) (λ (e : Entry). e.operands) in
      let b : z.bmuls ≡ length (of_kind 4 es) = ap (λ (x : Sizes). x.bmuls) k.sizes_are ∙ length-map (of_kind 4 es) (λ (e : Entry). e.operands) in
      let o : z.zeros ≡ length (of_kind 5 es) = ap (λ (x : Sizes). x.zeros) k.sizes_are ∙ length-map (of_kind 5 es) (λ (e : Entry). e.operands) in
      let d : z.linears ≡ length (of_kind LINEAR es) = ap (λ (x : Sizes). x.linears) k.sizes_are ∙ length-map (of_kind LINEAR es) definition_from in
      let P = Stands terms' [] in
      let in_ands : All P (take (3 * z.ands) ands') = rw f.ands_are (list_there z es laid terms' ands room few 2 3 (3 * z.ands) z.ands arities.0 a refl m.ands_fit) in
      let in_imuls : All P (take (4 * z.imuls) imuls') = rw f.imuls_are (list_there z es laid terms' imuls room few 3 4 (4 * z.imuls) z.imuls arities.1.0 i refl m.imuls_fit) in
      let in_bmuls : All P (take (6 * z.bmuls) bmuls') = rw f.bmuls_are (list_there z es laid terms' bmuls room few 4 6 (6 * z.bmuls) z.bmuls arities.1.1.0 b refl m.bmuls_fit) in
      let in_zeros : All P (take z.zeros zeros') = rw f.zeros_are (list_there z es laid terms' zeros room few 5 1 z.zeros z.zeros arities.1.1.1 o (omega arith) m.zeros_fit) in
      let in_rhss : All P (take z.linears rhss') = rw f.rhss_are (list_there z es laid terms' rhss room few LINEAR 1 z.linears z.linears linear_one d (omega arith) m.rhss_fit) in
      let placed : Placed z held =
      record {
        ands_there = omega (arith, m.ands_fit, ap length f.ands_are, length-sets ands 0 (list_laid 2 0 es));
        imuls_there = omega (arith, m.imuls_fit, ap length f.imuls_are, length-sets imuls 0 (list_laid 3 0 es));
        bmuls_there = omega (arith, m.bmuls_fit, ap length f.bmuls_are, length-sets bmuls 0 (list_laid 4 0 es));
        zeros_there = omega (arith, m.zeros_fit, ap length f.zeros_are, length-sets zeros 0 (list_laid 5 0 es));
        dsts_there = omega (arith, m.dsts_fit, ap length f.dsts_are, length-sets dsts 0 (destinations_laid es));
        rhss_there = omega (arith, m.rhss_fit, ap length f.rhss_are, length-sets rhss 0 (list_laid LINEAR 0 es));
        operands_there = all_both P (all_both P in_ands (all_both P in_imuls (all_both P in_bmuls in_zeros))) in_rhss;
      } in
      let sound : Named (system_of z held) × Shifted (system_of z held) = rw back (named w es ok, shifted w es ok) in
      let limits : Limits MAX_TERMS (system_of z held) = rw back k.sound.limits in
      (standing_right MAX_TERMS z held).1 ((placed, sound.0, sound.1), limits)
