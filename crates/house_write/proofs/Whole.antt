-- What is counted by the lengths of the operands is so of the system, and what the checks in memory give. Assumes nothing.
use mathlib.Core.Path.{◌≡◌, refl, sym, ap, ◌∙◌}
use mathlib.Core.Bool.{Bool, true, false, ◌&&◌}
use mathlib.Core.List.{List, [], ◌∷◌, ◌++◌, map}
use Prim.Native.Nat.{ℕ, zero, suc, ◌+◌, ◌*◌, ◌≤◌, ◌<◌}
use native.Mathlib.Nat.{mul-zero, mul-suc}
use native.Mathlib.Omega.{arith}
use lib.ListN.{length, take, drop}
use lib.Seq.{take-add, length-take-le}
use lib.Dec.{eqb, ltb, leb}
use borrow.Author.Tests.{ne_eqb, leb-true, ltb-true}
use Rattle.shift.specs.Shifts.{valid_number, valid, shift_at}
use Rattle.operand.specs.Numbers.{Term, Operand, term_of, operand_at, terms_at, operand_of}
use Rattle.lower.specs.declared.Sizes.{Sizes}
use Rattle.lower.specs.Lists.{All, more, sum_of, some_of}
use Rattle.lower.specs.Stores.{Stores, rows_of, definitions_of, system_of, Stands}
use Rattle.lower.specs.Faults.{unless, term_fault, operand_fault, full_fault, memory_fault}
use Rattle.lower.proofs.Firsts.{else_first, else_second, unless_holds, first_none, sum-append}
use Rattle.lower.proofs.Laws.{all_left, all_right, all_imp}
use Rattle.lower.proofs.Alls.{all_unmap}
use Rattle.lower.proofs.Somes.{neither, some-append}
use Rattle.lower.proofs.Checks.{Checked, checked, stand, operand_in, operand_sound, memory_places, memory_full}
use Rattle.house_file.specs.Format.{Entry, LINEAR, payload_size, row_entry, linear_entry, entries_of, file_size}
use Rattle.house_write.specs.Sizes.{handle_size, handles_size, is_wide, rows_wide, definitions_wide, wides_in, bytes_in, Within, Short, Ready}
use Rattle.house_write.specs.Write.{MAX_WRITTEN_TERMS, wide}
use Rattle.house_write.proofs.Storing.{operand_terms, handles_size_lem}

abbrev entry_size_lem : Entry → ℕ
entry_size_lem e = 3 + payload_size e

abbrev entry_wide : Entry → Bool
entry_wide e = is_wide (payload_size e)

size_append : (a b : List ℕ) → handles_size (a ++ b) ≡ handles_size a + handles_size b
unfolding handles_size
size_append a b = sum-append handle_size a b

no_size : (hs : List ℕ) (m : ℕ) → m ≡ 0 → 0 ≡ 3 * 0 + handles_size (take m hs)
unfolding handles_size
no_size hs m e = rw e

-- ---- one list

module _ (old new : List ℕ) where
  abbrev f : ℕ → Operand
  f = operand_of old new

  row_payload : (tag : ℕ) (hs : List ℕ) → tag < 6 → All (Stands old new) hs → payload_size (row_entry tag (map f hs)) ≡ handles_size hs
  unfolding payload_size
  row_payload tag hs h p =
      let e : eqb tag LINEAR ≡ false = ne_eqb tag LINEAR (λ k. omega (arith, h, k)) in
      simp e (omega (arith, handles_size_lem old new hs p))

  linear_payload : (d h : ℕ) → Stands old new h → payload_size (linear_entry (record { dst = d; rhs = f h })) ≡ 2 + handle_size h
  unfolding payload_size
  linear_payload d h p = omega (arith, operand_terms old new h p)

  module _ (tag : ℕ) (h : tag < 6) (k : ℕ) where
    apart : (n : ℕ) (hs : List ℕ) → take (k * suc n) hs ≡ take k hs ++ take (k * n) (drop k hs)
    apart n hs = let m : k * suc n ≡ k + k * n = mul-suc k n ∙ omega arith in rw m (take-add k (k * n) hs)

    pub wide_rows : (n : ℕ) (hs : List ℕ) → All (Stands old new) (take (k * n) hs) → some_of entry_wide (map (row_entry tag) (rows_of f k n hs)) ≡ rows_wide k n hs
    unfolding rows_wide
    wide_rows zero hs p = refl
    wide_rows (suc n) hs p =
        let q = rw (apart n hs) at p in
        rw (
          row_payload tag (take k hs) h (all_left (Stands old new) (take k hs) _ q),
          wide_rows n (drop k hs) (all_right (Stands old new) (take k hs) _ q),
        )

    pub size_rows : (n : ℕ) (hs : List ℕ) → All (Stands old new) (take (k * n) hs) → sum_of entry_size_lem (map (row_entry tag) (rows_of f k n hs)) ≡ 3 * n + handles_size (take (k * n) hs)
    size_rows zero hs p = no_size hs (k * 0) (mul-zero k)
    size_rows (suc n) hs p =
        let q = rw (apart n hs) at p in
        omega (
          arith,
          row_payload tag (take k hs) h (all_left (Stands old new) (take k hs) _ q),
          size_rows n (drop k hs) (all_right (Stands old new) (take k hs) _ q),
          ap handles_size (apart n hs),
          size_append (take k hs) (take (k * n) (drop k hs)),
        )

  pub wide_definitions : (ds hs : List ℕ) → length ds ≡ length hs → All (Stands old new) hs → some_of entry_wide (map linear_entry (definitions_of f ds hs)) ≡ definitions_wide hs
  unfolding definitions_wide
  wide_definitions [] [] e p = refl
  wide_definitions [] (h ∷ hs) e p = absurd (omega arith)
  wide_definitions (d ∷ ds) [] e p = refl
  wide_definitions (d ∷ ds) (h ∷ hs) e (more p q) = rw (linear_payload d h p, wide_definitions ds hs (omega arith) q)

  pub size_definitions : (ds hs : List ℕ) → length ds ≡ length hs → All (Stands old new) hs → sum_of entry_size_lem (map linear_entry (definitions_of f ds hs)) ≡ 5 * length hs + handles_size hs
  unfolding handles_size
  size_definitions [] [] e p = refl
  size_definitions [] (h ∷ hs) e p = absurd (omega arith)
  size_definitions (d ∷ ds) [] e p = refl
  size_definitions (d ∷ ds) (h ∷ hs) e (more p q) = omega (arith, linear_payload d h p, size_definitions ds hs (omega arith) q)

-- ---- the whole system

module _ (z : Sizes) (s : Stores) (y : Checked z s) where
  pub within : Within z s.ands s.imuls s.bmuls s.zeros s.rhss
  within = record { ands_in = y.ands_in; imuls_in = y.imuls_in; bmuls_in = y.bmuls_in; zeros_in = y.zeros_in; rhss_in = y.rhss_in }

  zeros_stand : All (Stands s.old s.new) (take (1 * z.zeros) s.zeros)
  zeros_stand = let one : z.zeros ≡ 1 * z.zeros = omega arith in rw one at (stand z s y (take z.zeros s.zeros) y.zeros_sound)

  as_many : length (take z.linears s.dsts) ≡ length (take z.linears s.rhss)
  as_many = length-take-le _ s.dsts y.dsts_in ∙ sym (length-take-le _ s.rhss y.rhss_in)

  pub wide_is : wide (system_of z s) ≡ wides_in z s.ands s.imuls s.bmuls s.zeros s.rhss
  unfolding wide wides_in entries_of system_of
  wide_is =
      let o = s.old in let n = s.new in
      let g = f o n in
      let a = map (row_entry 2) (rows_of g 3 z.ands s.ands) in
      let i = map (row_entry 3) (rows_of g 4 z.imuls s.imuls) in
      let b = map (row_entry 4) (rows_of g 6 z.bmuls s.bmuls) in
      let r = map (row_entry 5) (rows_of g 1 z.zeros s.zeros) in
      let d = map linear_entry (definitions_of g (take z.linears s.dsts) (take z.linears s.rhss)) in
      rw (
        some-append entry_wide a (i ++ (b ++ (r ++ d))),
        some-append entry_wide i (b ++ (r ++ d)),
        some-append entry_wide b (r ++ d),
        some-append entry_wide r d,
        wide_rows o n 2 (omega arith) 3 z.ands s.ands (stand z s y _ y.ands_sound),
        wide_rows o n 3 (omega arith) 4 z.imuls s.imuls (stand z s y _ y.imuls_sound),
        wide_rows o n 4 (omega arith) 6 z.bmuls s.bmuls (stand z s y _ y.bmuls_sound),
        wide_rows o n 5 (omega arith) 1 z.zeros s.zeros zeros_stand,
        wide_definitions o n (take z.linears s.dsts) (take z.linears s.rhss) as_many (stand z s y _ y.rhss_sound),
      )

  pub bytes_is : file_size (entries_of (system_of z s)) ≡ bytes_in z s.ands s.imuls s.bmuls s.zeros s.rhss
  unfolding file_size bytes_in entries_of system_of
  bytes_is =
      let o = s.old in let n = s.new in
      let g = f o n in
      let a = map (row_entry 2) (rows_of g 3 z.ands s.ands) in
      let i = map (row_entry 3) (rows_of g 4 z.imuls s.imuls) in
      let b = map (row_entry 4) (rows_of g 6 z.bmuls s.bmuls) in
      let r = map (row_entry 5) (rows_of g 1 z.zeros s.zeros) in
      let d = map linear_entry (definitions_of g (take z.linears s.dsts) (take z.linears s.rhss)) in
      let one : 1 * z.zeros ≡ z.zeros = omega arith in
      omega (
        arith,
        sum-append entry_size_lem a (i ++ (b ++ (r ++ d))),
        sum-append entry_size_lem i (b ++ (r ++ d)),
        sum-append entry_size_lem b (r ++ d),
        sum-append entry_size_lem r d,
        size_rows o n 2 (omega arith) 3 z.ands s.ands (stand z s y _ y.ands_sound),
        size_rows o n 3 (omega arith) 4 z.imuls s.imuls (stand z s y _ y.imuls_sound),
        size_rows o n 4 (omega arith) 6 z.bmuls s.bmuls (stand z s y _ y.bmuls_sound),
        size_rows o n 5 (omega arith) 1 z.zeros s.zeros zeros_stand,
        ap (λ (m : ℕ). handles_size (take m s.zeros)) one,
        size_definitions o n (take z.linears s.dsts) (take z.linears s.rhss) as_many (stand z s y _ y.rhss_sound),
        length-take-le _ s.rhss y.rhss_in,
      )

  -- ---- what writing relies on

  short : (t : ℕ) → term_fault z.wires (term_of t) ≡ 0 → Short t
  unfolding term_fault
  short t e =
      let w = z.wires in let v = term_of t in
      let k = else_second (unless (ltb v.wire w) 5) _ e in
      let b = unless_holds (valid_number v.outer) 4 (omega arith) (else_second (unless (valid_number v.inner) 4) _ k) in
      let l = ltb-true v.outer 512 (both (ltb v.outer 512) (valid (shift_at v.outer)) b) in
      omega (arith, l)
    where
      both : (a b : Bool) → (a && b) ≡ true → a ≡ true
      both true b h = refl
      both false b h = h

  pub ready : (hs : List ℕ) → All (λ (h : ℕ). operand_fault z.wires s.old s.new h ≡ 0) hs → All (Ready s.old s.new) hs
  unfolding operand_of
  ready hs = all_imp one hs
    where
      one : (h : ℕ) → operand_fault z.wires s.old s.new h ≡ 0 → Ready s.old s.new h
      one h e =
          let ts = terms_at s.old s.new (operand_at h) in
          record {
            stands = operand_in z.wires s.old s.new h e;
            short = all_imp short ts (all_unmap (λ (t : Term). term_fault z.wires t ≡ 0) term_of ts (first_none (term_fault z.wires) (map term_of ts) (operand_sound z.wires s.old s.new h e)));
          }

module _ (z : Sizes) (s : Stores) (e : memory_fault MAX_WRITTEN_TERMS z s ≡ 0) where
  pub fine : Checked z s
  fine = checked z s (memory_places MAX_WRITTEN_TERMS z s e)

  pub few : (z.ands + z.imuls + z.bmuls + z.zeros ≤ 1024) × (z.linears ≤ 1024)
  unfolding full_fault
  few =
      let w = z.wires in
      let f1 = else_second (unless (ltb 0 w) 6) _ (memory_full MAX_WRITTEN_TERMS z s e) in
      let f2 = else_second (unless (leb w 4096) 6) _ f1 in
      let f3 = else_second (unless (leb z.linears 1024) 6) _ f2 in (
        leb-true _ _ (unless_holds (leb (z.ands + z.imuls + z.bmuls + z.zeros) 1024) 6 (omega arith) (else_first (unless (leb (z.ands + z.imuls + z.bmuls + z.zeros) 1024) 6) _ f3)),
        leb-true _ _ (unless_holds (leb z.linears 1024) 6 (omega arith) (else_first (unless (leb z.linears 1024) 6) _ f2)),
      )

-- no record is wide: none of each list is
pub record Narrow (z : Sizes) (s : Stores) : Type 0 where
  pub ands_narrow : rows_wide 3 z.ands s.ands ≡ false
  pub imuls_narrow : rows_wide 4 z.imuls s.imuls ≡ false
  pub bmuls_narrow : rows_wide 6 z.bmuls s.bmuls ≡ false
  pub zeros_narrow : rows_wide 1 z.zeros s.zeros ≡ false
  pub rhss_narrow : definitions_wide (take z.linears s.rhss) ≡ false

pub narrow : (z : Sizes) (s : Stores) → Checked z s → wide (system_of z s) ≡ false → Narrow z s
unfolding wides_in
narrow z s y e =
    let k = neither (rows_wide 3 z.ands s.ands) _ (sym (wide_is z s y) ∙ e) in
    let k₂ = neither (rows_wide 4 z.imuls s.imuls) _ k.1 in
    let k₃ = neither (rows_wide 6 z.bmuls s.bmuls) _ k₂.1 in
    let k₄ = neither (rows_wide 1 z.zeros s.zeros) _ k₃.1 in
    record { ands_narrow = k.0; imuls_narrow = k₂.0; bmuls_narrow = k₃.0; zeros_narrow = k₄.0; rhss_narrow = k₄.1 }
