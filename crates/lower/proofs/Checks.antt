-- What a check without fault says of the stores. Assumes nothing.
use mathlib.Core.Path.{◌≡◌, sym, ◌∙◌}
use mathlib.Core.List.{List, [], ◌∷◌}
use Prim.Native.Nat.{ℕ, ◌+◌, ◌*◌, ◌≤◌, ◌<◌}
use native.Mathlib.Omega.{arith}
use lib.ListN.{length, take}
use lib.Seq.{length-take-le}
use lib.Dec.{ltb, leb}
use borrow.Author.Tests.{leb-true, ltb-true}
use Rattle.operand.specs.Numbers.{operand_at, within, operand_of}
use Rattle.lower.specs.declared.Sizes.{Sizes}
use Rattle.lower.specs.Lists.{All, done, more}
use Rattle.lower.specs.Stores.{Stores, row_handles, handles_in, Stands, Placed}
use Rattle.lower.specs.Faults.{unless, or_else, first_fault, term_fault, operand_fault, rows_fault, pairs_fault, definitions_fault, places_fault, terms_in, full_fault, memory_fault}
use Rattle.lower.proofs.Firsts.{else_first, else_second, else_split, unless_holds, first_none}
use Rattle.lower.proofs.Laws.{all_both, all_imp}

module _ (w : ℕ) (old new : List ℕ) where
  pub operand_in : (h : ℕ) → operand_fault w old new h ≡ 0 → Stands old new h
  unfolding operand_fault
  operand_in h z = leb-true _ _ (unless_holds (within old new (operand_at h)) 3 (omega arith) (else_first _ _ z))

  pub operand_sound : (h : ℕ) → operand_fault w old new h ≡ 0 → first_fault (term_fault w) (operand_of old new h) ≡ 0
  unfolding operand_fault
  operand_sound h z = else_second (unless (within old new (operand_at h)) 3) _ z

  pub rows_in : (k n : ℕ) (hs : List ℕ) → rows_fault w old new k n hs ≡ 0 → k * n ≤ length hs
  unfolding rows_fault
  rows_in k n hs h = leb-true _ _ (unless_holds _ 3 (omega arith) (else_first _ _ h))

  pub rows_sound : (k n : ℕ) (hs : List ℕ) → rows_fault w old new k n hs ≡ 0 → All (λ (h : ℕ). operand_fault w old new h ≡ 0) (take (k * n) hs)
  unfolding rows_fault
  rows_sound k n hs h = first_none _ _ (else_second (unless (leb (k * n) (length hs)) 3) _ h)

  pairs_sound : (ds hs : List ℕ) → length ds ≡ length hs → pairs_fault w old new ds hs ≡ 0
      → All (λ (d : ℕ). d < w) ds × All (λ (h : ℕ). operand_fault w old new h ≡ 0) hs
  pairs_sound [] [] e h = (done, done)
  pairs_sound [] (x ∷ hs) e h = absurd (omega arith)
  pairs_sound (d ∷ ds) [] e h = absurd (omega arith)
  pairs_sound (d ∷ ds) (x ∷ hs) e h =
      let here = else_split (or_else (unless (ltb d w) 5) (operand_fault w old new x)) _ h in
      let one = else_split (unless (ltb d w) 5) _ here.0 in
      let rest = pairs_sound ds hs (omega arith) here.1 in
      (more (ltb-true _ _ (unless_holds (ltb d w) 5 (omega arith) one.0)) rest.0, more one.1 rest.1)

  pub defs_in_ds : (n : ℕ) (ds hs : List ℕ) → definitions_fault w old new n ds hs ≡ 0 → n ≤ length ds
  unfolding definitions_fault
  defs_in_ds n ds hs h = leb-true _ _ (unless_holds (leb n (length ds)) 3 (omega arith) (else_first _ _ h))

  pub defs_in : (n : ℕ) (ds hs : List ℕ) → definitions_fault w old new n ds hs ≡ 0 → n ≤ length hs
  unfolding definitions_fault
  defs_in n ds hs h = leb-true _ _ (unless_holds (leb n (length hs)) 3 (omega arith) (else_first _ _ (else_second (unless (leb n (length ds)) 3) _ h)))

  pub defs_sound : (n : ℕ) (ds hs : List ℕ) → definitions_fault w old new n ds hs ≡ 0
      → All (λ (d : ℕ). d < w) (take n ds) × All (λ (h : ℕ). operand_fault w old new h ≡ 0) (take n hs)
  unfolding definitions_fault
  defs_sound n ds hs h =
      pairs_sound (take n ds) (take n hs)
      (length-take-le n ds (defs_in_ds n ds hs h) ∙ sym (length-take-le n hs (defs_in n ds hs h)))
      (else_second (unless (leb n (length hs)) 3) _ (else_second (unless (leb n (length ds)) 3) _ h))

-- no fault of 3, 4 and 5: each list is long enough, each destination a wire, each operand sound
pub record Checked (z : Sizes) (s : Stores) : Type 0 where
  pub ands_in : 3 * z.ands ≤ length s.ands
  pub imuls_in : 4 * z.imuls ≤ length s.imuls
  pub bmuls_in : 6 * z.bmuls ≤ length s.bmuls
  pub zeros_in : z.zeros ≤ length s.zeros
  pub dsts_in : z.linears ≤ length s.dsts
  pub rhss_in : z.linears ≤ length s.rhss
  pub dsts_sound : All (λ (d : ℕ). d < z.wires) (take z.linears s.dsts)
  pub ands_sound : All (λ (h : ℕ). operand_fault z.wires s.old s.new h ≡ 0) (take (3 * z.ands) s.ands)
  pub imuls_sound : All (λ (h : ℕ). operand_fault z.wires s.old s.new h ≡ 0) (take (4 * z.imuls) s.imuls)
  pub bmuls_sound : All (λ (h : ℕ). operand_fault z.wires s.old s.new h ≡ 0) (take (6 * z.bmuls) s.bmuls)
  pub zeros_sound : All (λ (h : ℕ). operand_fault z.wires s.old s.new h ≡ 0) (take z.zeros s.zeros)
  pub rhss_sound : All (λ (h : ℕ). operand_fault z.wires s.old s.new h ≡ 0) (take z.linears s.rhss)

pub checked : (z : Sizes) (s : Stores) → places_fault z s ≡ 0 → Checked z s
unfolding places_fault
checked z s h =
    let w = z.wires in let o = s.old in let n = s.new in
    let a = else_split (rows_fault w o n 3 z.ands s.ands) _ h in
    let i = else_split (rows_fault w o n 4 z.imuls s.imuls) _ a.1 in
    let b = else_split (rows_fault w o n 6 z.bmuls s.bmuls) _ i.1 in
    let r = else_split (rows_fault w o n 1 z.zeros s.zeros) _ b.1 in
    let l = defs_sound w o n z.linears s.dsts s.rhss r.1 in
    let one : 1 * z.zeros ≡ z.zeros = omega arith in
    record {
      ands_in = rows_in w o n 3 z.ands s.ands a.0;
      imuls_in = rows_in w o n 4 z.imuls s.imuls i.0;
      bmuls_in = rows_in w o n 6 z.bmuls s.bmuls b.0;
      zeros_in = rw one at (rows_in w o n 1 z.zeros s.zeros r.0);
      dsts_in = defs_in_ds w o n z.linears s.dsts s.rhss r.1;
      rhss_in = defs_in w o n z.linears s.dsts s.rhss r.1;
      dsts_sound = l.0;
      ands_sound = rows_sound w o n 3 z.ands s.ands a.0;
      imuls_sound = rows_sound w o n 4 z.imuls s.imuls i.0;
      bmuls_sound = rows_sound w o n 6 z.bmuls s.bmuls b.0;
      zeros_sound = rw one at (rows_sound w o n 1 z.zeros s.zeros r.0);
      rhss_sound = l.1;
    }

module _ (z : Sizes) (s : Stores) (y : Checked z s) where
  pub handles_sound : All (λ (h : ℕ). operand_fault z.wires s.old s.new h ≡ 0) (handles_in z s)
  unfolding row_handles
  handles_sound = all_both _ (all_both _ y.ands_sound (all_both _ y.imuls_sound (all_both _ y.bmuls_sound y.zeros_sound))) y.rhss_sound

  pub stand : (hs : List ℕ) → All (λ (h : ℕ). operand_fault z.wires s.old s.new h ≡ 0) hs → All (Stands s.old s.new) hs
  stand hs = all_imp (λ h e. operand_in z.wires s.old s.new h e) hs

  pub placed : Placed z s
  placed =
      record {
        ands_there = y.ands_in;
        imuls_there = y.imuls_in;
        bmuls_there = y.bmuls_in;
        zeros_there = y.zeros_in;
        dsts_there = y.dsts_in;
        rhss_there = y.rhss_in;
        operands_there = stand (handles_in z s) handles_sound;
      }

  pub dsts_small : z.wires ≤ 4096 → All (λ (d : ℕ). d < 4096) (take z.linears s.dsts)
  dsts_small few = all_imp (λ d (h : d < z.wires). omega (arith, h, few)) (take z.linears s.dsts) y.dsts_sound

module _ (limit : ℕ) (z : Sizes) (s : Stores) (e : memory_fault limit z s ≡ 0) where
  pub memory_places : places_fault z s ≡ 0
  unfolding memory_fault
  memory_places = else_first (places_fault z s) _ e

  pub memory_full : full_fault limit z (terms_in z s) ≡ 0
  unfolding memory_fault
  memory_full = else_second (places_fault z s) _ e

  pub memory_wires : z.wires ≤ 4096
  unfolding full_fault
  memory_wires =
      let w = z.wires in
      let f = else_second (unless (ltb 0 w) 6) _ memory_full in
      leb-true _ _ (unless_holds (leb w 4096) 6 (omega arith) (else_first (unless (leb w 4096) 6) _ f))

  pub memory_definitions : z.linears ≤ 1024
  unfolding full_fault
  memory_definitions =
      let f = else_second (unless (leb z.wires 4096) 6) _ (else_second (unless (ltb 0 z.wires) 6) _ memory_full) in
      leb-true _ _ (unless_holds (leb z.linears 1024) 6 (omega arith) (else_first (unless (leb z.linears 1024) 6) _ f))

  pub memory_others : z.ands + z.imuls + z.bmuls + z.zeros ≤ 1024
  unfolding full_fault
  memory_others =
      let n = z.ands + z.imuls + z.bmuls + z.zeros in
      let f = else_second (unless (leb z.wires 4096) 6) _ (else_second (unless (ltb 0 z.wires) 6) _ memory_full) in
      let g = else_second (unless (leb z.linears 1024) 6) _ f in
      leb-true _ _ (unless_holds (leb n 1024) 6 (omega arith) (else_first (unless (leb n 1024) 6) _ g))

  pub memory_terms : terms_in z s ≤ limit
  unfolding full_fault
  memory_terms =
      let n = z.ands + z.imuls + z.bmuls + z.zeros in
      let f = else_second (unless (leb z.wires 4096) 6) _ (else_second (unless (ltb 0 z.wires) 6) _ memory_full) in
      let g = else_second (unless (leb n 1024) 6) _ (else_second (unless (leb z.linears 1024) 6) _ f) in
      leb-true _ _ (unless_holds (leb (terms_in z s) limit) 6 (omega arith) g)
