-- For an accepted system in stores and its decisions: what rebuilding needs is there, and what it writes is what is left in the stores.
-- Assumes nothing.
use mathlib.Core.Path.{◌≡◌, refl, sym, ap, ◌∙◌, subst, fun_ext}
use Prim.Native.Nat.{ℕ, ◌+◌, ◌*◌, ◌-◌, ◌≤◌, ◌<◌}
use native.Mathlib.Omega.{arith}
use mathlib.Core.Bool.{Bool, true, false}
use mathlib.Core.List.{List, [], ◌++◌, map}
use mathlib.Core.Option.{Option}
use lib.ListN.{length, take, length-append, length-map}
use lib.Seq.{sets, length-take-le}
use Rattle.shift.specs.Shifts.{valid_number}
use Rattle.operand.specs.Numbers.{Term, Operand, operand_of, term_number}
use Rattle.lower.specs.declared.Sizes.{Sizes}
use Rattle.lower.specs.Lists.{All, joined}
use Rattle.lower.specs.Model.{Definition, System, operands_of}
use Rattle.lower.specs.Accepted.{ShiftsOf, Accepted}
use Rattle.lower.specs.Stores.{Stores, system_of, rows_of, handles_in, Placed}
use Rattle.lower.specs.Faults.{memory_fault}
use Rattle.lower.proofs.Laws.{operands_model, rows_flat, rows_length}
use Rattle.lower.proofs.Alls.{all_unjoin, all_unmap}
use Rattle.lower.proofs.Checks.{checked, placed, memory_places}
use Rattle.legraph.proofs.Listing.{table_of, Defined, found_at}
use Rattle.legraph.proofs.Theorem.{count, rhs_same, small, all_there}
use Rattle.commit_set.specs.Numbers.{state_at}
use Rattle.commit_set.specs.Decision.{Solves}
use Rattle.commit_set.proofs.Members.{all_terms, all_rhs}
use Rattle.patch.specs.Expansion.{expand, Fits, Within}
use Rattle.patch.specs.Patch.{commit_set, inlined, depth, expand_term, expand_operand, rebuilt, row_rebuilds, rhss_of, rebuilds, written, terms_written, commits, NeverOver}
use Rattle.patch.specs.Handles.{handles_from, cut_at}
use Rattle.patch.specs.Steps.{wrote, Spilt, Does}
use Rattle.patch.specs.Spelling.{Source, source, in_place, spell, Looks, Readable}
use Rattle.patch.specs.Building.{built, build_all, Rooted, operands_in}
use Rattle.patch.proofs.Parts.{all_each, all_two}
use Rattle.patch.proofs.Chains.{deep}
use Rattle.patch.proofs.Counting.{counted}
use Rattle.patch.proofs.NeverOver.{never_over}
use Rattle.patch.proofs.Built.{Writes, built-fits, built-over}
use Rattle.reach.specs.Alive.{AliveIn}
use Rattle.reach.proofs.Sources.{place_is, source_spells}
use Rattle.fusion.specs.Left.{numbers}
use Rattle.fusion.specs.Steps.{numbers_in}
use Rattle.fusion.proofs.Models.{operands_are}
use Rattle.fusion.proofs.System.{parted_length}

-- ---- what is read

module _ (z : Sizes) (s : Stores) (e : memory_fault 8192 z s ≡ 0) (acc : Accepted (system_of z s)) where
  there : Placed z s
  there = placed z s (checked z s (memory_places 8192 z s e))

  -- every operand stands in its store, and its shifts are valid
  pub all_rooted : All (Rooted s.old s.new) (handles_in z s)
  all_rooted =
      all_two (λ h a b. (a, b)) there.operands_there
      (all_unmap (All ShiftsOf) (operand_of s.old s.new) (handles_in z s)
      (subst (All (All ShiftsOf)) (operands_model z s there.dsts_there there.rhss_there) (all_unjoin ShiftsOf (operands_of (system_of z s)) acc.shifted)))

  pub all_readable : (decisions alive : List ℕ) → ((d : ℕ) → d < z.linears → Looks (source s.old s.new s.rhss (table_of 4096 (system_of z s)) decisions alive) d)
      → Readable (source s.old s.new s.rhss (table_of 4096 (system_of z s)) decisions alive)
  all_readable decisions alive looks w d q =
      let f : Defined (system_of z s) w d = found_at (system_of z s) 4096 acc.once (small z s e) w d q in
      let l : d < z.linears = omega (arith, f.under, count z s e) in
      record {
        right_side = omega (arith, l, there.rhss_there);
        stands = (all_there z s e d l).2;
        shifts =
            subst (All (λ (u : Term). valid_number u.inner ≡ true)) (sym (rhs_same z s e d f.under))
            (all_each (λ u v. v.0) (all_rhs ShiftsOf (system_of z s) d f.under (all_terms ShiftsOf (system_of z s) acc.shifted)));
        looks = looks d l;
      }

  -- ---- how many operands are rebuilt

  module _ (c : ℕ → Bool) where
    rows_few : (f : ℕ → Operand) (k n : ℕ) (hs : List ℕ) → k * n ≤ length hs → length (row_rebuilds (system_of z s) c (rows_of f k n hs)) ≤ k * n
    unfolding row_rebuilds
    rows_few f k n hs long =
        let whole : length (joined (rows_of f k n hs)) ≡ k * n = ap length (rows_flat f k n hs) ∙ length-map (take (k * n) hs) f ∙ length-take-le (k * n) hs long in
        omega (arith, parted_length (rebuilt (system_of z s).linears) (rows_of f k n hs), whole)

    pub rebuilds_few : length (rebuilds (system_of z s) c) ≤ 7168
    unfolding rebuilds system_of
    rebuilds_few =
        let f = operand_of s.old s.new in
        let p = system_of z s in
        let A = row_rebuilds p c p.ands in let I = row_rebuilds p c p.imuls in let B = row_rebuilds p c p.bmuls in let Z = row_rebuilds p c p.zeros in
        let C = rhss_of (commits p c) in
        let l1 = length-append A (I ++ (B ++ (Z ++ C))) in
        let l2 = length-append I (B ++ (Z ++ C)) in
        let l3 = length-append B (Z ++ C) in
        let l4 = length-append Z C in
        let l5 = length-map (commits p c) (λ (d : Definition). d.rhs) in
        let n = (counted p c acc.once acc.named.destinations_named).linears_count in
        let a = rows_few f 3 z.ands s.ands there.ands_there in
        let i = rows_few f 4 z.imuls s.imuls there.imuls_there in
        let b = rows_few f 6 z.bmuls s.bmuls there.bmuls_there in
        let o = rows_few f 1 z.zeros s.zeros (omega (arith, there.zeros_there)) in
        let na = rows_length f 3 z.ands s.ands in
        let ni = rows_length f 4 z.imuls s.imuls in
        let nb = rows_length f 6 z.bmuls s.bmuls in
        let no = rows_length f 1 z.zeros s.zeros in
        omega (arith, l1, l2, l3, l4, l5, n, a, i, b, o, na, ni, nb, no, acc.limits.others_few, acc.limits.definitions_few)

-- ---- what is written

module _ (slots : ℕ) (z : Sizes) (s : Stores) (e : memory_fault 8192 z s ≡ 0) (acc : Accepted (system_of z s)) (few : slots ≤ 2) (decisions alive : List ℕ)
    (solves : Solves slots (system_of z s) (state_at decisions)) (a : AliveIn (system_of z s) (commit_set (system_of z s) (state_at decisions)) z.linears s.dsts alive) where
  abbrev p : System
  p = system_of z s

  abbrev c : ℕ → Bool
  c = commit_set p (state_at decisions)

  abbrev src : Source
  src = source s.old s.new s.rhss (table_of 4096 p) decisions alive

  same_place : in_place src ≡ inlined p c
  same_place = fun_ext (place_is z s e acc.once decisions alive)

  over : NeverOver p c
  over = never_over slots p (state_at decisions) solves few acc.shifted acc.single

  deep_enough : depth p c ≡ z.linears
  unfolding depth
  deep_enough = count z s e

  -- no chain of definitions is longer than there are definitions
  pub source-within : (w : ℕ) → Within (in_place src) z.linears w
  source-within w = subst (λ (D : ℕ → Option Operand). Within D z.linears w) (sym same_place) (subst (λ (n : ℕ). Within (inlined p c) n w) deep_enough (deep p c acc.no_circle w))

  term_writes : (t : Term) → Fits (inlined p c) (depth p c) t → Writes (spell src z.linears) (expand_term p c) t
  unfolding expand_term
  term_writes t fits =
      subst (λ (n : ℕ). Does (spell src z.linears t) (expand (inlined p c) n t) []) (sym deep_enough)
      (subst (λ (D : ℕ → Option Operand). Does (spell src z.linears t) (expand D z.linears t) []) same_place
      (source_spells z s e acc.once decisions alive acc.shifted acc.no_circle a z.linears t (source-within t.wire)
      (subst (λ (D : ℕ → Option Operand). Fits D z.linears t) (sym same_place) (subst (λ (n : ℕ). Fits (inlined p c) n t) deep_enough fits))))

  all_write : All (All (Writes (spell src z.linears) (expand_term p c))) (rebuilds p c)
  all_write = all_each (λ o h. all_each term_writes h) over

  module _ (out list : List ℕ) (long : length (rebuilds p c) ≤ length list) where
    -- THE THEOREM. From empty stores: the terms and the numbers that are left, where they fit,
    pub rebuilding_fits : terms_written p c ≤ length out
        → build_all (spell src z.linears) (operands_in src z s.ands s.imuls s.bmuls s.zeros) (built (wrote out 0 [] false) list 0)
        ≡ built (wrote (sets out 0 (map term_number (written p c))) (terms_written p c) [] false) (sets list 0 (numbers p c)) (length (rebuilds p c))
    unfolding terms_written written numbers expand_operand
    rebuilding_fits h =
        let i : 0 + terms_written p c ≡ terms_written p c = omega arith in
        let j : 0 + length (rebuilds p c) ≡ length (rebuilds p c) = omega arith in
        ap (λ (os : List Operand). build_all (spell src z.linears) os (built (wrote out 0 [] false) list 0)) (operands_are z s e acc.once decisions alive)
        ∙ built-fits (spell src z.linears) (expand_term p c) all_write (built (wrote out 0 [] false) list 0) refl refl (omega (arith, long)) (omega (arith, h))
        ∙ ap (λ (n : ℕ). built (wrote (sets out 0 (map term_number (written p c))) n [] false) (sets list 0 (numbers p c)) (0 + length (rebuilds p c))) i
        ∙ ap (λ (n : ℕ). built (wrote (sets out 0 (map term_number (written p c))) (terms_written p c) [] false) (sets list 0 (numbers p c)) n) j

    -- and else as many as there is room for
    abbrev Ends : List Operand → Type 0
    Ends os =
        Spilt out 0 (written p c) (build_all (spell src z.linears) os (built (wrote out 0 [] false) list 0)).wrote
        × ((build_all (spell src z.linears) os (built (wrote out 0 [] false) list 0)).list ≡ sets list 0 (numbers_in p c (length out)))

    pub rebuilding_over : length out < terms_written p c → Ends (operands_in src z s.ands s.imuls s.bmuls s.zeros)
    unfolding terms_written written numbers_in expand_operand
    rebuilding_over h =
        let i : length out - 0 ≡ length out = omega arith in
        let q = built-over (spell src z.linears) (expand_term p c) all_write (built (wrote out 0 [] false) list 0) refl refl (omega (arith, long)) (omega arith) (omega (arith, h)) in
        subst Ends (sym (operands_are z s e acc.once decisions alive))
        (q.0, q.1 ∙ ap (λ (n : ℕ). sets list 0 (handles_from 0 (cut_at n (map (expand_operand p c) (rebuilds p c))))) i)
