-- What the steps of fusing ask is there in a system that is decided, and what rebuilding leaves. Assumes nothing.
use mathlib.Core.Path.{◌≡◌, sym, ap, ap₂, ◌∙◌, subst}
use Prim.Native.Nat.{ℕ, ◌+◌, ◌*◌, ◌-◌, ◌≤◌, ◌<◌}
use native.Mathlib.Omega.{arith}
use native.Mathlib.Decide.{dec_lt}
use mathlib.Core.Bool.{Bool, true, false}
use mathlib.Core.List.{List, [], map}
use lib.ListN.{length, take, replicate, length-map}
use lib.Seq.{sets, take_all, length-sets}
use borrow.Author.Tests.{lt-ltb, le-ltb}
use Rattle.operand.specs.Numbers.{Term, term_number}
use Rattle.lower.specs.declared.Sizes.{Sizes}
use Rattle.lower.specs.Lists.{All, sum_of}
use Rattle.lower.specs.Model.{System}
use Rattle.lower.specs.Accepted.{Accepted}
use Rattle.lower.specs.Stores.{Stores, system_of, row_handles, Placed}
use Rattle.lower.specs.Faults.{length_of, memory_fault}
use Rattle.lower.proofs.Laws.{all_left, all_right}
use Rattle.lower.proofs.Firsts.{part_all}
use Rattle.lower.proofs.Checks.{checked, placed, memory_places, memory_definitions}
use Rattle.legraph.specs.Tables.{numbered}
use Rattle.legraph.proofs.Listing.{table_of, Defined, found_at}
use Rattle.legraph.proofs.Theorem.{count, small, table_made}
use Rattle.commit_set.proofs.Answers.{memory_none, slots_few}
use Rattle.commit_set.proofs.Theorem.{decided_accepted}
use Rattle.patch.specs.declared.Cursor.{Cursor}
use Rattle.patch.specs.declared.Progress.{Progress}
use Rattle.patch.specs.Patch.{expand_operand, rebuilds, written, terms_written}
use Rattle.patch.specs.Handles.{handles_from}
use Rattle.patch.specs.Steps.{wrote}
use Rattle.patch.specs.Spelling.{Source, source, cursor_at, spell, Looks, Lookable}
use Rattle.patch.proofs.Built.{cut_none}
use Rattle.patch.proofs.Lookables.{lookable, looks_room}
use Rattle.patch.specs.Building.{Built, built, built_by, build_all, operands_in, Rooted, Buildable}
use Rattle.reach.specs.Alive.{AliveIn}
use Rattle.reach.proofs.Theorem.{ands_part, imuls_part, bmuls_part, zeros_part}
use Rattle.fusion.specs.Left.{numbers}
use Rattle.fusion.specs.Steps.{Ready, chosen, numbers_in, Holds, Rebuilt}
use Rattle.fusion.proofs.System.{take_front}
use Rattle.fusion.proofs.Rebuilding.{all_rooted, all_readable, rebuilds_few, source-within, rebuilding_fits, rebuilding_over}
use Rattle.fusion.proofs.Closing.{numbers_length}

-- ---- how far the store of new terms is filled: end is its length, n the terms that are written

pub cursor_fits : (end n : ℕ) → n ≤ end → cursor_at end n ≡ record { count = n; full = false }
cursor_fits end n h = rw (le-ltb end n h)

pub cursor_over : (end n : ℕ) → end < n → cursor_at end n ≡ record { count = end; full = true }
cursor_over end n h = rw (lt-ltb end n h)

-- ---- what is read of it, where all fits

module _ (p : System) (c : ℕ → Bool) where
  pub numbers_fit : (n : ℕ) → terms_written p c ≤ n → numbers_in p c n ≡ numbers p c
  unfolding numbers_in numbers terms_written written
  numbers_fit n h = ap (handles_from 0) (cut_none (expand_operand p c) (rebuilds p c) n h)

  module _ (out list out' list' : List ℕ) (b : Cursor) (m : Rebuilt p c out list out' list' b) (h : terms_written p c ≤ length out) where
    pub rebuilt-fits : b ≡ record { count = terms_written p c; full = false }
    rebuilt-fits = m.cursor ∙ cursor_fits (length out) (terms_written p c) h

    terms_are : out' ≡ sets out 0 (map term_number (written p c))
    unfolding terms_written
    terms_are = m.terms ∙ ap (λ (ts : List Term). sets out 0 (map term_number ts)) (take_all (length out) (written p c) h)

    terms_taken : take (terms_written p c) (sets out 0 (map term_number (written p c))) ≡ map term_number (written p c)
    unfolding terms_written
    terms_taken = take_front (map term_number (written p c)) out (length (written p c)) (length-map (written p c) term_number) h

    list_is : list' ≡ sets list 0 (numbers p c)
    list_is = m.listed ∙ ap (sets list 0) (numbers_fit (length out) h)

    pub rebuilt_holds : length (rebuilds p c) ≤ length list → Holds p c (take b.count out') list'
    rebuilt_holds k =
        record {
          terms = ap₂ {C = List ℕ} (λ (x : Cursor) (ts : List ℕ). take x.count ts) rebuilt-fits terms_are ∙ terms_taken;
          listed = ap (take (length (rebuilds p c))) list_is ∙ take_front (numbers p c) list (length (rebuilds p c)) (numbers_length p c) k;
          there = omega (arith, k, ap length list_is, length-sets list 0 (numbers p c));
        }

-- ---- a system that is decided

module _ (z : Sizes) (s : Stores) (decisions : List ℕ) (r : Ready z s decisions) where
  abbrev p : System
  p = system_of z s

  abbrev c : ℕ → Bool
  c = chosen z s decisions

  pub memory : memory_fault 8192 z s ≡ 0
  memory = memory_none r.slots z s r.fault

  pub accepted : Accepted p
  accepted = decided_accepted r.slots z s r.fault r.no_circle

  pub few : r.slots ≤ 2
  few = slots_few r.slots z s r.fault

  pub there : Placed z s
  there = placed z s (checked z s (memory_places 8192 z s memory))

  pub operands_few : length (rebuilds p c) ≤ 7168
  operands_few = rebuilds_few z s memory accepted c

  -- alive and reach are the lengths of the stores of masks
  pub masks_room : (alive reach : ℕ) → alive ≡ 18432 → reach ≡ 1024 → (z.linears ≤ length decisions) × (z.linears ≤ alive) × (z.linears ≤ reach)
  masks_room alive reach a b = let n = memory_definitions 8192 z s memory in (r.long, omega (arith, n, a), omega (arith, n, b))

  -- alive is the length of the store of masks
  pub looks_asks : (t : List ℕ) (alive : ℕ) → t ≡ numbered 0 (take z.linears s.dsts) (replicate 4096 0) → alive ≡ 18432
      → Lookable s.old s.new s.rhss t z.linears × ((2048 + 2 * sum_of length_of (take z.linears s.rhss) ≤ alive) × (alive < 65536))
  looks_asks t alive q a = (subst (λ (x : List ℕ). Lookable s.old s.new s.rhss x z.linears) (sym (q ∙ table_made z s memory)) (lookable z s memory accepted.once accepted.shifted), (omega (arith, a, looks_room z s memory), omega (arith, a)))

  -- the masks of the definitions stand before those of the terms
  pub mask_first : (d : ℕ) → d < z.linears → d < 1024
  mask_first d h = omega (arith, h, memory_definitions 8192 z s memory)

  pub wires_few : z.wires < 65536
  unfolding system_of
  wires_few = omega (arith, accepted.limits.wires_few)

  rooted_rows : All (Rooted s.old s.new) (row_handles z s.ands s.imuls s.bmuls s.zeros)
  rooted_rows = all_left (Rooted s.old s.new) (row_handles z s.ands s.imuls s.bmuls s.zeros) (take z.linears s.rhss) (all_rooted z s memory accepted)

  rooted_rhss : All (Rooted s.old s.new) (take z.linears s.rhss)
  rooted_rhss = all_right (Rooted s.old s.new) (row_handles z s.ands s.imuls s.bmuls s.zeros) (take z.linears s.rhss) (all_rooted z s memory accepted)

  module _ (alive : List ℕ) (a : AliveIn p c z.linears s.dsts alive) where
    abbrev src : List ℕ → Source
    src t = source s.old s.new s.rhss t decisions alive

    buildable : ((d : ℕ) → d < z.linears → Looks (src (table_of 4096 p)) d) → Buildable (src (table_of 4096 p)) z s.ands s.imuls s.bmuls s.zeros
    buildable looks =
        let one : z.zeros ≡ 1 * z.zeros = omega arith in
        record {
          ready = (all_readable z s memory accepted decisions alive looks, source-within r.slots z s memory accepted few decisions alive r.solves a);
          ands_there = (there.ands_there, ands_part z s memory decisions rooted_rows);
          imuls_there = (there.imuls_there, imuls_part z s memory decisions rooted_rows);
          bmuls_there = (there.bmuls_there, bmuls_part z s memory decisions rooted_rows);
          zeros_there = (omega (arith, there.zeros_there), subst (λ (n : ℕ). All (Rooted s.old s.new) (take n s.zeros)) one (zeros_part z s memory decisions rooted_rows));
          commits_there = λ w d q.
              let f : Defined p w d = found_at p 4096 accepted.once (small z s memory) w d q in
              part_all s.rhss z.linears d 0 rooted_rhss (omega (arith, f.under, count z s memory)) there.rhss_there;
          wires_few = omega (arith, wires_few);
        }

    pub build_asks : (t : List ℕ) → t ≡ numbered 0 (take z.linears s.dsts) (replicate 4096 0) → ((d : ℕ) → d < z.linears → Looks (src t) d)
        → Buildable (src t) z s.ands s.imuls s.bmuls s.zeros
    build_asks t q looks =
        subst (λ (x : List ℕ). Buildable (src x) z s.ands s.imuls s.bmuls s.zeros) (sym (q ∙ table_made z s memory))
        (buildable (subst (λ (x : List ℕ). (d : ℕ) → d < z.linears → Looks (src x) d) (q ∙ table_made z s memory) looks))

    module _ (t out list out' list' : List ℕ) (b : Progress) (q : t ≡ numbered 0 (take z.linears s.dsts) (replicate 4096 0))
        (e : built_by out' list' b ≡ build_all (spell (src t) z.linears) (operands_in (src t) z s.ands s.imuls s.bmuls s.zeros) (built (wrote out 0 [] false) list 0))
        (long : length list ≡ 7168) where
      by_table : built_by out' list' b
          ≡ build_all (spell (src (table_of 4096 p)) z.linears) (operands_in (src (table_of 4096 p)) z s.ands s.imuls s.bmuls s.zeros) (built (wrote out 0 [] false) list 0)
      by_table = e ∙ ap (λ (x : List ℕ). build_all (spell (src x) z.linears) (operands_in (src x) z s.ands s.imuls s.bmuls s.zeros) (built (wrote out 0 [] false) list 0)) (q ∙ table_made z s memory)

      few_operands : length (rebuilds p c) ≤ length list
      few_operands = omega (arith, long, operands_few)

      done : terms_written p c ≤ length out
          → built_by out' list' b ≡ built (wrote (sets out 0 (map term_number (written p c))) (terms_written p c) [] false) (sets list 0 (numbers p c)) (length (rebuilds p c))
      done h = by_table ∙ rebuilding_fits r.slots z s memory accepted few decisions alive r.solves a out list few_operands h

      fits-made : terms_written p c ≤ length out → Rebuilt p c out list out' list' b.cursor
      unfolding terms_written
      fits-made h = record {
        cursor = ap {B = Cursor} (λ (x : Built). record { count = x.wrote.count; full = x.wrote.full }) (done h) ∙ sym (cursor_fits (length out) (terms_written p c) h);
        terms = ap (λ (x : Built). x.wrote.new) (done h) ∙ ap (λ (ts : List Term). sets out 0 (map term_number ts)) (sym (take_all (length out) (written p c) h));
        listed = ap (λ (x : Built). x.list) (done h) ∙ ap (sets list 0) (sym (numbers_fit p c (length out) h));
      }

      over-made : length out < terms_written p c → Rebuilt p c out list out' list' b.cursor
      over-made h =
          let q = rebuilding_over r.slots z s memory accepted few decisions alive r.solves a out list few_operands h in
          let i : length out - 0 ≡ length out = omega arith in
          record {
            cursor = ap {B = Cursor} (λ (x : Built). record { count = x.wrote.count; full = x.wrote.full }) by_table
                ∙ ap₂ {C = Cursor} (λ (n : ℕ) (f : Bool). record { count = n; full = f }) q.0.at_end q.0.no_room ∙ sym (cursor_over (length out) (terms_written p c) h);
            terms = ap (λ (x : Built). x.wrote.new) by_table ∙ q.0.front ∙ ap (λ (n : ℕ). sets out 0 (map term_number (take n (written p c)))) i;
            listed = ap (λ (x : Built). x.list) by_table ∙ q.1;
          }

      pub rebuilt-made : Rebuilt p c out list out' list' b.cursor
      rebuilt-made = elim (dec_lt (length out) (terms_written p c)) [ yes h ↦ over-made h | no h ↦ fits-made (omega arith) ]
