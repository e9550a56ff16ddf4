-- 01's file for `fusereport`, and its line. Assumes nothing.
use mathlib.Core.Path.{◌≡◌, refl, sym, ap, ◌∙◌, subst, fun_ext}
use Prim.Native.Nat.{ℕ, zero, suc}
use native.Mathlib.Omega.{arith}
use mathlib.Core.Bool.{Bool, true, false, cond}
use mathlib.Core.List.{List, [], ◌∷◌}
use lib.ListN.{length, replicate}
use lib.Seq.{sets}
use lib.Dec.{eqb}
use Rattle.shift.specs.declared.ShiftVariant.TheVariants.{Sll}
use Rattle.shift.specs.Shifts.{by, shift_at}
use Rattle.shift.specs.Compose.{degenerates, chains, compose_valid}
use Rattle.operand.specs.Push.{push_valid}
use Rattle.operand.specs.Numbers.{Term}
use Rattle.lower.specs.declared.Sizes.{Sizes}
use Rattle.lower.specs.Model.{System, row_operands, definition_operands}
use Rattle.lower.specs.Accepted.{NoCircle}
use Rattle.lower.specs.Faults.{term_fault, definition_fault}
use Rattle.house_file.specs.Format.{Entry, arity, system_from}
use Rattle.house_file.specs.Decoding.{u16_at, term_at, terms_at, operands_at, operands_next, operands_terms, operands_start, entry_at, entries_at}
use Rattle.house_file.specs.Reading.{head_fault, operand_fault, operands_fault, destination_fault, payload_fault, counted, full_fault, counts_after, field_fault, turn_by, turn_of, read_from, wires_fault, read_of}
use Rattle.house_file.specs.declared.FileRead.{FileRead}
use Rattle.house_fill.specs.Layout.{terms_laid, list_laid, destinations_laid}
use Rattle.house_read.specs.Answer.{room_of}
use Rattle.house_read.proofs.Answers.{room_done, answer_tells}
use Rattle.house_read.proofs.Backs.{read_back}
use Rattle.house_read.proofs.Standings.{read_stands}
use Rattle.legraph.specs.Uses.{uses_in, uses_from, uses_of}
use Rattle.legraph.specs.Tables.{number_in}
use Rattle.commit_set.specs.declared.Decision.{Decision}
use Rattle.commit_set.specs.declared.Decision.TheVariants.{Inline}
use Rattle.commit_set.specs.Runs.{meets, plus, join_all, fresh}
use Rattle.commit_set.specs.Decision.{below, decide, commits, Solves}
use Rattle.commit_set.specs.Paths.{committed}
use Rattle.commit_set.specs.Orders.{Ranked}
use Rattle.commit_set.specs.Answer.{decision_fault}
use Rattle.commit_set.proofs.Answers.{fault_definitions}
use Rattle.commit_set.proofs.Circles.{no_circle}
use Rattle.commit_set.proofs.Ordering.{solution, solution_solves}
use Rattle.commit_set.proofs.Theorem.{decided_accepted}
use Rattle.patch.specs.Patch as Patch
use Rattle.patch.specs.Patch.{committed_at, commit_set, inlined, depth, expand_term, expand_operand, met_term, met_operand, rebuilt, row_rebuilds, rebuilds, written, terms_written, all_met, is_gone, gone, is_stranded, stranded, kept}
use Rattle.patch.proofs.Parts.{clash}
use Rattle.fusion.specs.declared.Counts.{Counts}
use Rattle.std.specs.Prelude.{Ok}
use Rattle.fusion.specs.Left as Left
use Rattle.fusion.specs.Left.{Lent, lent, input, has_room, counts_of, leaves}
use Rattle.fusion.specs.Answer.{told_fused, Fuses}
use Rattle.fusion.proofs.Closing.{fuses_patched}
use Rattle.text.specs.Decimal.{decimal_by, decimal}
use Rattle.text.specs.Text.{values_text, ok_text}
use Rattle.report.specs.Report.{Reports, answers}
use Rattle.report.specs.Outcome.{made, ReadLent, Comes, fused}
use Rattle.report.proofs.Theorem.{said_by}

-- `01 02 00 03 00 05 08 00 01 00 01 00 28 00 00 00 06 0A 00 01 00 01 00 02 00 28 00 00 00 06 0A 00 02 00 01 00 00 00 00 00 00 00 07 00 00`
abbrev pub bytes : List ℕ
bytes =
    1 ∷ 2 ∷ 0 ∷ 3 ∷ 0
    ∷ 5 ∷ 8 ∷ 0 ∷ 1 ∷ 0 ∷ 1 ∷ 0 ∷ 40 ∷ 0 ∷ 0 ∷ 0
    ∷ 6 ∷ 10 ∷ 0 ∷ 1 ∷ 0 ∷ 1 ∷ 0 ∷ 2 ∷ 0 ∷ 40 ∷ 0 ∷ 0 ∷ 0
    ∷ 6 ∷ 10 ∷ 0 ∷ 2 ∷ 0 ∷ 1 ∷ 0 ∷ 0 ∷ 0 ∷ 0 ∷ 0 ∷ 0 ∷ 0
    ∷ 7 ∷ 0 ∷ 0 ∷ []

abbrev sizes : Sizes
sizes = record { wires = 3; ands = 0; imuls = 0; bmuls = 0; zeros = 1; linears = 2 }

abbrev read : FileRead
read = record { sizes = sizes; terms = 3 }

abbrev term : ℕ → ℕ → Term
term w i = record { wire = w; inner = i; outer = 0 }

-- Zero of (1, sll 40); 1 = (2, sll 40), 2 = 0
abbrev original : System
original =
    record {
      wires = 3;
      ands = [];
      imuls = [];
      bmuls = [];
      zeros = ((term 1 40 ∷ []) ∷ []) ∷ [];
      linears = record { dst = 1; rhs = term 2 40 ∷ [] } ∷ record { dst = 2; rhs = term 0 0 ∷ [] } ∷ [];
    }

is_read : read_of bytes ≡ Ok read
unfolding read_of wires_fault head_fault u16_at arity operand_fault operands_fault destination_fault payload_fault counted full_fault counts_after field_fault turn_by turn_of read_from term_fault term_at terms_at operands_next operands_terms operands_start
is_read = refl

said : said_by bytes sizes ≡ original
unfolding system_from entries_at entry_at operands_at operands_next operands_start u16_at arity term_at terms_at
said = refl

-- ---- no circle, no fault

ranked : Ranked original (λ (d : ℕ). d)
ranked zero zero l m u = absurd (clash u refl)
ranked zero (suc d) l m u = omega arith
ranked (suc zero) zero l m u = absurd (clash u refl)
ranked (suc zero) (suc zero) l m u = absurd (clash u refl)
ranked (suc zero) (suc (suc d)) l m u = omega arith
ranked (suc (suc e)) d l m u = absurd (omega arith)

none : definition_fault original ≡ 0
unfolding definition_fault row_operands definition_operands
none = refl

-- ---- the decisions: none commits

module _ (st : ℕ → Decision) (s : Solves 2 original st) where
  first : st 0 ≡ Inline (fresh (by Sll 40))
  unfolding uses_of uses_in uses_from row_operands decide commits join_all plus meets
  first = s 0 (omega arith)

  next : st 1 ≡ decide 2 (below (st 0) (shift_at 40) ∷ []) (shift_at 0 ∷ [])
  unfolding uses_of uses_in uses_from row_operands
  next = s 1 (omega arith)

  -- sll 40 twice is two runs, and 0 has no shift
  second : committed (st 1) ≡ false
  unfolding decide commits join_all plus meets
  second = ap committed (next ∙ ap (λ (x : Decision). decide 2 (below x (shift_at 40) ∷ []) (shift_at 0 ∷ [])) first)

  chosen : commit_set original st ≡ (λ (w : ℕ). false)
  unfolding commit_set number_in
  chosen = fun_ext (λ w. go (eqb w 1) (eqb w 2))
    where
      go : (a b : Bool) → committed_at st (cond a 1 (cond b 2 0)) ≡ false
      go true b = ap committed first
      go false true = second
      go false false = refl

abbrev counts : Counts
counts = record { gone = 1; stranded = 1; committed = 0; written = 0; kept = 1 }

told : counts_of original (λ (w : ℕ). false) ≡ counts
unfolding counts_of gone is_gone stranded is_stranded kept terms_written written all_met rebuilds row_rebuilds rebuilt Patch.commits met_operand met_term expand_operand expand_term inlined depth push_valid compose_valid degenerates chains
told = refl

-- ---- fused, whatever the stores were

module _ (m : Lent) (a : ReadLent bytes (made 4096) (Ok read) m) where
  stands : Left.fused sizes m ≡ original
  stands = read_back sizes 3 a.reads refl ∙ said

  no_fault : decision_fault 2 sizes (input m) ≡ 0
  no_fault = sym (fault_definitions 2 sizes (input m) (read_stands sizes 3 a.reads refl) refl) ∙ ap definition_fault stands ∙ none

  no_circles : NoCircle (Left.fused sizes m)
  no_circles = subst NoCircle (sym stands) (no_circle original (λ (d : ℕ). d) ranked)

  fits : has_room original (λ (w : ℕ). false) m ≡ true
  unfolding has_room terms_written written rebuilds row_rebuilds rebuilt Patch.commits expand_operand expand_term inlined depth push_valid compose_valid degenerates chains
  fits = rw (a.flags_same, a.new_same)

  comes : (st : ℕ → Decision) → Solves 2 (Left.fused sizes m) st → commit_set (Left.fused sizes m) st ≡ (λ (w : ℕ). false) → Comes 2 bytes (made 4096) (Ok (record { sizes = sizes; counts = counts })) (leaves sizes m (commit_set (Left.fused sizes m) st))
  comes st s e =
      let room : has_room (Left.fused sizes m) (commit_set (Left.fused sizes m) st) m ≡ true = rw (e, stands) fits in
      let k : counts_of (Left.fused sizes m) (commit_set (Left.fused sizes m) st) ≡ counts = rw (e, stands) told in
      fused a
      (subst (λ (n : Counts). Fuses 2 sizes m (leaves sizes m (commit_set (Left.fused sizes m) st)) (told_fused (Ok n))) k
      (fuses_patched 2 sizes m st no_fault no_circles s room))

-- ---- read into stores that are made for it

abbrev es : List Entry
es = entries_at bytes 3 5

abbrev after-reading : Lent
after-reading =
    lent (sets (replicate 8192 0) 0 (terms_laid es)) (replicate 4096 0) (sets (replicate 3072 0) 0 (list_laid 2 0 es)) (sets (replicate 4096 0) 0 (list_laid 3 0 es))
    (sets (replicate 6144 0) 0 (list_laid 4 0 es)) (sets (replicate 1024 0) 0 (list_laid 5 0 es)) (sets (replicate 1024 0) 0 (destinations_laid es))
    (sets (replicate 1024 0) 0 (list_laid 6 0 es)) (replicate 4096 0)

roomy : room_of sizes 3 (length (replicate {A = ℕ} 8192 0)) (length (replicate {A = ℕ} 3072 0)) (length (replicate {A = ℕ} 4096 0)) (length (replicate {A = ℕ} 6144 0)) (length (replicate {A = ℕ} 1024 0)) (length (replicate {A = ℕ} 1024 0)) (length (replicate {A = ℕ} 1024 0)) ≡ true
unfolding room_of
roomy = refl

reads : ReadLent bytes (made 4096) (Ok read) after-reading
reads =
    let e = room_done 45 _ _ _ _ _ _ _ is_read roomy in
    record {
      reads = record { answer = e; tells = answer_tells _ _ _ _ _ _ _ _ (Ok read) _ e; filled = record { terms_are = refl; ands_are = refl; imuls_are = refl; bmuls_are = refl; zeros_are = refl; dsts_are = refl; rhss_are = refl } };
      new_same = refl;
      flags_same = refl;
    }

-- THE EXAMPLE. "Whole output: `ok 0 0 0 1 1 0 1 0 1`"
pub example : Reports bytes (ok_text (0 ∷ 0 ∷ 0 ∷ 1 ∷ 1 ∷ 0 ∷ 1 ∷ 0 ∷ 1 ∷ []))
example =
    let m = after-reading in
    let acc = decided_accepted 2 sizes (input m) (no_fault m reads) (no_circles m reads) in
    let st : ℕ → Decision = solution 2 (Left.fused sizes m) acc in
    let s : Solves 2 (Left.fused sizes m) st = solution_solves 2 (Left.fused sizes m) acc in
    let e = ap (λ (p : System). commit_set p st) (stands m reads) ∙ chosen st (subst (λ (p : System). Solves 2 p st) (stands m reads) s) in
    answers (omega arith) (record { left = _; comes = comes m reads st s e })

-- the bytes of the line
pub example_bytes : ok_text (0 ∷ 0 ∷ 0 ∷ 1 ∷ 1 ∷ 0 ∷ 1 ∷ 0 ∷ 1 ∷ [])
    ≡ 111 ∷ 107 ∷ 32 ∷ 48 ∷ 32 ∷ 48 ∷ 32 ∷ 48 ∷ 32 ∷ 49 ∷ 32 ∷ 49 ∷ 32 ∷ 48 ∷ 32 ∷ 49 ∷ 32 ∷ 48 ∷ 32 ∷ 49 ∷ 10 ∷ []
unfolding ok_text values_text decimal decimal_by
example_bytes = refl
