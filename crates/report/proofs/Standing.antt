-- What fusing leaves stands in its stores and is within the writer's limits: it is refused with 14 or 12 alone. Assumes nothing.
use mathlib.Core.Path.{◌≡◌, refl, sym, ap, subst}
use mathlib.Core.Logic.{◌⊎◌, inl, inr}
use Prim.Native.Nat.{ℕ, zero, suc, ◌+◌, ◌*◌, ◌-◌, ◌≤◌, ◌<◌}
use native.Mathlib.Omega.{arith}
use mathlib.Core.Bool.{Bool, true, false, cond, not}
use mathlib.Core.List.{List, [], ◌∷◌, ◌++◌, map}
use lib.Dec.{leb}
use lib.ListN.{length, take, drop, set, length-append}
use lib.Seq.{sets, length-sets, take-take}
use Rattle.std.specs.Prelude.{Result, Err}
use Rattle.refusal.specs.declared.Refusal.{Refusal}
use Rattle.refusal.specs.Refusals.{number_of}
use Rattle.operand.specs.declared.WireOperand.{WireOperand}
use Rattle.operand.specs.Numbers.{Operand, operand_at, operand_number, term_number}
use Rattle.operand.proofs.Stored.{operand_there}
use Rattle.lower.specs.declared.Sizes.{Sizes}
use Rattle.lower.specs.Lists.{All, done, more, keep, joined}
use Rattle.lower.specs.Model.{System, destinations}
use Rattle.lower.specs.Accepted.{Named, Shifted, Limits}
use Rattle.lower.specs.Stores.{Stores, chunks, system_of, row_handles, handles_in, Stands, Placed}
use Rattle.lower.specs.Faults.{or_else, unless, memory_fault}
use Rattle.lower.specs.Explained.{Standing}
use Rattle.lower.proofs.Laws.{all_left, all_right, all_both, chunks_flat}
use Rattle.lower.proofs.Alls.{all_join, all_unjoin}
use Rattle.lower.proofs.Checks.{checked, placed, memory_places}
use Rattle.lower.proofs.Explains.{standing_right}
use Rattle.lower.proofs.Refusals.{number_some}
use Rattle.house_file.specs.Format.{entries_of, file_size}
use Rattle.house_file.specs.Reading.{ROOM, WIDE}
use Rattle.house_write.specs.Write.{MAX_WRITTEN_TERMS, wide, write_fault, WriteIs}
use Rattle.commit_set.proofs.Answers.{memory_none, slots_few}
use Rattle.commit_set.proofs.Theorem.{decided_accepted}
use Rattle.patch.specs.Patch.{commit_set, expand_operand, row_rebuilds, rebuilds, written, terms_written, commits, stays}
use Rattle.patch.specs.Handles.{handles_from, keep_by}
use Rattle.patch.proofs.Parts.{all_each, all_keep}
use Rattle.patch.proofs.NeverOver.{never_over}
use Rattle.patch.proofs.Results.{patched_shifted, patched_named, patched_limits, gather-joined}
use Rattle.apply.specs.Applied.{kept_rows}
use Rattle.fusion.specs.declared.Counts.{Counts}
use Rattle.fusion.specs.Left.{Lent, input, output, fused, is_kept, numbers, ands_end, imuls_end, bmuls_end, zeros_end, leaves}
use Rattle.fusion.proofs.System.{room}
use Rattle.report.specs.declared.outcome.FusedSystem.{FusedSystem}
use Rattle.report.specs.declared.outcome.Fault.{Fault}
use Rattle.report.specs.Outcome as C
use Rattle.report.specs.Outcome.{Comes}
use Rattle.report.specs.File.{after}
use Rattle.report.proofs.Coming.{FusedDone, fused_done}
use Rattle.report.proofs.Theorem.{was_patched, fused_as, same_system}

-- ---- parts of lists, and lists written over

module _ {P : ℕ → Type 0} where
  all_take : (n : ℕ) {l : List ℕ} → All P l → All P (take n l)
  all_take zero h = done
  all_take (suc n) done = done
  all_take (suc n) (more p h) = more p (all_take n h)

  all_drop : (n : ℕ) {l : List ℕ} → All P l → All P (drop n l)
  all_drop zero h = h
  all_drop (suc n) done = done
  all_drop (suc n) (more p h) = all_drop n h

  all_fewer : (m n : ℕ) (l : List ℕ) → m ≤ n → All P (take n l) → All P (take m l)
  all_fewer m n l h a = subst (All P) (take-take m n l h) (all_take m a)

  all_set : (l : List ℕ) (i n x : ℕ) → P x → All P (take n l) → All P (take n (set l i x))
  all_set [] i n x p a = a
  all_set (y ∷ l) zero zero x p a = done
  all_set (y ∷ l) zero (suc n) x p (more q a) = more p a
  all_set (y ∷ l) (suc i) zero x p a = done
  all_set (y ∷ l) (suc i) (suc n) x p (more q a) = more q (all_set l i n x p a)

  all_sets : (xs l : List ℕ) (i n : ℕ) → All P xs → All P (take n l) → All P (take n (sets l i xs))
  all_sets [] l i n done a = a
  all_sets (x ∷ xs) l i n (more p h) a = all_sets xs (set l i x) (suc i) n h (all_set l i n x p a)

  all_by : (q : ℕ → Bool) (ds hs : List ℕ) → All P hs → All P (keep_by q ds hs)
  unfolding keep_by
  all_by q [] hs a = done
  all_by q (d ∷ ds) [] a = done
  all_by q (d ∷ ds) (h ∷ hs) (more p a) = go (q d) (all_by q ds hs a)
    where
      go : (b : Bool) → All P (keep_by q ds hs) → All P (cond b (h ∷ keep_by q ds hs) (keep_by q ds hs))
      go true r = more p r
      go false r = r

  all_rows : (q : List ℕ → Bool) (k n : ℕ) (hs : List ℕ) → All P (take (k * n) hs) → All P (kept_rows q k n hs)
  unfolding kept_rows
  all_rows q k n hs a = all_join P (keep q (chunks k n hs)) (all_keep q (all_unjoin P (chunks k n hs) (subst (All P) (sym (chunks_flat k n hs)) a)))

-- ---- each operand stands in its store

module _ (old new : List ℕ) where
  old_stands : (h : ℕ) → Stands old [] h → Stands old new h
  old_stands h k = go (operand_at h).new k
    where
      go : (b : Bool) → (operand_at h).start + (operand_at h).len ≤ length (cond b [] old) → (operand_at h).start + (operand_at h).len ≤ length (cond b new old)
      go true q = omega arith
      go false q = q

  new_stand : (n : ℕ) (os : List Operand) → n + length (joined os) ≤ length new → n + length (joined os) < 2147483648 → All (Stands old new) (handles_from n os)
  unfolding handles_from
  new_stand n [] fits low = done
  new_stand n (o ∷ os) fits low =
      let long = length-append o (joined os) in
      let w : WireOperand = record { start = n; len = length o; new = true } in
      let at : operand_at (operand_number w) ≡ w = operand_there w (omega arith) (omega (arith, long, low)) in
      let here : Stands old new (operand_number w) = subst (λ (x : WireOperand). x.start + x.len ≤ length (cond x.new new old)) (sym at) (omega (arith, long, fits)) in
      more {x = operand_number w} here (new_stand (n + length o) os (omega (arith, long, fits)) (omega (arith, long, low)))

module _ (slots : ℕ) (z : Sizes) (m l : Lent) (k : Counts) (d : FusedDone slots z m l k) where
  abbrev p : System
  p = fused z m

  abbrev c : ℕ → Bool
  c = commit_set p d.st

  abbrev new : List ℕ
  new = sets m.new 0 (map term_number (written p c))

  abbrev Stand : ℕ → Type 0
  Stand = Stands m.old new

  memory : memory_fault 8192 z (input m) ≡ 0
  memory = memory_none slots z (input m) d.no_fault

  there : Placed z (input m)
  there = placed z (input m) (checked z (input m) (memory_places 8192 z (input m) memory))

  all_old : All Stand (handles_in z (input m))
  all_old = all_each (old_stands m.old new) there.operands_there

  all_new : All Stand (numbers p c)
  unfolding numbers written terms_written
  all_new =
      let r = room p c m d.patched.fits in
      let os : List Operand = map (expand_operand p c) (rebuilds p c) in
      let n : terms_written p c ≡ length (joined os) = ap length (gather-joined (expand_operand p c) (rebuilds p c)) in
      new_stand m.old new 0 os (omega (arith, n, r.new_long, length-sets m.new 0 (map term_number (written p c)))) (omega (arith, n, r.written_few))

  -- what stands at the front of each list
  abbrev A : List ℕ
  A = kept_rows (is_kept z m) 3 z.ands m.ands ++ take (ands_end p c) (numbers p c)

  abbrev I : List ℕ
  I = kept_rows (is_kept z m) 4 z.imuls m.imuls ++ take (length (row_rebuilds p c p.imuls)) (drop (ands_end p c) (numbers p c))

  abbrev B : List ℕ
  B = kept_rows (is_kept z m) 6 z.bmuls m.bmuls ++ take (length (row_rebuilds p c p.bmuls)) (drop (imuls_end p c) (numbers p c))

  abbrev Z : List ℕ
  Z = kept_rows (is_kept z m) 1 z.zeros m.zeros ++ take (length (row_rebuilds p c p.zeros)) (drop (bmuls_end p c) (numbers p c))

  abbrev D : List ℕ
  D = keep (stays p c) (take z.linears m.dsts) ++ destinations (commits p c)

  abbrev R : List ℕ
  R = keep_by (stays p c) (take z.linears m.dsts) (take z.linears m.rhss) ++ drop (zeros_end p c) (numbers p c)

  rows_stand : (n k : ℕ) (hs : List ℕ) (from many : ℕ) → All Stand (take (n * k) hs) → All Stand (take (n * k) (sets hs 0 (kept_rows (is_kept z m) n k hs ++ take many (drop from (numbers p c)))))
  rows_stand n k hs from many a = all_sets _ hs 0 (n * k) (all_both Stand (all_rows (is_kept z m) n k hs a) (all_take many (all_drop from all_new))) a

  left_placed : Placed (after z k) (output (leaves z m c))
  unfolding after leaves row_handles
  left_placed =
      let H = row_handles z m.ands m.imuls m.bmuls m.zeros in
      let q = all_left Stand H (take z.linears m.rhss) all_old in
      let r = all_right Stand H (take z.linears m.rhss) all_old in
      let q₁ = all_right Stand (take (3 * z.ands) m.ands) _ q in
      let q₂ = all_right Stand (take (4 * z.imuls) m.imuls) _ q₁ in
      let one : z.zeros ≡ 1 * z.zeros = omega arith in
      let zeros = rows_stand 1 z.zeros m.zeros (bmuls_end p c) (length (row_rebuilds p c p.zeros)) (subst (λ (n : ℕ). All Stand (take n m.zeros)) one (all_right Stand (take (6 * z.bmuls) m.bmuls) _ q₂)) in
      record {
        ands_there = omega (arith, there.ands_there, length-sets m.ands 0 A);
        imuls_there = omega (arith, there.imuls_there, length-sets m.imuls 0 I);
        bmuls_there = omega (arith, there.bmuls_there, length-sets m.bmuls 0 B);
        zeros_there = omega (arith, there.zeros_there, length-sets m.zeros 0 Z);
        dsts_there = omega (arith, there.dsts_there, length-sets m.dsts 0 D);
        rhss_there = omega (arith, there.rhss_there, length-sets m.rhss 0 R);
        operands_there =
            all_both Stand
            (all_both Stand (rows_stand 3 z.ands m.ands 0 (ands_end p c) (all_left Stand (take (3 * z.ands) m.ands) _ q))
            (all_both Stand (rows_stand 4 z.imuls m.imuls (ands_end p c) (length (row_rebuilds p c p.imuls)) (all_left Stand (take (4 * z.imuls) m.imuls) _ q₁))
            (all_both Stand (rows_stand 6 z.bmuls m.bmuls (imuls_end p c) (length (row_rebuilds p c p.bmuls)) (all_left Stand (take (6 * z.bmuls) m.bmuls) _ q₂))
            (subst (λ (n : ℕ). All Stand (take n (sets m.zeros 0 Z))) (sym one) zeros))))
            (all_sets R m.rhss 0 (z.linears - k.gone) (all_both Stand (all_by (stays p c) (take z.linears m.dsts) (take z.linears m.rhss) r) (all_drop (zeros_end p c) all_new))
            (all_fewer (z.linears - k.gone) z.linears m.rhss (omega arith) r));
      }

  left_standing : Standing (after z k) (output l) MAX_WRITTEN_TERMS
  left_standing =
      let acc = decided_accepted slots z (input m) d.no_fault d.no_circle in
      let r = room p c m d.patched.fits in
      let e = sym (was_patched slots z m l k d).system in
      let never = never_over slots p d.st d.patched.solves (slots_few slots z (input m) d.no_fault) acc.shifted acc.single in (
        (
          subst (λ (x : Lent). Placed (after z k) (output x)) (sym d.patched.left) left_placed,
          subst Named e (patched_named p c acc.named),
          subst Shifted e (patched_shifted p c acc.shifted never),
        ),
        subst (Limits MAX_WRITTEN_TERMS) e (patched_limits p c acc MAX_WRITTEN_TERMS (omega (arith, r.written_few))),
      )

-- ---- what is left to refuse

two_left : (z : Sizes) (s : Stores) (space : ℕ) → memory_fault MAX_WRITTEN_TERMS z s ≡ 0 → (r : Refusal) → number_of r ≡ write_fault z s space → (number_of r ≡ WIDE) ⊎ (number_of r ≡ ROOM)
unfolding write_fault
two_left z s space e r h = go (wide (system_of z s)) (leb (file_size (entries_of (system_of z s))) space) (rw e at h)
  where
    go : (a b : Bool) → number_of r ≡ or_else 0 (or_else (unless (not a) WIDE) (unless b ROOM)) → (number_of r ≡ WIDE) ⊎ (number_of r ≡ ROOM)
    go true b q = inl q
    go false true q = absurd (number_some r q)
    go false false q = inr q

-- THE THEOREM. Writing what fusing left refuses nothing but a record that is too wide, and lent bytes that are too few.
pub fused_refusals : {slots : ℕ} {bytes out out' : List ℕ} {m l : Lent} (z : Sizes) (k : Counts) (r : Refusal) → Comes slots bytes m (fused_as z k) l
    → WriteIs (after z k) (output l) out (Err r) out' → (number_of r ≡ WIDE) ⊎ (number_of r ≡ ROOM)
fused_refusals {slots} {bytes} {out} {out'} {m} {l} z k r h w = go (fused_as z k) h refl
  where
    go : (o : Result FusedSystem Fault) → Comes slots bytes m o l → o ≡ fused_as z k → (number_of r ≡ WIDE) ⊎ (number_of r ≡ ROOM)
    go o (C.unread a) e = absurd (let x : ◌≡◌ {A = ℕ} 0 1 = cc in omega arith)
    go o (C.unfused a f) e = absurd (let x : ◌≡◌ {A = ℕ} 0 1 = cc in omega arith)
    go o (C.fused {x} {k = j} {m = i} a f) e =
        let s = same_system e in
        let p : x.sizes ≡ z = ap (λ (y : FusedSystem). y.sizes) s in
        let q : j ≡ k = ap (λ (y : FusedSystem). y.counts) s in
        let st : Standing (after x.sizes j) (output l) MAX_WRITTEN_TERMS = left_standing slots x.sizes i l j (fused_done slots x.sizes i l j f) in
        let st₂ : Standing (after z k) (output l) MAX_WRITTEN_TERMS = rw (p, q) at st in
        two_left (after z k) (output l) (length out) ((standing_right MAX_WRITTEN_TERMS (after z k) (output l)).1 st₂) r w.answer
