-- What is answered by the first numbers is the answer over all records, where there are not too many of them. Assumes nothing.
use mathlib.Core.Path.{◌≡◌, refl, sym, ap, ap₂, subst, ◌∙◌}
use mathlib.Core.Logic.{◌⊎◌, inl, inr, ⊎_elim}
use Prim.Native.Nat.{ℕ, min, ◌+◌, ◌-◌, ◌≤◌, ◌<◌}
use native.Mathlib.Omega.{arith}
use mathlib.Core.Bool.{Bool, true, false, not}
use mathlib.Core.List.{List, [], ◌++◌, map, append_assoc}
use lib.ListN.{length, take, drop, length-append, length-map, length-drop, take-append-drop}
use lib.Seq.{sets, length-sets, take-take, length-take-le, drop-append-le}
use Rattle.std.proofs.Common.{Ok}
use Rattle.word.specs.Answers as T
use Rattle.word.specs.Answers.{Told}
use Rattle.lower.specs.declared.Sizes.{Sizes}
use Rattle.lower.specs.Lists.{keep, sum_of}
use Rattle.lower.specs.Model.{Definition, System, destinations}
use Rattle.lower.specs.Accepted.{Reaches, NoCircle, Accepted, MAX_TERMS}
use Rattle.lower.specs.Stores.{Stores, stores, system_of, row_handles, Placed}
use Rattle.lower.specs.Faults.{or_else, pairs_fault, definitions_fault, places_fault, length_of, terms_in, full_fault, memory_fault, definition_fault, fault_of}
use Rattle.lower.proofs.Firsts.{else_some}
use Rattle.lower.proofs.Laws.{destinations_model, linears_length}
use Rattle.lower.proofs.Checks.{checked, placed, memory_places}
use Rattle.commit_set.specs.declared.Decision.{Decision}
use Rattle.commit_set.specs.Decision.{Solves}
use Rattle.commit_set.specs.Answer.{decision_fault, slots_fault}
use Rattle.commit_set.proofs.Answers.{memory_none, slots_few}
use Rattle.commit_set.proofs.Theorem.{decided_accepted}
use Rattle.patch.specs.Patch as P
use Rattle.patch.specs.Patch.{commit_set, rebuilt, row_rebuilds, rebuilds, written, commits, stranded, stays}
use Rattle.patch.specs.Handles.{keep_by}
use Rattle.patch.proofs.Counting.{counted}
use Rattle.operand.specs.Numbers.{operand_of, term_number}
use Rattle.apply.specs.Applied.{kept_rows}
use Rattle.fusion.specs.Left.{Lent, lent, input, output, fused, is_kept, numbers, ands_end, imuls_end, bmuls_end, zeros_end, flags_of, has_room, counts_of, sizes_after, leaves}
use Rattle.fusion.specs.Answer.{told_fused, Patches, Fuses, refused, circular, short, patches}
use Rattle.fusion.proofs.System.{sets_front, by_length, system_left}
use Rattle.fusion.proofs.Stays.{keep-destinations}
use Rattle.fusion.proofs.Closing.{numbers_length}
use Rattle.undo.specs.FillBack.{FilledBack}
use Rattle.fill_back.specs.Filling as F
use Rattle.fill_back.specs.Filling.{FillsIs}
use Rattle.records.specs.Records.{crowded, rows_only, crowd_fault}
use Rattle.records.proofs.Crowds.{else_not, rows_first, long_fault, short_fault, calm_or_short, crowd_first}

-- ---- the first fault is the same, and is one
abbrev pub Same : ℕ → ℕ → Type 0
Same a b = (a ≡ b) × (a ≡ 0 → ⊥)

pub same_after : (a a' b b' : ℕ) → Same a a' → Same (or_else a b) (or_else a' b')
same_after a a' b b' h =
    let x : or_else a b ≡ a = else_some a b h.1 in
    (x ∙ h.0 ∙ sym (else_some a' b' (λ o. h.1 (h.0 ∙ o))), λ o. h.1 (sym x ∙ o))

-- ---- the first m numbers
module _ (z : Sizes) (old new ands imuls bmuls zeros ds rs : List ℕ) where
  abbrev All : Stores
  All = stores old new ands imuls bmuls zeros ds rs

  module _ (m : ℕ) where
    abbrev Few : Stores
    Few = stores old new ands imuls bmuls zeros (take m ds) (take m rs)

    module _ (k : z.linears ≤ m) (p : m ≤ length ds) (q : m ≤ length rs) where
      same_definitions : definitions_fault z.wires old new z.linears (take m ds) (take m rs) ≡ definitions_fault z.wires old new z.linears ds rs
      same_definitions =
          long_fault z.wires old new z.linears (take m ds) (take m rs) (omega (arith, k, length-take-le m ds p)) (omega (arith, k, length-take-le m rs q))
          ∙ ap₂ {C = ℕ} (pairs_fault z.wires old new) (take-take z.linears m ds k) (take-take z.linears m rs k)
          ∙ sym (long_fault z.wires old new z.linears ds rs (omega (arith, k, p)) (omega (arith, k, q)))

      same_system : system_of z Few ≡ system_of z All
      unfolding system_of
      same_system = rw (take-take z.linears m ds k, take-take z.linears m rs k)

      same_memory : (limit : ℕ) → memory_fault limit z Few ≡ memory_fault limit z All
      unfolding memory_fault
      same_memory limit =
          ap₂ {C = ℕ} or_else
          (rows_first z old new ands imuls bmuls zeros (take m ds) (take m rs) [] [] ∙ ap (or_else (places_fault (rows_only z) (stores old new ands imuls bmuls zeros [] []))) same_definitions ∙ sym (rows_first z old new ands imuls bmuls zeros ds rs [] []))
          (ap (λ (l : List ℕ). full_fault limit z (sum_of length_of (row_handles z ands imuls bmuls zeros ++ l))) (take-take z.linears m rs k))

    -- too few are there
    module _ (k : length ds < z.linears) (p : m ≤ length ds) where
      abbrev Short : ℕ
      Short = or_else (places_fault (rows_only z) (stores old new ands imuls bmuls zeros [] [])) 3

      few_places : places_fault z Few ≡ Short
      few_places = rows_first z old new ands imuls bmuls zeros (take m ds) (take m rs) [] []
          ∙ ap (or_else (places_fault (rows_only z) (stores old new ands imuls bmuls zeros [] []))) (short_fault z.wires old new z.linears (take m ds) (take m rs) (omega (arith, k, p, length-take-le m ds p)))

      all_places : places_fault z All ≡ Short
      all_places = rows_first z old new ands imuls bmuls zeros ds rs [] []
          ∙ ap (or_else (places_fault (rows_only z) (stores old new ands imuls bmuls zeros [] []))) (short_fault z.wires old new z.linears ds rs k)

      short_not : Short ≡ 0 → ⊥
      short_not = else_not (places_fault (rows_only z) (stores old new ands imuls bmuls zeros [] [])) 3 (λ x. omega (arith, x))

      first_is : (a b : ℕ) → a ≡ Short → or_else a b ≡ Short
      first_is a b e = rw e (else_some Short b short_not)

      few_memory : (limit : ℕ) → memory_fault limit z Few ≡ Short
      unfolding memory_fault
      few_memory limit = first_is (places_fault z Few) (full_fault limit z (terms_in z Few)) few_places

      all_memory : (limit : ℕ) → memory_fault limit z All ≡ Short
      unfolding memory_fault
      all_memory limit = first_is (places_fault z All) (full_fault limit z (terms_in z All)) all_places

-- ---- filling back
module _ (z : Sizes) (s s' : Stores) (flags ws ws' : List ℕ) where
  fills_agree : fault_of MAX_TERMS z s ≡ fault_of MAX_TERMS z s' → system_of z s ≡ system_of z s' → (r : ℕ) → FillsIs z s flags ws ws' r → FillsIs z s' flags ws ws' r
  fills_agree f g r (F.refused e h k) = F.refused (e ∙ f) h k
  fills_agree f g r (F.circular e w q k) = F.circular (sym f ∙ e) w (subst (λ (p : System). Reaches p w w) g q) k
  fills_agree f g r (F.sized e n q k) = F.sized (sym f ∙ e) (subst NoCircle g n) q k
  fills_agree f g r (F.filled e n q k y) = F.filled (sym f ∙ e) (subst NoCircle g n) q k (subst (λ (p : System). FilledBack p (F.flagged flags) ws ws') g y)

  fills_refused : fault_of MAX_TERMS z s ≡ fault_of MAX_TERMS z s' → (fault_of MAX_TERMS z s ≡ 0 → ⊥) → (r : ℕ) → FillsIs z s flags ws ws' r → FillsIs z s' flags ws ws' r
  fills_refused f b r (F.refused e h k) = F.refused (e ∙ f) h k
  fills_refused f b r (F.circular e w q k) = absurd (b e)
  fills_refused f b r (F.sized e n q k) = absurd (b e)
  fills_refused f b r (F.filled e n q k y) = absurd (b e)

module _ (z : Sizes) (old new ands imuls bmuls zeros ds rs : List ℕ) (m : ℕ) (e : m ≡ min (length ds) 1024) (same : length rs ≡ length ds) (calm : crowded z (length ds) ≡ false) where
  abbrev There : Stores
  There = stores old new ands imuls bmuls zeros ds rs

  abbrev First : Stores
  First = stores old new ands imuls bmuls zeros (take m ds) (take m rs)

  pub in_ds : m ≤ length ds
  in_ds = omega (arith, e)

  pub in_rs : m ≤ length rs
  in_rs = omega (arith, e, same)

  -- all that count are held, or too few are there
  pub held_or_short : (length ds < z.linears) ⊎ (z.linears ≤ m)
  held_or_short = ⊎_elim (λ lack. inl lack) (λ k. inr (omega (arith, k, e))) (calm_or_short z (length ds) calm)

  -- where too few are there, the first fault is the same, and is one
  pub short_memory : (limit : ℕ) → length ds < z.linears → Same (memory_fault limit z First) (memory_fault limit z There)
  short_memory limit k =
      let x = few_memory z old new ands imuls bmuls zeros ds rs m k in_ds limit in
      (x ∙ sym (all_memory z old new ands imuls bmuls zeros ds rs m k in_ds limit), λ o. short_not z old new ands imuls bmuls zeros ds rs m k in_ds (sym x ∙ o))

  -- where all that count are held, the system and its first fault are the same
  pub first_memory : (limit : ℕ) → z.linears ≤ m → memory_fault limit z First ≡ memory_fault limit z There
  first_memory limit k = same_memory z old new ands imuls bmuls zeros ds rs m k in_ds in_rs limit

  pub first_system : z.linears ≤ m → system_of z First ≡ system_of z There
  first_system k = same_system z old new ands imuls bmuls zeros ds rs m k in_ds in_rs

  -- filling back
  pub fills_calm : (flags ws ws' : List ℕ) (r : ℕ) → FillsIs z First flags ws ws' r → FillsIs z There flags ws ws' r
  unfolding fault_of
  fills_calm flags ws ws' r y =
      ⊎_elim
      (λ lack. let x = same_after (memory_fault 8192 z First) (memory_fault 8192 z There) (definition_fault (system_of z First)) (definition_fault (system_of z There)) (short_memory 8192 lack) in
      fills_refused z First There flags ws ws' x.0 x.1 r y)
      (λ k. fills_agree z First There flags ws ws' (ap₂ {C = ℕ} or_else (first_memory 8192 k) (ap definition_fault (first_system k))) (first_system k) r y) held_or_short

  -- ---- fusing
  short_decision : (slots : ℕ) → length ds < z.linears → Same (decision_fault slots z First) (decision_fault slots z There)
  unfolding decision_fault
  short_decision slots k =
      same_after (memory_fault 8192 z First) (memory_fault 8192 z There) (or_else (slots_fault slots) (definition_fault (system_of z First))) (or_else (slots_fault slots) (definition_fault (system_of z There))) (short_memory 8192 k)

  same_decision : (slots : ℕ) → z.linears ≤ m → decision_fault slots z First ≡ decision_fault slots z There
  unfolding decision_fault
  same_decision slots k = ap₂ {C = ℕ} or_else (first_memory 8192 k) (ap (λ (p : System). or_else (slots_fault slots) (definition_fault p)) (first_system k))

-- ---- what is left of the first numbers, and of all
pub sets_own : (m : ℕ) (l : List ℕ) → m ≤ length l → sets l 0 (take m l) ≡ l
sets_own m l h =
    let k = length-take-le m l h in
    sets_front (take m l) l (omega (arith, k, h)) ∙ ap (λ (i : ℕ). take m l ++ drop i l) k ∙ take-append-drop m l

pub sets_part : (m : ℕ) (l front : List ℕ) → m ≤ length l → length front ≤ m → sets l 0 (sets (take m l) 0 front) ≡ sets l 0 front
sets_part m l front h k =
    let t = length-take-le m l h in
    let i : ℕ = length front in
    let s : sets (take m l) 0 front ≡ front ++ drop i (take m l) = sets_front front (take m l) (omega (arith, k, t)) in
    let n : length (sets (take m l) 0 front) ≡ m = length-sets (take m l) 0 front ∙ t in
    sets_front (sets (take m l) 0 front) l (omega (arith, n, h))
    ∙ ap₂ {C = List ℕ} ◌++◌ s (ap (λ (j : ℕ). drop j l) n)
    ∙ append_assoc front (drop i (take m l)) (drop m l)
    ∙ ap (λ (r : List ℕ). front ++ r) (sym (drop-append-le i (take m l) (drop m l) (omega (arith, k, t))) ∙ ap (drop i) (take-append-drop m l))
    ∙ sym (sets_front front l (omega (arith, k, h)))

-- no more definitions are left than there were
module _ (slots : ℕ) (z : Sizes) (l : Lent) (f : decision_fault slots z (input l) ≡ 0) (nc : NoCircle (fused z l)) (c : ℕ → Bool) where
  abbrev p : System
  p = fused z l

  abbrev ds : List ℕ
  ds = take z.linears l.dsts

  abbrev hs : List ℕ
  hs = take z.linears l.rhss

  acc : Accepted p
  acc = decided_accepted slots z (input l) f nc

  there : Placed z (input l)
  there = placed z (input l) (checked z (input l) (memory_places 8192 z (input l) (memory_none slots z (input l) f)))

  stay_length : length (keep (stays p c) ds) ≡ length (stranded p c)
  unfolding stranded P.is_stranded
  stay_length =
      ap length (ap (keep (stays p c)) (sym (destinations_model z (input l) there.dsts_there there.rhss_there)) ∙ sym (keep-destinations (stays p c) p.linears))
      ∙ length-map (keep (λ (d : Definition). stays p c d.dst) p.linears) (λ (d : Definition). d.dst)

  left_few : length (stranded p c) + length (commits p c) ≤ z.linears
  left_few = omega (arith, (counted p c acc.once acc.named.destinations_named).linears_count, linears_length z (input l) there.dsts_there there.rhss_there)

  dsts_few : length (keep (stays p c) ds ++ destinations (commits p c)) ≤ z.linears
  dsts_few = omega (arith, left_few, length-append (keep (stays p c) ds) (destinations (commits p c)), stay_length, length-map (commits p c) (λ (d : Definition). d.dst))

  rebuilds_length : length (rebuilds p c) ≡ zeros_end p c + length (commits p c)
  unfolding rebuilds
  rebuilds_length =
      let A = row_rebuilds p c p.ands in let I = row_rebuilds p c p.imuls in let B = row_rebuilds p c p.bmuls in let Z = row_rebuilds p c p.zeros in
      let C = P.rhss_of (commits p c) in
      let l1 = length-append A (I ++ (B ++ (Z ++ C))) in
      let l2 = length-append I (B ++ (Z ++ C)) in
      let l3 = length-append B (Z ++ C) in
      let l4 = length-append Z C in
      omega (arith, l1, l2, l3, l4, length-map (commits p c) (λ (d : Definition). d.rhs))

  rhss_few : length (keep_by (stays p c) ds hs ++ drop (zeros_end p c) (numbers p c)) ≤ z.linears
  rhss_few =
      let same : length ds ≡ length hs = length-take-le z.linears l.dsts there.dsts_there ∙ sym (length-take-le z.linears l.rhss there.rhss_there) in
      let n : length (drop (zeros_end p c) (numbers p c)) ≡ length (numbers p c) - zeros_end p c = length-drop (zeros_end p c) (numbers p c) in
      omega (arith, left_few, length-append (keep_by (stays p c) ds hs) (drop (zeros_end p c) (numbers p c)), by_length (stays p c) ds hs same, stay_length, n, numbers_length p c, rebuilds_length)

module _ (slots : ℕ) (z : Sizes) (old new ands imuls bmuls zeros ds rs flags : List ℕ) (m : ℕ) (e : m ≡ min (length ds) 1024) (same : length rs ≡ length ds) (calm : crowded z (length ds) ≡ false) where
  abbrev all : Lent
  all = lent old new ands imuls bmuls zeros ds rs flags

  abbrev few : Lent
  few = lent old new ands imuls bmuls zeros (take m ds) (take m rs) flags

  -- the first numbers, put back
  abbrev up : Lent → Lent
  up x = lent x.old x.new x.ands x.imuls x.bmuls x.zeros (sets ds 0 x.dsts) (sets rs 0 x.rhss) x.flags

  long_ds : m ≤ length ds
  long_ds = in_ds z old [] ands imuls bmuls zeros ds rs m e same calm

  long_rs : m ≤ length rs
  long_rs = in_rs z old [] ands imuls bmuls zeros ds rs m e same calm

  kept : (x : Lent) → x ≡ few → up x ≡ all
  kept x k = ap up k ∙ ap₂ {C = Lent} (λ (u v : List ℕ). lent old new ands imuls bmuls zeros u v flags) (sets_own m ds long_ds) (sets_own m rs long_rs)

  -- the definitions that are left
  abbrev front_d : System → (ℕ → Bool) → List ℕ → List ℕ
  front_d p c td = keep (stays p c) td ++ destinations (commits p c)

  abbrev front_r : System → (ℕ → Bool) → List ℕ → List ℕ → List ℕ
  front_r p c td tr = keep_by (stays p c) td tr ++ drop (zeros_end p c) (numbers p c)

  -- what is left, with the system and the definitions named
  abbrev made : System → (List ℕ → Bool) → (ℕ → Bool) → List ℕ → List ℕ → Lent
  made p q c us vs =
      lent old
      (sets new 0 (map term_number (written p c)))
      (sets ands 0 (kept_rows q 3 z.ands ands ++ take (ands_end p c) (numbers p c)))
      (sets imuls 0 (kept_rows q 4 z.imuls imuls ++ take (length (row_rebuilds p c p.imuls)) (drop (ands_end p c) (numbers p c))))
      (sets bmuls 0 (kept_rows q 6 z.bmuls bmuls ++ take (length (row_rebuilds p c p.bmuls)) (drop (imuls_end p c) (numbers p c))))
      (sets zeros 0 (kept_rows q 1 z.zeros zeros ++ take (length (row_rebuilds p c p.zeros)) (drop (bmuls_end p c) (numbers p c))))
      us vs
      (sets flags 0 (flags_of p c))

  abbrev n₀ : ℕ
  n₀ = z.linears

  leaves_few : (c : ℕ → Bool) → leaves z few c ≡ made (fused z few) (is_kept z few) c (sets (take m ds) 0 (front_d (fused z few) c (take n₀ (take m ds)))) (sets (take m rs) 0 (front_r (fused z few) c (take n₀ (take m ds)) (take n₀ (take m rs))))
  unfolding leaves
  leaves_few c = refl

  leaves_all : (c : ℕ → Bool) → leaves z all c ≡ made (fused z all) (is_kept z all) c (sets ds 0 (front_d (fused z all) c (take n₀ ds))) (sets rs 0 (front_r (fused z all) c (take n₀ ds) (take n₀ rs)))
  unfolding leaves
  leaves_all c = refl

  module _ (k : z.linears ≤ m) where
    sys : fused z few ≡ fused z all
    sys = same_system z old [] ands imuls bmuls zeros ds rs m k long_ds long_rs

    same_kept : is_kept z few ≡ is_kept z all
    unfolding is_kept
    same_kept = ap {B = List ℕ → Bool} (λ (p : System) (r : List ℕ). not (rebuilt p.linears (map (operand_of old []) r))) sys

    same_room : (c : ℕ → Bool) → has_room (fused z few) c few ≡ has_room (fused z all) c all
    unfolding has_room
    same_room c = ap (λ (p : System). has_room p c all) sys

    module _ (g : decision_fault slots z (input few) ≡ 0) (nc : NoCircle (fused z few)) where
      same_left : (c : ℕ → Bool) → up (leaves z few c) ≡ leaves z all c
      same_left c =
          ap up (leaves_few c)
          ∙ ap₂ {C = Lent} (made (fused z few) (is_kept z few) c)
          (sets_part m ds (front_d (fused z few) c (take n₀ (take m ds))) long_ds (omega (arith, k, dsts_few slots z few g nc c))) (sets_part m rs (front_r (fused z few) c (take n₀ (take m ds)) (take n₀ (take m rs))) long_rs (omega (arith, k, rhss_few slots z few g nc c)))
          ∙ ap₂ {C = Lent} (λ (td tr : List ℕ). made (fused z few) (is_kept z few) c (sets ds 0 (front_d (fused z few) c td)) (sets rs 0 (front_r (fused z few) c td tr))) (take-take n₀ m ds k) (take-take n₀ m rs k)
          ∙ ap₂ {C = Lent} (λ (p : System) (q : List ℕ → Bool). made p q c (sets ds 0 (front_d p c (take n₀ ds))) (sets rs 0 (front_r p c (take n₀ ds) (take n₀ rs)))) sys same_kept
          ∙ sym (leaves_all c)

      patches_all : (st : ℕ → Decision) (l' : Lent) → Patches slots z few l' st → Patches slots z all (up l') st
      patches_all st l' y =
          let g' : decision_fault slots z (input all) ≡ 0 = sym (same_decision z old [] ands imuls bmuls zeros ds rs m e same calm slots k) ∙ g in
          let nc' : NoCircle (fused z all) = subst NoCircle sys nc in
          let so : Solves slots (fused z all) st = subst (λ (p : System). Solves slots p st) sys y.solves in
          let set : commit_set (fused z few) st ≡ commit_set (fused z all) st = ap (λ (p : System). commit_set p st) sys in
          let fit : has_room (fused z all) (commit_set (fused z all) st) all ≡ true = ap (λ (c : ℕ → Bool). has_room (fused z all) c all) (sym set) ∙ sym (same_room (commit_set (fused z few) st)) ∙ y.fits in
          let left : up l' ≡ leaves z all (commit_set (fused z all) st) = ap up y.left ∙ same_left (commit_set (fused z few) st) ∙ ap (leaves z all) set in
          record {
            solves = so;
            fits = fit;
            left = left;
            system =
                ap (λ (x : Lent). system_of (sizes_after (fused z all) (commit_set (fused z all) st) z) (output x)) left
                ∙ system_left slots z all st (memory_none slots z (input all) g') (decided_accepted slots z (input all) g' nc') so (slots_few slots z (input all) g') fit;
          }

  agree : (k : z.linears ≤ m) (l' : Lent) (t : Told) → Fuses slots z few l' t → Fuses slots z all (up l') t
  agree k l' t (refused r h q) = refused (r ∙ same_decision z old [] ands imuls bmuls zeros ds rs m e same calm slots k) h (kept l' q)
  agree k l' t (circular g w r q) =
      circular (sym (same_decision z old [] ands imuls bmuls zeros ds rs m e same calm slots k) ∙ g) w (subst (λ (p : System). Reaches p w w) (sys k) r) (kept l' q)
  agree k l' t (short g nc st so r q) =
      short (sym (same_decision z old [] ands imuls bmuls zeros ds rs m e same calm slots k) ∙ g) (subst NoCircle (sys k) nc) st (subst (λ (p : System). Solves slots p st) (sys k) so)
      (ap (λ (p : System). has_room (fused z all) (commit_set p st) all) (sym (sys k)) ∙ sym (same_room k (commit_set (fused z few) st)) ∙ r) (kept l' q)
  agree k l' t (patches g nc st y) =
      subst (λ (p : System). Fuses slots z all (up l') (told_fused (Ok (counts_of p (commit_set p st))))) (sym (sys k))
      (patches (sym (same_decision z old [] ands imuls bmuls zeros ds rs m e same calm slots k) ∙ g) (subst NoCircle (sys k) nc) st (patches_all k g nc st l' y))

  lacking : (k : length ds < z.linears) (l' : Lent) (t : Told) → Fuses slots z few l' t → Fuses slots z all (up l') t
  lacking k l' t (refused r h q) = refused (r ∙ (short_decision z old [] ands imuls bmuls zeros ds rs m e same calm slots k).0) h (kept l' q)
  lacking k l' t (circular g w r q) = absurd ((short_decision z old [] ands imuls bmuls zeros ds rs m e same calm slots k).1 g)
  lacking k l' t (short g nc st so r q) = absurd ((short_decision z old [] ands imuls bmuls zeros ds rs m e same calm slots k).1 g)
  lacking k l' t (patches g nc st y) = absurd ((short_decision z old [] ands imuls bmuls zeros ds rs m e same calm slots k).1 g)

  -- fusing
  pub fuses_calm : (l' : Lent) (t : Told) → Fuses slots z few l' t → Fuses slots z all (up l') t
  fuses_calm l' t y = ⊎_elim (λ lack. lacking lack l' t y) (λ k. agree k l' t y) (held_or_short z old [] ands imuls bmuls zeros ds rs m e same calm)

-- ---- where there are too many, the refusal is that of all
pub fills_crowd : (z : Sizes) (s : Stores) (flags ws : List ℕ) (r : ℕ) → r ≡ crowd_fault z s → (r ≡ 0 → ⊥) → FillsIs z s flags ws ws r
unfolding fault_of
fills_crowd z s flags ws r e h = F.refused (e ∙ sym (crowd_first z s 8192 (definition_fault (system_of z s)) (λ o. h (e ∙ o)))) h refl

pub fuses_crowd : (slots : ℕ) (z : Sizes) (l : Lent) (r : ℕ) → r ≡ crowd_fault z (input l) → (r ≡ 0 → ⊥) → Fuses slots z l l (T.refused r)
unfolding decision_fault
fuses_crowd slots z l r e h = refused (e ∙ sym (crowd_first z (input l) 8192 (or_else (slots_fault slots) (definition_fault (system_of z (input l)))) (λ o. h (e ∙ o)))) h refl
