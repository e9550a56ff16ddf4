-- A patched system has the shape, the wires and the shifts of a system, and no more terms than there were and than were written.
-- Assumes nothing.
use mathlib.Core.Path.{◌≡◌, refl, sym, ap, ◌∙◌}
use Prim.Native.Nat.{ℕ, zero, suc, ◌+◌, ◌≤◌, ◌<◌}
use native.Mathlib.Omega.{arith}
use mathlib.Core.Bool.{Bool, true, false, cond, not}
use mathlib.Core.List.{List, [], ◌∷◌, ◌++◌, map, append_assoc}
use mathlib.Core.Option.{Option, none, some}
use lib.ListN.{length, length-append, length-map}
use Rattle.operand.specs.declared.PushInner.{PushInner}
use Rattle.operand.specs.declared.PushInner.TheVariants.{Seq, Zero, OverBudget}
use Rattle.operand.specs.Numbers.{Term, Operand}
use Rattle.lower.specs.Lists.{All, done, more, keep, joined}
use Rattle.lower.specs.Model.{Row, Definition, System, row_operands, definition_operands, operands_of, terms_of}
use Rattle.lower.specs.Accepted.{Shaped, Named, ShiftsOf, Shifted, Limits, MAX_TERMS, Accepted}
use Rattle.lower.proofs.Laws.{joined-map, all_left, all_right, all_both}
use Rattle.lower.proofs.Alls.{all_join, all_unjoin, all_unmap}
use Rattle.commit_set.proofs.Members.{all_roots, all_terms}
use Rattle.patch.specs.Lists.{gather}
use Rattle.patch.specs.Expansion.{folded, descend, expand_by, expand}
use Rattle.patch.specs.Patch.{inlined, depth, expand_term, expand_operand, FitsOperand, commits, rebuilt, row_rebuilds, rhss_of, rebuilds, written, terms_written, is_stranded, stranded, patch_rows, rebuild, patched, NeverOver}
use Rattle.patch.proofs.Parts.{all_keep, all_each, all_mapped, all_gather, gather_append}
use Rattle.patch.proofs.Chains.{inlined_defined}
use Rattle.patch.proofs.Definitions.{of_looked_up, commits_of}
use Rattle.patch.proofs.NeverOver.{expanded_shifts}
use Rattle.patch.proofs.Counting.{counted, rows_count}

-- ---- the wires of an expansion

module _ (D : ℕ → Option Operand) (Q : ℕ → Type 0) (named : (w : ℕ) (rhs : Operand) → D w ≡ some rhs → All (λ (u : Term). Q u.wire) rhs) where
  expand_wires : (n : ℕ) (t : Term) → Q t.wire → All (λ (u : Term). Q u.wire) (expand D n t)
  expand_wires zero t h = more h done
  expand_wires (suc n) t h = step (λ u k. expand_wires n u k) (D t.wire) refl
    where
      descended : ((u : Term) → Q u.wire → All (λ (u : Term). Q u.wire) (expand D n u)) → (w : ℕ) → Q w → (x : PushInner)
          → All (λ (u : Term). Q u.wire) (descend (λ u. expand D n u) w x)
      descended ih w k (Seq i o) = ih _ k
      descended ih w k Zero = done
      descended ih w k OverBudget = done

      step : ((u : Term) → Q u.wire → All (λ (u : Term). Q u.wire) (expand D n u)) → (o : Option Operand) → D t.wire ≡ o
          → All (λ (u : Term). Q u.wire) (expand_by (λ u. expand D n u) t o)
      step ih none e = more h done
      step ih (some rhs) e = all_gather (λ (u : Term). descend (λ u. expand D n u) u.wire (folded t u)) (all_each (λ u k. descended ih u.wire k (folded t u)) (named t.wire rhs e))

-- ---- terms

pub definition_terms : (P : Term → Type 0) (p : System) → All P (terms_of p) → All (λ (d : Definition). All P d.rhs) p.linears
unfolding definition_operands
definition_terms P p h = all_unmap (All P) (λ (d : Definition). d.rhs) p.linears (all_unjoin P (definition_operands p) (all_terms P p h))

-- the operands that are rebuilt are operands of the system
pub rebuilt_terms : (P : Term → Type 0) (p : System) (c : ℕ → Bool) → All P (terms_of p) → All (All P) (rebuilds p c)
unfolding rebuilds row_rebuilds row_operands
rebuilt_terms P p c h =
    let r : All (All P) (row_operands p) = all_unjoin P (row_operands p) (all_roots P p h) in
    let A = joined p.ands in let I = joined p.imuls in let B = joined p.bmuls in let Z = joined p.zeros in
    let r1 = all_right (All P) A (I ++ (B ++ Z)) r in
    let r2 = all_right (All P) I (B ++ Z) r1 in
    all_both (All P) (rows p.ands (all_left (All P) A (I ++ (B ++ Z)) r))
    (all_both (All P) (rows p.imuls (all_left (All P) I (B ++ Z) r1))
    (all_both (All P) (rows p.bmuls (all_left (All P) B Z r2))
    (all_both (All P) (rows p.zeros (all_right (All P) B Z r2))
    (all_mapped (λ (d : Definition). d.rhs)
    (commits_of p c {Q = λ (d : Definition). All P d.rhs} (λ w rhs k e. of_looked_up {P = λ (d : Definition). All P d.rhs} (definition_terms P p h) w rhs e))))))
  where
    rows : (rs : List Row) → All (All P) (joined rs) → All (All P) (joined (keep (rebuilt p.linears) rs))
    rows rs k = all_join (All P) (keep (rebuilt p.linears) rs) (all_keep (rebuilt p.linears) (all_unjoin (All P) rs k))

module _ (p : System) (c : ℕ → Bool) where
  -- what holds of the terms of the system and of those that are written holds of the terms of the patched one
  module _ (P : Term → Type 0) (all : All P (terms_of p)) (new : All (λ (o : Operand). All P (expand_operand p c o)) (rebuilds p c)) where
    abbrev Good : Operand → Type 0
    Good o = All P (expand_operand p c o)

    rows_terms : (rs : List Row) → All (All P) (joined rs) → All Good (row_rebuilds p c rs) → All (All P) (joined (patch_rows p c rs))
    unfolding patch_rows row_rebuilds
    rows_terms rs h k =
        all_join (All P) (keep (λ (r : Row). not (rebuilt p.linears r)) rs ++ map (map (expand_operand p c)) (keep (rebuilt p.linears) rs))
        (all_both (All (All P)) (all_keep (λ (r : Row). not (rebuilt p.linears r)) (all_unjoin (All P) rs h))
        (all_mapped (map (expand_operand p c)) (all_each (λ r g. all_mapped (expand_operand p c) g) (all_unjoin Good (keep (rebuilt p.linears) rs) k))))

    pub patched_terms : All P (terms_of (patched p c))
    unfolding patched stranded rebuild rebuilds row_operands definition_operands
    patched_terms =
        let r : All (All P) (row_operands p) = all_unjoin P (row_operands p) (all_roots P p all) in
        let A = joined p.ands in let I = joined p.imuls in let B = joined p.bmuls in let Z = joined p.zeros in
        let r1 = all_right (All P) A (I ++ (B ++ Z)) r in
        let r2 = all_right (All P) I (B ++ Z) r1 in
        let NA = row_rebuilds p c p.ands in let NI = row_rebuilds p c p.imuls in let NB = row_rebuilds p c p.bmuls in let NZ = row_rebuilds p c p.zeros in
        let NC = rhss_of (commits p c) in
        let n1 = all_right Good NA (NI ++ (NB ++ (NZ ++ NC))) new in
        let n2 = all_right Good NI (NB ++ (NZ ++ NC)) n1 in
        let n3 = all_right Good NB (NZ ++ NC) n2 in
        let n4 = all_right Good NZ NC n3 in
        all_join P (operands_of (patched p c))
        (all_both (All P)
        (all_both (All P) (rows_terms p.ands (all_left (All P) A (I ++ (B ++ Z)) r) (all_left Good NA (NI ++ (NB ++ (NZ ++ NC))) new))
        (all_both (All P) (rows_terms p.imuls (all_left (All P) I (B ++ Z) r1) (all_left Good NI (NB ++ (NZ ++ NC)) n1))
        (all_both (All P) (rows_terms p.bmuls (all_left (All P) B Z r2) (all_left Good NB (NZ ++ NC) n2))
        (rows_terms p.zeros (all_right (All P) B Z r2) (all_left Good NZ NC n3)))))
        (all_mapped (λ (d : Definition). d.rhs)
        (all_both (λ (d : Definition). All P d.rhs) (all_keep (is_stranded p c) (definition_terms P p all))
        (all_mapped (rebuild p c) (all_unmap Good (λ (d : Definition). d.rhs) (commits p c) n4)))))

  -- ---- shape, wires and shifts

  rows_shaped : (k : ℕ) (rs : List Row) → All (λ (r : Row). length r ≡ k) rs → All (λ (r : Row). length r ≡ k) (patch_rows p c rs)
  unfolding patch_rows
  rows_shaped k rs h =
      all_both (λ (r : Row). length r ≡ k) (all_keep (λ (r : Row). not (rebuilt p.linears r)) h)
      (all_mapped (map (expand_operand p c)) (all_each (λ r e. length-map r (expand_operand p c) ∙ e) (all_keep (rebuilt p.linears) h)))

  pub patched_shaped : Shaped p → Shaped (patched p c)
  unfolding patched
  patched_shaped s =
      record {
        ands_shaped = rows_shaped 3 p.ands s.ands_shaped;
        imuls_shaped = rows_shaped 4 p.imuls s.imuls_shaped;
        bmuls_shaped = rows_shaped 6 p.bmuls s.bmuls_shaped;
        zeros_shaped = rows_shaped 1 p.zeros s.zeros_shaped;
      }

  pub expanded_shifted : (o : Operand) → FitsOperand p c o → All ShiftsOf (expand_operand p c o)
  unfolding expand_operand expand_term
  expanded_shifted o h = all_gather (expand_term p c) (all_each (λ t f. expanded_shifts (inlined p c) (depth p c) t f) h)

  -- "invalid shift number": none
  pub patched_shifted : Shifted p → NeverOver p c → Shifted (patched p c)
  patched_shifted s never = patched_terms ShiftsOf s (all_each expanded_shifted never)

  module _ (named : Named p) where
    inlined_named : (w : ℕ) (rhs : Operand) → inlined p c w ≡ some rhs → All (λ (u : Term). u.wire < p.wires) rhs
    inlined_named w rhs e =
        of_looked_up {P = λ (d : Definition). All (λ (u : Term). u.wire < p.wires) d.rhs} (definition_terms (λ (u : Term). u.wire < p.wires) p named.terms_named) w rhs
        (inlined_defined p c w rhs e)

    pub expanded_named : (o : Operand) → All (λ (u : Term). u.wire < p.wires) o → All (λ (u : Term). u.wire < p.wires) (expand_operand p c o)
    unfolding expand_operand expand_term
    expanded_named o h =
        all_gather (expand_term p c) (all_each (λ t b. expand_wires (inlined p c) (λ (w : ℕ). w < p.wires) inlined_named (depth p c) t b) h)

    pub new_named : All (λ (o : Operand). All (λ (u : Term). u.wire < p.wires) (expand_operand p c o)) (rebuilds p c)
    new_named = all_each expanded_named (rebuilt_terms (λ (u : Term). u.wire < p.wires) p c named.terms_named)

    linears_named : All (λ (d : Definition). d.dst < p.wires) (stranded p c ++ map (rebuild p c) (commits p c))
    unfolding stranded rebuild
    linears_named =
        all_both (λ (d : Definition). d.dst < p.wires) (all_keep (is_stranded p c) named.destinations_named)
        (all_mapped (rebuild p c) (commits_of p c {Q = λ (d : Definition). d.dst < p.wires} (λ w rhs k e. of_looked_up {P = λ (d : Definition). d.dst < p.wires} named.destinations_named w rhs e)))

    -- "wire not below the wire count": none
    pub patched_named : Named (patched p c)
    unfolding patched
    patched_named = record { terms_named = patched_terms (λ (u : Term). u.wire < p.wires) named.terms_named new_named; destinations_named = linears_named }

-- ---- how many terms

-- the terms of operands
abbrev total : List Operand → ℕ
total os = length (joined os)

total-append : (a b : List Operand) → total (a ++ b) ≡ total a + total b
total-append [] b = omega arith
total-append (o ∷ a) b = length-append o (joined (a ++ b)) ∙ omega (arith, total-append a b, length-append o (joined a))

joined-append : (a b : List Row) → joined (a ++ b) ≡ joined a ++ joined b
joined-append [] b = refl
joined-append (r ∷ a) b = ap (λ (l : List Operand). r ++ l) (joined-append a b) ∙ sym (append_assoc r (joined a) (joined b))

total-keep : (q : Row → Bool) (rs : List Row) → total (joined (keep q rs)) ≤ total (joined rs)
total-keep q [] = omega arith
total-keep q (r ∷ rs) = go (q r) (total-keep q rs) (total-append r (joined (keep q rs))) (total-append r (joined rs))
  where
    go : (b : Bool) → total (joined (keep q rs)) ≤ total (joined rs) → total (r ++ joined (keep q rs)) ≡ total r + total (joined (keep q rs)) → total (r ++ joined rs) ≡ total r + total (joined rs)
        → total (joined (cond b (r ∷ keep q rs) (keep q rs))) ≤ total (r ++ joined rs)
    go true h e f = omega arith
    go false h e f = omega arith

total_kept : (q : Definition → Bool) (ds : List Definition) → total (rhss_of (keep q ds)) ≤ total (rhss_of ds)
total_kept q [] = omega arith
total_kept q (d ∷ ds) = go (q d) (total_kept q ds) (length-append d.rhs (joined (rhss_of (keep q ds)))) (length-append d.rhs (joined (rhss_of ds)))
  where
    go : (b : Bool) → total (rhss_of (keep q ds)) ≤ total (rhss_of ds) → length (d.rhs ++ joined (rhss_of (keep q ds))) ≡ length d.rhs + total (rhss_of (keep q ds))
        → length (d.rhs ++ joined (rhss_of ds)) ≡ length d.rhs + total (rhss_of ds) → total (rhss_of (cond b (d ∷ keep q ds) (keep q ds))) ≤ length (d.rhs ++ joined (rhss_of ds))
    go true h e f = omega arith
    go false h e f = omega arith

pub gather-joined : {A B : Type 0} (f : A → List B) (l : List A) → gather f l ≡ joined (map f l)
gather-joined f [] = refl
gather-joined {A} {B} f (x ∷ l) = ap (λ (r : List B). f x ++ r) (gather-joined f l)

module _ (p : System) (c : ℕ → Bool) where
  -- the terms that are written for some operands
  abbrev made : List Operand → ℕ
  made os = length (gather (expand_operand p c) os)

  made-append : (a b : List Operand) → made (a ++ b) ≡ made a + made b
  made-append a b = ap length (gather_append (expand_operand p c) a b) ∙ length-append (gather (expand_operand p c) a) (gather (expand_operand p c) b)

  rows_total : (rs : List Row) → total (joined (patch_rows p c rs)) ≤ total (joined rs) + made (row_rebuilds p c rs)
  unfolding patch_rows row_rebuilds
  rows_total rs =
      let K = keep (λ (r : Row). not (rebuilt p.linears r)) rs in
      let N = keep (rebuilt p.linears) rs in
      let e : total (joined (K ++ map (map (expand_operand p c)) N)) ≡ total (joined K) + total (joined (map (map (expand_operand p c)) N)) =
      ap total (joined-append K (map (map (expand_operand p c)) N)) ∙ total-append (joined K) (joined (map (map (expand_operand p c)) N)) in
      let f : total (joined (map (map (expand_operand p c)) N)) ≡ made (joined N) =
      ap total (joined-map (expand_operand p c) N) ∙ ap length (sym (gather-joined (expand_operand p c) (joined N))) in
      omega (arith, e, f, total-keep (λ (r : Row). not (rebuilt p.linears r)) rs)

  rebuild_rhss : (ds : List Definition) → rhss_of (map (rebuild p c) ds) ≡ map (expand_operand p c) (rhss_of ds)
  unfolding rebuild
  rebuild_rhss [] = refl
  rebuild_rhss (d ∷ ds) = ap (λ (l : List Operand). expand_operand p c d.rhs ∷ l) (rebuild_rhss ds)

  rhss_append : (a b : List Definition) → rhss_of (a ++ b) ≡ rhss_of a ++ rhss_of b
  rhss_append [] b = refl
  rhss_append (d ∷ a) b = ap (λ (l : List Operand). d.rhs ∷ l) (rhss_append a b)

  linears_total : total (rhss_of (stranded p c ++ map (rebuild p c) (commits p c))) ≤ total (rhss_of p.linears) + made (rhss_of (commits p c))
  unfolding stranded
  linears_total =
      let S = keep (is_stranded p c) p.linears in
      let M = map (rebuild p c) (commits p c) in
      let e : total (rhss_of (S ++ M)) ≡ total (rhss_of S) + total (rhss_of M) = ap total (rhss_append S M) ∙ total-append (rhss_of S) (rhss_of M) in
      let f : total (rhss_of M) ≡ made (rhss_of (commits p c)) = ap total (rebuild_rhss (commits p c)) ∙ ap length (sym (gather-joined (expand_operand p c) (rhss_of (commits p c)))) in
      omega (arith, e, f, total_kept (is_stranded p c) p.linears)

  made_all : terms_written p c ≡ made (row_rebuilds p c p.ands) + (made (row_rebuilds p c p.imuls) + (made (row_rebuilds p c p.bmuls) + (made (row_rebuilds p c p.zeros) + made (rhss_of (commits p c)))))
  unfolding terms_written written rebuilds
  made_all =
      let NA = row_rebuilds p c p.ands in let NI = row_rebuilds p c p.imuls in let NB = row_rebuilds p c p.bmuls in let NZ = row_rebuilds p c p.zeros in
      let NC = rhss_of (commits p c) in
      let e1 = made-append NA (NI ++ (NB ++ (NZ ++ NC))) in
      let e2 = made-append NI (NB ++ (NZ ++ NC)) in
      let e3 = made-append NB (NZ ++ NC) in
      let e4 = made-append NZ NC in
      omega (arith, e1, e2, e3, e4)

  all_total : (q : System) → length (terms_of q) ≡ total (joined q.ands) + (total (joined q.imuls) + (total (joined q.bmuls) + total (joined q.zeros))) + total (rhss_of q.linears)
  unfolding row_operands definition_operands
  all_total q =
      let A = joined q.ands in let I = joined q.imuls in let B = joined q.bmuls in let Z = joined q.zeros in let C = rhss_of q.linears in
      let e = total-append (A ++ (I ++ (B ++ Z))) C in
      let e1 = total-append A (I ++ (B ++ Z)) in
      let e2 = total-append I (B ++ Z) in
      let e3 = total-append B Z in
      omega (arith, e, e1, e2, e3)

  -- the terms after are those that there were and those that were written, at most
  pub terms_after : length (terms_of (patched p c)) ≤ length (terms_of p) + terms_written p c
  unfolding patched
  terms_after =
      let a = rows_total p.ands in let i = rows_total p.imuls in let b = rows_total p.bmuls in let z = rows_total p.zeros in
      let l = linears_total in let m = made_all in let x = all_total p in let y = all_total (patched p c) in
      omega (arith, a, i, b, z, l, m, x, y)

  -- "The last two's 6 allows 24,576 terms": a patched system with 16,384 terms written at most is within it
  pub patched_limits : Accepted p → (limit : ℕ) → MAX_TERMS + terms_written p c ≤ limit → Limits limit (patched p c)
  unfolding patched
  patched_limits acc limit few =
      let n = counted p c acc.once acc.named.destinations_named in
      let ls : length (patched p c).linears ≤ length p.linears = omega (arith, n.after_count, n.linears_count) in
      record {
        wires_some = acc.limits.wires_some;
        wires_few = acc.limits.wires_few;
        definitions_few = omega (arith, ls, acc.limits.definitions_few);
        others_few = omega (arith, rows_count p c p.ands, rows_count p c p.imuls, rows_count p c p.bmuls, rows_count p c p.zeros, acc.limits.others_few);
        terms_few = omega (arith, terms_after, acc.limits.terms_few, few);
      }
