-- What is answered by the first numbers, and by the faults of the records after them, is the answer over all records. Assumes nothing.
use mathlib.Core.Path.{◌≡◌, refl, sym, ap, ap₂, subst, ◌∙◌}
use mathlib.Core.Logic.{◌⊎◌, inl, inr, ⊎_elim}
use Prim.Native.Nat.{ℕ, min, ◌≤◌, ◌<◌}
use native.Mathlib.Omega.{arith}
use mathlib.Core.Bool.{Bool, true, false}
use mathlib.Core.List.{List, []}
use lib.ListN.{length, take, length-map}
use lib.Seq.{sets}
use borrow.Author.Tests.{lt-ltb, le-ltb}
use Rattle.std.proofs.Common.{Result, Err}
use Rattle.refusal.specs.declared.Refusal.{Refusal}
use Rattle.refusal.specs.Refusals.{number_of}
use Rattle.word.specs.Answers as T
use Rattle.word.specs.Answers.{Told}
use Rattle.lower.specs.declared.Sizes.{Sizes}
use Rattle.lower.specs.Stores.{Stores, stores}
use Rattle.lower.specs.Faults.{or_else, pairs_fault, definitions_fault, places_fault}
use Rattle.fusion.specs.Left.{Lent, lent, input}
use Rattle.fusion.specs.Answer.{Fuses}
use Rattle.fill_back.specs.Filling.{FillsIs}
use Rattle.house_write.specs.Write.{WriteIs}
use Rattle.evaluate.specs.Evaluation.{EvaluateIs}
use Rattle.records.specs.declared.Definition as D
use Rattle.records.proofs.Laws.{lt_or_le}
use Rattle.records.proofs.Crowds.{else_assoc, else_not, rows_first, long_fault, crowd_some, crowded_over, none_calm, some_crowded}
use Rattle.records.proofs.Wholes.{fills_calm, fuses_calm, fills_crowd, fuses_crowd, sets_own}
use Rattle.records.proofs.Writings.{writes_calm, evaluates_calm, writes_crowd, evaluates_crowd}
use Rattle.records.specs.Records.{dsts_of, rhss_of, stores_by, lent_by, crowded, crowd_fault, rows_only, held, looked, found, past_fault, FillsFirst, filled_first, filled_past, FusesFirst, fused_first, fused_past, WritesFirst, written_first, written_past, EvaluatesFirst, evaluated_first, evaluated_past}

-- ---- how many
held_over : (len : ℕ) → 1024 < len → held len ≡ min len 1024
unfolding held
held_over len h = rw (lt-ltb 1024 len h) (omega (arith, h))

held_all : (len : ℕ) → len ≤ 1024 → held len ≡ min len 1024
unfolding held
held_all len h = rw (le-ltb 1024 len h) (omega (arith, h))

-- the premise of Readings.reads_all, in its other form
pub held_min : (len : ℕ) → held len ≡ min len 1024
held_min len = ⊎_elim (held_over len) (held_all len) (lt_or_le 1024 len)

two : (b : Bool) → (b ≡ true) ⊎ (b ≡ false)
two true = inl refl
two false = inr refl

module _ (z : Sizes) (len : ℕ) where
  looked_all : crowded z len ≡ true → looked len z ≡ z.linears
  unfolding looked
  looked_all t = rw t

  looked_none : crowded z len ≡ false → looked len z ≡ 0
  unfolding looked
  looked_none t = rw t

  none_looked : looked len z ≡ 0 → crowded z len ≡ false
  none_looked h = ⊎_elim (λ t. absurd (omega (arith, h, looked_all t, (crowded_over z len t).0))) (λ t. t) (two (crowded z len))

  some_looked : (looked len z ≡ 0 → ⊥) → crowded z len ≡ true
  some_looked h = ⊎_elim (λ t. t) (λ t. absurd (h (looked_none t))) (two (crowded z len))

-- ---- the first numbers, and all
module _ (z : Sizes) (old new ands imuls bmuls zeros ds rs : List ℕ) (len m n fault : ℕ) (e : m ≡ held len) (d : n ≡ looked len z) (a : length ds ≡ len) (b : length rs ≡ len)
    (f : fault ≡ pairs_fault z.wires old new (take n ds) (take n rs)) where
  abbrev There : Stores
  There = stores old new ands imuls bmuls zeros ds rs

  abbrev First : Stores
  First = stores old new ands imuls bmuls zeros (take m ds) (take m rs)

  same : length rs ≡ length ds
  same = b ∙ sym a

  few_held : m ≡ min (length ds) 1024
  few_held = e ∙ held_min len ∙ ap (λ (i : ℕ). min i 1024) (sym a)

  calm : n ≡ 0 → crowded z (length ds) ≡ false
  calm h = ap (crowded z) a ∙ none_looked z len (sym d ∙ h)

  -- where records were looked at, there are too many, and what was found of them is the fault of the crowd
  module _ (h : n ≡ 0 → ⊥) where
    crowd : crowded z (length ds) ≡ true
    crowd = ap (crowded z) a ∙ some_looked z len (λ o. h (d ∙ o))

    many : z.linears ≤ length ds
    many = (crowded_over z (length ds) crowd).1

    abbrev rows : ℕ
    rows = places_fault (rows_only z) (stores old new ands imuls bmuls zeros [] [])

    all_looked : n ≡ z.linears
    all_looked = d ∙ ap (λ (i : ℕ). looked i z) (sym a) ∙ looked_all z (length ds) crowd

    found_all : definitions_fault z.wires old new z.linears ds rs ≡ fault
    found_all =
        long_fault z.wires old new z.linears ds rs many (omega (arith, many, same))
        ∙ ap (λ (i : ℕ). pairs_fault z.wires old new (take i ds) (take i rs)) (sym all_looked)
        ∙ sym f

    past_crowd : past_fault z old new ands imuls bmuls zeros fault ≡ crowd_fault z There
    unfolding past_fault
    past_crowd =
        sym (crowd_some z There crowd
        ∙ ap (λ (i : ℕ). or_else i 6) (rows_first z old new ands imuls bmuls zeros ds rs [] [] ∙ ap (or_else rows) found_all)
        ∙ else_assoc rows fault 6)

    crowd_not : crowd_fault z There ≡ 0 → ⊥
    crowd_not o = else_not (places_fault z There) 6 (λ x. omega (arith, x)) (sym (crowd_some z There crowd) ∙ o)

    fills_past : (flags ws ws' : List ℕ) (r : ℕ) → r ≡ past_fault z old new ands imuls bmuls zeros fault → ws' ≡ ws → FillsIs z There flags ws ws' r
    fills_past flags ws ws' r k s =
        subst (λ (l : List ℕ). FillsIs z There flags ws l r) (sym s) (fills_crowd z There flags ws r (k ∙ past_crowd) (λ o. crowd_not (sym (k ∙ past_crowd) ∙ o)))

    writes_past : (out out' : List ℕ) (r : Refusal) → number_of r ≡ past_fault z old new ands imuls bmuls zeros fault → out' ≡ out → WriteIs z There out (Err r) out'
    writes_past out out' r k s = subst (λ (l : List ℕ). WriteIs z There out (Err r) l) (sym s) (writes_crowd z There out r (k ∙ past_crowd))

    evaluates_past : (ws out out' : List ℕ) (r : Refusal) → number_of r ≡ past_fault z old new ands imuls bmuls zeros fault → out' ≡ out → EvaluateIs z There ws out (Err r) out'
    evaluates_past ws out out' r k s = subst (λ (l : List ℕ). EvaluateIs z There ws out (Err r) l) (sym s) (evaluates_crowd z There ws out r (k ∙ past_crowd))

  -- THE THEOREM for filling back.
  pub fills_all : (flags ws ws' : List ℕ) (r : ℕ) → FillsFirst n fault z First flags ws ws' r → FillsIs z There flags ws ws' r
  fills_all flags ws ws' r (filled_past h k s) = fills_past h flags ws ws' r k s
  fills_all flags ws ws' r (filled_first h y) = fills_calm z old new ands imuls bmuls zeros ds rs m few_held same (calm h) flags ws ws' r y

  -- THE THEOREM for writing.
  pub writes_all : (out out' : List ℕ) (r : Result ℕ Refusal) → WritesFirst n fault z First out out' r → WriteIs z There out r out'
  writes_all out out' r (written_past h k s) = writes_past h out out' _ k s
  writes_all out out' r (written_first h y) = writes_calm z old new ands imuls bmuls zeros ds rs m few_held same (calm h) out out' r y

  -- THE THEOREM for evaluating.
  pub evaluates_all : (ws out out' : List ℕ) (r : Result ℕ Refusal) → EvaluatesFirst n fault z First ws out out' r → EvaluateIs z There ws out r out'
  evaluates_all ws out out' r (evaluated_past h k s) = evaluates_past h ws out out' _ k s
  evaluates_all ws out out' r (evaluated_first h y) = evaluates_calm z old new ands imuls bmuls zeros ds rs m few_held same (calm h) ws out out' r y

-- ---- fusing
module _ (slots : ℕ) (z : Sizes) (old new ands imuls bmuls zeros ds rs flags : List ℕ) (len m n fault : ℕ) (e : m ≡ held len) (d : n ≡ looked len z) (a : length ds ≡ len) (b : length rs ≡ len)
    (f : fault ≡ pairs_fault z.wires old [] (take n ds) (take n rs)) where
  abbrev all : Lent
  all = lent old new ands imuls bmuls zeros ds rs flags

  abbrev few : Lent
  few = lent old new ands imuls bmuls zeros (take m ds) (take m rs) flags

  -- the first numbers, put back
  abbrev up : Lent → Lent
  up x = lent x.old x.new x.ands x.imuls x.bmuls x.zeros (sets ds 0 x.dsts) (sets rs 0 x.rhss) x.flags

  m_held : m ≡ min (length ds) 1024
  m_held = few_held z old [] ands imuls bmuls zeros ds rs len m n fault e d a b f

  as_long : length rs ≡ length ds
  as_long = b ∙ sym a

  kept : (x : Lent) → x ≡ few → up x ≡ all
  kept x k =
      ap up k ∙ ap₂ {C = Lent} (λ (u v : List ℕ). lent old new ands imuls bmuls zeros u v flags) (sets_own m ds (omega (arith, m_held))) (sets_own m rs (omega (arith, m_held, as_long)))

  fuses_past : (l' : Lent) (r : ℕ) → (n ≡ 0 → ⊥) → r ≡ past_fault z old [] ands imuls bmuls zeros fault → l' ≡ few → Fuses slots z all (up l') (T.refused r)
  fuses_past l' r h k q =
      let x : r ≡ crowd_fault z (input all) = k ∙ past_crowd z old [] ands imuls bmuls zeros ds rs len m n fault e d a b f h in
      subst (λ (l : Lent). Fuses slots z all l (T.refused r)) (sym (kept l' q))
      (fuses_crowd slots z all r x (λ o. crowd_not z old [] ands imuls bmuls zeros ds rs len m n fault e d a b f h (sym x ∙ o)))

  -- THE THEOREM for fusing.
  pub fuses_all : (l' : Lent) (t : Told) → FusesFirst n fault slots z few l' t → Fuses slots z all (up l') t
  fuses_all l' t (fused_past h r q) = fuses_past l' _ h r q
  fuses_all l' t (fused_first h y) =
      fuses_calm slots z old new ands imuls bmuls zeros ds rs flags m m_held as_long (calm z old [] ands imuls bmuls zeros ds rs len m n fault e d a b f h) l' t y

-- ---- over records
abbrev dst_of : D.Definition → ℕ
dst_of d = d.dst

abbrev rhs_of : D.Definition → ℕ
rhs_of d = d.rhs

-- a crowd was looked at, and what is told of it is what was found, after the rows and before 6
pub record Past (z : Sizes) (old new ands imuls bmuls zeros : List ℕ) (ys : List D.Definition) (r : ℕ) : Type 0 where
  pub some : looked (length ys) z ≡ 0 → ⊥
  pub told : r ≡ past_fault z old new ands imuls bmuls zeros (found z old new ys)

module _ (z : Sizes) (old new ands imuls bmuls zeros : List ℕ) (ys : List D.Definition) where
  many_is : length (dsts_of ys) ≡ length ys
  many_is = length-map ys dst_of

  pub none_looked_at : 0 ≡ crowd_fault z (stores_by old new ands imuls bmuls zeros ys) → looked (length ys) z ≡ 0
  none_looked_at e = looked_none z (length ys) (ap (crowded z) (sym many_is) ∙ none_calm z (stores_by old new ands imuls bmuls zeros ys) (sym e))

  pub past_is : (r : ℕ) → r ≡ crowd_fault z (stores_by old new ands imuls bmuls zeros ys) → (r ≡ 0 → ⊥) → Past z old new ands imuls bmuls zeros ys r
  past_is r e h =
      let t : crowded z (length ys) ≡ true = ap (crowded z) (sym many_is) ∙ some_crowded z (stores_by old new ands imuls bmuls zeros ys) (λ o. h (e ∙ o)) in
      let some : looked (length ys) z ≡ 0 → ⊥ = λ o. absurd (omega (arith, o, looked_all z (length ys) t, (crowded_over z (length ys) t).0)) in
      record {
        some = some;
        told = e ∙ sym (past_crowd z old new ands imuls bmuls zeros (dsts_of ys) (rhss_of ys) (length ys) (held (length ys)) (looked (length ys) z) (found z old new ys) refl refl many_is (length-map ys rhs_of) refl some);
      }

-- so many numbers are held
module _ (z : Sizes) (old new ands imuls bmuls zeros : List ℕ) (ys : List D.Definition) (m : ℕ) (e : m ≡ min (length ys) 1024) where
  as_held : m ≡ held (length ys)
  as_held = e ∙ sym (held_min (length ys))

  pub fills_records : (flags ws ws' : List ℕ) (r : ℕ) → FillsFirst (looked (length ys) z) (found z old new ys) z (stores old new ands imuls bmuls zeros (take m (dsts_of ys)) (take m (rhss_of ys))) flags ws ws' r
      → FillsIs z (stores_by old new ands imuls bmuls zeros ys) flags ws ws' r
  fills_records flags ws ws' r y =
      fills_all z old new ands imuls bmuls zeros (dsts_of ys) (rhss_of ys) (length ys) m (looked (length ys) z) (found z old new ys) as_held refl (length-map ys dst_of) (length-map ys rhs_of) refl flags ws ws' r y

  pub writes_records : (out out' : List ℕ) (r : Result ℕ Refusal) → WritesFirst (looked (length ys) z) (found z old new ys) z (stores old new ands imuls bmuls zeros (take m (dsts_of ys)) (take m (rhss_of ys))) out out' r
      → WriteIs z (stores_by old new ands imuls bmuls zeros ys) out r out'
  writes_records out out' r y =
      writes_all z old new ands imuls bmuls zeros (dsts_of ys) (rhss_of ys) (length ys) m (looked (length ys) z) (found z old new ys) as_held refl (length-map ys dst_of) (length-map ys rhs_of) refl out out' r y

  pub evaluates_records : (ws out out' : List ℕ) (r : Result ℕ Refusal) → EvaluatesFirst (looked (length ys) z) (found z old new ys) z (stores old new ands imuls bmuls zeros (take m (dsts_of ys)) (take m (rhss_of ys))) ws out out' r
      → EvaluateIs z (stores_by old new ands imuls bmuls zeros ys) ws out r out'
  evaluates_records ws out out' r y =
      evaluates_all z old new ands imuls bmuls zeros (dsts_of ys) (rhss_of ys) (length ys) m (looked (length ys) z) (found z old new ys) as_held refl (length-map ys dst_of) (length-map ys rhs_of) refl ws out out' r y

  -- us and vs are the first numbers, and us' and vs' what is left of them and put back
  pub fuses_records : (slots : ℕ) (flags us vs new' ands' imuls' bmuls' zeros' us' vs' flags' : List ℕ) (ys' : List D.Definition) (t : Told)
      → us ≡ take m (dsts_of ys) → vs ≡ take m (rhss_of ys) → dsts_of ys' ≡ sets (dsts_of ys) 0 us' → rhss_of ys' ≡ sets (rhss_of ys) 0 vs'
      → FusesFirst (looked (length ys) z) (found z old [] ys) slots z (lent old new ands imuls bmuls zeros us vs flags) (lent old new' ands' imuls' bmuls' zeros' us' vs' flags') t
      → Fuses slots z (lent_by old new ands imuls bmuls zeros ys flags) (lent_by old new' ands' imuls' bmuls' zeros' ys' flags') t
  fuses_records slots flags us vs new' ands' imuls' bmuls' zeros' us' vs' flags' ys' t p q p' q' y =
      let n : ℕ = looked (length ys) z in
      let fault : ℕ = found z old [] ys in
      let all : Lent = lent_by old new ands imuls bmuls zeros ys flags in
      let left : Lent = lent old new' ands' imuls' bmuls' zeros' us' vs' flags' in
      subst (λ (l : List ℕ). Fuses slots z all (lent old new' ands' imuls' bmuls' zeros' l (rhss_of ys') flags') t) (sym p')
      (subst (λ (l : List ℕ). Fuses slots z all (lent old new' ands' imuls' bmuls' zeros' (sets (dsts_of ys) 0 us') l flags') t) (sym q')
      (fuses_all slots z old new ands imuls bmuls zeros (dsts_of ys) (rhss_of ys) flags (length ys) m n fault as_held refl (length-map ys dst_of) (length-map ys rhs_of) refl left t
      (subst (λ (l : List ℕ). FusesFirst n fault slots z (lent old new ands imuls bmuls zeros l (take m (rhss_of ys)) flags) left t) p
      (subst (λ (l : List ℕ). FusesFirst n fault slots z (lent old new ands imuls bmuls zeros us l flags) left t) q y))))
