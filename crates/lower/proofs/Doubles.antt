-- The whole system has a doubled term where some list has, each looked at by the table of defined wires. Assumes nothing.
use mathlib.Core.Path.{◌≡◌, refl, sym, ap, ◌∙◌}
use mathlib.Core.List.{List, [], ◌∷◌, ◌++◌, map, append_assoc}
use mathlib.Core.Bool.{Bool, true, false, ◌&&◌, ◌||◌}
use Prim.Native.Nat.{ℕ, ◌*◌, ◌≤◌, ◌<◌}
use native.Mathlib.Omega.{arith}
use lib.ListN.{length, take, replicate, length-replicate}
use lib.Dec.{eqb}
use Rattle.std.specs.List.{list_any}
use Rattle.operand.specs.Numbers.{Term, Operand, operand_of}
use Rattle.lower.specs.declared.Sizes.{Sizes}
use Rattle.lower.specs.Lists.{All, some_of, joined}
use Rattle.lower.specs.Model.{System, row_operands, definition_operands, defines}
use Rattle.lower.specs.Stores.{Stores, system_of, row_handles}
use Rattle.lower.specs.Faults.{is_double, double, twice, repeated, empty, is_empty, length_of}
use Rattle.lower.specs.Tables.{marks, marked, double_in, handle_double, lists_double}
use Rattle.lower.proofs.Laws.{rows_model, definitions_model, destinations_model, all_imp, operand_length}
use Rattle.lower.proofs.Checks.{Checked, stand}
use Rattle.lower.proofs.Somes.{some_any, some-append, some-joined, some-map, some_same, marked_all, marked-none}

joined-append : {A : Type 0} (a b : List (List A)) → joined (a ++ b) ≡ joined a ++ joined b
joined-append [] b = refl
joined-append (x ∷ a) b = ap (λ l. x ++ l) (joined-append a b) ∙ sym (append_assoc x (joined a) (joined b))

some_ext : {A : Type 0} (p q : A → Bool) → ((x : A) → p x ≡ q x) → (l : List A) → some_of p l ≡ some_of q l
some_ext p q e [] = refl
some_ext p q e (x ∷ l) = rw (e x, some_ext p q e l)

-- a stronger test that passes somewhere
some_weaker : {A : Type 0} (p q : A → Bool) (l : List A) → some_of (λ (x : A). p x && q x) l ≡ true → some_of p l ≡ true
some_weaker p q [] h = h
some_weaker p q (x ∷ l) h = go (p x) (q x) (some_of (λ (y : _). p y && q y) l) (some_weaker p q l) h
  where
    go : (a b c : Bool) → (c ≡ true → some_of p l ≡ true) → ((a && b) || c) ≡ true → (a || some_of p l) ≡ true
    go true b c k e = refl
    go false b c k e = k e

absorbed : (a b c : Bool) → (c ≡ true → a ≡ true) → (a || (b || c)) ≡ (b || a)
absorbed true true c k = refl
absorbed true false c k = refl
absorbed false true c k = refl
absorbed false false false k = refl
absorbed false false true k = sym (k refl)

-- the rows' terms, and the definitions' terms, which need not name a defined wire
double-split : (p : System)
    → double p ≡ (some_of (λ (t : Term). is_double t && defines p.linears t.wire) (joined (row_operands p)) || some_of is_double (joined (definition_operands p)))
double-split p =
    let q : Term → Bool = λ t. is_double t && defines p.linears t.wire in
    ap (λ b. some_of is_double (joined (definition_operands p)) || b)
    (ap (some_of q) (joined-append (row_operands p) (definition_operands p)) ∙ some-append q (joined (row_operands p)) (joined (definition_operands p)))
    ∙ absorbed (some_of is_double (joined (definition_operands p))) (some_of q (joined (row_operands p))) (some_of q (joined (definition_operands p)))
    (some_weaker is_double (λ (t : Term). defines p.linears t.wire) (joined (definition_operands p)))

-- operands by their numbers
by_handles : (q : Term → Bool) (f : ℕ → Operand) (hs : List ℕ) → some_of q (joined (map f hs)) ≡ some_of (λ (h : ℕ). some_of q (f h)) hs
by_handles q f hs = some-joined q (map f hs) ∙ some-map (λ (o : Operand). some_of q o) f hs

module _ (z : Sizes) (s : Stores) (y : Checked z s) (few : z.wires ≤ 4096) where
  abbrev pub table : List ℕ
  table = marks (replicate 4096 0) (take z.linears s.dsts)

  pub in_table : All (λ (d : ℕ). d < length (replicate {A = ℕ} 4096 0)) (take z.linears s.dsts)
  in_table = all_imp (λ d (h : d < z.wires). let e = length-replicate {A = ℕ} 4096 0 in omega (arith, h, few, e)) (take z.linears s.dsts) y.dsts_sound

  table_right : (w : ℕ) → marked table w ≡ defines (system_of z s).linears w
  table_right w =
      marked_all (take z.linears s.dsts) (replicate 4096 0) w in_table
      ∙ rw (marked-none 4096 w) (or_false (some_of (eqb w) (take z.linears s.dsts)))
      ∙ ap (some_of (eqb w)) (sym (destinations_model z s y.dsts_in y.rhss_in))
    where
      or_false : (b : Bool) → (b || false) ≡ b
      or_false true = refl
      or_false false = refl

  abbrev part : Bool → List ℕ → Bool
  part b hs = some_of (handle_double s.old s.new table b) hs

  in_rows : some_of (λ (t : Term). is_double t && defines (system_of z s).linears t.wire) (joined (row_operands (system_of z s)))
      ≡ part false (row_handles z s.ands s.imuls s.bmuls s.zeros)
  unfolding handle_double
  in_rows =
      some_ext (λ (t : Term). is_double t && defines (system_of z s).linears t.wire) (double_in table false) (λ t. ap (λ b. is_double t && b) (sym (table_right t.wire))) (joined (row_operands (system_of z s)))
      ∙ ap (λ l. some_of (double_in table false) (joined l)) (rows_model z s)
      ∙ by_handles (double_in table false) (operand_of s.old s.new) (row_handles z s.ands s.imuls s.bmuls s.zeros)

  in_definitions : some_of is_double (joined (definition_operands (system_of z s))) ≡ part true (take z.linears s.rhss)
  unfolding handle_double
  in_definitions =
      some_ext is_double (double_in table true) (λ t. and-true (is_double t)) (joined (definition_operands (system_of z s)))
      ∙ ap (λ l. some_of (double_in table true) (joined l)) (definitions_model z s y.dsts_in y.rhss_in)
      ∙ by_handles (double_in table true) (operand_of s.old s.new) (take z.linears s.rhss)
    where
      and-true : (b : Bool) → b ≡ (b && true)
      and-true true = refl
      and-true false = refl

  pub double_lists : double (system_of z s) ≡ lists_double z s table
  unfolding lists_double
  double_lists = double-split (system_of z s) ∙ rw (in_rows, in_definitions)

-- the rows, list by list
pub rows_parts : (q : ℕ → Bool) (z : Sizes) (ands imuls bmuls zeros : List ℕ) → some_of q (row_handles z ands imuls bmuls zeros)
    ≡ (some_of q (take (3 * z.ands) ands) || (some_of q (take (4 * z.imuls) imuls) || (some_of q (take (6 * z.bmuls) bmuls) || some_of q (take z.zeros zeros))))
unfolding row_handles
rows_parts q z ands imuls bmuls zeros =
    some-append q (take (3 * z.ands) ands) _
    ∙ rw (some-append q (take (4 * z.imuls) imuls) (take (6 * z.bmuls) bmuls ++ take z.zeros zeros), some-append q (take (6 * z.bmuls) bmuls) (take z.zeros zeros))

module _ (z : Sizes) (s : Stores) (t : List ℕ) where
  abbrev row : List ℕ → Bool
  row hs = some_of (handle_double s.old s.new t false) hs

  pub lists_are : lists_double z s t ≡
      ((row (take (3 * z.ands) s.ands) || (row (take (4 * z.imuls) s.imuls) || (row (take (6 * z.bmuls) s.bmuls) || row (take z.zeros s.zeros))))
      || some_of (handle_double s.old s.new t true) (take z.linears s.rhss))
  unfolding lists_double
  lists_are = ap (λ b. b || some_of (handle_double s.old s.new t true) (take z.linears s.rhss)) (rows_parts (handle_double s.old s.new t false) z s.ands s.imuls s.bmuls s.zeros)

-- 8 and 9 by the stores
module _ (z : Sizes) (s : Stores) (y : Checked z s) where
  pub twice_model : twice (system_of z s) ≡ repeated (take z.linears s.dsts)
  twice_model = ap repeated (destinations_model z s y.dsts_in y.rhss_in)

  pub empty_model : empty (system_of z s) ≡ list_any (λ h. eqb (length_of h) 0) (take z.linears s.rhss)
  empty_model =
      ap (λ l. some_of (λ (o : Operand). is_empty o) l) (definitions_model z s y.dsts_in y.rhss_in)
      ∙ some-map (λ (o : Operand). is_empty o) (operand_of s.old s.new) (take z.linears s.rhss)
      ∙ some_same (λ (h : ℕ). is_empty (operand_of s.old s.new h)) (λ (h : ℕ). eqb (length_of h) 0) (take z.linears s.rhss)
      (all_imp (λ h p. ap (λ n. eqb n 0) (operand_length s.old s.new h p)) _ (stand z s y (take z.linears s.rhss) y.rhss_sound))
      ∙ some_any (λ (h : ℕ). eqb (length_of h) 0) (take z.linears s.rhss)
