-- What a program finds by the table of definitions, the decisions and the masks is what the patched lists are made of. Assumes nothing.
use mathlib.Core.Path.{◌≡◌, refl, sym, ap, ap₂, ◌∙◌}
use Prim.Native.Nat.{ℕ, zero, suc, ◌+◌}
use native.Mathlib.Omega.{arith}
use mathlib.Core.Bool.{Bool, true, false, cond, not, ◌||◌}
use mathlib.Core.List.{List, [], ◌∷◌, ◌++◌, map, map-append}
use mathlib.Core.Option.{some}
use lib.Dec.{eqb}
use lib.ListN.{get_or}
use borrow.Author.Tests.{ne_eqb}
use Rattle.operand.specs.Numbers.{Term, Operand, operand_of}
use Rattle.lower.specs.declared.Sizes.{Sizes}
use Rattle.lower.specs.Lists.{some_of, keep, joined}
use Rattle.lower.specs.Model.{Definition, System, destinations, defines}
use Rattle.lower.specs.Accepted.{Once}
use Rattle.lower.specs.Tables.{marked}
use Rattle.lower.specs.Stores.{Stores, system_of, rows_of}
use Rattle.lower.specs.Faults.{memory_fault}
use Rattle.lower.proofs.Accepts.{defines-none}
use Rattle.legraph.specs.Uses.{rhs_of}
use Rattle.legraph.proofs.Numbering.{table_right}
use Rattle.legraph.proofs.Listing.{table_of, Defined, found_at, found_none}
use Rattle.legraph.proofs.Theorem.{rhs_same, small}
use Rattle.commit_set.specs.Numbers.{state_at}
use Rattle.patch.specs.Lists.{up_to}
use Rattle.patch.specs.Patch.{committed_at, commit_set, entry, commit_at, rhss_of, rebuilt, row_rebuilds, rebuilds, commits}
use Rattle.patch.specs.Handles.{commits_from}
use Rattle.patch.specs.Spelling.{Source, source, names_one, row_names}
use Rattle.patch.specs.Building as B
use Rattle.patch.specs.Building.{rows_in, commits_in, operands_in}
use Rattle.patch.proofs.Parts.{lost, Which, is_true, is_false, which}
use Rattle.patch.proofs.Handles.{commits_are}
use Rattle.reach.proofs.Masking.{committed-number}
use Rattle.apply.specs.Applied.{untouched, is_committed, committed_wires, flags_from}
use Rattle.fusion.specs.Left.{flags_of}

-- ---- tests that agree

pub some_same : {A : Type 0} (q r : A → Bool) → ((x : A) → q x ≡ r x) → (l : List A) → some_of q l ≡ some_of r l
some_same q r e [] = refl
some_same q r e (x ∷ l) = ap₂ {C = Bool} ◌||◌ (e x) (some_same q r e l)

pub keep_same : {A : Type 0} (q r : A → Bool) → ((x : A) → q x ≡ r x) → (l : List A) → keep q l ≡ keep r l
keep_same q r e [] = refl
keep_same {A} q r e (x ∷ l) = ap₂ {C = List A} (λ (b : Bool) (k : List A). cond b (x ∷ k) k) (e x) (keep_same q r e l)

no_matter : {A : Type 0} (b : Bool) (a : A) → cond b a a ≡ a
no_matter true a = refl
no_matter false a = refl

-- ---- lists of wires

module _ (table decisions : List ℕ) where
  abbrev flag_at : ℕ → ℕ
  flag_at w = cond (is_committed decisions (get_or table w 0)) 1 0

  flags_last : (w n : ℕ) → flags_from table decisions w (suc n) ≡ flags_from table decisions w n ++ (flag_at (w + n) ∷ [])
  unfolding flags_from
  flags_last w zero = ap (λ (i : ℕ). flag_at i ∷ []) (omega arith)
  flags_last w (suc n) =
      ap (λ (l : List ℕ). flag_at w ∷ l) (flags_last (suc w) n ∙ ap (λ (i : ℕ). flags_from table decisions (suc w) n ++ (flag_at i ∷ [])) (omega arith))

  flags_all : (n : ℕ) → flags_from table decisions 0 n ≡ map flag_at (up_to n)
  unfolding flags_from
  flags_all zero = refl
  flags_all (suc n) =
      flags_last 0 n
      ∙ ap₂ {C = List ℕ} ◌++◌ (flags_all n) (ap (λ (i : ℕ). flag_at i ∷ []) (omega arith))
      ∙ sym (map-append flag_at (up_to n) (n ∷ []))

pub map_as : {A B : Type 0} (f g : A → B) → ((x : A) → f x ≡ g x) → (l : List A) → map f l ≡ map g l
map_as f g e [] = refl
map_as {A} {B} f g e (x ∷ l) = ap₂ {C = List B} ◌∷◌ (e x) (map_as f g e l)

-- ---- a system in stores

module _ (z : Sizes) (s : Stores) (e : memory_fault 8192 z s ≡ 0) (once : Once (system_of z s).linears) (decisions : List ℕ) where
  abbrev p : System
  p = system_of z s

  abbrev c : ℕ → Bool
  c = commit_set p (state_at decisions)

  abbrev table : List ℕ
  table = table_of 4096 p

  abbrev f : ℕ → Operand
  f = operand_of s.old s.new

  -- the table has the defined wires
  pub marked-is : (w : ℕ) → marked table w ≡ defines p.linears w
  marked-is w = go (get_or table w 0) refl (which (defines p.linears w))
    where
      go : (n : ℕ) → get_or table w 0 ≡ n → Which (defines p.linears w) → not (eqb n 0) ≡ defines p.linears w
      go zero q o = sym ((defines-none p.linears w).1 (found_none p 4096 once (small z s e) w q))
      go (suc d) q (is_true k) = ap not (ne_eqb (suc d) 0 (λ x. omega arith)) ∙ sym k
      go (suc d) q (is_false k) = absurd (lost (found_at p 4096 once (small z s e) w d q).right ((defines-none p.linears w).0 k))

  pub names_are : (r : List Operand) → row_names table r ≡ rebuilt p.linears r
  unfolding row_names names_one rebuilt
  names_are r =
      some_same (some_of (λ (t : Term). marked table t.wire)) (some_of (λ (t : Term). defines p.linears t.wire))
      (λ o. some_same (λ (t : Term). marked table t.wire) (λ (t : Term). defines p.linears t.wire) (λ t. marked-is t.wire) o) r

  pub untouched-is : (r : List ℕ) → untouched s.old s.new table r ≡ not (rebuilt p.linears (map f r))
  unfolding untouched
  untouched-is r = ap not (names_are (map f r))

  -- the decisions have the committed ones
  pub committed-is : (w : ℕ) → is_committed decisions (get_or table w 0) ≡ c w
  unfolding commit_set
  committed-is w = step (get_or table w 0) ∙ ap (committed_at (state_at decisions)) (table_right 4096 0 (destinations p.linears) (small z s e) w)
    where
      step : (n : ℕ) → is_committed decisions n ≡ committed_at (state_at decisions) n
      step zero = refl
      step (suc d) = sym (committed-number (get_or decisions d 0))

  -- ---- operands

  rows_are : (k n : ℕ) (hs : List ℕ) (out : List ℕ) → rows_in (source s.old s.new s.rhss table decisions out) k n hs ≡ row_rebuilds p c (rows_of f k n hs)
  unfolding rows_in row_rebuilds
  rows_are k n hs out = ap joined (keep_same (row_names table) (rebuilt p.linears) names_are (rows_of f k n hs))

  module _ (out : List ℕ) where
    abbrev src : Source
    src = source s.old s.new s.rhss table decisions out

    rhs_committed : (w : ℕ) → B.committed_at src (get_or table w 0) ≡ rhss_of (commit_at c p.linears w)
    rhs_committed w = go (get_or table w 0) refl (committed-is w)
      where
        go : (n : ℕ) → get_or table w 0 ≡ n → is_committed decisions n ≡ c w → B.committed_at src n ≡ rhss_of (commit_at c p.linears w)
        go zero q k = rw (found_none p 4096 once (small z s e) w q) (ap rhss_of (sym (no_matter (c w) [])))
        go (suc d) q k =
            let r : Defined p w d = found_at p 4096 once (small z s e) w d q in
            rw (k, r.right, rhs_same z s e d r.under) (step (c w))
          where
            step : (b : Bool) → cond b (rhs_of p d ∷ []) [] ≡ rhss_of (cond b (entry w (some (rhs_of p d))) [])
            step true = refl
            step false = refl

    rhss_committed : (w n : ℕ) → commits_in src w n ≡ rhss_of (commits_from c p.linears w n)
    unfolding commits_in commits_from
    rhss_committed w zero = refl
    rhss_committed w (suc n) =
        ap₂ {C = List Operand} ◌++◌ (rhs_committed w) (rhss_committed (suc w) n)
        ∙ sym (map-append (λ (d : Definition). d.rhs) (commit_at c p.linears w) (commits_from c p.linears (suc w) n))

    -- THE THEOREM. What is rebuilt, in its order.
    pub operands_are : operands_in src z s.ands s.imuls s.bmuls s.zeros ≡ rebuilds p c
    unfolding operands_in rebuilds system_of
    operands_are =
        rw (
          rows_are 3 z.ands s.ands out,
          rows_are 4 z.imuls s.imuls out,
          rows_are 6 z.bmuls s.bmuls out,
          rows_are 1 z.zeros s.zeros out,
          rhss_committed 0 z.wires,
          commits_are p c,
        )

  -- ---- committed wires and flags

  wire_committed : (w : ℕ) → cond (is_committed decisions (get_or table w 0)) (w ∷ []) [] ≡ destinations (commit_at c p.linears w)
  wire_committed w = go (get_or table w 0) refl (committed-is w)
    where
      go : (n : ℕ) → get_or table w 0 ≡ n → is_committed decisions n ≡ c w → cond (is_committed decisions n) (w ∷ []) [] ≡ destinations (commit_at c p.linears w)
      go zero q k = rw (found_none p 4096 once (small z s e) w q) (ap destinations (sym (no_matter (c w) [])))
      go (suc d) q k = rw (k, (found_at p 4096 once (small z s e) w d q).right) (step (c w))
        where
          step : (b : Bool) → cond b (w ∷ []) [] ≡ destinations (cond b (entry w (some (rhs_of p d))) [])
          step true = refl
          step false = refl

  wires_from : (w n : ℕ) → committed_wires table decisions w n ≡ destinations (commits_from c p.linears w n)
  unfolding committed_wires commits_from
  wires_from w zero = refl
  wires_from w (suc n) =
      front (is_committed decisions (get_or table w 0)) (committed_wires table decisions (suc w) n)
      ∙ ap₂ {C = List ℕ} ◌++◌ (wire_committed w) (wires_from (suc w) n)
      ∙ sym (map-append (λ (d : Definition). d.dst) (commit_at c p.linears w) (commits_from c p.linears (suc w) n))
    where
      front : (b : Bool) (l : List ℕ) → cond b (w ∷ l) l ≡ cond b (w ∷ []) [] ++ l
      front true l = refl
      front false l = refl

  pub wires_are : committed_wires table decisions 0 z.wires ≡ destinations (commits p c)
  unfolding system_of
  wires_are = wires_from 0 z.wires ∙ ap destinations (sym (commits_are p c))

  pub flags_are : flags_from table decisions 0 z.wires ≡ flags_of p c
  unfolding flags_of system_of
  flags_are =
      flags_all table decisions z.wires
      ∙ map_as (λ (w : ℕ). cond (is_committed decisions (get_or table w 0)) 1 0) (λ (w : ℕ). cond (c w) 1 0) (λ w. ap (λ (b : Bool). cond b 1 0) (committed-is w)) (up_to z.wires)
