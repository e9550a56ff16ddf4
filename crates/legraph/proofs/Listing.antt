-- The lists of uses that a program notes are the uses of each definition.
-- Assumes nothing.
use mathlib.Core.Path.{◌≡◌, refl, sym, ap, ◌∙◌, subst}
use Prim.Native.Nat.{ℕ, zero, suc, ◌+◌, ◌-◌, ◌*◌, ◌/◌, ◌%◌, ◌≤◌, ◌<◌}
use mathlib.Core.List.{List, [], ◌∷◌, ◌++◌, map}
use mathlib.Core.Bool.{Bool, true, false, cond}
use mathlib.Core.Option.{none, some}
use native.Mathlib.Omega.{arith}
use lib.ListN.{length, get_or, set, replicate, length-set, length-replicate, length-append}
use lib.Seq.{get_or-set_same, get_or-set_other}
use lib.Dec.{eqb}
use borrow.Author.Tests.{eq-eqb, ne_eqb}
use Rattle.operand.specs.Numbers.{Term, Operand}
use Rattle.lower.specs.Lists.{All, more, joined}
use Rattle.lower.specs.Model.{Definition, System, row_operands, definition_operands, terms_of, destinations, definition_of}
use Rattle.lower.specs.Accepted.{Once}
use Rattle.lower.proofs.Laws.{all_left, all_right}
use Rattle.legraph.specs.Uses.{User, constraint, definition, Use, use_by, uses_in, uses_from, uses_of, dst_of, rhs_of}
use Rattle.legraph.specs.Tables.{numbered, use_number, user_at, use_at, next_at, Graph, graph, note_at, note, note_terms, note_from, note_all, listed, Linked}
use Rattle.legraph.proofs.Cases.{same_or_not, zero_at}
use Rattle.legraph.proofs.Numbering.{table_right, number_there, number-none, number_once}
use Rattle.legraph.proofs.Laws.{push_room, note_opaque, note_defined}

-- a use there and back
pub next_back : (user shift next : ℕ) → shift < 65536 → user < 65536 → next_at (use_number user shift next) ≡ next
next_back user shift next h k = omega arith

pub use_back : (user shift next : ℕ) → shift < 65536 → user < 65536 → use_at (use_number user shift next) ≡ record { user = user_at user; shift = shift }
use_back user shift next h k =
    let a : (shift + 65536 * user + 4294967296 * next) % 65536 ≡ shift = omega arith in
    let b : (shift + 65536 * user + 4294967296 * next) / 65536 ≡ user + 65536 * next = omega arith in
    let c : (user + 65536 * next) % 65536 ≡ user = omega arith in
    rw (a, b, c)

-- a use past those that are linked changes no list
listed_kept : (us : List ℕ) (c x f h : ℕ) → h ≤ c → ((i : ℕ) → i < c → next_at (get_or us i 0) ≤ i) → listed f (set us c x) h ≡ listed f us h
unfolding listed
listed_kept us c x zero h l k = refl
listed_kept us c x (suc f) zero l k = refl
listed_kept us c x (suc f) (suc i) l k =
    let e : get_or (set us c x) i 0 ≡ get_or us i 0 = get_or-set_other us c i x 0 (λ q. omega (arith, q, l)) in
    rw e (ap (λ (r : List Use). use_at (get_or us i 0) ∷ r) (listed_kept us c x f (next_at (get_or us i 0)) (omega (arith, k i (omega arith), l)) k))

-- a definition's list is its uses; n definitions
pub record Holds (n : ℕ) (U : ℕ → List Use) (g : Graph) : Type 0 where
  pub linked : Linked g.uses g.count
  pub heads : (d : ℕ) → get_or g.first d 0 ≤ g.count
  pub lists : (d : ℕ) → d < n → (f : ℕ) → get_or g.first d 0 ≤ f → listed f g.uses (get_or g.first d 0) ≡ U d

holds_as : (n : ℕ) (U U' : ℕ → List Use) (g : Graph) → ((d : ℕ) → d < n → U d ≡ U' d) → Holds n U g → Holds n U' g
holds_as n U U' g e h = record { linked = h.linked; heads = h.heads; lists = λ d l f k. h.lists d l f k ∙ e d l }

module _ (n : ℕ) (U : ℕ → List Use) (first us : List ℕ) (c user shift d : ℕ) (h : Holds n U (graph first us c)) (room : c < length us) (there : d < length first) (a : shift < 65536) (b : user < 65536) where
  abbrev x : ℕ
  x = use_number user shift (get_or first d 0)

  abbrev after : Graph
  after = graph (set first d (c + 1)) (set us c x) (c + 1)

  push-falls : (i : ℕ) → i < c + 1 → next_at (get_or (set us c x) i 0) ≤ i
  push-falls i l =
      same_or_not i c
      (λ q. omega (arith, q, ap next_at (ap (λ (j : ℕ). get_or (set us c x) j 0) q ∙ get_or-set_same us c x 0 room), next_back user shift (get_or first d 0) a b, h.heads d))
      (λ q. omega (arith, ap next_at (get_or-set_other us c i x 0 q), h.linked.falls i (omega (arith, q, l))))

  push_head : (e : ℕ) → get_or (set first d (c + 1)) e 0 ≤ c + 1
  push_head e =
      same_or_not e d
      (λ q. omega (arith, ap (λ (j : ℕ). get_or (set first d (c + 1)) j 0) q, get_or-set_same first d (c + 1) 0 there))
      (λ q. omega (arith, get_or-set_other first d e (c + 1) 0 q, h.heads e))

  push_here : (f : ℕ) → d < n → c + 1 ≤ f → listed f (set us c x) (c + 1) ≡ record { user = user_at user; shift = shift } ∷ U d
  unfolding listed
  push_here zero l k = absurd (omega arith)
  push_here (suc f) l k =
      let e : c + 1 ≡ suc c = omega arith in
      rw (e, get_or-set_same us c x 0 room, use_back user shift (get_or first d 0) a b, next_back user shift (get_or first d 0) a b)
      (ap (λ (r : List Use). record { user = user_at user; shift = shift } ∷ r)
      (listed_kept us c x f (get_or first d 0) (h.heads d) h.linked.falls ∙ h.lists d l f (omega (arith, h.heads d, k))))

  push_holds : Holds n (λ e. cond (eqb e d) (record { user = user_at user; shift = shift } ∷ U e) (U e)) after
  push_holds =
      record {
        linked = record { inside = omega (arith, length-set us c x, room); falls = push-falls };
        heads = push_head;
        lists = λ e l f k. same_or_not e d
            (λ q.
            let hd : get_or (set first d (c + 1)) e 0 ≡ c + 1 = ap (λ (j : ℕ). get_or (set first d (c + 1)) j 0) q ∙ get_or-set_same first d (c + 1) 0 there in
            rw (eq-eqb e d q, hd) (push_here f (omega (arith, q, l)) (omega (arith, hd, k)) ∙ ap (λ (j : ℕ). record { user = user_at user; shift = shift } ∷ U j) (sym q)))
            (λ q.
            let hd : get_or (set first d (c + 1)) e 0 ≡ get_or first e 0 = get_or-set_other first d e (c + 1) 0 q in
            rw (ne_eqb e d q, hd) (listed_kept us c x f (get_or first e 0) (h.heads e) h.linked.falls ∙ h.lists e l f (omega (arith, hd, k))));
      }

-- the table t finds the definitions by their wires, and there is a list for each
pub record Finds (n : ℕ) (dst : ℕ → ℕ) (t first : List ℕ) : Type 0 where
  pub enough : n ≤ length first
  pub found : (w d : ℕ) → get_or t w 0 ≡ suc d → (d < n) × (dst d ≡ w)
  pub by_wire : (d : ℕ) → d < n → get_or t (dst d) 0 ≡ suc d

-- how a graph has grown by k uses at most
pub record Grown (k : ℕ) (g g' : Graph) : Type 0 where
  pub first_long : length g'.first ≡ length g.first
  pub uses_long : length g'.uses ≡ length g.uses
  pub count_up : g'.count ≤ g.count + k

grown-none : (g : Graph) → Grown 0 g g
grown-none g = record { first_long = refl; uses_long = refl; count_up = omega arith }

record Noted (n k : ℕ) (g : Graph) (U : ℕ → List Use) (g' : Graph) : Type 0 where
  holds : Holds n U g'
  grown : Grown k g g'

module _ (n : ℕ) (dst : ℕ → ℕ) (table : List ℕ) where
  -- one term
  note_one : (user : ℕ) (t : Term) (U : ℕ → List Use) (g : Graph) → Finds n dst table g.first → user < 65536 → t.inner < 65536 → g.count < length g.uses → Holds n U g
      → Noted n 1 g (λ d. cond (eqb t.wire (dst d)) (use_by (user_at user) t ∷ U d) (U d)) (note table user t g)
  note_one user t U g w b a room h = go (get_or table t.wire 0) refl
    where
      go : (x : ℕ) → get_or table t.wire 0 ≡ x → Noted n 1 g (λ d. cond (eqb t.wire (dst d)) (use_by (user_at user) t ∷ U d) (U d)) (note_at user t.inner (get_or table t.wire 0) g)
      go zero e =
          subst (Noted n 1 g (λ d. cond (eqb t.wire (dst d)) (use_by (user_at user) t ∷ U d) (U d))) (note_opaque user t.inner (get_or table t.wire 0) g e)
          (record {
            holds = holds_as n U (λ d. cond (eqb t.wire (dst d)) (use_by (user_at user) t ∷ U d) (U d)) g (λ d l. rw (ne_eqb t.wire (dst d) (λ q. omega (arith, w.by_wire d l, ap (λ (y : ℕ). get_or table y 0) q, e)))) h;
            grown = record { first_long = refl; uses_long = refl; count_up = omega arith };
          })
      go (suc j) e =
          let f = w.found t.wire j e in
          let c : ℕ = g.count in
          subst (Noted n 1 g (λ d. cond (eqb t.wire (dst d)) (use_by (user_at user) t ∷ U d) (U d))) (push_room user t.inner j g.first g.uses g.count room ∙ note_defined user t.inner (get_or table t.wire 0) j g e)
          (record {
            holds = holds_as n (λ d. cond (eqb d j) (use_by (user_at user) t ∷ U d) (U d)) (λ d. cond (eqb t.wire (dst d)) (use_by (user_at user) t ∷ U d) (U d)) _
                (λ d l. ap (λ (y : Bool). cond y (use_by (user_at user) t ∷ U d) (U d)) (same_or_not d j
                (λ q. eq-eqb d j q ∙ sym (eq-eqb t.wire (dst d) (sym f.1 ∙ ap dst (sym q))))
                (λ q. ne_eqb d j q ∙ sym (ne_eqb t.wire (dst d) (λ z. q (omega (arith, w.by_wire d l, ap (λ (y : ℕ). get_or table y 0) z, e)))))))
                (push_holds n U g.first g.uses g.count user t.inner j h room (omega (arith, f.0, w.enough)) a b);
            grown = record { first_long = length-set g.first j (g.count + 1); uses_long = length-set g.uses g.count _; count_up = omega arith };
          })

  finds_kept : (first first' : List ℕ) → length first' ≡ length first → Finds n dst table first → Finds n dst table first'
  finds_kept first first' e w = record { enough = omega (arith, w.enough, e); found = w.found; by_wire = w.by_wire }

  -- the terms of one user
  note_terms_lem : (user : ℕ) (ts : List Term) (U : ℕ → List Use) (g : Graph) → Finds n dst table g.first → user < 65536 → All (λ (t : Term). t.inner < 65536) ts → g.count + length ts ≤ length g.uses → Holds n U g
      → Noted n (length ts) g (λ d. uses_in (user_at user) (dst d) ts ++ U d) (note_terms table user ts g)
  unfolding note_terms uses_in
  note_terms_lem user [] U g w b a room h = record { holds = h; grown = grown-none g }
  note_terms_lem user (t ∷ ts) U g w b (more s a) room h =
      let r = note_terms_lem user ts U g w b a (omega arith) h in
      let g' : Graph = note_terms table user ts g in
      let i = note_one user t (λ d. uses_in (user_at user) (dst d) ts ++ U d) g' (finds_kept g.first g'.first r.grown.first_long w) b s (omega (arith, r.grown.count_up, r.grown.uses_long, room)) r.holds in
      record {
        holds = holds_as n (λ d. cond (eqb t.wire (dst d)) (use_by (user_at user) t ∷ uses_in (user_at user) (dst d) ts ++ U d) (uses_in (user_at user) (dst d) ts ++ U d)) (λ d. uses_in (user_at user) (dst d) (t ∷ ts) ++ U d) (note table user t g')
            (λ d l. cond-append (eqb t.wire (dst d)) (use_by (user_at user) t) (uses_in (user_at user) (dst d) ts) (U d)) i.holds;
        grown = record { first_long = i.grown.first_long ∙ r.grown.first_long; uses_long = i.grown.uses_long ∙ r.grown.uses_long; count_up = omega (arith, i.grown.count_up, r.grown.count_up) };
      }
    where
      cond-append : (b : Bool) (x : Use) (xs ys : List Use) → cond b (x ∷ xs ++ ys) (xs ++ ys) ≡ cond b (x ∷ xs) xs ++ ys
      cond-append true x xs ys = refl
      cond-append false x xs ys = refl

  uses_append : (u : User) (w : ℕ) (a b : List Term) → uses_in u w (a ++ b) ≡ uses_in u w a ++ uses_in u w b
  unfolding uses_in
  uses_append u w [] b = refl
  uses_append u w (t ∷ a) b = go (eqb t.wire w) (uses_append u w a b)
    where
      go : (c : Bool) → uses_in u w (a ++ b) ≡ uses_in u w a ++ uses_in u w b → cond c (use_by u t ∷ uses_in u w (a ++ b)) (uses_in u w (a ++ b)) ≡ cond c (use_by u t ∷ uses_in u w a) (uses_in u w a) ++ uses_in u w b
      go true e = ap (λ (r : List Use). use_by u t ∷ r) e
      go false e = e

  append_assoc : (a b c : List Use) → (a ++ b) ++ c ≡ a ++ (b ++ c)
  append_assoc [] b c = refl
  append_assoc (x ∷ a) b c = ap (λ (r : List Use). x ∷ r) (append_assoc a b c)

  -- the operands of constraints
  note_rows : (k : ℕ) (os : List Operand) (U : ℕ → List Use) (g : Graph) → Finds n dst table g.first → All (λ (t : Term). t.inner < 65536) (joined os) → g.count + length (joined os) ≤ length g.uses → Holds n U g
      → Noted n (length (joined os)) g (λ d. uses_in constraint (dst d) (joined os) ++ U d) (note_from table false k os g)
  unfolding note_from uses_in
  note_rows k [] U g w a room h = record { holds = h; grown = grown-none g }
  note_rows k (o ∷ os) U g w a room h =
      let long : length (o ++ joined os) ≡ length o + length (joined os) = length-append o (joined os) in
      let r = note_rows (suc k) os U g w (all_right (λ (t : Term). t.inner < 65536) o (joined os) a) (omega (arith, long, room)) h in
      let g' : Graph = note_from table false (suc k) os g in
      let i = note_terms_lem 0 o (λ d. uses_in constraint (dst d) (joined os) ++ U d) g' (finds_kept g.first g'.first r.grown.first_long w) (omega arith) (all_left (λ (t : Term). t.inner < 65536) o (joined os) a) (omega (arith, long, room, r.grown.count_up, r.grown.uses_long)) r.holds in
      record {
        holds = holds_as n (λ d. uses_in constraint (dst d) o ++ (uses_in constraint (dst d) (joined os) ++ U d)) (λ d. uses_in constraint (dst d) (o ++ joined os) ++ U d) (note_terms table 0 o g')
            (λ d l. sym (append_assoc (uses_in constraint (dst d) o) (uses_in constraint (dst d) (joined os)) (U d)) ∙ ap (λ (x : List Use). x ++ U d) (sym (uses_append constraint (dst d) o (joined os)))) i.holds;
        grown = record { first_long = i.grown.first_long ∙ r.grown.first_long; uses_long = i.grown.uses_long ∙ r.grown.uses_long; count_up = omega (arith, i.grown.count_up, r.grown.count_up, long) };
      }

  abbrev rhss : List Definition → List Operand
  rhss ds = map (λ (d : Definition). d.rhs) ds

  -- the right sides of definitions
  note_definitions : (k : ℕ) (ds : List Definition) (U : ℕ → List Use) (g : Graph) → Finds n dst table g.first → k + length ds < 65536 → All (λ (t : Term). t.inner < 65536) (joined (rhss ds)) → g.count + length (joined (rhss ds)) ≤ length g.uses → Holds n U g
      → Noted n (length (joined (rhss ds))) g (λ d. uses_from k (dst d) ds ++ U d) (note_from table true k (rhss ds) g)
  unfolding note_from uses_from
  note_definitions k [] U g w b a room h = record { holds = h; grown = grown-none g }
  note_definitions k (x ∷ ds) U g w b a room h =
      let o : Operand = x.rhs in
      let long : length (o ++ joined (rhss ds)) ≡ length o + length (joined (rhss ds)) = length-append o (joined (rhss ds)) in
      let r = note_definitions (suc k) ds U g w (omega arith) (all_right (λ (t : Term). t.inner < 65536) o (joined (rhss ds)) a) (omega (arith, long, room)) h in
      let g' : Graph = note_from table true (suc k) (rhss ds) g in
      let i = note_terms_lem (suc k) o (λ d. uses_from (suc k) (dst d) ds ++ U d) g' (finds_kept g.first g'.first r.grown.first_long w) (omega arith) (all_left (λ (t : Term). t.inner < 65536) o (joined (rhss ds)) a) (omega (arith, long, room, r.grown.count_up, r.grown.uses_long)) r.holds in
      record {
        holds = holds_as n (λ d. uses_in (definition k) (dst d) o ++ (uses_from (suc k) (dst d) ds ++ U d)) (λ d. (uses_in (definition k) (dst d) o ++ uses_from (suc k) (dst d) ds) ++ U d) (note_terms table (suc k) o g')
            (λ d l. sym (append_assoc (uses_in (definition k) (dst d) o) (uses_from (suc k) (dst d) ds) (U d))) i.holds;
        grown = record { first_long = i.grown.first_long ∙ r.grown.first_long; uses_long = i.grown.uses_long ∙ r.grown.uses_long; count_up = omega (arith, i.grown.count_up, r.grown.count_up, long) };
      }

joined-append : (a b : List Operand) → joined (a ++ b) ≡ joined a ++ joined b
joined-append [] b = refl
joined-append (o ∷ a) b = ap (λ (r : List Term). o ++ r) (joined-append a b) ∙ sym (terms_assoc o (joined a) (joined b))
  where
    terms_assoc : (x y z : List Term) → (x ++ y) ++ z ≡ x ++ (y ++ z)
    terms_assoc [] y z = refl
    terms_assoc (t ∷ x) y z = ap (λ (r : List Term). t ∷ r) (terms_assoc x y z)

-- what the stores hold after all terms of a system are noted
pub record Listed (p : System) (us : List ℕ) (g : Graph) : Type 0 where
  pub holds : Holds (length p.linears) (λ d. uses_of p (dst_of p d)) g
  pub long : length g.uses ≡ length us

append-nil : (l : List Use) → l ++ [] ≡ l
append-nil [] = refl
append-nil (x ∷ l) = ap (λ (r : List Use). x ∷ r) (append-nil l)

listed-none : (f : ℕ) (us : List ℕ) (h : ℕ) → h ≡ 0 → listed f us h ≡ []
unfolding listed
listed-none zero us h e = refl
listed-none (suc f) us h e = rw e

-- the table of a system's definitions
abbrev pub table_of : ℕ → System → List ℕ
table_of m p = numbered 0 (destinations p.linears) (replicate m 0)

-- w is the wire of the definition d, which is the one that defines it
pub record Defined (p : System) (w d : ℕ) : Type 0 where
  pub under : d < length p.linears
  pub wire : dst_of p d ≡ w
  pub right : definition_of p.linears w ≡ some (rhs_of p d)

module _ (p : System) (m : ℕ) (once : Once p.linears) (small : All (λ (d : ℕ). d < m) (destinations p.linears)) where
  pub found_at : (w d : ℕ) → get_or (table_of m p) w 0 ≡ suc d → Defined p w d
  found_at w d e =
      let r = number_there 0 p.linears w d (sym (table_right m 0 (destinations p.linears) small w) ∙ e) in
      let z : d - 0 ≡ d = omega arith in
      record { under = omega (arith, r.under); wire = rw z at r.wire; right = rw z at r.right }

  pub found-by : (d : ℕ) → d < length p.linears → get_or (table_of m p) (dst_of p d) 0 ≡ suc d
  found-by d l =
      let z : suc (0 + d) ≡ suc d = omega arith in
      table_right m 0 (destinations p.linears) small (dst_of p d) ∙ number_once 0 p.linears once d l ∙ z

  pub found_none : (w : ℕ) → get_or (table_of m p) w 0 ≡ 0 → definition_of p.linears w ≡ none
  found_none w e = number-none 0 p.linears w (sym (table_right m 0 (destinations p.linears) small w) ∙ e)

  pub uses_right : (k : ℕ) (us : List ℕ) → length p.linears ≤ k → length p.linears < 65536 → All (λ (t : Term). t.inner < 65536) (terms_of p) → length (terms_of p) ≤ length us
      → Listed p us (note_all (table_of m p) p (graph (replicate k 0) us 0))
  unfolding note_all uses_of definition_operands
  uses_right k us few fits shifts room =
      let n : ℕ = length p.linears in
      let g : Graph = graph (replicate k 0) us 0 in
      let finds : Finds n (dst_of p) (table_of m p) (replicate k 0) = record {
        enough = omega (arith, few, length-replicate {A = ℕ} k 0);
        found = λ w d e. ((found_at w d e).under, (found_at w d e).wire);
        by_wire = found-by;
      } in
      let ls : List Term = joined (definition_operands p) in
      let rs : List Term = joined (row_operands p) in
      let all : terms_of p ≡ rs ++ ls = joined-append (row_operands p) (definition_operands p) in
      let long : length (terms_of p) ≡ length rs + length ls = ap length all ∙ length-append rs ls in
      let parts : All (λ (t : Term). t.inner < 65536) (rs ++ ls) = subst (All (λ (t : Term). t.inner < 65536)) all shifts in
      let start : Holds n (λ d. []) g = record {
        linked = record { inside = omega arith; falls = λ i h. absurd (omega arith) };
        heads = λ d. omega (arith, zero_at k d);
        lists = λ d l f h. listed-none f us (get_or (replicate k 0) d 0) (zero_at k d);
      } in
      let a = note_definitions n (dst_of p) (table_of m p) 0 p.linears (λ d. []) g finds (omega arith) (all_right (λ (t : Term). t.inner < 65536) rs ls parts) (omega (arith, long, room)) start in
      let g' : Graph = note_from (table_of m p) true 0 (definition_operands p) g in
      let b = note_rows n (dst_of p) (table_of m p) 0 (row_operands p) (λ d. uses_from 0 (dst_of p d) p.linears ++ []) g' (finds_kept n (dst_of p) (table_of m p) (replicate k 0) g'.first a.grown.first_long finds) (all_left (λ (t : Term). t.inner < 65536) rs ls parts)
      (omega (arith, long, room, a.grown.count_up, a.grown.uses_long)) a.holds in
      record {
        holds = holds_as n (λ d. uses_in constraint (dst_of p d) rs ++ (uses_from 0 (dst_of p d) p.linears ++ [])) (λ d. uses_of p (dst_of p d)) (note_from (table_of m p) false 0 (row_operands p) g')
            (λ d l. ap (λ (x : List Use). uses_in constraint (dst_of p d) rs ++ x) (append-nil (uses_from 0 (dst_of p d) p.linears))) b.holds;
        long = b.grown.uses_long ∙ a.grown.uses_long;
      }

-- any fuel that is enough gives the same list
pub listed_enough : (us : List ℕ) (c f g h : ℕ) → Linked us c → h ≤ c → h ≤ f → h ≤ g → listed f us h ≡ listed g us h
unfolding listed
listed_enough us c zero zero zero k l a b = refl
listed_enough us c zero (suc g) zero k l a b = refl
listed_enough us c (suc f) zero zero k l a b = refl
listed_enough us c (suc f) (suc g) zero k l a b = refl
listed_enough us c zero zero (suc i) k l a b = absurd (omega arith)
listed_enough us c zero (suc g) (suc i) k l a b = absurd (omega arith)
listed_enough us c (suc f) zero (suc i) k l a b = absurd (omega arith)
listed_enough us c (suc f) (suc g) (suc i) k l a b =
    let n : ℕ = next_at (get_or us i 0) in
    let h : n ≤ i = k.falls i (omega arith) in
    ap (λ (r : List Use). use_at (get_or us i 0) ∷ r) (listed_enough us c f g n k (omega (arith, h, l)) (omega (arith, h, a)) (omega (arith, h, b)))

-- a list is its first use and the list of the next
pub listed_step : (us : List ℕ) (c h : ℕ) → Linked us c → 0 < h → h ≤ c
    → listed h us h ≡ use_at (get_or us (h - 1) 0) ∷ listed (next_at (get_or us (h - 1) 0)) us (next_at (get_or us (h - 1) 0))
unfolding listed
listed_step us c zero k p l = absurd (omega arith)
listed_step us c (suc i) k p l =
    let e : suc i - 1 ≡ i = omega arith in
    let n : ℕ = next_at (get_or us i 0) in
    let h : n ≤ i = k.falls i (omega arith) in
    rw e (ap (λ (r : List Use). use_at (get_or us i 0) ∷ r) (listed_enough us c i n n k (omega (arith, h, l)) h (omega arith)))

pub listed_end : (us : List ℕ) (h : ℕ) → h ≡ 0 → listed h us h ≡ []
unfolding listed
listed_end us h e = rw e
