-- A context on each use, or the joined one on each definition: the two decisions are the same. Assumes nothing.
use mathlib.Core.Path.{◌≡◌, refl, sym, ap, ap₂, ◌∙◌}
use Prim.Native.Nat.{ℕ, suc, ◌+◌, ◌<◌}
use native.Mathlib.Nat.{add-zero}
use native.Mathlib.Omega.{arith}
use mathlib.Core.Bool.{Bool, true, false, cond}
use mathlib.Core.List.{List, [], ◌∷◌, ◌++◌, map}
use lib.Dec.{eqb}
use lib.ListN.{length, get_or}
use Rattle.shift.specs.declared.Shift.{Shift}
use Rattle.shift.specs.Shifts.{shift_at}
use Rattle.operand.specs.Numbers.{Term}
use Rattle.lower.specs.Lists.{joined}
use Rattle.lower.specs.Model.{Definition, System, row_operands}
use Rattle.lower.proofs.Laws.{map-join}
use Rattle.legraph.specs.Uses.{constraint, definition, Use, use_by, uses_in, uses_from, uses_of, no_definition, rhs_of, dst_of}
use Rattle.commit_set.specs.declared.CommitSetCx.{CommitSetCx}
use Rattle.commit_set.specs.declared.Decision.{Decision}
use Rattle.commit_set.specs.declared.Decision.TheVariants.{Commit, Inline}
use Rattle.commit_set.specs.Runs.{join_all, fresh, under}
use Rattle.commit_set.specs.Decision.{below, context_of, contexts_of, shifts_of, commits, decide, Solves}
use Rattle.commit_set.specs.Orders.{Ranked}
use Rattle.commit_set.specs.Paths.{committed}
use Rattle.commit_set.specs.PerUse.{no_term, term_at, at_terms, at_definitions, at_constraints, on_uses, Assigned}
use Rattle.commit_set.proofs.Unique.{unique}

module _ (st : ℕ → Decision) (w : ℕ) where
  terms_same : (g : ℕ → CommitSetCx) (e j : ℕ) (ts : List Term) → ((k : ℕ) → k < length ts → g (j + k) ≡ below (st e) (shift_at (get_or ts k no_term).inner))
      → at_terms g w j ts ≡ map (context_of st) (uses_in (definition e) w ts)
  unfolding at_terms uses_in
  terms_same g e j [] h = refl
  terms_same g e j (t ∷ ts) h = go (eqb t.wire w) (ap g (sym (add-zero j)) ∙ h 0 (omega arith)) (terms_same g e (suc j) ts (λ k l. ap g (omega arith) ∙ h (suc k) (omega arith)))
    where
      go : (b : Bool) → g j ≡ below (st e) (shift_at t.inner) → at_terms g w (suc j) ts ≡ map (context_of st) (uses_in (definition e) w ts)
          → cond b (g j ∷ at_terms g w (suc j) ts) (at_terms g w (suc j) ts) ≡ map (context_of st) (cond b (use_by (definition e) t ∷ uses_in (definition e) w ts) (uses_in (definition e) w ts))
      go true p q = ap₂ ◌∷◌ p q
      go false p q = q

  roots_same : (ts : List Term) → map (λ (u : Use). fresh (shift_at u.shift)) (uses_in constraint w ts) ≡ map (context_of st) (uses_in constraint w ts)
  unfolding uses_in
  roots_same [] = refl
  roots_same (t ∷ ts) = go (eqb t.wire w) (roots_same ts)
    where
      go : (b : Bool) → map (λ (u : Use). fresh (shift_at u.shift)) (uses_in constraint w ts) ≡ map (context_of st) (uses_in constraint w ts)
          → map (λ (u : Use). fresh (shift_at u.shift)) (cond b (use_by constraint t ∷ uses_in constraint w ts) (uses_in constraint w ts))
          ≡ map (context_of st) (cond b (use_by constraint t ∷ uses_in constraint w ts) (uses_in constraint w ts))
      go true q = ap (λ (cs : List CommitSetCx). fresh (shift_at t.inner) ∷ cs) q
      go false q = q

  definitions_same : (g : ℕ → ℕ → CommitSetCx) (k : ℕ) (ds : List Definition)
      → ((i : ℕ) → i < length ds → (j : ℕ) → j < length (get_or ds i no_definition).rhs → g (k + i) j ≡ below (st (k + i)) (shift_at (get_or (get_or ds i no_definition).rhs j no_term).inner))
      → at_definitions g w k ds ≡ map (context_of st) (uses_from k w ds)
  unfolding at_definitions uses_from
  definitions_same g k [] h = refl
  definitions_same g k (d ∷ ds) h =
      ap₂ ◌++◌ (terms_same (g k) k 0 d.rhs (λ j l. ap (g k) (omega arith) ∙ first j l))
      (definitions_same g (suc k) ds (λ i l j m. rest i l j m))
      ∙ sym (map-join (context_of st) (uses_in (definition k) w d.rhs) (uses_from (suc k) w ds))
    where
      first : (j : ℕ) → j < length d.rhs → g k j ≡ below (st k) (shift_at (get_or d.rhs j no_term).inner)
      first j l = let e : k + 0 ≡ k = add-zero k in rw e at (h 0 (omega arith) j l)

      rest : (i : ℕ) → i < length ds → (j : ℕ) → j < length (get_or ds i no_definition).rhs → g (suc k + i) j ≡ below (st (suc k + i)) (shift_at (get_or (get_or ds i no_definition).rhs j no_term).inner)
      rest i l j m = let e : k + suc i ≡ suc k + i = omega arith in rw e at (h (suc i) (omega arith) j m)

on_same : (p : System) (st : ℕ → Decision) (g : ℕ → ℕ → CommitSetCx) → ((e : ℕ) → e < length p.linears → (j : ℕ) → j < length (rhs_of p e) → g e j ≡ below (st e) (shift_at (term_at p e j).inner))
    → (d : ℕ) → on_uses p g d ≡ contexts_of p st d
unfolding on_uses uses_of
on_same p st g h d =
    let w = dst_of p d in
    ap (λ (cs : List CommitSetCx). at_constraints p w ++ cs) (definitions_same st w g 0 p.linears (λ i l j m. let e : 0 + i ≡ i = omega arith in rw e (h i l j m)))
    ∙ ap (λ (cs : List CommitSetCx). cs ++ map (context_of st) (uses_from 0 w p.linears)) (roots_same st w (joined (row_operands p)))
    ∙ sym (map-join (context_of st) (uses_in constraint w (joined (row_operands p))) (uses_from 0 w p.linears))

module _ (slots : ℕ) (p : System) (commit : ℕ → Bool) (contexts : ℕ → ℕ → CommitSetCx) (a : Assigned slots p commit contexts) where
  abbrev pub state_of : ℕ → Decision
  state_of d = cond (commit d) Commit (Inline (join_all (on_uses p contexts d)))

  pub each_use : (e : ℕ) → e < length p.linears → (j : ℕ) → j < length (rhs_of p e) → contexts e j ≡ below (state_of e) (shift_at (term_at p e j).inner)
  each_use e l j m = go (commit e) refl
    where
      go : (b : Bool) → commit e ≡ b → contexts e j ≡ below (state_of e) (shift_at (term_at p e j).inner)
      go true h = rw h (a.afresh e j l m h)
      go false h = rw h (a.goes_on e j l m h)

  pub assigned_solves : Solves slots p state_of
  unfolding decide
  assigned_solves = λ d l.
      ap (λ (b : Bool). cond b Commit (Inline (join_all (on_uses p contexts d)))) (a.decides d l)
      ∙ ap (λ (cs : List CommitSetCx). decide slots cs (shifts_of (rhs_of p d))) (on_same p state_of contexts each_use d)

-- the state says which definitions commit, and the context of each term
is_commit : (b : Bool) (cs : List CommitSetCx) → committed (cond b Commit (Inline (join_all cs))) ≡ b
is_commit true cs = refl
is_commit false cs = refl

committed-decide : (slots : ℕ) (cs : List CommitSetCx) (ss : List Shift) → committed (decide slots cs ss) ≡ commits slots cs ss
unfolding decide
committed-decide slots cs ss = is_commit (commits slots cs ss) cs

below-decide : (slots : ℕ) (cs : List CommitSetCx) (ss : List Shift) (s : Shift) (b : Bool) → committed (decide slots cs ss) ≡ b → below (decide slots cs ss) s ≡ cond b (fresh s) (under (join_all cs) s)
unfolding decide
below-decide slots cs ss s b h = go (commits slots cs ss) b h
  where
    go : (a b : Bool) → committed (cond a Commit (Inline (join_all cs))) ≡ b → below (cond a Commit (Inline (join_all cs))) s ≡ cond b (fresh s) (under (join_all cs) s)
    go true b h = rw (sym h)
    go false b h = rw (sym h)

pub solves_assigned : (slots : ℕ) (p : System) (st : ℕ → Decision) → Solves slots p st → Assigned slots p (λ d. committed (st d)) (λ e j. below (st e) (shift_at (term_at p e j).inner))
solves_assigned slots p st s =
    let g : ℕ → ℕ → CommitSetCx = λ e j. below (st e) (shift_at (term_at p e j).inner) in
    let same : (d : ℕ) → on_uses p g d ≡ contexts_of p st d = on_same p st g (λ e l j m. refl) in
    let here : (d j : ℕ) (b : Bool) → d < length p.linears → committed (st d) ≡ b → g d j ≡ cond b (fresh (shift_at (term_at p d j).inner)) (under (join_all (contexts_of p st d)) (shift_at (term_at p d j).inner))
    = λ d j b l h. ap (λ (x : Decision). below x (shift_at (term_at p d j).inner)) (s d l)
    ∙ below-decide slots (contexts_of p st d) (shifts_of (rhs_of p d)) (shift_at (term_at p d j).inner) b (sym (ap committed (s d l)) ∙ h) in
    record {
      decides = λ d l. ap committed (s d l) ∙ committed-decide slots (contexts_of p st d) (shifts_of (rhs_of p d))
          ∙ ap (λ (cs : List CommitSetCx). commits slots cs (shifts_of (rhs_of p d))) (sym (same d));
      afresh = λ d j l m h. here d j true l h;
      goes_on = λ d j l m h. here d j false l h ∙ ap (λ (cs : List CommitSetCx). under (join_all cs) (shift_at (term_at p d j).inner)) (sym (same d));
    }

-- THE THEOREM of one solution, word by word: the same definitions commit, and each use has the same context.
pub assigned_unique : (slots : ℕ) (p : System) (rank : ℕ → ℕ) → Ranked p rank → (c c' : ℕ → Bool) (x x' : ℕ → ℕ → CommitSetCx) → Assigned slots p c x → Assigned slots p c' x'
    → (d : ℕ) → d < length p.linears → (c d ≡ c' d) × ((j : ℕ) → j < length (rhs_of p d) → x d j ≡ x' d j)
assigned_unique slots p rank r c c' x x' a a' d l =
    let same = unique slots p rank r (state_of slots p c x a) (state_of slots p c' x' a') (assigned_solves slots p c x a) (assigned_solves slots p c' x' a') d l in (
      sym (is_commit (c d) (on_uses p x d)) ∙ ap committed same ∙ is_commit (c' d) (on_uses p x' d),
      λ j m. each_use slots p c x a d l j m ∙ ap (λ (y : Decision). below y (shift_at (term_at p d j).inner)) same ∙ sym (each_use slots p c' x' a' d l j m),
    )
