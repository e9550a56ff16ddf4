-- Looking up definitions, and the committed ones by rising wire number. Assumes nothing.
use mathlib.Core.Path.{◌≡◌, refl, sym, ap, ◌∙◌}
use mathlib.Core.Bool.{Bool, true, false, cond}
use mathlib.Core.List.{List, [], ◌∷◌}
use mathlib.Core.Option.{Option, none, some}
use Prim.Native.Nat.{ℕ, zero, suc, ◌-◌, ◌<◌}
use native.Mathlib.Omega.{arith}
use lib.Dec.{eqb}
use lib.ListN.{length}
use borrow.Author.Tests.{eqb-true, eq-eqb}
use Rattle.operand.specs.Numbers.{Term, Operand}
use Rattle.lower.specs.Lists.{All, done, more}
use Rattle.lower.specs.Model.{Row, Definition, System, destinations, definition_of}
use Rattle.lower.specs.Accepted.{Once}
use Rattle.lower.proofs.Somes.{none_all}
use Rattle.lower.proofs.Accepts.{defines-none}
use Rattle.legraph.specs.Uses.{dst_of, rhs_of}
use Rattle.legraph.specs.Tables.{number_in}
use Rattle.legraph.proofs.Numbering.{number_there, number-none}
use Rattle.commit_set.specs.declared.Decision.{Decision}
use Rattle.commit_set.specs.Paths.{committed}
use Rattle.patch.specs.Lists.{up_to}
use Rattle.patch.specs.Patch.{committed_at, commit_set, inlined, commit_at, commits, rebuilt}
use Rattle.patch.proofs.Parts.{lost, Which, is_true, is_false, which, Found, absent, present, found, all_each, all_gather, all_ungather, all_up_to, up_to_at}

-- each definition is the one that its wire looks up
pub looks_up : (ds : List Definition) → Once ds → All (λ (d : Definition). definition_of ds d.dst ≡ some d.rhs) ds
looks_up [] o = done
looks_up (d ∷ ds) o = more {x = d} (rw (eq-eqb d.dst d.dst refl)) (all_each (λ e h. step e h (which (eqb e.dst d.dst))) (looks_up ds o.1))
  where
    step : (e : Definition) → definition_of ds e.dst ≡ some e.rhs → Which (eqb e.dst d.dst) → definition_of (d ∷ ds) e.dst ≡ some e.rhs
    step e h (is_true q) =
        let r : e.dst ≡ d.dst = eqb-true e.dst d.dst q in
        absurd (lost h (ap (definition_of ds) r ∙ (defines-none ds d.dst).0 o.0))
    step e h (is_false q) = rw q h

-- what holds of each definition holds of the one looked up
pub of_looked_up : {P : Definition → Type 0} {ds : List Definition} → All P ds → (w : ℕ) (rhs : Operand) → definition_of ds w ≡ some rhs → P (record { dst = w; rhs = rhs })
of_looked_up done w rhs e = absurd (lost e refl)
of_looked_up {P} (more {x = d} {xs = ds} h t) w rhs e = step (λ k. of_looked_up t w rhs k) (eqb w d.dst) refl e
  where
    step : (definition_of ds w ≡ some rhs → P (record { dst = w; rhs = rhs })) → (b : Bool) → eqb w d.dst ≡ b → cond b (some d.rhs) (definition_of ds w) ≡ some rhs → P (record { dst = w; rhs = rhs })
    step onward true q k = let r : w ≡ d.dst = eqb-true w d.dst q in let t : d.rhs ≡ rhs = cc in rw (r, ← t) h
    step onward false q k = onward k

-- where the definition of a wire stands, and what is decided of the wire
pub record Stands (p : System) (st : ℕ → Decision) (w : ℕ) (rhs : Operand) (d : ℕ) : Type 0 where
  pub under : d < length p.linears
  pub wire : w ≡ dst_of p d
  pub right : rhs_of p d ≡ rhs
  pub decided : commit_set p st w ≡ committed (st d)

pub stands : (p : System) (st : ℕ → Decision) (w : ℕ) (rhs : Operand) → definition_of p.linears w ≡ some rhs → (d : ℕ) × Stands p st w rhs d
unfolding commit_set
stands p st w rhs e = go (number_in 0 (destinations p.linears) w) refl
  where
    go : (n : ℕ) → number_in 0 (destinations p.linears) w ≡ n → (d : ℕ) × Stands p st w rhs d
    go zero k = absurd (lost e (number-none 0 p.linears w k))
    go (suc d) k =
        let h = number_there 0 p.linears w d k in
        let z : d - 0 ≡ d = omega arith in
        let r : some (rhs_of p d) ≡ some rhs = ap (λ (j : ℕ). some (rhs_of p j)) (sym z) ∙ sym h.right ∙ e in (
          d,
          record { under = omega (arith, h.under); wire = sym h.wire ∙ ap (dst_of p) z; right = cc; decided = ap (committed_at st) k },
        )

module _ (p : System) (c : ℕ → Bool) where
  -- a committed wire is not inlined; nor is an undefined one
  pub committed_clear : (w : ℕ) → c w ≡ true → inlined p c w ≡ none
  unfolding inlined
  committed_clear w e = rw e

  pub undefined_clear : (w : ℕ) → definition_of p.linears w ≡ none → inlined p c w ≡ none
  unfolding inlined
  undefined_clear w e = rw e (step (c w))
    where
      step : (b : Bool) → ◌≡◌ {A = Option Operand} (cond b none none) none
      step true = refl
      step false = refl

  pub inlined_uncommitted : (w : ℕ) (rhs : Operand) → inlined p c w ≡ some rhs → c w ≡ false
  inlined_uncommitted w rhs e = step (which (c w))
    where
      step : Which (c w) → c w ≡ false
      step (is_true k) = absurd (lost e (committed_clear w k))
      step (is_false k) = k

  -- a constraint that is not rebuilt names no defined wire
  pub not-rebuilt : (r : Row) → rebuilt p.linears r ≡ false → All (All (λ (t : Term). inlined p c t.wire ≡ none)) r
  unfolding rebuilt
  not-rebuilt r h = all_each (λ a k. all_each (λ t e. undefined_clear t.wire ((defines-none p.linears t.wire).0 e)) (none_all _ a k)) (none_all _ r h)

  pub commits_of : {Q : Definition → Type 0}
      → ((w : ℕ) (rhs : Operand) → c w ≡ true → definition_of p.linears w ≡ some rhs → Q (record { dst = w; rhs = rhs })) → All Q (commits p c)
  unfolding commits
  commits_of {Q} f = all_gather (commit_at c p.linears) (all_up_to p.wires (λ w h. step w (which (c w)) (found (definition_of p.linears w))))
    where
      step : (w : ℕ) → Which (c w) → Found (definition_of p.linears w) → All Q (commit_at c p.linears w)
      step w (is_true k) (absent e) = rw (k, e) done
      step w (is_true k) (present rhs e) = rw (k, e) (more (f w rhs k e) done)
      step w (is_false k) o = rw k done

  pub commits_at : {Q : Definition → Type 0} → All Q (commits p c)
      → (w : ℕ) (rhs : Operand) → w < p.wires → c w ≡ true → definition_of p.linears w ≡ some rhs → Q (record { dst = w; rhs = rhs })
  unfolding commits
  commits_at {Q} h w rhs b k e = only (rw (k, e) at (up_to_at p.wires (all_ungather (commit_at c p.linears) (up_to p.wires) h) w b))
    where
      only : All Q (record { dst = w; rhs = rhs } ∷ []) → Q (record { dst = w; rhs = rhs })
      only (more a t) = a
