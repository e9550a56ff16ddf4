-- The set of committed wires is one for every solution, and flags of undefined wires change nothing. Assumes nothing.
use mathlib.Core.Path.{◌≡◌, refl, sym, ap, ◌∙◌, fun_ext}
use Prim.Native.Nat.{ℕ, zero, suc, ◌<◌}
use native.Mathlib.Omega.{arith}
use mathlib.Core.Bool.{Bool, true, false, cond}
use mathlib.Core.Option.{Option, none}
use lib.ListN.{length}
use Rattle.operand.specs.Numbers.{Operand}
use Rattle.lower.specs.Model.{System, destinations, defines, definition_of}
use Rattle.lower.specs.Accepted.{Accepted}
use Rattle.lower.proofs.Accepts.{defines-none}
use Rattle.legraph.specs.Tables.{number_in}
use Rattle.legraph.proofs.Numbering.{number_there}
use Rattle.commit_set.specs.declared.Decision.{Decision}
use Rattle.commit_set.specs.Decision.{Solves}
use Rattle.commit_set.specs.Paths.{committed}
use Rattle.commit_set.proofs.Ordering.{solution_only}
use Rattle.patch.specs.Patch.{committed_at, commit_set, inlined, patched, counts_of}
use Rattle.patch.proofs.Parts.{Which, is_true, is_false, which}

module _ (p : System) (st sv : ℕ → Decision) (same : (d : ℕ) → d < length p.linears → st d ≡ sv d) where
  -- only the decisions of definitions count
  pub set_same : commit_set p st ≡ commit_set p sv
  unfolding commit_set
  set_same = fun_ext (λ w. go w (number_in 0 (destinations p.linears) w) refl)
    where
      go : (w n : ℕ) → number_in 0 (destinations p.linears) w ≡ n → committed_at st n ≡ committed_at sv n
      go w zero e = refl
      go w (suc d) e = ap committed (same d (omega (arith, (number_there 0 p.linears w d e).under)))

-- THE THEOREM. An accepted system is patched in one way.
module _ (slots : ℕ) (p : System) (acc : Accepted p) (st sv : ℕ → Decision) (a : Solves slots p st) (b : Solves slots p sv) where
  pub set_only : commit_set p st ≡ commit_set p sv
  set_only = set_same p st sv (λ d l. sym (solution_only slots p acc st a d l) ∙ solution_only slots p acc sv b d l)

  pub patched_only : patched p (commit_set p st) ≡ patched p (commit_set p sv)
  patched_only = ap (patched p) set_only

  pub counts_only : counts_of p (commit_set p st) ≡ counts_of p (commit_set p sv)
  counts_only = ap (counts_of p) set_only

-- what a definition's wire and an undefined wire have in the set
module _ (p : System) (st : ℕ → Decision) where
  pub set_defined : (w d : ℕ) → number_in 0 (destinations p.linears) w ≡ suc d → commit_set p st w ≡ committed (st d)
  unfolding commit_set
  set_defined w d e = ap (committed_at st) e

  pub set_undefined : (w : ℕ) → number_in 0 (destinations p.linears) w ≡ 0 → commit_set p st w ≡ false
  unfolding commit_set
  set_undefined w e = ap (committed_at st) e

-- "on an undefined wire they change nothing"
module _ (p : System) (c e : ℕ → Bool) (agree : (w : ℕ) → defines p.linears w ≡ true → c w ≡ e w) where
  pub inlined_same : inlined p c ≡ inlined p e
  unfolding inlined
  inlined_same = fun_ext (λ w. go w (which (defines p.linears w)))
    where
      both : (b : Bool) → ◌≡◌ {A = Option Operand} (cond b none none) none
      both true = refl
      both false = refl

      go : (w : ℕ) → Which (defines p.linears w) → cond (c w) none (definition_of p.linears w) ≡ cond (e w) none (definition_of p.linears w)
      go w (is_true k) = ap (λ (b : Bool). cond b none (definition_of p.linears w)) (agree w k)
      go w (is_false k) = rw ((defines-none p.linears w).0 k) (both (c w) ∙ sym (both (e w)))
