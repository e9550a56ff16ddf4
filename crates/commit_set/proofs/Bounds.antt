-- Every decision that the rules give is within the bits of its number, as long as no use stands at depth 65,535 or deeper.
-- Assumes nothing.
use mathlib.Core.Path.{◌≡◌}
use Prim.Native.Nat.{ℕ, zero, suc, ◌<◌}
use native.Mathlib.Omega.{arith}
use mathlib.Core.List.{List, [], ◌∷◌}
use lib.Bits.{or_lt}
use mathlib.Core.Bool.{true}
use lib.Dec.{eqb}
use lib.ListN.{length}
use Rattle.shift.specs.declared.ShiftVariant.{ShiftVariant}
use Rattle.shift.specs.declared.Shift.{Shift}
use Rattle.shift.specs.Shifts.{shift_at}
use Rattle.shift.proofs.Composes.{on_cond}
use Rattle.lower.specs.Lists.{All, done, more}
use Rattle.lower.specs.Model.{System}
use Rattle.lower.proofs.Laws.{all_imp, all_map}
use Rattle.legraph.specs.Uses.{User, Use, uses_of, dst_of, names}
use Rattle.commit_set.specs.declared.Run.{Run}
use Rattle.commit_set.specs.declared.ShiftSummary.{ShiftSummary}
use Rattle.commit_set.specs.declared.CommitSetCx.{CommitSetCx}
use Rattle.commit_set.specs.Runs.{bit_of, run_of, absorbs, absorbed, no_runs, meets, plus, join_run, join_runs, join_all, fresh, under}
use Rattle.commit_set.specs.Decision.{below, context_by, context_of, contexts_of, commits, decide}
use Rattle.commit_set.specs.declared.Decision.{Decision}
use Rattle.commit_set.specs.declared.Decision.TheVariants.{Commit, Inline}
use Rattle.commit_set.specs.Numbers.{RunPacks, RunsPack, ContextPacks, Packs}
use Rattle.commit_set.proofs.Sets.{at_each}
use Rattle.commit_set.proofs.Users.{all_users}
use Rattle.commit_set.proofs.Circles.{Shallow}

bit_byte : (v : ShiftVariant) → bit_of v < 256
bit_byte =
    at_each (λ v. bit_of v < 256) (omega arith, omega arith, omega arith, omega arith, omega arith, omega arith, omega arith, omega arith)

join_run_packs : (a b : Run) → RunPacks a → RunPacks b → RunPacks (join_run a b)
join_run_packs a b p q = record {
  set_byte = or_lt 8 a.variants b.variants p.set_byte q.set_byte;
  total_byte = omega (arith, p.total_byte, q.total_byte);
}

join_packs : (a b : ShiftSummary) → RunsPack a → RunsPack b → RunsPack (join_runs a b)
join_packs a b p q = record {
  count_few = omega (arith, p.count_few, q.count_few);
  first_packs = join_run_packs a.first b.first p.first_packs q.first_packs;
  second_packs = join_run_packs a.second b.second p.second_packs q.second_packs;
}

absorbed_packs : (r : Run) (s : Shift) → RunPacks r → RunPacks (absorbed r s)
absorbed_packs r s p = record { set_byte = p.set_byte; total_byte = omega arith }

module _ (s : Shift) (h : s.amount < 64) where
  run_of_packs : RunPacks (run_of s)
  run_of_packs = record { set_byte = bit_byte s.variant; total_byte = omega arith }

  meets_packs : (n : ℕ) (a b : Run) → RunPacks a → RunPacks b → RunsPack (meets n a b s)
  unfolding meets
  meets_packs zero a b p q = record { count_few = omega arith; first_packs = run_of_packs; second_packs = q }
  meets_packs (suc zero) a b p q =
      on_cond RunsPack (absorbs a s) (λ e. record { count_few = omega arith; first_packs = absorbed_packs a s p; second_packs = q })
      (λ e. record { count_few = omega arith; first_packs = p; second_packs = run_of_packs })
  meets_packs (suc (suc zero)) a b p q =
      on_cond RunsPack (absorbs b s) (λ e. record { count_few = omega arith; first_packs = p; second_packs = absorbed_packs b s q })
      (λ e. record { count_few = omega arith; first_packs = p; second_packs = q })
  meets_packs (suc (suc (suc n))) a b p q = record { count_few = omega arith; first_packs = p; second_packs = q }

  pub plus_packs : (r : ShiftSummary) → RunsPack r → RunsPack (plus r s)
  unfolding plus
  plus_packs r p = on_cond RunsPack (eqb s.amount 0) (λ e. p) (λ e. meets_packs r.len r.first r.second p.first_packs p.second_packs)

  pub fresh_packs : ContextPacks (fresh s)
  fresh_packs = record { runs_pack = plus_packs no_runs none; depth_low = omega arith }
    where
      none : RunsPack no_runs
      none = record {
        count_few = omega arith;
        first_packs = record { set_byte = omega arith; total_byte = omega arith };
        second_packs = record { set_byte = omega arith; total_byte = omega arith };
      }

  pub under_packs : (c : CommitSetCx) → ContextPacks c → c.depth < 65535 → ContextPacks (under c s)
  under_packs c p l = record { runs_pack = plus_packs c.shifts p.runs_pack; depth_low = omega arith }

pub join_all_packs : (cs : List CommitSetCx) → All ContextPacks cs → ContextPacks (join_all cs)
unfolding join_all
join_all_packs [] done = record {
  runs_pack = record {
    count_few = omega arith;
    first_packs = record { set_byte = omega arith; total_byte = omega arith };
    second_packs = record { set_byte = omega arith; total_byte = omega arith };
  };
  depth_low = omega arith;
}
join_all_packs (c ∷ cs) (more p ps) =
    let q = join_all_packs cs ps in
    record { runs_pack = join_packs c.shifts (join_all cs).shifts p.runs_pack q.runs_pack; depth_low = omega (arith, p.depth_low, q.depth_low) }

pub decide_packs : (slots : ℕ) (cs : List CommitSetCx) (ss : List Shift) → All ContextPacks cs → Packs (decide slots cs ss)
unfolding decide
decide_packs slots cs ss p = on_cond Packs (commits slots cs ss) (λ e. tt) (λ e. join_all_packs cs p)

-- ---- the contexts of a definition's uses

below_packs : (x : Decision) (s : Shift) → s.amount < 64 → Packs x → Shallow 65535 x → ContextPacks (below x s)
below_packs Commit s h p l = fresh_packs s h
below_packs (Inline c) s h p l = under_packs s h c p l

pub contexts_pack : (p : System) (st : ℕ → Decision) (d : ℕ) → ((e : ℕ) → e < length p.linears → names p e d ≡ true → Packs (st e) × Shallow 65535 (st e))
    → All ContextPacks (contexts_of p st d)
contexts_pack p st d h =
    all_map ContextPacks (context_of st) (uses_of p (dst_of p d))
    (all_imp (λ (u : Use) k. k (shift_at u.shift) (omega arith)) (uses_of p (dst_of p d))
    (all_users (λ (u : User). (s : Shift) → s.amount < 64 → ContextPacks (context_by st u s)) (dst_of p d) p (λ s l. fresh_packs s l)
    (λ e l m s k. let q = h e l m in below_packs (st e) s k q.0 q.1)))
