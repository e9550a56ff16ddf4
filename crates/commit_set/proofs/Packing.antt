-- A decision whose parts are within their bits is read back from its number. Assumes nothing.
use mathlib.Core.Path.{◌≡◌, refl}
use Prim.Native.Nat.{ℕ, ◌+◌, ◌*◌, ◌/◌, ◌%◌, ◌<◌}
use native.Mathlib.Omega.{arith}
use borrow.Author.Tests.{ne_eqb}
use Rattle.commit_set.specs.declared.Run.{Run}
use Rattle.commit_set.specs.declared.CommitSetCx.{CommitSetCx}
use Rattle.commit_set.specs.declared.Decision.{Decision}
use Rattle.commit_set.specs.declared.Decision.TheVariants.{Commit, Inline}
use Rattle.commit_set.specs.Numbers.{run_number, run_at, context_number, context_at, decision_number, decision_at, RunPacks, ContextPacks, Packs}

-- what stands above the sixteen bits of a run makes no difference
run_back : (r : Run) (m : ℕ) → RunPacks r → run_at (run_number r + 65536 * m) ≡ r
run_back r m p =
    let v : (run_number r + 65536 * m) % 256 ≡ r.variants = omega (arith, p.set_byte) in
    let d : (run_number r + 65536 * m) / 256 ≡ r.total + 256 * m = omega (arith, p.set_byte) in
    let t : (r.total + 256 * m) % 256 ≡ r.total = omega (arith, p.total_byte) in
    rw (v, d, t)

run_small : (r : Run) → RunPacks r → run_number r < 65536
run_small r p = omega (arith, p.set_byte, p.total_byte)

context-back : (c : CommitSetCx) → ContextPacks c → context_at (context_number c) ≡ c
context-back c packs =
    let p = packs.runs_pack in
    let n = context_number c in
    let a = run_number c.shifts.first in
    let b = run_number c.shifts.second in
    let ha : a < 65536 = run_small c.shifts.first p.first_packs in
    let hb : b < 65536 = run_small c.shifts.second p.second_packs in
    let l : n % 4 ≡ c.shifts.len = omega (arith, p.count_few) in
    let f : n / 4 ≡ a + 65536 * (b + 65536 * c.depth) = omega (arith, p.count_few) in
    let s : n / 262144 ≡ b + 65536 * c.depth = omega (arith, p.count_few) in
    let d : n / 17179869184 ≡ c.depth = omega (arith, p.count_few) in
    rw (l, f, s, d, run_back c.shifts.first (b + 65536 * c.depth) p.first_packs, run_back c.shifts.second c.depth p.second_packs)

pub decision_back : (x : Decision) → Packs x → decision_at (decision_number x) ≡ x
unfolding decision_number decision_at
decision_back Commit p = refl
decision_back (Inline c) p =
    let n = context_number c in
    let h : (1 + 2 * n) / 2 ≡ n = omega arith in
    rw (ne_eqb (1 + 2 * n) 0 (λ e. omega arith), h, context-back c p)
