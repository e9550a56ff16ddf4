-- The shifts on every path of the patching are valid. Assumes nothing.
use mathlib.Core.Path.{◌≡◌, subst}
use Prim.Native.Nat.{ℕ}
use Rattle.shift.specs.declared.Shift.{Shift}
use Rattle.shift.proofs.Numbers.{valid_at}
use Rattle.shift.specs.Shifts.{Valid, shift_at}
use Rattle.operand.specs.declared.PushInner.TheVariants.{Seq}
use Rattle.operand.specs.Push.{push_valid, PushRight}
use Rattle.operand.proofs.Pushes.{push-right}
use Rattle.lower.specs.Model.{System}
use Rattle.lower.specs.Accepted.{Shifted}
use Rattle.commit_set.specs.declared.Decision.{Decision}
use Rattle.commit_set.specs.Paths.{Path, from_constraint, from_committed, through}
use Rattle.commit_set.proofs.Members.{root_shifted, term_shifted}

pub fold_valid : (i o s i' o' : Shift) → Valid i → Valid o → Valid s → push_valid i o s 2 ≡ Seq i' o' → Valid i' × Valid o'
fold_valid i o s i' o' hi ho hs e = let r = subst (PushRight i o s) e (push-right i o s hi ho hs 2) in (r.0, r.1)

module _ (p : System) (st : ℕ → Decision) (shifted : Shifted p) where
  pub path_valid : {w : ℕ} {i o : Shift} → Path p st w i o → Valid i × Valid o
  path_valid (from_constraint t m) = let v = root_shifted p shifted t m in (valid_at t.inner v.0, valid_at t.outer v.1)
  path_valid (from_committed t e l k m) = let v = term_shifted p shifted t e l m in (valid_at t.inner v.0, valid_at t.outer v.1)
  path_valid (through {i = i} {o = o} {i' = i'} {o' = o'} t d r l q k m e) =
      let u = path_valid r in
      fold_valid i o (shift_at t.inner) i' o' u.0 u.1 (valid_at t.inner (term_shifted p shifted t d l m).0) e
