-- What the search finds, one sum after the other, and that it decides. Assumes nothing.
use mathlib.Core.Path.{◌≡◌, refl, sym, ap, ◌∙◌}
use Prim.Native.Nat.{ℕ, ◌+◌}
use mathlib.Core.Bool.{Bool, true, false, ◌||◌}
use mathlib.Core.List.{List, [], ◌∷◌}
use native.Mathlib.Omega.{arith}
use lib.Dec.{ltb}
use lib.ListN.{length, drop}
use Rattle.shift.specs.declared.Shift.{Shift}
use Rattle.commit_set.specs.declared.CommitSetCx.{CommitSetCx}
use Rattle.commit_set.specs.declared.Decision.TheVariants.{Commit}
use Rattle.commit_set.specs.Runs.{plus, join, join_all}
use Rattle.commit_set.specs.Decision.{some_over, commits, decide}
use Rattle.commit_set.specs.Grounds.{concluded}
use Rattle.commit_set.proofs.Seeking.{terms_over, none_over, all_many, sought_commits}
use Rattle.commit_set.proofs.Joining.{join_end}

-- where a sum is over the slots
at_slots : (over many : Bool) (c : CommitSetCx) (t u : ℕ) → over ≡ true → Commit ≡ concluded over many c t u
unfolding concluded
at_slots over many c t u h = rw h

-- the decision
concluded_decides : (slots : ℕ) (cs : List CommitSetCx) (ss : List Shift) (over many : Bool)
    → over ≡ some_over slots cs ss → (over ≡ false → many ≡ some_over 1 cs ss) → concluded over many (join_all cs) (length ss) (length cs) ≡ decide slots cs ss
unfolding concluded decide
concluded_decides slots cs ss over many e h = rw (sought_commits slots cs ss over many e h)

-- one more sum: m is whether one before had more than one run
pub one_more : (c : CommitSetCx) (ss : List Shift) (j : ℕ) (s : Shift) → drop j ss ≡ s ∷ drop (j + 1) ss → {r : ℕ} → r ≡ (plus c.shifts s).len
    → (m m' x y : Bool) → m' ≡ (m || ltb 1 r) → (m || (terms_over 1 c (drop j ss) || y)) ≡ x → (m' || (terms_over 1 c (drop (j + 1) ss) || y)) ≡ x
one_more c ss j s e {r = r} p m m' x y q k =
    ap (λ (b : Bool). b || (terms_over 1 c (drop (j + 1) ss) || y)) q
    ∙ moved m (ltb 1 r) (terms_over 1 c (drop (j + 1) ss)) y
    ∙ ap (λ (t : ℕ). m || ((ltb 1 t || terms_over 1 c (drop (j + 1) ss)) || y)) p
    ∙ ap (λ (l : List Shift). m || (terms_over 1 c l || y)) (sym e) ∙ k
  where
    moved : (a b d f : Bool) → ((a || b) || (d || f)) ≡ (a || ((b || d) || f))
    moved true b d f = refl
    moved false true d f = refl
    moved false false d f = refl

-- all uses are done
pub all_done : (slots : ℕ) (all left : List CommitSetCx) (ss : List Shift) (over many : Bool) (joined : CommitSetCx) (terms n : ℕ)
    → left ≡ [] → terms ≡ length ss → over ≡ false → some_over slots all ss ≡ some_over slots left ss → (many || some_over 1 left ss) ≡ some_over 1 all ss
    → join joined (join_all left) ≡ join_all all → n + length left ≡ length all
    → concluded over many joined terms n ≡ decide slots all ss
all_done slots all left ss over many joined terms n e t o h k j c =
    let a : joined ≡ join_all all = sym (join_end joined e) ∙ j in
    let b : n ≡ length all = omega (arith, c, ap length e) in
    rw (a, b, t) (concluded_decides slots all ss over many (none_over e ss slots over (some_over slots all ss) o h) (λ z. all_many e ss many (some_over 1 all ss) k))

-- a sum is over the slots
pub left_at : (slots : ℕ) (all : List CommitSetCx) (ss : List Shift) (over many : Bool) (joined : CommitSetCx) (terms n : ℕ) → over ≡ true → some_over slots all ss ≡ true
    → concluded over many joined terms n ≡ decide slots all ss
unfolding decide commits
left_at slots all ss over many joined terms n o h = sym (at_slots over many joined terms n o) ∙ rw h
