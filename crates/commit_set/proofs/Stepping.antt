-- Deciding one definition after the other, one step at a time. Assumes nothing.
use mathlib.Core.Path.{◌≡◌, sym, ap, ◌∙◌, subst}
use Prim.Native.Nat.{ℕ, ◌+◌, ◌≤◌, ◌<◌}
use mathlib.Core.List.{List, map}
use lib.ListN.{length, get_or, set, drop, drop_of_length-le, length-map}
use Rattle.operand.specs.Numbers.{Operand, term_of, operand_at, terms_at}
use Rattle.lower.proofs.Firsts.{drop_step}
use Rattle.legraph.specs.Tables.{listed}
use Rattle.legraph.specs.Walked.{rhs_in}
use Rattle.legraph.proofs.Walks.{rhs_terms}
use Rattle.commit_set.specs.Decision.{context_of, shifts_of, decide}
use Rattle.commit_set.specs.Numbers.{decision_number, state_at}
use Rattle.commit_set.specs.Steps.{Held, decide_in, decided_from, Able, Ready}

module _ (slots : ℕ) (h : Held) (l : List ℕ) where
  pub decided_is : (ts : List ℕ) (d : ℕ) → ts ≡ terms_at h.old h.new (operand_at (get_or h.rhss d 0))
      → decide slots (map (context_of (state_at l)) (listed (get_or h.first d 0) h.uses (get_or h.first d 0))) (shifts_of (map term_of ts)) ≡ decide_in slots h l d
  unfolding decide_in
  decided_is ts d e =
      ap (λ (o : Operand). decide slots (map (context_of (state_at l)) (listed (get_or h.first d 0) h.uses (get_or h.first d 0))) (shifts_of o))
      (rhs_terms h.old h.new h.rhss ts d e)

  pub terms_length : (ts : List ℕ) (d : ℕ) → ts ≡ terms_at h.old h.new (operand_at (get_or h.rhss d 0)) → length ts ≡ length (rhs_in h.old h.new h.rhss d)
  terms_length ts d e = sym (length-map ts term_of) ∙ ap length (rhs_terms h.old h.new h.rhss ts d e)

  module _ (order : List ℕ) (i : ℕ) (k : i < length order) where
    pub from_step : decided_from slots h (drop i order) l ≡ decided_from slots h (drop (i + 1) order) (set l (get_or order i 0) (decision_number (decide_in slots h l (get_or order i 0))))
    unfolding decided_from
    from_step = rw (drop_step order i 0 k)

    ready_both : Ready slots h (drop i order) l → Able slots h l (get_or order i 0) × Ready slots h (drop (i + 1) order) (set l (get_or order i 0) (decision_number (decide_in slots h l (get_or order i 0))))
    unfolding Ready
    ready_both r = subst (λ (ds : List ℕ). Ready slots h ds l) (drop_step order i 0 k) r

    pub ready_here : Ready slots h (drop i order) l → Able slots h l (get_or order i 0)
    ready_here r = (ready_both r).0

    pub ready_next : Ready slots h (drop i order) l → Ready slots h (drop (i + 1) order) (set l (get_or order i 0) (decision_number (decide_in slots h l (get_or order i 0))))
    ready_next r = (ready_both r).1

  pub from_end : (order : List ℕ) (i : ℕ) → length order ≤ i → decided_from slots h (drop i order) l ≡ l
  unfolding decided_from
  from_end order i k = rw (drop_of_length-le order k)
