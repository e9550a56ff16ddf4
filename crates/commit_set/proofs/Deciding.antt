-- Where the lists of uses are the system's, deciding one definition after the other in an order ends in a solution.
-- Assumes nothing.
use mathlib.Core.Path.{◌≡◌, refl, sym, ap, ap₂, ◌∙◌, subst}
use Prim.Native.Nat.{ℕ, suc, ◌+◌, ◌≤◌, ◌<◌}
use mathlib.Core.List.{List, [], ◌∷◌, map, Memᴰ}
use mathlib.Core.Bool.{Bool, true, false}
use native.Mathlib.Omega.{arith}
use lib.ListN.{length, get_or, set, drop, length-set}
use lib.Seq.{get_or-set_same, get_or-set_other, drop-set-lt}
use lib.Dec.{eqb}
use borrow.Author.Tests.{eqb-true, eqb-false}
use Rattle.operand.specs.Numbers.{Operand}
use Rattle.lower.specs.Model.{System}
use Rattle.lower.specs.Stores.{Stands}
use Rattle.legraph.specs.Uses.{Use, uses_of, dst_of, rhs_of, names}
use Rattle.legraph.specs.Tables.{listed, Linked}
use Rattle.legraph.specs.Walked.{rhs_in}
use Rattle.commit_set.specs.declared.Decision.{Decision}
use Rattle.commit_set.specs.Decision.{context_of, shifts_of, decide, decide_at}
use Rattle.commit_set.specs.Numbers.{decision_number, decision_at, state_at, Packs}
use Rattle.commit_set.specs.Orders.{put, InOrder}
use Rattle.commit_set.specs.Steps.{Held, decide_in, decided_from, Able, Ready}
use Rattle.commit_set.specs.Answer.{Solution}
use Rattle.commit_set.proofs.Orders.{put_here, put_there}
use Rattle.commit_set.proofs.Packing.{decision_back}
use Rattle.commit_set.proofs.Storing.{Stored, stored_none, stored_all, stored_one, next_packs}

-- the stores hold the right sides and the uses of the system's definitions
pub record Prepared (p : System) (h : Held) : Type 0 where
  pub lists : (d : ℕ) → d < length p.linears → listed (get_or h.first d 0) h.uses (get_or h.first d 0) ≡ uses_of p (dst_of p d)
  pub linked : (d : ℕ) → Linked h.uses (get_or h.first d 0)
  pub few_uses : (d : ℕ) → get_or h.first d 0 ≤ 65536
  pub firsts : length p.linears ≤ length h.first
  pub rhs : (d : ℕ) → d < length p.linears → rhs_in h.old h.new h.rhss d ≡ rhs_of p d
  pub few_terms : (d : ℕ) → d < length p.linears → length (rhs_of p d) ≤ 65536
  pub right_sides : length p.linears ≤ length h.rhss
  pub stand : (d : ℕ) → d < length p.linears → Stands h.old h.new (get_or h.rhss d 0)

module _ (slots : ℕ) (p : System) (h : Held) (r : Prepared p h) where
  decide_in_lem : (l : List ℕ) (d : ℕ) → d < length p.linears → decide_in slots h l d ≡ decide_at slots p (state_at l) d
  unfolding decide_in
  decide_in_lem l d k =
      ap₂ (λ (us : List Use) (o : Operand). decide slots (map (context_of (state_at l)) us) (shifts_of o)) (r.lists d k) (r.rhs d k)

  -- what holds of the store l, of which l₀ came first, once n definitions have been decided
  record Steady (finished : ℕ → Bool) (n : ℕ) (l₀ l : List ℕ) : Type 0 where
    stored : Stored slots p finished n l
    exact : (e : ℕ) → e < length p.linears → finished e ≡ true → get_or l e 0 ≡ decision_number (state_at l e)
    long : length l ≡ length l₀
    kept : drop (length p.linears) l ≡ drop (length p.linears) l₀

  module _ (l₀ : List ℕ) (room : length p.linears ≤ length l₀) where
    steady_one : (finished : ℕ → Bool) (n : ℕ) (l : List ℕ) (d : ℕ) → Steady finished n l₀ l → n ≤ 65535 → d < length p.linears → finished d ≡ false
        → ((e : ℕ) → e < length p.linears → names p e d ≡ true → finished e ≡ true)
        → Able slots h l d × Steady (put finished d true) (suc n) l₀ (set l d (decision_number (decide_in slots h l d)))
    steady_one f n l d y few k new users =
        let x : Decision = decide_in slots h l d in
        let is : decide_in slots h l d ≡ decide_at slots p (state_at l) d = decide_in_lem l d k in
        let packs : Packs (decide_in slots h l d) = subst Packs (sym is) (next_packs slots p f n l y.stored few d users) in
        let place : d < length l = omega (arith, k, room, y.long) in (
          record {
            right_side = omega (arith, k, r.right_sides);
            stands = r.stand d k;
            few_terms = subst (λ (m : ℕ). m ≤ 65536) (sym (ap length (r.rhs d k))) (r.few_terms d k);
            list = omega (arith, k, r.firsts);
            few_uses = r.few_uses d;
            linked = r.linked d;
            place = place;
            packs = packs;
          },
          record {
            stored = stored_one slots p f n l y.stored few d users (put f d true) new (put_here f d true) (put_there f d true) place (decide_in slots h l d) is;
            exact = λ e m q. exact_at e m q place packs;
            long = length-set l d (decision_number (decide_in slots h l d)) ∙ y.long;
            kept = drop-set-lt (length p.linears) l d (decision_number (decide_in slots h l d)) k ∙ y.kept;
          },
        )
      where
        exact_at : (e : ℕ) → e < length p.linears → put f d true e ≡ true → d < length l → Packs (decide_in slots h l d)
            → get_or (set l d (decision_number (decide_in slots h l d))) e 0 ≡ decision_number (state_at (set l d (decision_number (decide_in slots h l d))) e)
        exact_at e m q place packs = go (eqb e d) refl
          where
            go : (b : Bool) → eqb e d ≡ b → get_or (set l d (decision_number (decide_in slots h l d))) e 0 ≡ decision_number (state_at (set l d (decision_number (decide_in slots h l d))) e)
            go true t =
                let g : get_or (set l d (decision_number (decide_in slots h l d))) e 0 ≡ decision_number (decide_in slots h l d) = ap (λ (i : ℕ). get_or (set l d (decision_number (decide_in slots h l d))) i 0) (eqb-true e d t) ∙ get_or-set_same l d (decision_number (decide_in slots h l d)) 0 place in
                g ∙ ap decision_number (sym (ap decision_at g ∙ decision_back (decide_in slots h l d) packs))
            go false t =
                let g : get_or (set l d (decision_number (decide_in slots h l d))) e 0 ≡ get_or l e 0 = get_or-set_other l d e (decision_number (decide_in slots h l d)) 0 (eqb-false e d t) in
                g ∙ y.exact e m (sym (put_there f d true e (eqb-false e d t)) ∙ q) ∙ ap (λ (a : ℕ). decision_number (decision_at a)) (sym g)

    ends : (ds : List ℕ) (finished : ℕ → Bool) (n : ℕ) (l : List ℕ) → InOrder p finished ds → ((d : ℕ) → Memᴰ d ds → d < length p.linears) → n + length ds ≤ 65535 → Steady finished n l₀ l
        → Ready slots h ds l × Solution slots p l₀ (decided_from slots h ds l)
    unfolding InOrder Ready decided_from
    ends [] f n l o only few y =
        (tt, record { solves = stored_all slots p f n l y.stored o; exact = λ d k. y.exact d k (o d k); long = y.long; kept = y.kept })
    ends (d ∷ ds) f n l o only few y =
        let s = steady_one f n l d y (omega arith) (only d (Memᴰ.head refl)) o.0 o.1 in
        let q = ends ds (put f d true) (suc n) (set l d (decision_number (decide_in slots h l d))) o.2 (λ e m. only e (Memᴰ.tail m)) (omega arith) s.1 in
        ((s.0, q.0), q.1)

    pub ready_solution : (ds : List ℕ) → InOrder p (λ d. false) ds → ((d : ℕ) → Memᴰ d ds → d < length p.linears) → length ds ≤ 65535 → Ready slots h ds l₀ × Solution slots p l₀ (decided_from slots h ds l₀)
    ready_solution ds o only few =
        ends ds (λ d. false) 0 l₀ o only (omega (arith, few))
        (record { stored = stored_none slots p l₀; exact = λ e k q. (let z : ◌≡◌ {A = ℕ} 0 1 = cc in absurd (omega arith)); long = refl; kept = refl })
