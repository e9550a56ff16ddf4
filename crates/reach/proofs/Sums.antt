-- The masks of what is met, made in stores: first from the operands of constraints, then definition by definition in an order, each before
-- those that it names. Assumes nothing.
use mathlib.Core.Path.{◌≡◌, refl, sym, ap, ◌∙◌, subst}
use mathlib.Core.Logic.{◌↔◌}
use Prim.Native.Nat.{ℕ, zero, suc, ◌^◌, ◌<◌}
use native.Mathlib.Omega.{arith}
use mathlib.Core.Bool.{Bool, true, false, cond}
use mathlib.Core.List.{List, [], ◌∷◌, map, Memᴰ}
use mathlib.Core.Option.{Option, some}
use lib.Dec.{eqb, lit<}
use lib.ListN.{length, get_or, replicate, length-replicate}
use lib.Bits.{bit_and, and_zero_r, or_lt}
use borrow.Author.Tests.{eqb-true}
use Rattle.shift.specs.Shifts.{shift_at}
use Rattle.shift.proofs.Composes.{on_cond}
use Rattle.operand.specs.Numbers.{Term, Operand, operand_of}
use Rattle.alive.specs.Masks.{ones, pulled}
use Rattle.alive.proofs.Ors.{misses_or, misses_left, misses_right, same_by}
use Rattle.alive.proofs.Pulls.{pulled_lt}
use Rattle.alive.proofs.Living.{identity-back}
use Rattle.lower.specs.Lists.{All, done, more, joined}
use Rattle.lower.specs.Model.{Row, Definition, System, destinations, definition_of, defines, row_operands}
use Rattle.lower.specs.Accepted.{ShiftsOf, Shifted, Single, is_identity, Once}
use Rattle.lower.proofs.Laws.{all_map}
use Rattle.lower.proofs.Alls.{all_join, all_unjoin, all_unmap}
use Rattle.legraph.specs.Uses.{dst_of, rhs_of, no_definition}
use Rattle.legraph.specs.Orders.{Posted}
use Rattle.legraph.proofs.Listing.{table_of, found_at, found-by}
use Rattle.commit_set.specs.Numbers.{state_at}
use Rattle.commit_set.proofs.Members.{all_get}
use Rattle.shift.proofs.Numbers.{valid_at}
use Rattle.patch.specs.Patch.{commit_set, inlined, rebuilt, rebuilds}
use Rattle.lower.proofs.Somes.{none_all}
use Rattle.patch.proofs.Parts.{Which, is_true, is_false, which, clash, all_each, all_two}
use Rattle.patch.proofs.Definitions.{stands}
use Rattle.reach.specs.Alive.{or_all}
use Rattle.reach.specs.Reach.{from_root, from_term, from_definition, reach_by, IsReach}
use Rattle.reach.specs.Steps.{Held, rhs_at, committed_at, mask_at, pull_operands, taken, reach_from, Usable}
use Rattle.reach.proofs.Joins.{or_all_lt, misses_all, misses_each}
use Rattle.reach.proofs.Meeting.{roots_by, rows_by, commits-by, roots_of}
use Rattle.reach.proofs.Masking.{Holds, committed-number, decided_of}
use Rattle.reach.proofs.Taking.{operands_length, operands_words, operands_misses, from_words, from_misses}

nought_at : (n w : ℕ) → mask_at (replicate n 0) w ≡ 0
nought_at zero w = refl
nought_at (suc n) zero = refl
nought_at (suc n) (suc w) = nought_at n w

by_index : {A : Type 0} {P : A → Type 0} (l : List A) (z : A) → ((i : ℕ) → i < length l → P (get_or l i z)) → All P l
by_index [] z f = done
by_index (x ∷ xs) z f = more (f 0 (omega arith)) (by_index xs z (λ i b. f (suc i) (omega arith)))

module _ (h : Held) (p : System) (m : ℕ) (once : Once p.linears) (small : All (λ (d : ℕ). d < m) (destinations p.linears)) (is : Holds h p)
    (n : ℕ) (usable : (d : ℕ) → d < length p.linears → All (Usable n) (rhs_at h d)) (wires : (d : ℕ) → d < length p.linears → dst_of p d < p.wires)
    (single : Single p) (shifted : Shifted p)
    (hs : List ℕ) (rows : row_operands p ≡ map (operand_of h.old h.new) hs) (row_usable : All (λ (g : ℕ). All (Usable n) (operand_of h.old h.new g)) hs)
    (ds : List ℕ) (o : Posted (rhs_at h) (table_of m p) ds) (below : (d : ℕ) → Memᴰ d ds → d < length p.linears) (whole : (d : ℕ) → d < length p.linears → Memᴰ d ds) where
  abbrev c : ℕ → Bool
  c = commit_set p (state_at h.decisions)

  abbrev D : ℕ → Option Operand
  D = inlined p c

  abbrev begun : List ℕ
  begun = pull_operands h.old h.new hs (replicate n 0)

  abbrev final : List ℕ
  final = reach_from h ds begun

  abbrev r : ℕ → ℕ
  r w = mask_at final w

  begun-length : length begun ≡ n
  begun-length = operands_length h.old h.new hs (replicate n 0) ∙ length-replicate {A = ℕ} n 0

  usable_begun : All (λ (g : ℕ). All (Usable (length (replicate {A = ℕ} n 0))) (operand_of h.old h.new g)) hs
  usable_begun = rw (length-replicate {A = ℕ} n 0) row_usable

  final_words : (w : ℕ) → r w < 2 ^ 64
  final_words =
      from_words h p m once small is n usable ds begun below begun-length
      (operands_words h.old h.new hs (replicate n 0) usable_begun (λ w. subst (λ (x : ℕ). x < 2 ^ 64) (sym (nought_at n w)) (lit< tt)))

  abbrev Lone : Term → Type 0
  Lone t = defines p.linears t.wire ≡ true → is_identity t.outer ≡ true

  lones : All (All Lone) (rebuilds p c)
  lones = roots_of p c single.uses_single

  module _ (w : ℕ) (e : defines p.linears w ≡ true) where
    -- a term that names w has one shift
    root_is : (t : Term) → Lone t → from_root w t ≡ from_term ones w t
    root_is t k = go (eqb t.wire w) refl
      where
        go : (b : Bool) → eqb t.wire w ≡ b → cond b (pulled (shift_at t.inner) (pulled (shift_at t.outer) ones)) 0 ≡ cond b (pulled (shift_at t.inner) ones) 0
        go true q =
            ap (pulled (shift_at t.inner))
            (identity-back (shift_at t.outer) (eqb-true (shift_at t.outer).amount 0 (k (ap (defines p.linears) (eqb-true t.wire w q) ∙ e))))
        go false q = refl

    -- the sum is a word
    term_lt : (a : ℕ) → a < 2 ^ 64 → (t : Term) → ShiftsOf t → from_term a w t < 2 ^ 64
    term_lt a b t k = on_cond (λ (x : ℕ). x < 2 ^ 64) (eqb t.wire w) (λ q. pulled_lt (shift_at t.inner) (valid_at t.inner k.0) a b) (λ q. lit< tt)

    valid_rhs : (d : ℕ) → d < length p.linears → All (λ (t : Term). from_term (r (dst_of p d)) w t < 2 ^ 64) (rhs_of p d)
    valid_rhs d l = all_each (λ t k. on_cond (λ (x : ℕ). x < 2 ^ 64) (eqb t.wire w) (λ q. pulled_lt (shift_at t.inner) (valid_at t.inner k.1) (r (dst_of p d)) (final_words (dst_of p d))) (λ q. lit< tt))
        (subst (All (Usable n)) (is.rhs_is d l) (usable d l))

    sum_lt : reach_by p c r w < 2 ^ 64
    sum_lt =
        or_lt 64 (or_all (from_root w) (joined (rebuilds p c))) (or_all (from_definition p c r w) p.linears)
        (or_all_lt (from_root w) (all_join (λ (t : Term). from_root w t < 2 ^ 64) (rebuilds p c)
        (all_two (λ a k j. all_two (λ t q v. subst (λ (x : ℕ). x < 2 ^ 64) (sym (root_is t q)) (term_lt ones (lit< tt) t v)) k j) lones (roots_of p c shifted))))
        (or_all_lt (from_definition p c r w) (by_index p.linears no_definition (λ d l.
        on_cond (λ (x : ℕ). x < 2 ^ 64) (c (dst_of p d)) (λ q. lit< tt) (λ q. or_all_lt (from_term (r (dst_of p d)) w) (valid_rhs d l)))))

    module _ (x : ℕ) (b : x < 2 ^ 64) where
      abbrev P : Term → Type 0
      P t = bit_and x (from_term ones w t) ≡ 0

      abbrev Q : Term → Type 0
      Q t = bit_and x (from_root w t) ≡ 0

      -- a constraint that is not rebuilt does not name w
      not_named : (a : Row) → rebuilt p.linears a ≡ false → All (All P) a
      unfolding rebuilt
      not_named a k = all_each (λ u v. all_each one (none_all _ u v)) (none_all _ a k)
        where
          one : (t : Term) → defines p.linears t.wire ≡ false → P t
          one t q = on_cond (λ (y : ℕ). bit_and x y ≡ 0) (eqb t.wire w) (λ z. absurd (clash e (ap (defines p.linears) (sym (eqb-true t.wire w z)) ∙ q))) (λ z. and_zero_r x)

      row_terms : All (All P) (row_operands p) → All (λ (g : ℕ). All P (operand_of h.old h.new g)) hs
      row_terms k = all_unmap (All P) (operand_of h.old h.new) hs (subst (All (All P)) rows k)

      terms_row : All (λ (g : ℕ). All P (operand_of h.old h.new g)) hs → All (All P) (row_operands p)
      terms_row k = subst (All (All P)) (sym rows) (all_map (All P) (operand_of h.old h.new) hs k)

      begun_misses : bit_and x (mask_at begun w) ≡ 0 ↔ (bit_and x (mask_at (replicate n 0) w) ≡ 0) × All (λ (g : ℕ). All P (operand_of h.old h.new g)) hs
      begun_misses = operands_misses h.old h.new hs (replicate n 0) w x b usable_begun

      final_misses : bit_and x (r w) ≡ 0 ↔ (bit_and x (mask_at begun w) ≡ 0) × ((d : ℕ) → Memᴰ d ds → All (λ (u : Term). bit_and x (from_term (taken h d final) w u) ≡ 0) (rhs_at h d))
      final_misses = from_misses h p m once small is n usable ds begun o below begun-length w x b

      -- what the terms of a definition take in
      abbrev Taken : ℕ → Type 0
      Taken d = All (λ (u : Term). bit_and x (from_term (taken h d final) w u) ≡ 0) (rhs_at h d)

      as_committed : (d : ℕ) → d < length p.linears → committed_at h d ≡ true → Taken d ≡ All P (rhs_of p d)
      as_committed d l q = rw (q, is.rhs_is d l)

      as_open : (d : ℕ) → d < length p.linears → committed_at h d ≡ false → Taken d ≡ All (λ (u : Term). bit_and x (from_term (r (dst_of p d)) w u) ≡ 0) (rhs_of p d)
      as_open d l q = rw (q, is.rhs_is d l, is.dst_is d l)

      summed : bit_and x (reach_by p c r w) ≡ 0 → bit_and x (r w) ≡ 0
      summed z = final_misses.1 (begun_misses.1 (ap (bit_and x) (nought_at n w) ∙ and_zero_r x, row_terms (rows_by p c roots not_named)), λ d k. each d (below d k) (which (committed_at h d)))
        where
          left : bit_and x (or_all (from_root w) (joined (rebuilds p c))) ≡ 0
          left = misses_left 64 x (or_all (from_root w) (joined (rebuilds p c))) (or_all (from_definition p c r w) p.linears) b z

          right : bit_and x (or_all (from_definition p c r w) p.linears) ≡ 0
          right = misses_right 64 x (or_all (from_root w) (joined (rebuilds p c))) (or_all (from_definition p c r w) p.linears) b z

          roots : All (All P) (rebuilds p c)
          roots =
              all_two (λ a k j. all_two (λ t q v. ap (bit_and x) (sym (root_is t q)) ∙ v) k j) lones
              (all_unjoin Q (rebuilds p c) (misses_each (from_root w) x b (joined (rebuilds p c)) left))

          each : (d : ℕ) → d < length p.linears → Which (committed_at h d) → Taken d
          each d l (is_true q) =
              subst (λ (X : Type 0). X) (sym (as_committed d l q))
              (commits-by p c roots (dst_of p d) (rhs_of p d) (wires d l) (decided_of h p m once small is d l ∙ q) (found_at p m once small (dst_of p d) d (found-by p m once small d l)).right)
          each d l (is_false q) =
              let k = all_get (λ (y : Definition). bit_and x (from_definition p c r w y) ≡ 0) p.linears d no_definition (misses_each (from_definition p c r w) x b p.linears right) l in
              subst (λ (X : Type 0). X) (sym (as_open d l q))
              (misses_each (from_term (r (dst_of p d)) w) x b (rhs_of p d) (rw (decided_of h p m once small is d l ∙ q) at k))

      sums_up : bit_and x (r w) ≡ 0 → bit_and x (reach_by p c r w) ≡ 0
      sums_up z =
          misses_or 64 x (or_all (from_root w) (joined (rebuilds p c))) (or_all (from_definition p c r w) p.linears) b
          (misses_all (from_root w) x b (all_join Q (rebuilds p c) (all_two (λ a k j. all_two (λ t q v. ap (bit_and x) (root_is t q) ∙ v) k j) lones roots)))
          (misses_all (from_definition p c r w) x b (by_index p.linears no_definition (λ d l.
          on_cond (λ (y : ℕ). bit_and x y ≡ 0) (c (dst_of p d)) (λ q. and_zero_r x)
          (λ q. misses_all (from_term (r (dst_of p d)) w) x b (subst (λ (X : Type 0). X) (as_open d l (sym (decided_of h p m once small is d l) ∙ q)) (ended.1 d (whole d l)))))))
        where
          ended : (bit_and x (mask_at begun w) ≡ 0) × ((d : ℕ) → Memᴰ d ds → Taken d)
          ended = final_misses.0 z

          committed_terms : (v : ℕ) (s : Operand) → c v ≡ true → definition_of p.linears v ≡ some s → All P s
          committed_terms v s k q =
              let f = stands p (state_at h.decisions) v s q in
              let t : committed_at h f.0 ≡ true = sym (committed-number (get_or h.decisions f.0 0)) ∙ sym f.1.decided ∙ k in
              subst (All P) f.1.right (subst (λ (X : Type 0). X) (as_committed f.0 f.1.under t) (ended.1 f.0 (whole f.0 f.1.under)))

          roots : All (All P) (rebuilds p c)
          roots = roots_by p c (terms_row (begun_misses.0 ended.0).1) committed_terms

  -- THE THEOREM. The store ends with the masks of what is met.
  pub masks_reach : IsReach p c r
  masks_reach = record { words = final_words; sums = λ w e. same_by (r w) (reach_by p c r w) (final_words w) (sum_lt w e) (summed w e) (sums_up w e) }
