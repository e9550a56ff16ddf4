-- Laws of expansion as the program does it, one step at a time. Assumes nothing.
use mathlib.Core.Path.{◌≡◌, refl, sym, ap, ◌∙◌, subst}
use Prim.Native.Nat.{ℕ, zero, suc, ◌+◌, ◌-◌, ◌≤◌, ◌<◌}
use mathlib.Core.Bool.{Bool, true, false, cond}
use mathlib.Core.List.{List, [], ◌∷◌, map}
use mathlib.Core.Option.{Option, none, some}
use native.Mathlib.Omega.{arith}
use lib.Dec.{eqb, ltb}
use native.Mathlib.Decide.{dec_lt}
use lib.ListN.{length, get_or, set, drop, drop_of_length-le, length-set}
use borrow.Author.Tests.{lt-ltb, le-ltb, ltb-true, ltb-false, ne_eqb}
use Rattle.shift.specs.declared.Shift.{Shift}
use Rattle.shift.specs.Shifts.{Valid, number_of, shift_at, apply_of}
use Rattle.shift.proofs.Numbers.{number-valid, valid-low}
use Rattle.operand.specs.declared.PushInner.{PushInner}
use Rattle.operand.specs.declared.PushInner.TheVariants.{Seq, Zero, OverBudget}
use Rattle.operand.specs.Push.{push_valid}
use Rattle.operand.specs.Numbers.{Term, Operand, term_of, term_number, operand_at, terms_at, operand_of}
use Rattle.lower.specs.Lists.{All}
use Rattle.lower.specs.Tables.{marked}
use Rattle.lower.proofs.Firsts.{drop_step}
use Rattle.lower.proofs.Alls.{all_unmap}
use Rattle.legraph.proofs.Walks.{rhs_terms}
use Rattle.commit_set.proofs.Members.{all_get}
use Rattle.legraph.specs.Walked.{rhs_in}
use Rattle.patch.specs.declared.Cursor.{Cursor}
use Rattle.patch.specs.Expansion.{under, Within}
use Rattle.patch.specs.Steps.{Written, wrote, put, write_down, write_terms}
use Rattle.patch.specs.Spelling.{Source, place_of, in_place, inlined_number, alive_at, dead, spelt, cursor_at, spelt_to, spell_under, spell_by, spell}

pub number-low : (s : Shift) → Valid s → number_of s < 512
number-low s h = valid-low (number_of s) (number-valid s h)

pub put_full : (t : Term) (l : List ℕ) (n : ℕ) (full : Bool) → full ≡ false → length l ≤ n → wrote l n [] true ≡ put t (wrote l n [] full)
unfolding put
put_full t l n full e h = rw (e, le-ltb n (length l) h)

pub put_room : (t : Term) (l : List ℕ) (n : ℕ) (full : Bool) → full ≡ false → n < length l → wrote (set l n (term_number t)) (n + 1) [] false ≡ put t (wrote l n [] full)
unfolding put
put_room t l n full q h =
    let e : n + 1 ≡ suc n = omega arith in
    rw (q, lt-ltb n (length l) h, e)

-- ---- how far a store is filled, by one number

pub to_live : (l : List ℕ) (n : ℕ) → n ≤ length l → spelt_to l n ≡ wrote l n [] false
unfolding spelt_to
to_live l n h = rw (le-ltb (length l) n h)

pub to_full : (l : List ℕ) (n : ℕ) → length l < n → spelt_to l n ≡ wrote l (length l) [] true
unfolding spelt_to
to_full l n h = rw (lt-ltb (length l) n h)

pub to_spelt : (l : List ℕ) (n : ℕ) → spelt l (cursor_at (length l) n) ≡ spelt_to l n
unfolding spelt_to
to_spelt l n = refl

pub cursor_low : (c : Cursor) (end n room : ℕ) → c ≡ cursor_at end n → end ≡ room → c.count ≤ room
cursor_low c end n room e h =
    rw e (elim (dec_lt end n) [ yes k ↦ rw (lt-ltb end n k) (omega (arith, h)) | no k ↦ rw (le-ltb end n (omega arith)) (omega (arith, h)) ])

pub to_cursor : (l : List ℕ) (c : Cursor) → c.full ≡ false → c.count ≤ length l → spelt_to l c.count ≡ spelt l c
to_cursor l c e h = to_live l c.count h ∙ ap (wrote l c.count []) (sym e)

-- no second number says the same
pub to_once : (l k : List ℕ) (a b : ℕ) → a ≤ length l + 1 → b ≤ length k + 1 → spelt_to l a ≡ spelt_to k b → (l ≡ k) × (a ≡ b)
unfolding spelt_to
to_once l k a b p q e = (lists, by (ltb (length l) a) refl (ltb (length k) b) refl)
  where
    lists : l ≡ k
    lists = ap (λ (m : Written). m.new) e

    by : (x : Bool) → ltb (length l) a ≡ x → (y : Bool) → ltb (length k) b ≡ y → a ≡ b
    by true f true g = let h = ltb-true (length l) a f in let i = ltb-true (length k) b g in let j = ap length lists in omega (arith, h, i, j, p, q)
    by true f false g = let z = ap {B = ℕ} (λ (m : Written). cond m.full 1 0) (sym (to_full l a (ltb-true (length l) a f)) ∙ e ∙ to_live k b (ltb-false (length k) b g)) in absurd (omega (arith, z))
    by false f true g = let z = ap {B = ℕ} (λ (m : Written). cond m.full 1 0) (sym (to_live l a (ltb-false (length l) a f)) ∙ e ∙ to_full k b (ltb-true (length k) b g)) in absurd (omega (arith, z))
    by false f false g = ap (λ (m : Written). m.count) (sym (to_live l a (ltb-false (length l) a f)) ∙ e ∙ to_live k b (ltb-false (length k) b g))

pub below_full : (t : Term) (l : List ℕ) (n : ℕ) → length l ≤ n → spelt_to l (length l + 1) ≡ put t (spelt_to l n)
unfolding put
below_full t l n h =
    to_full l (length l + 1) (omega arith)
    ∙ elim (dec_lt (length l) n) [ yes k ↦ rw (to_full l n k) | no k ↦ let e : n ≡ length l = omega arith in rw (e, to_live l (length l) (omega arith), le-ltb (length l) (length l) (omega arith)) ]

pub below_room : (t : Term) (l : List ℕ) (n : ℕ) → n < length l → spelt_to (set l n (term_number t)) (n + 1) ≡ put t (spelt_to l n)
below_room t l n h =
    to_live (set l n (term_number t)) (n + 1) (omega (arith, h, length-set l n (term_number t)))
    ∙ put_room t l n false refl h
    ∙ ap (put t) (sym (to_live l n (omega arith)))

-- the node that is found tells what is put in the wire's place
pub place_none : (s : Source) (w : ℕ) → inlined_number s.decisions (get_or s.table w 0) ≡ 0 → in_place s w ≡ none
unfolding in_place
place_none s w e = go (get_or s.table w 0) e
  where
    go : (x : ℕ) → inlined_number s.decisions x ≡ 0 → place_of s x ≡ none
    go zero h = refl
    go (suc d) h = at (eqb (get_or s.decisions d 0) 0) h
      where
        at : (b : Bool) → cond b 0 (suc d) ≡ 0 → cond b none (some (rhs_in s.old s.new s.rhss d)) ≡ none
        at true k = refl
        at false k = absurd (omega arith)

pub record Placed (s : Source) (w d : ℕ) : Type 0 where
  pub node : get_or s.table w 0 ≡ suc d
  pub put_there : in_place s w ≡ some (rhs_in s.old s.new s.rhss d)

pub place_some : (s : Source) (w d : ℕ) → inlined_number s.decisions (get_or s.table w 0) ≡ suc d → Placed s w d
unfolding in_place
place_some s w d e = go (get_or s.table w 0) refl e
  where
    go : (x : ℕ) → get_or s.table w 0 ≡ x → inlined_number s.decisions x ≡ suc d → Placed s w d
    go zero q h = absurd (omega arith)
    go (suc f) q h = at (eqb (get_or s.decisions f 0) 0) refl h
      where
        at : (b : Bool) → eqb (get_or s.decisions f 0) 0 ≡ b → cond b 0 (suc f) ≡ suc d → Placed s w d
        at true r k = absurd (omega arith)
        at false r k =
            let same : f ≡ d = omega arith in
            record { node = q ∙ ap suc same; put_there = rw (q, r) (ap (λ (i : ℕ). some (rhs_in s.old s.new s.rhss i)) same) }

module _ (s : Source) (n : ℕ) (m : Written) where
  pub spell_full : (t : Term) → m.full ≡ true → m ≡ spell s n t m
  unfolding spell
  spell_full t h = go n
    where
      go : (k : ℕ) → m ≡ spell s k t m
      go zero = rw h
      go (suc k) = rw h

  down_full : (w : ℕ) (x : PushInner) → m.full ≡ true → write_down (spell s n) w x m ≡ m
  down_full w (Seq a b) h = sym (spell_full (under w a b) h)
  down_full w Zero h = refl
  down_full w OverBudget h = refl

  pub under_full : (i o : Shift) (us : Operand) → m.full ≡ true → m ≡ spell_under (spell s n) i o us m
  unfolding spell_under
  under_full i o [] h = refl
  under_full i o (u ∷ us) h =
      under_full i o us h ∙ ap (spell_under (spell s n) i o us) (sym (down_full u.wire (push_valid i o (shift_at u.inner) 2) h))

-- nothing is done once a term found no room, so each law of a term holds then too
module _ (s : Source) (n : ℕ) (m : Written) (t : Term) where
  pub spell_stands : in_place s t.wire ≡ none → put t m ≡ spell s n t m
  unfolding spell spell_by put
  spell_stands e = go m.full refl
    where
      live : m.full ≡ false → (k : ℕ) → put t m ≡ spell s k t m
      live f zero = rw f
      live f (suc k) = rw (f, e)

      go : (b : Bool) → m.full ≡ b → put t m ≡ spell s n t m
      go true f = (rw f) ∙ spell_full s n m t f
      go false f = live f n

  module _ (d : ℕ) (p : Placed s t.wire d) (deep : Within (in_place s) n t.wire) where
    pub some_left : 0 < n
    some_left = go n deep
      where
        go : (k : ℕ) → Within (in_place s) k t.wire → 0 < k
        go zero x = let z : none ≡ some (rhs_in s.old s.new s.rhss d) = sym x ∙ p.put_there in let y : ◌≡◌ {A = ℕ} 0 1 = cc in absurd (omega arith)
        go (suc k) x = omega arith

    pub within-below : All (λ (u : Term). Within (in_place s) (n - 1) u.wire) (rhs_in s.old s.new s.rhss d)
    within-below = go n deep
      where
        go : (k : ℕ) → Within (in_place s) k t.wire → All (λ (u : Term). Within (in_place s) (k - 1) u.wire) (rhs_in s.old s.new s.rhss d)
        go zero x = let z : none ≡ some (rhs_in s.old s.new s.rhss d) = sym x ∙ p.put_there in let y : ◌≡◌ {A = ℕ} 0 1 = cc in absurd (omega arith)
        go (suc k) x =
            let e : suc k - 1 ≡ k = omega arith in
            rw e (x (rhs_in s.old s.new s.rhss d) p.put_there)

    dead-is : dead s t ≡ eqb (apply_of (shift_at t.outer) (apply_of (shift_at t.inner) (get_or s.alive d 0))) 0
    unfolding dead
    dead-is = ap (λ (x : ℕ). eqb (apply_of (shift_at t.outer) (apply_of (shift_at t.inner) (alive_at s x))) 0) p.node

    pub spell-dead : eqb (apply_of (shift_at t.outer) (apply_of (shift_at t.inner) (get_or s.alive d 0))) 0 ≡ true → m ≡ spell s n t m
    unfolding spell spell_by
    spell-dead h = go m.full refl
      where
        live : m.full ≡ false → (k : ℕ) → 0 < k → m ≡ spell s k t m
        live f zero x = absurd (omega arith)
        live f (suc k) x = rw (f, p.put_there, dead-is ∙ h)

        go : (b : Bool) → m.full ≡ b → m ≡ spell s n t m
        go true f = spell_full s n m t f
        go false f = live f n some_left

    pub spell_opens : eqb (apply_of (shift_at t.outer) (apply_of (shift_at t.inner) (get_or s.alive d 0))) 0 ≡ false
        → spell_under (spell s (n - 1)) (shift_at t.inner) (shift_at t.outer) (rhs_in s.old s.new s.rhss d) m ≡ spell s n t m
    unfolding spell spell_by
    spell_opens h = go m.full refl
      where
        rhs : Operand
        rhs = rhs_in s.old s.new s.rhss d

        live : m.full ≡ false → (k : ℕ) → 0 < k → spell_under (spell s (k - 1)) (shift_at t.inner) (shift_at t.outer) rhs m ≡ spell s k t m
        live f zero x = absurd (omega arith)
        live f (suc k) x =
            let e : suc k - 1 ≡ k = omega arith in
            ap (λ (j : ℕ). spell_under (spell s j) (shift_at t.inner) (shift_at t.outer) rhs m) e
            ∙ sym (
            ap (λ (b : Bool). cond b m (spell_by s (spell s k) t (in_place s t.wire) m)) f
            ∙ ap (λ (q : Option Operand). spell_by s (spell s k) t q m) p.put_there
            ∙ ap (λ (b : Bool). cond b m (spell_under (spell s k) (shift_at t.inner) (shift_at t.outer) rhs m)) (dead-is ∙ h)
            )

        go : (b : Bool) → m.full ≡ b → spell_under (spell s (n - 1)) (shift_at t.inner) (shift_at t.outer) rhs m ≡ spell s n t m
        go true f = sym (under_full s (n - 1) m (shift_at t.inner) (shift_at t.outer) rhs f) ∙ spell_full s n m t f
        go false f = live f n some_left

pub under_step : (go : Term → Written → Written) (i o : Shift) (ts : List ℕ) (k : ℕ) (m : Written) → k < length ts
    → spell_under go i o (map term_of (drop k ts)) m
    ≡ spell_under go i o (map term_of (drop (k + 1) ts)) (write_down go (term_of (get_or ts k 0)).wire (push_valid i o (shift_at (term_of (get_or ts k 0)).inner) 2) m)
unfolding spell_under
under_step go i o ts k m h = rw (drop_step ts k 0 h)

pub under_end : (go : Term → Written → Written) (i o : Shift) (ts : List ℕ) (k : ℕ) (m : Written) → length ts ≤ k → spell_under go i o (map term_of (drop k ts)) m ≡ m
unfolding spell_under
under_end go i o ts k m h = rw (drop_of_length-le ts h)

-- what holds of the terms of a right side holds of each that is read
pub term_read : (P : Term → Type 0) (old new rhss ts : List ℕ) (d k : ℕ) → ts ≡ terms_at old new (operand_at (get_or rhss d 0)) → All P (rhs_in old new rhss d) → k < length ts → P (term_of (get_or ts k 0))
term_read P old new rhss ts d k e a h =
    all_get (λ (x : ℕ). P (term_of x)) ts k 0 (all_unmap P term_of ts (subst (All P) (sym (rhs_terms old new rhss ts d e)) a)) h

pub marked_node : (l : List ℕ) (w d : ℕ) → get_or l w 0 ≡ suc d → true ≡ marked l w
marked_node l w d e = let z : eqb (suc d) 0 ≡ false = ne_eqb (suc d) 0 (λ h. omega (arith, h)) in rw (e, z)

pub terms_step : (go : Term → Written → Written) (ts : List ℕ) (k : ℕ) (m : Written) → k < length ts
    → write_terms go (map term_of (drop k ts)) m ≡ write_terms go (map term_of (drop (k + 1) ts)) (go (term_of (get_or ts k 0)) m)
unfolding write_terms
terms_step go ts k m h = rw (drop_step ts k 0 h)

pub terms_end : (go : Term → Written → Written) (ts : List ℕ) (k : ℕ) (m : Written) → length ts ≤ k → write_terms go (map term_of (drop k ts)) m ≡ m
unfolding write_terms
terms_end go ts k m h = rw (drop_of_length-le ts h)

-- what holds of an operand's terms holds of each that is read
pub operand_read : (P : Term → Type 0) (old new ts : List ℕ) (h k : ℕ) → ts ≡ terms_at old new (operand_at h) → All P (operand_of old new h) → k < length ts → P (term_of (get_or ts k 0))
unfolding operand_of
operand_read P old new ts h k e a l = all_get (λ (x : ℕ). P (term_of x)) ts k 0 (all_unmap P term_of ts (subst (λ (x : List ℕ). All P (map term_of x)) (sym e) a)) l

pub operand_terms : (old new ts : List ℕ) (h : ℕ) → ts ≡ terms_at old new (operand_at h) → map term_of ts ≡ operand_of old new h
unfolding operand_of
operand_terms old new ts h e = ap (map term_of) e
