-- Operands rebuilt one after the other: their terms stand in the new store and their numbers in the list, or a term found no room.
-- Assumes nothing.
use mathlib.Core.Path.{◌≡◌, refl, sym, ap, ap₂, ◌∙◌, subst}
use Prim.Native.Nat.{ℕ, suc, ◌+◌, ◌-◌, ◌≤◌, ◌<◌}
use native.Mathlib.Omega.{arith}
use native.Mathlib.Decide.{dec_lt}
use mathlib.Core.Bool.{true, false}
use mathlib.Core.List.{List, [], ◌∷◌, ◌++◌, map, map-append}
use lib.ListN.{length, take, set, length-append, length-set, length-map}
use lib.Seq.{sets, length-take-le, take_all}
use borrow.Author.Tests.{lt-ltb}
use Rattle.operand.specs.Numbers.{Term, Operand, term_number, operand_number}
use Rattle.lower.specs.Lists.{All, done, more}
use Rattle.patch.specs.Lists.{gather}
use Rattle.patch.specs.Steps.{Written, wrote, write_terms, Spilt, Does}
use Rattle.patch.specs.Handles.{handles_from, cut_at}
use Rattle.patch.specs.Building.{Built, built, handle, build_one, build_all}
use Rattle.patch.proofs.Writing.{sets_both, sets-length, spilt_before, spilt_behind, does_nothing, does_both}

handle-is : (a n : ℕ) → handle a (a + n) ≡ operand_number (record { start = a; len = n; new = true })
handle-is a n = let e : a + n - a ≡ n = omega arith in ap (λ (k : ℕ). operand_number (record { start = a; len = k; new = true })) e

-- go writes a term, which is expanded to ex; no definition is marked on the way
module _ (go : Term → Written → Written) (ex : Term → List Term) where
  abbrev pub Writes : Term → Type 0
  Writes t = Does (go t) (ex t) []

  operand_writes : {o : Operand} → All Writes o → Does (write_terms go o) (gather ex o) []
  unfolding write_terms
  operand_writes done = does_nothing
  operand_writes (more {x = t} {xs = o} h k) = does_both (go t) (write_terms go o) (ex t) (gather ex o) [] [] h (operand_writes k)

  one_more : (o : Operand) (b : Built) → b.at < length b.list
      → build_one go o b ≡ built (write_terms go o b.wrote) (set b.list b.at (handle b.wrote.count (write_terms go o b.wrote).count)) (suc b.at)
  unfolding build_one
  one_more o b h = rw (lt-ltb b.at (length b.list) h)

  -- once a term found no room nothing more is written: the operands that are left have no terms
  one_full : (o : Operand) → All Writes o → (b : Built) → b.wrote.full ≡ true → b.at < length b.list
      → build_one go o b ≡ built b.wrote (set b.list b.at (operand_number (record { start = b.wrote.count; len = 0; new = true }))) (suc b.at)
  one_full o h b e l =
      let none : b.wrote.count - b.wrote.count ≡ 0 = omega arith in
      one_more o b l
      ∙ ap (λ (m : Written). built m (set b.list b.at (handle b.wrote.count m.count)) (suc b.at)) ((operand_writes h).stays b.wrote e)
      ∙ ap (λ (k : ℕ). built b.wrote (set b.list b.at (operand_number (record { start = b.wrote.count; len = k; new = true }))) (suc b.at)) none

  all_full : {os : List Operand} → All (All Writes) os → (b : Built) → b.wrote.full ≡ true → b.at + length os ≤ length b.list
      → build_all go os b ≡ built b.wrote (sets b.list b.at (handles_from b.wrote.count (cut_at 0 (map (gather ex) os)))) (b.at + length os)
  unfolding build_all handles_from cut_at
  all_full done b e l = let j : b.at ≡ b.at + 0 = omega arith in ap (built b.wrote b.list) j
  all_full (more {x = o} {xs = os} h k) b e l =
      let n = b.wrote.count in
      let v : ℕ = operand_number (record { start = n; len = 0; new = true }) in
      let next : Built = built b.wrote (set b.list b.at v) (suc b.at) in
      let i : n ≡ n + 0 = omega arith in
      let z : 0 ≡ 0 - length (gather ex o) = omega arith in
      let j : suc b.at + length os ≡ b.at + suc (length os) = omega arith in
      ap (build_all go os) (one_full o h b e (omega (arith, l)))
      ∙ all_full k next e (omega (arith, l, length-set b.list b.at v))
      ∙ ap₂ (λ (x y : ℕ). built b.wrote (sets (set b.list b.at v) (suc b.at) (handles_from x (cut_at y (map (gather ex) os)))) (suc b.at + length os)) i z
      ∙ ap (built b.wrote (sets (set b.list b.at v) (suc b.at) (handles_from (n + 0) (cut_at (0 - length (gather ex o)) (map (gather ex) os))))) j

  -- the state after an operand that fits
  abbrev next : Operand → Built → Built
  next o b =
      built (wrote (sets b.wrote.new b.wrote.count (map term_number (gather ex o))) (b.wrote.count + length (gather ex o)) [] false)
      (set b.list b.at (operand_number (record { start = b.wrote.count; len = length (gather ex o); new = true }))) (suc b.at)

  one_fits : (o : Operand) → All Writes o → (b : Built) → b.wrote.full ≡ false → b.wrote.met ≡ [] → b.at < length b.list
      → b.wrote.count + length (gather ex o) ≤ length b.wrote.new → build_one go o b ≡ next o b
  one_fits o h b e m l r =
      let w : write_terms go o b.wrote ≡ wrote (sets b.wrote.new b.wrote.count (map term_number (gather ex o))) (b.wrote.count + length (gather ex o)) [] false =
      (operand_writes h).fits b.wrote e r ∙ ap (λ (x : List ℕ). wrote (sets b.wrote.new b.wrote.count (map term_number (gather ex o))) (b.wrote.count + length (gather ex o)) x false) m in
      one_more o b l
      ∙ ap (λ (x : Written). built x (set b.list b.at (handle b.wrote.count x.count)) (suc b.at)) w
      ∙ ap (λ (x : ℕ). built (wrote (sets b.wrote.new b.wrote.count (map term_number (gather ex o))) (b.wrote.count + length (gather ex o)) [] false) (set b.list b.at x) (suc b.at))
      (handle-is b.wrote.count (length (gather ex o)))

  -- THE THEOREM. All operands that are left, where their terms fit;
  pub built-fits : {os : List Operand} → All (All Writes) os → (b : Built) → b.wrote.full ≡ false → b.wrote.met ≡ [] → b.at + length os ≤ length b.list
      → b.wrote.count + length (gather (gather ex) os) ≤ length b.wrote.new
      → build_all go os b
      ≡ built (wrote (sets b.wrote.new b.wrote.count (map term_number (gather (gather ex) os))) (b.wrote.count + length (gather (gather ex) os)) [] false)
      (sets b.list b.at (handles_from b.wrote.count (map (gather ex) os))) (b.at + length os)
  unfolding build_all handles_from
  built-fits done b e m l r =
      let i : b.wrote.count ≡ b.wrote.count + 0 = omega arith in
      let j : b.at ≡ b.at + 0 = omega arith in
      let w : b.wrote ≡ wrote b.wrote.new (b.wrote.count + 0) [] false = rw (← i, ← m, ← e) in
      ap₂ (λ (x : Written) (n : ℕ). built x b.list n) w j
  built-fits (more {x = o} {xs = os} h k) b e m l r =
      let A = gather ex o in
      let R = gather (gather ex) os in
      let long : length (A ++ R) ≡ length A + length R = length-append A R in
      let new = b.wrote.new in
      let n = b.wrote.count in
      let numbers : n + length A ≡ n + length (map term_number A) = omega (arith, length-map A term_number) in
      let first : build_one go o b ≡ next o b = one_fits o h b e m (omega (arith, l)) (omega (arith, r, long)) in
      let rest = built-fits k (next o b) refl refl (omega (arith, l, length-set b.list b.at (operand_number (record { start = n; len = length A; new = true }))))
      (omega (arith, r, long, sets-length new n (map term_number A))) in
      let i : n + length A + length R ≡ n + length (A ++ R) = omega (arith, long) in
      let j : suc b.at + length os ≡ b.at + suc (length os) = omega arith in
      let w : sets (sets new n (map term_number A)) (n + length A) (map term_number R) ≡ sets new n (map term_number (A ++ R)) =
      ap (λ (x : ℕ). sets (sets new n (map term_number A)) x (map term_number R)) numbers ∙ sets_both new n (map term_number A) (map term_number R) ∙ ap (sets new n) (sym (map-append term_number A R)) in
      ap (build_all go os) first ∙ rest ∙ rw (w, i, j)

  -- and else the store is full of the first of them, and each operand has what it has there
  abbrev Ends : List Operand → Built → Built → Type 0
  Ends os b x =
      Spilt b.wrote.new b.wrote.count (gather (gather ex) os) x.wrote
      × (x.list ≡ sets b.list b.at (handles_from b.wrote.count (cut_at (length b.wrote.new - b.wrote.count) (map (gather ex) os))))

  -- the first operand has not all its terms
  ends_here : (o : Operand) → All Writes o → {os : List Operand} → All (All Writes) os → (b : Built) → b.wrote.full ≡ false → b.at + suc (length os) ≤ length b.list
      → b.wrote.count ≤ length b.wrote.new → length b.wrote.new < b.wrote.count + length (gather ex o) → Ends (o ∷ os) b (build_all go os (build_one go o b))
  unfolding handles_from cut_at
  ends_here o h {os = os} k b e l c r =
      let A = gather ex o in
      let n = b.wrote.count in
      let room : ℕ = length b.wrote.new - n in
      let m : Written = write_terms go o b.wrote in
      let q : Spilt b.wrote.new n A m = (operand_writes h).over b.wrote e c r in
      let v : ℕ = handle n m.count in
      let next : Built = built m (set b.list b.at v) (suc b.at) in
      let is : build_all go os (build_one go o b) ≡ built m (sets (set b.list b.at v) (suc b.at) (handles_from m.count (cut_at 0 (map (gather ex) os)))) (suc b.at + length os) =
      ap (build_all go os) (one_more o b (omega (arith, l))) ∙ all_full k next q.no_room (omega (arith, l, length-set b.list b.at v)) in
      let cut : length (take room A) ≡ room = length-take-le room A (omega (arith, r)) in
      let w : v ≡ operand_number (record { start = n; len = length (take room A); new = true }) =
      ap (λ (x : ℕ). operand_number (record { start = n; len = x; new = true })) (omega (arith, q.at_end, cut)) in
      let i : m.count ≡ n + length (take room A) = omega (arith, q.at_end, cut, c) in
      let z : 0 ≡ room - length A = omega (arith, r) in (
        subst (λ (x : Built). Spilt b.wrote.new n (A ++ gather (gather ex) os) x.wrote) (sym is) (spilt_before b.wrote.new n A (gather (gather ex) os) m (omega (arith, r)) q),
        ap (λ (x : Built). x.list) is
            ∙ ap (λ (x : ℕ). sets (set b.list b.at x) (suc b.at) (handles_from m.count (cut_at 0 (map (gather ex) os)))) w
            ∙ ap₂ (λ (x y : ℕ). sets (set b.list b.at (operand_number (record { start = n; len = length (take room A); new = true }))) (suc b.at) (handles_from x (cut_at y (map (gather ex) os)))) i z,
      )

  -- it has them all
  ends_later : (o : Operand) (os : List Operand) (b x : Built) → b.wrote.count + length (gather ex o) ≤ length b.wrote.new → Ends os (next o b) x → Ends (o ∷ os) b x
  unfolding handles_from cut_at
  ends_later o os b x r q =
      let A = gather ex o in
      let n = b.wrote.count in
      let room : ℕ = length b.wrote.new - n in
      let cut : A ≡ take room A = sym (take_all room A (omega (arith, r))) in
      let i : length (sets b.wrote.new n (map term_number A)) - (n + length A) ≡ room - length A = omega (arith, sets-length b.wrote.new n (map term_number A)) in (
        spilt_behind b.wrote.new n A (gather (gather ex) os) x.wrote r q.0,
        q.1
            ∙ ap (λ (y : ℕ). sets (next o b).list (suc b.at) (handles_from (n + length A) (cut_at y (map (gather ex) os)))) i
            ∙ ap (λ (a : List Term). sets (set b.list b.at (operand_number (record { start = n; len = length a; new = true }))) (suc b.at) (handles_from (n + length a) (cut_at (room - length A) (map (gather ex) os)))) cut,
      )

  pub built-over : {os : List Operand} → All (All Writes) os → (b : Built) → b.wrote.full ≡ false → b.wrote.met ≡ [] → b.at + length os ≤ length b.list
      → b.wrote.count ≤ length b.wrote.new → length b.wrote.new < b.wrote.count + length (gather (gather ex) os)
      → Ends os b (build_all go os b)
  unfolding build_all
  built-over done b e m l c r = absurd (omega arith)
  built-over (more {x = o} {xs = os} h k) b e m l c r =
      let A = gather ex o in
      let long = length-append A (gather (gather ex) os) in
      let same = sets-length b.wrote.new b.wrote.count (map term_number A) in
      step
      (λ q. built-over k (next o b) refl refl
      (omega (arith, l, length-set b.list b.at (operand_number (record { start = b.wrote.count; len = length A; new = true }))))
      (omega (arith, q, same)) (omega (arith, r, long, same)))
      (dec_lt (length b.wrote.new) (b.wrote.count + length (gather ex o)))
    where
      step : ((length b.wrote.new < b.wrote.count + length (gather ex o) → ⊥) → Ends os (next o b) (build_all go os (next o b)))
          → Dec (length b.wrote.new < b.wrote.count + length (gather ex o)) → Ends (o ∷ os) b (build_all go os (build_one go o b))
      step onward (yes q) = ends_here o h k b e l c q
      step onward (no q) =
          subst (λ (x : Built). Ends (o ∷ os) b (build_all go os x)) (sym (one_fits o h b e m (omega (arith, l)) (omega (arith, q))))
          (ends_later o os b (build_all go os (next o b)) (omega (arith, q)) (onward q))

-- operands that all fit are not cut
pub cut_none : (f : Operand → Operand) (os : List Operand) (n : ℕ) → length (gather f os) ≤ n → cut_at n (map f os) ≡ map f os
unfolding cut_at
cut_none f [] n h = refl
cut_none f (o ∷ os) n h =
    let long = length-append (f o) (gather f os) in
    ap₂ (λ (x : Operand) (r : List Operand). x ∷ r) (take_all n (f o) (omega (arith, h, long))) (cut_none f os (n - length (f o)) (omega (arith, h, long)))
