-- The composition of two valid shifts is right. A rule's test is computed at each amount of each shift, on seven words, and not at each
-- pair of amounts: a chain goes on by one step of the outer shift. Assumes nothing.
use mathlib.Core.Path.{◌≡◌, refl, sym, ap, ◌∙◌, subst, subst₂}
use mathlib.Core.Bool.{Bool, true, false, cond, ◌&&◌, ◌||◌}
use mathlib.Core.List.{List, [], ◌∷◌}
use Prim.Native.Nat.{ℕ, suc, ◌+◌, ◌-◌, ◌^◌, ◌≤◌, ◌<◌}
use native.Mathlib.Nat.{add-suc}
use native.Mathlib.Omega.{arith}
use native.Mathlib.Decide.{le_ind}
use lib.Dec.{T, ltb, eqb, leb, leb→le, ltb→lt, lt→ltb}
use borrow.Author.Tests.{le-ltb, eqb-true, eqb-false}
use Rattle.word.specs.Word.{signed, floor_div, unsigned, arith_right, turn, halves}
use Rattle.word.proofs.Moves.{Moves, after, none_moves}
use Rattle.word.proofs.Probes.{upto, below, and_left, and_right, agree, same}
use Rattle.shift.specs.declared.ShiftVariant.{ShiftVariant}
use Rattle.shift.specs.declared.ShiftVariant.TheVariants.{Sll, Slr, Sar, Rotr, Sll32, Srl32, Sra32, Rotr32}
use Rattle.shift.specs.declared.Shift.{Shift}
use Rattle.shift.specs.declared.Makes.{Makes}
use Rattle.shift.specs.declared.Makes.TheVariants.{Inner, Outer, Chain, Neither}
use Rattle.shift.specs.declared.Composition.{Composition}
use Rattle.shift.specs.declared.Composition.TheVariants.{Single, Zero, Pair}
use Rattle.shift.specs.Shifts.{shifted, width_of, valid, Valid, by, apply_of}
use Rattle.shift.specs.Compose as S
use Rattle.shift.specs.Compose.{Rule, rule, degenerates, chains, chained_of, fits, first_of, chain_of, or_else, makes_of, made, compose_valid, Right}
use Rattle.shift.proofs.Variants.{one_variant}
use Rattle.shift.proofs.Linear.{moves, still, shifted_lt}

-- what an answer stands for, and that a shift in it is valid
meaning : Composition → ℕ → ℕ
meaning (Single s) w = apply_of s w
meaning Zero w = 0
meaning Pair w = 0

sound : Composition → Bool
sound (Single s) = valid s
sound Zero = true
sound Pair = false

meaning_moves : (c : Composition) → T (sound c) → Moves 64 (meaning c)
unfolding meaning sound
meaning_moves (Single s) t = moves s.variant s.amount (ltb→lt s.amount (width_of s.variant) t)
meaning_moves Zero t = none_moves
meaning_moves Pair t = none_moves

right : (i o : Shift) (c : Composition) → T (sound c) → ((w : ℕ) → w < 2 ^ 64 → apply_of o (apply_of i w) ≡ meaning c w) → Right i o c
unfolding meaning sound
right i o (Single s) t e = (ltb→lt s.amount (width_of s.variant) t, e)
right i o Zero t e = e
right i o Pair t e = tt

-- one more step of a variant u, at each amount
step_test : ShiftVariant → Bool
step_test u = upto (λ m. agree (λ w. shifted u 1 (shifted u m w)) (shifted u (suc m))) (width_of u - 1)

-- a chain of v by at least a, then u by at least b, that goes on as c: it holds at b, and goes on by one step of u
base_test : ShiftVariant → ℕ → ShiftVariant → ℕ → ShiftVariant → Bool
base_test v a u b c = upto (λ n. ltb n a || agree (λ w. shifted u b (shifted v n w)) (meaning (chained_of c (n + b)))) (width_of v)

goes_test : ℕ → ℕ → ShiftVariant → ShiftVariant → Bool
goes_test l a u c = upto (λ d. ltb d a || agree (λ w. shifted u 1 (meaning (chained_of c d) w)) (meaning (chained_of c (suc d)))) l

sound_test : ℕ → ShiftVariant → Bool
sound_test l c = upto (λ d. sound (chained_of c d)) (suc l)

-- the largest sum of two amounts
last : Rule → ℕ
last r = width_of r.first + width_of r.second - 2

-- at each two amounts
two_test : Rule → (Shift → Shift → Composition) → Bool
two_test r f =
    upto
    (λ m. ltb m r.from || upto (λ n. ltb n r.from2 || agree (λ w. shifted r.second n (shifted r.first m w)) (meaning (f (by r.first m) (by r.second n)))) (width_of r.second))
    (width_of r.first)

makes_test : Rule → Makes → Bool
makes_test r Inner = two_test r (λ i o. Single i)
makes_test r Outer = two_test r (λ i o. Single o)
makes_test r Neither = true
makes_test r (Chain c) =
    step_test r.second && (base_test r.first r.from r.second r.from2 c
    && (goes_test (last r) (r.from + r.from2) r.second c && sound_test (last r) c))

rules_test : List Rule → Bool
rules_test [] = true
rules_test (r ∷ rs) = makes_test r r.makes && rules_test rs

-- equal variants
abbrev alike : ShiftVariant → Rule
alike v = rule v 1 v 1 (Chain v)

degenerates_tested : T (rules_test degenerates)
unfolding degenerates rules_test makes_test two_test last step_test base_test goes_test sound_test meaning sound shifted signed floor_div unsigned arith_right turn halves
degenerates_tested = tt

chains_tested : T (rules_test chains)
unfolding chains rules_test makes_test two_test last step_test base_test goes_test sound_test meaning sound shifted signed floor_div unsigned arith_right turn halves
chains_tested = tt

alike_tested : (v : ShiftVariant) → T (makes_test (alike v) (Chain v))
unfolding makes_test two_test last step_test base_test goes_test sound_test meaning sound shifted signed floor_div unsigned arith_right turn halves
alike_tested Sll = tt
alike_tested Slr = tt
alike_tested Sar = tt
alike_tested Rotr = tt
alike_tested Sll32 = tt
alike_tested Srl32 = tt
alike_tested Sra32 = tt
alike_tested Rotr32 = tt

-- past a least amount the test is the other half
past : (n a : ℕ) (b : Bool) → a ≤ n → T (ltb n a || b) → T b
past n a b h t = subst (λ (x : Bool). T (x || b)) (le-ltb n a h) t

module _ (r : Rule) (m n : ℕ) (hm : m < width_of r.first) (hn : n < width_of r.second) (lm : r.from ≤ m) (ln : r.from2 ≤ n) where
  abbrev i : Shift
  i = by r.first m

  abbrev o : Shift
  o = by r.second n

  both : Moves 64 (λ w. apply_of o (apply_of i w))
  both = after (moves r.first m hm) (moves r.second n hn)

  two_right : (f : Shift → Shift → Composition) → T (two_test r f) → T (sound (f i o)) → Right i o (f i o)
  unfolding two_test
  two_right f t s =
      right i o (f i o) s
      (same both (meaning_moves (f i o) s)
      (past n r.from2 (agree (λ w. apply_of o (apply_of i w)) (meaning (f i o))) ln
      (below (λ n. ltb n r.from2 || agree (λ w. shifted r.second n (shifted r.first m w)) (meaning (f i (by r.second n)))) (width_of r.second)
      (past m r.from _ lm (below _ (width_of r.first) t m hm)) n hn)))

  chain_right : (c : ShiftVariant) → T (makes_test r (Chain c)) → Right i o (chained_of c (m + n))
  unfolding makes_test step_test base_test goes_test sound_test last
  chain_right c t = right i o (chained_of c (m + n)) (is_sound (m + n) (omega arith)) (λ w h. le_ind (P w) (base w h) (step w h) n ln hn)
    where
      l : ℕ
      l = width_of r.first + width_of r.second - 2

      rest : T (base_test r.first r.from r.second r.from2 c && (goes_test l (r.from + r.from2) r.second c && sound_test l c))
      rest = and_right (step_test r.second) _ t

      rest2 : T (goes_test l (r.from + r.from2) r.second c && sound_test l c)
      rest2 = and_right (base_test r.first r.from r.second r.from2 c) _ rest

      is_sound : (d : ℕ) → d ≤ l → T (sound (chained_of c d))
      is_sound d h = below (λ d. sound (chained_of c d)) (suc l) (and_right (goes_test l (r.from + r.from2) r.second c) (sound_test l c) rest2) d (omega arith)

      P : ℕ → ℕ → Type 0
      P w k = k < width_of r.second → shifted r.second k (shifted r.first m w) ≡ meaning (chained_of c (m + k)) w

      base : (w : ℕ) → w < 2 ^ 64 → P w r.from2
      base w h q =
          same (after (moves r.first m hm) (moves r.second r.from2 q)) (meaning_moves (chained_of c (m + r.from2)) (is_sound (m + r.from2) (omega arith)))
          (past m r.from _ lm
          (below (λ n. ltb n r.from || agree (λ w. shifted r.second r.from2 (shifted r.first n w)) (meaning (chained_of c (n + r.from2)))) (width_of r.first)
          (and_left (base_test r.first r.from r.second r.from2 c) _ rest) m hm)) w h

      step : (w : ℕ) → w < 2 ^ 64 → (k : ℕ) → r.from2 ≤ k → P w k → P w (suc k)
      step w h k b e q =
          sym (same (after (moves r.second k (omega arith)) (moves r.second 1 (omega arith))) (moves r.second (suc k) q)
          (below (λ k. agree (λ w. shifted r.second 1 (shifted r.second k w)) (shifted r.second (suc k))) (width_of r.second - 1)
          (and_left (step_test r.second) _ t) k (omega arith)) (shifted r.first m w) ((moves r.first m hm).fits w h))
          ∙ ap (λ (x : ℕ). shifted r.second 1 x) (e (omega arith))
          ∙ same (after (meaning_moves (chained_of c (m + k)) (is_sound (m + k) (omega arith))) (moves r.second 1 (omega arith)))
          (meaning_moves (chained_of c (suc (m + k))) (is_sound (suc (m + k)) (omega arith)))
          (past (m + k) (r.from + r.from2) _ (omega arith)
          (below (λ d. ltb d (r.from + r.from2) || agree (λ w. shifted r.second 1 (meaning (chained_of c d) w)) (meaning (chained_of c (suc d)))) l
          (and_left (goes_test l (r.from + r.from2) r.second c) (sound_test l c) rest2) (m + k) (omega arith))) w h
          ∙ ap (λ (d : ℕ). meaning (chained_of c d) w) (sym (add-suc m k))

  made-right : (x : Makes) → T (makes_test r x) → Right i o (made x i o)
  unfolding makes_test sound
  made-right Inner t = two_right (λ i o. Single i) t (lt→ltb m (width_of r.first) hm)
  made-right Outer t = two_right (λ i o. Single o) t (lt→ltb n (width_of r.second) hn)
  made-right (Chain c) t = chain_right c t
  made-right Neither t = tt

pub on_cond : {A : Type 0} (P : A → Type 0) (b : Bool) {x y : A} → (b ≡ true → P x) → (b ≡ false → P y) → P (cond b x y)
on_cond P true p q = p refl
on_cond P false p q = q refl

is_true : (b : Bool) → b ≡ true → T b
is_true b e = subst T (sym e) tt

to_true : (b : Bool) → T b → b ≡ true
to_true true t = refl
to_true false t = absurd t

first_right : (rs : List Rule) → T (rules_test rs) → (i o : Shift) → Valid i → Valid o → Right i o (made (first_of rs i o) i o)
unfolding rules_test
first_right [] t i o h l = tt
first_right (r ∷ rs) t i o h l =
    on_cond (λ (x : Makes). Right i o (made x i o)) (fits r i o)
    (λ e. let f : T (fits r i o) = is_true (fits r i o) e in
    let a : i.variant ≡ r.first = one_variant _ _ (to_true (S.same i.variant r.first) (and_left (S.same i.variant r.first) _ f)) in
    let f2 : T (S.same o.variant r.second && (leb r.from i.amount && leb r.from2 o.amount)) = and_right (S.same i.variant r.first) _ f in
    let b : o.variant ≡ r.second = one_variant _ _ (to_true (S.same o.variant r.second) (and_left (S.same o.variant r.second) _ f2)) in
    let f3 : T (leb r.from i.amount && leb r.from2 o.amount) = and_right (S.same o.variant r.second) _ f2 in
    subst₂ (λ (x y : ShiftVariant). Right (by x i.amount) (by y o.amount) (made r.makes (by x i.amount) (by y o.amount))) (sym a) (sym b)
    (made-right r i.amount o.amount (subst (λ (x : ShiftVariant). i.amount < width_of x) a h) (subst (λ (x : ShiftVariant). o.amount < width_of x) b l)
    (leb→le _ _ (and_left (leb r.from i.amount) _ f3)) (leb→le _ _ (and_right (leb r.from i.amount) _ f3)) r.makes
    (and_left (makes_test r r.makes) (rules_test rs) t)))
    (λ e. first_right rs (and_right (makes_test r r.makes) (rules_test rs) t) i o h l)

or_else_lem : (i o : Shift) (x y : Makes) → Right i o (made x i o) → Right i o (made y i o) → Right i o (made (or_else x y) i o)
or_else_lem i o Inner y a b = a
or_else_lem i o Outer y a b = a
or_else_lem i o (Chain v) y a b = a
or_else_lem i o Neither y a b = b

-- THE THEOREM: of two valid shifts, Single and Zero have the meaning of the two shifts, and a Single is valid
pub compose_right : (i o : Shift) → Valid i → Valid o → Right i o (compose_valid i o)
unfolding compose_valid
compose_right i o h l =
    on_cond (Right i o) (eqb i.amount 0)
    (λ t. (l, λ w p. ap (apply_of o) (still i h (eqb-true i.amount 0 t) w p)))
    (λ m. on_cond (Right i o) (eqb o.amount 0)
    (λ t. (h, λ w p. still o l (eqb-true o.amount 0 t) (apply_of i w) (shifted_lt i h w p)))
    (λ n. or_else_lem i o (first_of degenerates i o) (chain_of i o) (first_right degenerates degenerates_tested i o h l)
    (on_cond (λ (x : Makes). Right i o (made x i o)) (S.same i.variant o.variant)
    (λ e. let a : i.variant ≡ o.variant = one_variant i.variant o.variant e in
    subst (λ (x : ShiftVariant). Right i (by x o.amount) (made (Chain i.variant) i (by x o.amount))) a
    (chain_right (alike i.variant) i.amount o.amount h (subst (λ (x : ShiftVariant). o.amount < width_of x) (sym a) l) (some i.amount m) (some o.amount n)
    i.variant (alike_tested i.variant)))
    (λ e. first_right chains chains_tested i o h l))))
  where
    some : (n : ℕ) → eqb n 0 ≡ false → 1 ≤ n
    some n e = let f : n ≡ 0 → ⊥ = eqb-false n 0 e in omega arith
