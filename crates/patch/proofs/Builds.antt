-- Laws of operands that are rebuilt one after the other, one step at a time. Assumes nothing.
use mathlib.Core.Path.{◌≡◌, refl, sym, ap, ap₂, ◌∙◌}
use Prim.Native.Nat.{ℕ, zero, suc, ◌+◌, ◌*◌, ◌-◌, ◌/◌, ◌≤◌, ◌<◌}
use mathlib.Core.Bool.{Bool, true, false, cond}
use mathlib.Core.List.{List, [], ◌∷◌, ◌++◌, map}
use mathlib.Core.Option.{Option, none, some}
use native.Mathlib.Omega.{arith}
use native.Mathlib.Nat.{mul-suc}
use Rattle.std.proofs.Math.Nat.{div-eq_of_lt, add-div_left, mul-div_cancel_left}
use Rattle.std.proofs.Math.Seq.{take-append_seam, drop-append_seam}
use Rattle.std.proofs.lemmas.List.{length-append, take-take, drop-take}
use lib.Seq.{length-take-le}
use lib.Dec.{ltb, eqb}
use lib.ListN.{length, take, drop, get_or, set, drop_of_length-le}
use borrow.Author.Tests.{lt-ltb, le-ltb}
use Rattle.shift.specs.declared.Shift.{Shift}
use Rattle.shift.specs.Shifts.{shift_at}
use Rattle.operand.specs.declared.PushInner.{PushInner}
use Rattle.operand.specs.declared.PushInner.TheVariants.{Seq, Zero, OverBudget}
use Rattle.operand.specs.Push.{push_valid}
use Rattle.operand.specs.Numbers.{Term, Operand, operand_of, term_number}
use Rattle.lower.specs.Lists.{keep, joined}
use Rattle.lower.specs.declared.Sizes.{Sizes}
use Rattle.lower.specs.Stores.{chunks, rows_of}
use Rattle.lower.proofs.Firsts.{drop_step}
use Rattle.legraph.specs.Walked.{rhs_in}
use Rattle.patch.specs.declared.Cursor.{Cursor}
use Rattle.patch.specs.Steps.{Written, wrote, filled, put, write_down, write_terms}
use Rattle.patch.specs.Spelling.{Source, in_place, dead, spelt, spell_under, spell_by, spell, row_names}
use Rattle.patch.specs.Building.{Built, built, handle, build_one, build_all, row_in, rows_in, committed_at, commits_in, roots_in, operands_in}

-- ---- writing never lowers the count

cond-grows : (m x : Written) (b : Bool) → m.count ≤ x.count → m.count ≤ (cond b m x).count
cond-grows m x true h = omega arith
cond-grows m x false h = h

put-grows : (t : Term) (m : Written) → m.count ≤ (put t m).count
unfolding put
put-grows t m = cond-grows m _ m.full (go (ltb m.count (length m.new)))
  where
    go : (b : Bool) → m.count ≤ (cond b (wrote (set m.new m.count (term_number t)) (suc m.count) m.met false) (filled m)).count
    go true = omega arith
    go false = omega arith

abbrev Grows : (Term → Written → Written) → Type 0
Grows go = (t : Term) (m : Written) → m.count ≤ (go t m).count

module _ (go : Term → Written → Written) (grows : Grows go) where
  down_grows : (w : ℕ) (x : PushInner) (m : Written) → m.count ≤ (write_down go w x m).count
  down_grows w (Seq i o) m = grows _ m
  down_grows w Zero m = omega arith
  down_grows w OverBudget m = omega arith

  under_grows : (i o : Shift) (us : Operand) (m : Written) → m.count ≤ (spell_under go i o us m).count
  unfolding spell_under
  under_grows i o [] m = omega arith
  under_grows i o (u ∷ us) m =
      let x : Written = write_down go u.wire (push_valid i o (shift_at u.inner) 2) m in
      omega (arith, down_grows u.wire (push_valid i o (shift_at u.inner) 2) m, under_grows i o us x)

  pub terms_grow : (ts : Operand) (m : Written) → m.count ≤ (write_terms go ts m).count
  unfolding write_terms
  terms_grow [] m = omega arith
  terms_grow (t ∷ ts) m = omega (arith, grows t m, terms_grow ts (go t m))

  by-grows : (s : Source) (t : Term) (o : Option Operand) (m : Written) → m.count ≤ (spell_by s go t o m).count
  unfolding spell_by
  by-grows s t none m = put-grows t m
  by-grows s t (some rhs) m = cond-grows m _ (dead s t) (under_grows (shift_at t.inner) (shift_at t.outer) rhs m)

pub spell-grows : (s : Source) (n : ℕ) (t : Term) (m : Written) → m.count ≤ (spell s n t m).count
unfolding spell
spell-grows s zero t m = cond-grows m _ m.full (put-grows t m)
spell-grows s (suc n) t m = cond-grows m _ m.full (by-grows (spell s n) (λ u l. spell-grows s n u l) s t (in_place s t.wire) m)

-- where a cursor is told by what was written, it is no lower
pub cursor_grows : (s : Source) (n : ℕ) (o : Operand) (l k : List ℕ) (a c : Cursor) → spelt k c ≡ write_terms (spell s n) o (spelt l a) → a.count ≤ c.count
cursor_grows s n o l k a c e = omega (arith, terms_grow (spell s n) (λ t m. spell-grows s n t m) o (spelt l a), ap (λ (m : Written). m.count) e)

-- ---- one operand

pub build_full : (go : Term → Written → Written) (o : Operand) (b : Built) → length b.list ≤ b.at → b ≡ build_one go o b
unfolding build_one
build_full go o b h = rw (le-ltb b.at (length b.list) h)

pub build_room : (go : Term → Written → Written) (o : Operand) (b : Built) (m : Written) (v : ℕ) → b.at < length b.list → m ≡ write_terms go o b.wrote → v ≡ handle b.wrote.count m.count
    → built m (set b.list b.at v) (b.at + 1) ≡ build_one go o b
unfolding build_one
build_room go o b m v h e d =
    let n : b.at + 1 ≡ suc b.at = omega arith in
    rw (lt-ltb b.at (length b.list) h, n, d, e)

-- ---- those that are left

pub build_none : (go : Term → Written → Written) (b : Built) → build_all go [] b ≡ b
unfolding build_all
build_none go b = refl

-- a row of one
pub row_single : (hs : List ℕ) (i : ℕ) → i < length hs → take (i + 1 - i) (drop i hs) ≡ get_or hs i 0 ∷ []
row_single hs i h = let e : i + 1 - i ≡ 1 = omega arith in rw (e, drop_step hs i 0 h)

pub build_both : (go : Term → Written → Written) (a c : List Operand) (b : Built) → build_all go (a ++ c) b ≡ build_all go c (build_all go a b)
unfolding build_all
build_both go [] c b = refl
build_both go (o ∷ a) c b = build_both go a c (build_one go o b)

pub row_step : (go : Term → Written → Written) (f : ℕ → Operand) (row : List ℕ) (k : ℕ) (b : Built) → k < length row
    → build_all go (map f (drop k row)) b ≡ build_all go (map f (drop (k + 1) row)) (build_one go (f (get_or row k 0)) b)
unfolding build_all
row_step go f row k b h = rw (drop_step row k 0 h)

pub row_end : (go : Term → Written → Written) (f : ℕ → Operand) (row : List ℕ) (k : ℕ) (b : Built) → length row ≤ k → build_all go (map f (drop k row)) b ≡ b
unfolding build_all
row_end go f row k b h = rw (drop_of_length-le row h)

-- ---- rows

pub row_passed : (s : Source) (r : List Operand) → row_names s.table r ≡ false → row_in s r ≡ []
row_passed s r e = rw e

pub row-taken : (s : Source) (r : List Operand) → row_names s.table r ≡ true → row_in s r ≡ r
row-taken s r e = rw e

rows_none : (s : Source) (k : ℕ) (hs : List ℕ) → rows_in s k 0 hs ≡ []
unfolding rows_in
rows_none s k hs = refl

rows_more : (s : Source) (k n : ℕ) (hs : List ℕ) → rows_in s k (suc n) hs ≡ row_in s (map (operand_of s.old s.new) (take k hs)) ++ rows_in s k n (drop k hs)
unfolding rows_in
rows_more s k n hs = go (row_names s.table (map (operand_of s.old s.new) (take k hs)))
  where
    go : (b : Bool)
        → joined (cond b (map (operand_of s.old s.new) (take k hs) ∷ keep (row_names s.table) (rows_of (operand_of s.old s.new) k n (drop k hs))) (keep (row_names s.table) (rows_of (operand_of s.old s.new) k n (drop k hs))))
        ≡ cond b (map (operand_of s.old s.new) (take k hs)) [] ++ joined (keep (row_names s.table) (rows_of (operand_of s.old s.new) k n (drop k hs)))
    go true = refl
    go false = refl

-- as many rows as there are places for
module _ (go : Term → Written → Written) (s : Source) (k : ℕ) (wide : 0 < k) (b : Built) where
  pub rows_end : (rest : List ℕ) → length rest < k → build_all go (rows_in s k (length rest / k) rest) b ≡ b
  rows_end rest h = rw (div-eq_of_lt h, rows_none s k rest) (build_none go b)

  pub rows_step : (rest row left : List ℕ) → rest ≡ row ++ left → length row ≡ k
      → build_all go (rows_in s k (length rest / k) rest) b
      ≡ build_all go (rows_in s k (length left / k) left) (build_all go (row_in s (map (operand_of s.old s.new) row)) b)
  rows_step rest row left e h =
      let n : length rest / k ≡ suc (length left / k) = ap (λ (l : List ℕ). length l / k) e ∙ ap (λ (j : ℕ). j / k) (length-append row left ∙ ap (λ (j : ℕ). j + length left) h) ∙ add-div_left (length left) wide ∙ omega arith in
      let first : take k rest ≡ row = ap₂ take (sym h) e ∙ take-append_seam row left in
      let others : drop k rest ≡ left = ap₂ drop (sym h) e ∙ drop-append_seam row left in
      ap (λ (j : ℕ). build_all go (rows_in s k j rest) b) n
      ∙ ap (λ (os : List Operand). build_all go os b) (rows_more s k (length left / k) rest)
      ∙ build_both go (row_in s (map (operand_of s.old s.new) (take k rest))) (rows_in s k (length left / k) (drop k rest)) b
      ∙ ap₂ (λ (x y : List ℕ). build_all go (rows_in s k (length left / k) y) (build_all go (row_in s (map (operand_of s.old s.new) x)) b)) first others

-- a list that is cut to n rows
chunks_cut : (k n : ℕ) (hs : List ℕ) → chunks k n (take (k * n) hs) ≡ chunks k n hs
chunks_cut k zero hs = refl
chunks_cut k (suc n) hs =
    let e : k * suc n ≡ k + k * n = mul-suc k n ∙ omega arith in
    ap (λ (m : ℕ). take k (take m hs) ∷ chunks k n (drop k (take m hs))) e
    ∙ ap₂ (λ (x y : List ℕ). x ∷ chunks k n y) (take-take k (k + k * n) hs (omega arith)) (drop-take k (k * n) hs)
    ∙ ap (λ (l : List (List ℕ)). take k hs ∷ l) (chunks_cut k n (drop k hs))

rows_cut : (s : Source) (k n : ℕ) (hs : List ℕ) → 0 < k → k * n ≤ length hs → rows_in s k (length (take (k * n) hs) / k) (take (k * n) hs) ≡ rows_in s k n hs
unfolding rows_in
rows_cut s k n hs wide there =
    let as_many : length (take (k * n) hs) / k ≡ n = ap (λ (j : ℕ). j / k) (length-take-le (k * n) hs there) ∙ mul-div_cancel_left n wide in
    ap (λ (j : ℕ). joined (keep (row_names s.table) (rows_of (operand_of s.old s.new) k j (take (k * n) hs)))) as_many
    ∙ ap (λ (ls : List (List ℕ)). joined (keep (row_names s.table) (map (map (operand_of s.old s.new)) ls))) (chunks_cut k n hs)

pub build_cut : (go : Term → Written → Written) (s : Source) (k n m : ℕ) (hs : List ℕ) (b : Built) → 0 < k → k * n ≤ length hs → m ≡ k * n
    → build_all go (rows_in s k (length (take m hs) / k) (take m hs)) b ≡ build_all go (rows_in s k n hs) b
build_cut go s k n m hs b wide there e =
    ap (λ (j : ℕ). build_all go (rows_in s k (length (take j hs) / k) (take j hs)) b) e ∙ ap (λ (os : List Operand). build_all go os b) (rows_cut s k n hs wide there)

-- ---- committed definitions

pub node_none : (s : Source) (n : ℕ) → n ≡ 0 → committed_at s n ≡ []
node_none s n e = rw e

pub node_passed : (s : Source) (n d : ℕ) → n ≡ suc d → eqb (get_or s.decisions d 0) 0 ≡ false → committed_at s n ≡ []
node_passed s n d e q = rw (e, q)

pub node_taken : (s : Source) (n d : ℕ) → n ≡ suc d → eqb (get_or s.decisions d 0) 0 ≡ true → committed_at s n ≡ rhs_in s.old s.new s.rhss d ∷ []
node_taken s n d e q = rw (e, q)

module _ (go : Term → Written → Written) (s : Source) (w n : ℕ) (b : Built) where
  pub commits_end : n ≤ w → build_all go (commits_in s w (n - w)) b ≡ b
  unfolding commits_in
  commits_end h = let e : n - w ≡ 0 = omega arith in rw e (build_none go b)

  pub commits_step : w < n → build_all go (commits_in s w (n - w)) b ≡ build_all go (commits_in s (w + 1) (n - (w + 1))) (build_all go (committed_at s (get_or s.table w 0)) b)
  unfolding commits_in
  commits_step h =
      let e : n - w ≡ suc (n - (w + 1)) = omega arith in
      let f : suc w ≡ w + 1 = omega arith in
      ap (λ (j : ℕ). build_all go (commits_in s w j) b) e
      ∙ build_both go (committed_at s (get_or s.table w 0)) (commits_in s (suc w) (n - (w + 1))) b
      ∙ ap (λ (j : ℕ). build_all go (commits_in s j (n - (w + 1))) (build_all go (committed_at s (get_or s.table w 0)) b)) f

-- ---- all of them

module _ (go : Term → Written → Written) (s : Source) (z : Sizes) (ands imuls bmuls zeros : List ℕ) (b : Built) where
  pub roots_are : build_all go (roots_in s z ands imuls bmuls zeros) b
      ≡ build_all go (rows_in s 1 z.zeros zeros) (build_all go (rows_in s 6 z.bmuls bmuls) (build_all go (rows_in s 4 z.imuls imuls) (build_all go (rows_in s 3 z.ands ands) b)))
  unfolding roots_in
  roots_are =
      let a : List Operand = rows_in s 3 z.ands ands in
      let i : List Operand = rows_in s 4 z.imuls imuls in
      let m : List Operand = rows_in s 6 z.bmuls bmuls in
      let o : List Operand = rows_in s 1 z.zeros zeros in
      build_both go a (i ++ (m ++ o)) b ∙ build_both go i (m ++ o) (build_all go a b) ∙ build_both go m o (build_all go i (build_all go a b))

  pub operands_are : build_all go (operands_in s z ands imuls bmuls zeros) b ≡ build_all go (commits_in s 0 z.wires) (build_all go (roots_in s z ands imuls bmuls zeros) b)
  unfolding operands_in
  operands_are =
      let a : List Operand = rows_in s 3 z.ands ands in
      let i : List Operand = rows_in s 4 z.imuls imuls in
      let m : List Operand = rows_in s 6 z.bmuls bmuls in
      let o : List Operand = rows_in s 1 z.zeros zeros in
      let d : List Operand = commits_in s 0 z.wires in
      build_both go a (i ++ (m ++ (o ++ d))) b
      ∙ build_both go i (m ++ (o ++ d)) (build_all go a b)
      ∙ build_both go m (o ++ d) (build_all go i (build_all go a b))
      ∙ build_both go o d (build_all go m (build_all go i (build_all go a b)))
      ∙ ap (build_all go d) (sym roots_are)
