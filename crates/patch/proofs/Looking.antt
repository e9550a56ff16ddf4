-- The masks and the entries of terms, written one after the other behind the masks of the definitions. Assumes nothing.
use mathlib.Core.Path.{◌≡◌, refl, sym, ap, ◌∙◌, subst}
use Prim.Native.Nat.{ℕ, zero, suc, ◌+◌, ◌*◌, ◌/◌, ◌%◌, ◌≤◌, ◌<◌}
use mathlib.Core.Bool.{Bool, true, false, cond}
use mathlib.Core.List.{List}
use native.Mathlib.Decide.{dec_lt}
use native.Mathlib.Omega.{arith}
use lib.Dec.{eqb}
use lib.ListN.{length, get_or, set, take, drop, length-set, length-drop}
use lib.Seq.{get_or-set_same, get_or-set_other, length-take-le}
use Rattle.shift.specs.Shifts.{valid_number, shift_at, apply_of}
use Rattle.operand.specs.Numbers.{Term, term_of, operand_at, store_for, terms_at, operand_of}
use Rattle.alive.specs.Masks.{ones}
use Rattle.lower.specs.Lists.{All, sum_of}
use Rattle.lower.specs.Faults.{length_of}
use Rattle.lower.specs.Stores.{Stands}
use Rattle.lower.proofs.Alls.{all_unmap}
use Rattle.lower.proofs.Firsts.{part_step}
use Rattle.patch.proofs.Spells.{operand_terms}
use Rattle.patch.specs.Spelling.{source, inlined_number, look_by, look, laid, Looks, Entries}

-- ---- a look

module _ (table decisions alive : List ℕ) (u : Term) where
  pub look_none : inlined_number decisions (get_or table u.wire 0) ≡ 0 → ones ≡ look table decisions alive u
  unfolding look
  look_none e = sym (ap (look_by alive u) e)

  pub look-some : (d : ℕ) → inlined_number decisions (get_or table u.wire 0) ≡ suc d → apply_of (shift_at u.inner) (get_or alive d 0) ≡ look table decisions alive u
  unfolding look
  look-some d e = sym (ap (look_by alive u) e)

-- it reads the masks of definitions only
module _ (table decisions a b : List ℕ) (nodes : (w : ℕ) → get_or table w 0 ≤ 1024) (same : (j : ℕ) → j < 1024 → get_or a j 0 ≡ get_or b j 0) where
  pub look_kept : (u : Term) → look table decisions a u ≡ look table decisions b u
  unfolding look
  look_kept u = go (get_or table u.wire 0) (nodes u.wire)
    where
      go : (x : ℕ) → x ≤ 1024 → look_by a u (inlined_number decisions x) ≡ look_by b u (inlined_number decisions x)
      go zero h = refl
      go (suc d) h = at (eqb (get_or decisions d 0) 0)
        where
          at : (c : Bool) → look_by a u (cond c 0 (suc d)) ≡ look_by b u (cond c 0 (suc d))
          at true = refl
          at false = ap (apply_of (shift_at u.inner)) (same d (omega arith))

-- ---- the terms of one definition

module _ (table decisions before ts : List ℕ) (at : ℕ) (nodes : (w : ℕ) → get_or table w 0 ≤ 1024) (low : 1024 ≤ at) where
  pub entries_none : (n : ℕ) → Entries table decisions before before ts at n 0
  entries_none n = record { long = refl; kept = λ j h. refl; looked = λ j h. absurd (omega arith); listed = λ j h. absurd (omega arith) }

  pub entries_more : (after : List ℕ) (n i : ℕ) → Entries table decisions before after ts at n i → i < n → at + 2 * n ≤ length after
      → Entries table decisions before (set (set after (at + i) (look table decisions after (term_of (get_or ts i 0)))) (at + n + i) (laid table decisions (term_of (get_or ts i 0)))) ts at n (i + 1)
  entries_more after n i l h room = record {
    long = length-set (set after (at + i) m) (at + n + i) e ∙ length-set after (at + i) m ∙ l.long;
    kept = λ j k. other j (λ z. omega (arith, z)) (λ z. omega (arith, z)) ∙ l.kept j k;
    looked = λ j k. elim (dec_lt j i) [
      | yes p ↦ other (at + j) (λ z. omega (arith, z)) (λ z. omega (arith, z)) ∙ l.looked j p
      | no p ↦ let z : i ≡ j = omega arith in
          subst (λ (x : ℕ). get_or final (at + x) 0 ≡ look table decisions before (term_of (get_or ts x 0))) z
          (get_or-set_other (set after (at + i) m) (at + n + i) (at + i) e 0 (λ q. omega (arith, q)) ∙ get_or-set_same after (at + i) m 0 (omega arith)
          ∙ look_kept table decisions after before nodes (λ x y. l.kept x (omega arith)) (term_of (get_or ts i 0)))
    ];
    listed = λ j k. elim (dec_lt j i) [
      | yes p ↦ other (at + n + j) (λ z. omega (arith, z)) (λ z. omega (arith, z)) ∙ l.listed j p
      | no p ↦ let z : i ≡ j = omega arith in
          subst (λ (x : ℕ). get_or final (at + n + x) 0 ≡ laid table decisions (term_of (get_or ts x 0))) z
          (get_or-set_same (set after (at + i) m) (at + n + i) e 0 (omega (arith, length-set after (at + i) m)))
    ];
  }
    where
      m : ℕ
      m = look table decisions after (term_of (get_or ts i 0))

      e : ℕ
      e = laid table decisions (term_of (get_or ts i 0))

      final : List ℕ
      final = set (set after (at + i) m) (at + n + i) e

      other : (j : ℕ) → (j ≡ at + i → ⊥) → (j ≡ at + n + i → ⊥) → get_or final j 0 ≡ get_or after j 0
      other j p q = get_or-set_other (set after (at + i) m) (at + n + i) j e 0 q ∙ get_or-set_other after (at + i) j m 0 p

-- the terms and how many they are, told otherwise
pub entries_by : (table decisions before after ts ts' : List ℕ) (at n : ℕ) → ts ≡ ts' → length ts ≡ n → Entries table decisions before after ts at (length ts) (length ts) → Entries table decisions before after ts' at n n
entries_by table decisions before after ts ts' at n e k l = subst (λ (x : ℕ). Entries table decisions before after ts' at x x) k (subst (λ (x : List ℕ). Entries table decisions before after x at (length ts) (length ts)) e l)

module _ (old new : List ℕ) (h : ℕ) (stands : Stands old new h) where
  pub terms_length : length (terms_at old new (operand_at h)) ≡ length_of h
  terms_length = length-take-le (length_of h) (drop (operand_at h).start (store_for old new (operand_at h))) (rw (length-drop (operand_at h).start (store_for old new (operand_at h))) (omega (arith, stands)))

  pub terms_valid : (ts : List ℕ) → ts ≡ terms_at old new (operand_at h) → All (λ (u : Term). valid_number u.inner ≡ true) (operand_of old new h) → All (λ (t : ℕ). valid_number (term_of t).inner ≡ true) ts
  terms_valid ts e a = all_unmap (λ (u : Term). valid_number u.inner ≡ true) term_of ts (subst (All (λ (u : Term). valid_number u.inner ≡ true)) (sym (operand_terms old new ts h e)) a)

-- ---- the definitions

-- the masks and the entries of the definition e are laid down, and end at `at` at the latest
pub record Laid (table decisions before after ts : List ℕ) (at e : ℕ) : Type 0 where
  pub from : ℕ
  pub told : get_or after (1024 + e) 0 ≡ from + 65536 * length ts
  pub first : 2048 ≤ from
  pub last : from + 2 * length ts ≤ at
  pub masks_there : (j : ℕ) → j < length ts → get_or after (from + j) 0 ≡ look table decisions before (term_of (get_or ts j 0))
  pub entries_there : (j : ℕ) → j < length ts → get_or after (from + length ts + j) 0 ≡ laid table decisions (term_of (get_or ts j 0))

module _ (old new rhss table decisions before : List ℕ) where
  abbrev ts : ℕ → List ℕ
  ts d = terms_at old new (operand_at (get_or rhss d 0))

  pub record Filled (after : List ℕ) (at d : ℕ) : Type 0 where
    pub as_long : length after ≡ length before
    pub front : (j : ℕ) → j < 1024 → get_or after j 0 ≡ get_or before j 0
    pub past : 2048 ≤ at
    pub laid_down : (e : ℕ) → e < d → Laid table decisions before after (ts e) at e

  pub filled_none : Filled before 2048 0
  filled_none = record { as_long = refl; front = λ j h. refl; past = omega arith; laid_down = λ e h. absurd (omega arith) }

  module _ (nodes : (w : ℕ) → get_or table w 0 ≤ 1024) (after after' : List ℕ) (at d : ℕ) (few : d < 1024) (room : 2048 ≤ length after)
      (f : Filled after at d) (l : Entries table decisions after after' (ts d) at (length (ts d)) (length (ts d))) where
    abbrev cell : ℕ
    cell = at + 65536 * length (ts d)

    abbrev final : List ℕ
    final = set after' (1024 + d) cell

    stays : (j : ℕ) → j < at → (j ≡ 1024 + d → ⊥) → get_or final j 0 ≡ get_or after j 0
    stays j h n = get_or-set_other after' (1024 + d) j cell 0 n ∙ l.kept j h

    front_kept : (j : ℕ) → j < 1024 → get_or final j 0 ≡ get_or before j 0
    front_kept j h = stays j (omega (arith, f.past)) (λ z. omega (arith, z)) ∙ f.front j h

    earlier : (e : ℕ) → e < d → Laid table decisions before final (ts e) (at + 2 * length (ts d)) e
    earlier e h =
        let y = f.laid_down e h in
        record {
          from = y.from;
          told = stays (1024 + e) (omega (arith, f.past)) (λ z. omega (arith, z)) ∙ y.told;
          first = y.first;
          last = omega (arith, y.last);
          masks_there = λ j k. stays (y.from + j) (omega (arith, y.last)) (λ z. omega (arith, z, y.first)) ∙ y.masks_there j k;
          entries_there = λ j k. stays (y.from + length (ts e) + j) (omega (arith, y.last)) (λ z. omega (arith, z, y.first)) ∙ y.entries_there j k;
        }

    now_laid : Laid table decisions before final (ts d) (at + 2 * length (ts d)) d
    now_laid = record {
      from = at;
      told = get_or-set_same after' (1024 + d) cell 0 (omega (arith, room, l.long));
      first = f.past;
      last = omega arith;
      masks_there = λ j k. get_or-set_other after' (1024 + d) (at + j) cell 0 (λ z. omega (arith, z, f.past)) ∙ l.looked j k ∙ look_kept table decisions after before nodes f.front (term_of (get_or (ts d) j 0));
      entries_there = λ j k. get_or-set_other after' (1024 + d) (at + length (ts d) + j) cell 0 (λ z. omega (arith, z, f.past)) ∙ l.listed j k;
    }

    pub filled_more : Filled final (at + 2 * length (ts d)) (d + 1)
    filled_more = record {
      as_long = length-set after' (1024 + d) cell ∙ l.long ∙ f.as_long;
      front = front_kept;
      past = omega (arith, f.past);
      laid_down = λ e h. elim (dec_lt e d) [ yes p ↦ earlier e p | no p ↦ let z : d ≡ e = omega arith in subst (λ (x : ℕ). Laid table decisions before final (ts x) (at + 2 * length (ts d)) x) z now_laid ];
    }

  -- the same, by the number of the right side
  pub filled_step : ((w : ℕ) → get_or table w 0 ≤ 1024) → (after after' : List ℕ) (at d m : ℕ) → d < 1024 → 2048 ≤ length after → Stands old new (get_or rhss d 0) → Filled after at d
      → Entries table decisions after after' (ts d) at (length_of (get_or rhss d 0)) (length_of (get_or rhss d 0)) → m ≡ length_of (get_or rhss d 0) → Filled (set after' (1024 + d) (at + 65536 * m)) (at + 2 * m) (d + 1)
  filled_step nodes after after' at d m few room st f l e =
      let k = terms_length old new (get_or rhss d 0) st in
      subst (λ (x : ℕ). Filled (set after' (1024 + d) (at + 65536 * x)) (at + 2 * x) (d + 1)) (k ∙ sym e)
      (filled_more nodes after after' at d few room f (subst (λ (x : ℕ). Entries table decisions after after' (ts d) at x x) (sym k) l))

  -- what is laid down is what expansion reads
  module _ (nodes : (w : ℕ) → get_or table w 0 ≤ 1024) (after : List ℕ) (at n : ℕ) (f : Filled after at n) (few : n ≤ 1024) (room : at ≤ length after) (low : length after < 65536)
      (d : ℕ) (k : d < n) where
    abbrev y : Laid table decisions before after (ts d) at d
    y = f.laid_down d k

    from_read : get_or after (1024 + d) 0 % 65536 ≡ y.from
    from_read = omega (arith, y.told, y.last)

    count_read : get_or after (1024 + d) 0 / 65536 ≡ length (ts d)
    count_read = omega (arith, y.told, y.last)

    pub filled_looks : Looks (source old new rhss table decisions after) d
    filled_looks = record {
      begins = omega (arith, f.past);
      as_many = count_read;
      ends = omega (arith, y.last, from_read);
      masks = λ i q. ap (λ (x : ℕ). get_or after (x + i) 0) from_read ∙ y.masks_there i q ∙ sym (look_kept table decisions after before nodes f.front (term_of (get_or (ts d) i 0)));
      entries = λ i q. ap (λ (x : ℕ). get_or after (x + length (ts d) + i) 0) from_read ∙ y.entries_there i q;
    }

-- the room that the definitions which are left need
pub room_step : (l : List ℕ) (n d : ℕ) → d < n → n ≤ length l → sum_of length_of (drop d (take n l)) ≡ length_of (get_or l d 0) + sum_of length_of (drop (d + 1) (take n l))
room_step l n d h k = ap (sum_of length_of) (part_step l n d 0 h k)
