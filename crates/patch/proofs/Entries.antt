-- The masks and the entries of a definition's terms, as they are read. Assumes nothing.
use mathlib.Core.Path.{◌≡◌, refl, sym, ap, ◌∙◌, subst}
use Prim.Native.Nat.{ℕ, zero, suc, ◌+◌, ◌-◌, ◌^◌, ◌≤◌, ◌<◌}
use mathlib.Core.Bool.{Bool, true, false, cond}
use mathlib.Core.List.{List, [], map}
use mathlib.Core.Option.{none}
use native.Mathlib.Omega.{arith}
use lib.Dec.{eqb}
use lib.Bits.{bit_and}
use lib.ListN.{length, get_or, take, drop, length-drop}
use lib.Seq.{length-take-le, get_or-take, get_or-drop}
use Rattle.shift.specs.declared.Shift.{Shift}
use Rattle.shift.specs.Shifts.{Valid, valid_number, shift_at}
use Rattle.shift.proofs.Numbers.{valid_at}
use Rattle.operand.specs.Numbers.{Term, term_of, term_number}
use Rattle.operand.specs.Push.{push_valid}
use Rattle.operand.proofs.Stored.{term_there}
use Rattle.alive.specs.Masks.{pulled}
use Rattle.legraph.specs.Walked.{rhs_in}
use Rattle.std.specs.Prelude.{Option as Answer, Some, None}
use Rattle.patch.specs.Expansion.{Within}
use Rattle.patch.specs.Steps.{Written, wrote, put, write_down}
use Rattle.patch.specs.Spelling.{Source, in_place, inlined_number, inner_of, outer_of, Over, folded_as, spell_under, spell, Sees, look, laid_by, laid, terms_in, looks_from, looks_count, Looks, Opened, Entered}
use Rattle.patch.proofs.Spells.{place_none, Placed, place_some, spell_stands, spell_opens, some_left, within-below, term_read}
use Rattle.patch.proofs.Passing.{passed_all}
use Rattle.patch.proofs.Folds.{beneath, over-plus, fold_nothing, Leaves, fold_leaves, leaves_over, leaves_down, sees_leaves, seen_alive}

-- ---- an entry

inlined_low : (decisions : List ℕ) (x : ℕ) → inlined_number decisions x ≤ x
inlined_low decisions zero = omega arith
inlined_low decisions (suc d) = at (eqb (get_or decisions d 0) 0)
  where
    at : (b : Bool) → cond b 0 (suc d) ≤ suc d
    at true = omega arith
    at false = omega arith

module _ (table decisions : List ℕ) (t : ℕ) where
  abbrev node : ℕ
  node = inlined_number decisions (get_or table (term_of t).wire 0)

  pub laid_none : node ≡ 0 → term_number (record { wire = (term_of t).wire; inner = (term_of t).inner; outer = 0 }) ≡ laid table decisions (term_of t)
  unfolding laid
  laid_none q = sym (ap (laid_by (term_of t)) q)

  pub laid-some : (d : ℕ) → node ≡ suc d → term_number (record { wire = d; inner = (term_of t).inner; outer = 1 }) ≡ laid table decisions (term_of t)
  unfolding laid
  laid-some d q = sym (ap (laid_by (term_of t)) q)

  module _ (nodes : (w : ℕ) → get_or table w 0 < 65536) (e : ℕ) (q : e ≡ laid table decisions (term_of t)) where
    stands : node ≡ 0 → term_of e ≡ record { wire = (term_of t).wire; inner = (term_of t).inner; outer = 0 }
    stands z = ap term_of (q ∙ sym (laid_none z)) ∙ term_there (record { wire = (term_of t).wire; inner = (term_of t).inner; outer = 0 }) (omega arith) (omega arith)

    replaced : (d : ℕ) → node ≡ suc d → term_of e ≡ record { wire = d; inner = (term_of t).inner; outer = 1 }
    replaced d z =
        ap term_of (q ∙ sym (laid-some d z))
        ∙ term_there (record { wire = d; inner = (term_of t).inner; outer = 1 }) (omega (arith, z, inlined_low decisions (get_or table (term_of t).wire 0), nodes (term_of t).wire)) (omega arith)

    pub entry_inner : (term_of e).inner ≡ (term_of t).inner
    entry_inner = go node refl
      where
        go : (x : ℕ) → node ≡ x → (term_of e).inner ≡ (term_of t).inner
        go zero z = ap (λ (u : Term). u.inner) (stands z)
        go (suc d) z = ap (λ (u : Term). u.inner) (replaced d z)

    -- below the mark the wire stands
    pub entry-none : e < 4294967296 → node ≡ 0
    entry-none h = go node refl
      where
        go : (x : ℕ) → node ≡ x → node ≡ 0
        go zero z = z
        go (suc d) z = absurd (omega (arith, h, ap (λ (u : Term). u.outer) (replaced d z)))

    pub entry_wire : e < 4294967296 → (term_of e).wire ≡ (term_of t).wire
    entry_wire h = ap (λ (u : Term). u.wire) (stands (entry-none h))

    pub entry-some : 4294967296 ≤ e → node ≡ suc (term_of e).wire
    entry-some h = go node refl
      where
        go : (x : ℕ) → node ≡ x → node ≡ suc (term_of e).wire
        go zero z = absurd (omega (arith, h, ap (λ (u : Term). u.outer) (stands z)))
        go (suc d) z = z ∙ ap (λ (u : Term). suc u.wire) (sym (replaced d z))

-- the definition that an entry names is opened in its turn; w is the entry's wire
module _ (s : Source) (t e k below : ℕ) (h : Entered s t e k below) (w : ℕ) (is : w ≡ (term_of e).wire) (marked : 4294967296 ≤ e) where
  named : inlined_number s.decisions (get_or s.table (term_of t).wire 0) ≡ suc w
  named = entry-some s.table s.decisions t h.nodes e h.entry marked ∙ ap suc (sym is)

  pub entered_placed : Placed s (term_of t).wire w
  entered_placed = place_some s (term_of t).wire w named

  pub entered_left : 0 < below
  entered_left = some_left s below (wrote [] 0 [] true) (term_of t) w entered_placed h.deep

  pub entered_opens : Opened s w (below - 1)
  entered_opens = record {
    nodes = h.nodes;
    readable = h.readable;
    opens = h.readable (term_of t).wire w entered_placed.node;
    deep = within-below s below (wrote [] 0 [] true) (term_of t) w entered_placed h.deep;
  }

-- what an entry writes below the shifts `over`: n is its shift's number, f what the fold leaves
module _ (s : Source) (t e k below : ℕ) (h : Entered s t e k below) (n : ℕ) (q : n ≡ (term_of e).inner) where
  number : n ≡ (term_of t).inner
  number = q ∙ entry_inner s.table s.decisions t h.nodes e h.entry

  pub entered_valid : valid_number n ≡ true
  entered_valid = subst (λ (x : ℕ). valid_number x ≡ true) (sym number) h.shift

  module _ (over : ℕ) (ov : Over over) (sees : Sees k (inner_of over) (outer_of over)) (f : Answer ℕ) (r : f ≡ folded_as (push_valid (inner_of over) (outer_of over) (shift_at n) 2)) where
    folds : folded_as (push_valid (inner_of over) (outer_of over) (inner_of t) 2) ≡ f
    folds = ap (λ (x : ℕ). folded_as (push_valid (inner_of over) (outer_of over) (shift_at x) 2)) (sym number) ∙ sym r

    pub entered_nothing : f ≡ None → (m : Written) → m ≡ write_down (spell s below) (term_of t).wire (push_valid (inner_of over) (outer_of over) (inner_of t) 2) m
    entered_nothing z m = sym (fold_nothing (spell s below) (term_of t).wire m (push_valid (inner_of over) (outer_of over) (inner_of t) 2) (folds ∙ z))

    hi : Valid (inner_of over)
    hi = valid_at (term_of over).inner ov.1.0

    ho : Valid (outer_of over)
    ho = valid_at (term_of over).outer ov.1.1

    hs : Valid (inner_of t)
    hs = valid_at (term_of t).inner h.shift

    module _ (x : ℕ) (g : f ≡ Some x) where
      leaves : Leaves (inner_of over) (outer_of over) (inner_of t) x
      leaves = fold_leaves (inner_of over) (outer_of over) (inner_of t) x hi ho hs (folds ∙ g)

      pub entered_over : Over x
      entered_over = leaves_over (inner_of over) (outer_of over) (inner_of t) x leaves

      pub entered_sees : Sees (pulled (shift_at n) k) (inner_of x) (outer_of x)
      entered_sees = subst (λ (y : ℕ). Sees (pulled (shift_at y) k) (inner_of x) (outer_of x)) (sym number) (sees_leaves k (inner_of over) (outer_of over) (inner_of t) hi ho hs sees x leaves)

      pub entered_stands : (w : ℕ) → w ≡ (term_of e).wire → e < 4294967296 → (m : Written)
          → put (term_of (x + w)) m ≡ write_down (spell s below) (term_of t).wire (push_valid (inner_of over) (outer_of over) (inner_of t) 2) m
      entered_stands w is low m =
          let z : w ≡ (term_of t).wire = is ∙ entry_wire s.table s.decisions t h.nodes e h.entry low in
          ap (λ (u : Term). put u m) (over-plus x w entered_over.0 (omega (arith, is)))
          ∙ spell_stands s below m (beneath w x) (subst (λ (y : ℕ). in_place s y ≡ none) (sym z) (place_none s (term_of t).wire (entry-none s.table s.decisions t h.nodes e h.entry low)))
          ∙ leaves_down (inner_of over) (outer_of over) (inner_of t) x leaves (spell s below) w (term_of t).wire z m

      pub entered_goes : (w : ℕ) → w ≡ (term_of e).wire → 4294967296 ≤ e → get_or s.alive w 0 < 2 ^ 64 → (m : Written)
          → spell_under (spell s (below - 1)) (inner_of x) (outer_of x) (rhs_in s.old s.new s.rhss w) m ≡ write_down (spell s below) (term_of t).wire (push_valid (inner_of over) (outer_of over) (inner_of t) 2) m
      entered_goes w is marked small m =
          spell_opens s below m (beneath (term_of t).wire x) w (entered_placed s t e k below h w is marked) h.deep
          (seen_alive k (inner_of over) (outer_of over) (inner_of t) hi ho hs sees x leaves s.table s.decisions s.alive (term_of t) (term_of t).wire w refl refl small (named s t e k below h w is marked) h.live)
          ∙ leaves_down (inner_of over) (outer_of over) (inner_of t) x leaves (spell s below) (term_of t).wire (term_of t).wire refl m

-- ---- the masks and the entries of a definition

module _ (s : Source) (d below : ℕ) (op : Opened s d below) (ms es : List ℕ)
    (q : ms ≡ take (looks_count s d) (drop (looks_from s d) s.alive)) (r : es ≡ take (looks_count s d) (drop (looks_from s d + looks_count s d) s.alive)) where
  there : Looks s d
  there = op.opens.looks

  pub masks_length : length ms ≡ length (terms_in s d)
  masks_length =
      ap length q
      ∙ length-take-le (looks_count s d) (drop (looks_from s d) s.alive) (rw (length-drop (looks_from s d) s.alive) (omega (arith, there.ends, there.as_many)))
      ∙ there.as_many

  pub entries_length : length es ≡ length (terms_in s d)
  entries_length =
      ap length r
      ∙ length-take-le (looks_count s d) (drop (looks_from s d + looks_count s d) s.alive) (rw (length-drop (looks_from s d + looks_count s d) s.alive) (omega (arith, there.ends, there.as_many)))
      ∙ there.as_many

  mask_at : (j : ℕ) → j < length (terms_in s d) → get_or ms j 0 ≡ look s.table s.decisions s.alive (term_of (get_or (terms_in s d) j 0))
  mask_at j h =
      ap (λ (l : List ℕ). get_or l j 0) q
      ∙ get_or-take (looks_count s d) (drop (looks_from s d) s.alive) j 0 (omega (arith, h, there.as_many))
      ∙ get_or-drop (looks_from s d) s.alive j 0
      ∙ there.masks j h

  entry_at : (j : ℕ) → j < length (terms_in s d) → get_or es j 0 ≡ laid s.table s.decisions (term_of (get_or (terms_in s d) j 0))
  entry_at j h =
      ap (λ (l : List ℕ). get_or l j 0) r
      ∙ get_or-take (looks_count s d) (drop (looks_from s d + looks_count s d) s.alive) j 0 (omega (arith, h, there.as_many))
      ∙ get_or-drop (looks_from s d + looks_count s d) s.alive j 0
      ∙ ap (λ (x : ℕ). get_or s.alive (looks_from s d + x + j) 0) there.as_many
      ∙ there.entries j h

  valid_in : (j : ℕ) → j < length (terms_in s d) → valid_number (term_of (get_or (terms_in s d) j 0)).inner ≡ true
  valid_in j h = term_read (λ (u : Term). valid_number u.inner ≡ true) s.old s.new s.rhss (terms_in s d) d j refl op.opens.shifts h

  deep_in : (j : ℕ) → j < length (terms_in s d) → Within (in_place s) below (term_of (get_or (terms_in s d) j 0)).wire
  deep_in j h = term_read (λ (u : Term). Within (in_place s) below u.wire) s.old s.new s.rhss (terms_in s d) d j refl op.deep h

  -- an entry of which the mask takes in something
  pub entered_at : (k j : ℕ) → j < length es → (bit_and (get_or ms j 0) k ≡ 0 → ⊥) → Entered s (get_or (terms_in s d) j 0) (get_or es j 0) k below
  entered_at k j b live =
      let h : j < length (terms_in s d) = omega (arith, b, entries_length) in
      record {
        nodes = op.nodes;
        readable = op.readable;
        entry = entry_at j h;
        shift = valid_in j h;
        deep = deep_in j h;
        live = λ z. live (ap (λ (x : ℕ). bit_and x k) (mask_at j h) ∙ z);
      }

  module _ (small : (e : ℕ) → get_or s.alive e 0 < 2 ^ 64) (k : ℕ) (i o : Shift) (hi : Valid i) (ho : Valid o) (sees : Sees k i o) where
    pub passed_to : (from n : ℕ) → from ≤ n → n ≤ length ms → ((j : ℕ) → from ≤ j → j < n → bit_and (get_or ms j 0) k ≡ 0) → (m : Written)
        → spell_under (spell s below) i o (map term_of (drop n (terms_in s d))) m ≡ spell_under (spell s below) i o (map term_of (drop from (terms_in s d))) m
    passed_to from n a b f m =
        let z : n ≡ from + (n - from) = omega arith in
        ap (λ (x : ℕ). spell_under (spell s below) i o (map term_of (drop x (terms_in s d))) m) z
        ∙ passed_all s small below k i o hi ho sees (terms_in s d) valid_in deep_in
        (n - from) from (omega (arith, b, masks_length))
        (λ l x y. sym (ap (λ (w : ℕ). bit_and w k) (mask_at l (omega (arith, y, b, masks_length)))) ∙ f l x (omega (arith, y))) m
