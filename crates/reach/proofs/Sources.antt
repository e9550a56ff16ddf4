-- A system in stores as expansion reads it: what is put in the place of a wire is its uncommitted definition, and the store of masks has
-- what it needs. Assumes nothing.
use mathlib.Core.Path.{◌≡◌, refl, sym, ap, ◌∙◌}
use Prim.Native.Nat.{ℕ, zero, suc}
use native.Mathlib.Omega.{arith}
use mathlib.Core.Bool.{Bool, true, cond}
use mathlib.Core.List.{List, []}
use mathlib.Core.Option.{none, some}
use lib.Dec.{eqb}
use lib.ListN.{get_or}
use Rattle.operand.specs.Numbers.{Term, Operand}
use Rattle.lower.specs.declared.Sizes.{Sizes}
use Rattle.lower.specs.Model.{System, definition_of}
use Rattle.lower.specs.Accepted.{Once, Shifted, NoCircle}
use Rattle.lower.specs.Stores.{Stores, system_of}
use Rattle.lower.specs.Faults.{memory_fault}
use Rattle.legraph.proofs.Listing.{table_of, Defined, found_at, found_none}
use Rattle.legraph.proofs.Theorem.{count, rhs_same, dst_same, small}
use Rattle.commit_set.specs.Numbers.{state_at}
use Rattle.patch.specs.Expansion.{below, expand, Fits, Within}
use Rattle.patch.specs.Patch.{commit_set, inlined}
use Rattle.patch.specs.Spelling.{Source, source, place_of, in_place, alive_at, dead, spell}
use Rattle.patch.specs.Steps.{Does}
use Rattle.patch.proofs.Parts.{lost}
use Rattle.patch.proofs.Spelled.{does_spell}
use Rattle.patch.proofs.Definitions.{undefined_clear}
use Rattle.reach.specs.Alive.{alive_wire, IsAlive, AliveIn}
use Rattle.reach.specs.Steps.{Held, held}
use Rattle.reach.proofs.Writing.{inlined_shifts, wire_alive}
use Rattle.reach.proofs.Masking.{Holds, decided_of}
use Rattle.reach.proofs.Dead.{dead_tells}

module _ (z : Sizes) (s : Stores) (e : memory_fault 8192 z s ≡ 0) (once : Once (system_of z s).linears) (decisions out : List ℕ) where
  abbrev p : System
  p = system_of z s

  abbrev h : Held
  h = held s.old s.new s.dsts s.rhss decisions

  abbrev c : ℕ → Bool
  c = commit_set p (state_at decisions)

  abbrev src : Source
  src = source s.old s.new s.rhss (table_of 4096 p) decisions out

  holds : Holds h p
  holds = record { rhs_is = rhs_same z s e; dst_is = dst_same z s e }

  pub place_is : (w : ℕ) → in_place src w ≡ inlined p c w
  unfolding in_place inlined
  place_is w = go (get_or (table_of 4096 p) w 0) refl
    where
      go : (n : ℕ) → get_or (table_of 4096 p) w 0 ≡ n → place_of src n ≡ cond (c w) none (definition_of p.linears w)
      go zero q = sym (undefined_clear p c w (found_none p 4096 once (small z s e) w q))
      go (suc d) q =
          let f : Defined p w d = found_at p 4096 once (small z s e) w d q in
          let k : c w ≡ eqb (get_or decisions d 0) 0 = ap c (sym f.wire) ∙ decided_of h p 4096 once (small z s e) holds d f.under in
          rw (k, f.right, rhs_same z s e d f.under)

  pub alive_held : AliveIn p c z.linears s.dsts out → (w : ℕ) (rhs : Operand) → in_place src w ≡ some rhs → alive_at src (get_or (table_of 4096 p) w 0) ≡ alive_wire p c w
  unfolding in_place
  alive_held a w rhs k = go (get_or (table_of 4096 p) w 0) refl k
    where
      go : (n : ℕ) → get_or (table_of 4096 p) w 0 ≡ n → place_of src n ≡ some rhs → alive_at src n ≡ alive_wire p c w
      go zero q l = absurd (lost l refl)
      go (suc d) q l =
          let f : Defined p w d = found_at p 4096 once (small z s e) w d q in
          a d (omega (arith, f.under, count z s e)) ∙ ap (alive_wire p c) (dst_same z s e d f.under ∙ f.wire)

  -- THE THEOREM. With the masks of the definitions, what is passed over expands to nothing.
  module _ (shifted : Shifted p) (no_circle : NoCircle p) (a : AliveIn p c z.linears s.dsts out) where
    masks : IsAlive (in_place src) (alive_wire p c)
    masks = record {
      alive_stands = λ w k. (wire_alive p c no_circle).alive_stands w (sym (place_is w) ∙ k);
      alive_opens = λ w rhs k. (wire_alive p c no_circle).alive_opens w rhs (sym (place_is w) ∙ k);
    }

    pub source_tells : (n : ℕ) (t : Term) (rhs : Operand) → in_place src t.wire ≡ some rhs → Within (in_place src) (suc n) t.wire → Fits (in_place src) (suc n) t → dead src t ≡ true
        → below (expand (in_place src) n) t rhs ≡ []
    source_tells = dead_tells src (λ w rhs k. inlined_shifts p c shifted w rhs (sym (place_is w) ∙ k)) (alive_wire p c) masks (alive_held a)

    -- so what the program writes is the expansion
    pub source_spells : (n : ℕ) (t : Term) → Within (in_place src) n t.wire → Fits (in_place src) n t → Does (spell src n t) (expand (in_place src) n t) []
    source_spells = does_spell src source_tells
