-- Laws of the table of definitions and of the lists of uses, one step at a time. Assumes nothing.
use mathlib.Core.Path.{◌≡◌, refl, ap, ◌∙◌}
use Prim.Native.Nat.{ℕ, suc, ◌+◌, ◌-◌, ◌*◌, ◌≤◌, ◌<◌}
use native.Mathlib.Omega.{arith}
use mathlib.Core.Bool.{Bool, true, false}
use mathlib.Core.List.{List, [], ◌∷◌, ◌++◌, map}
use lib.ListN.{length, get_or, set, take, drop}
use lib.Seq.{length-take-le}
use borrow.Author.Tests.{lt-ltb, le-ltb}
use Rattle.operand.specs.Numbers.{Operand, term_of, operand_of}
use Rattle.lower.specs.declared.Sizes.{Sizes}
use Rattle.lower.specs.Lists.{All}
use Rattle.lower.specs.Stores.{Stores, system_of, row_handles, Stands, Placed}
use Rattle.lower.specs.Faults.{memory_fault}
use Rattle.lower.proofs.Checks.{checked, stand, memory_places, memory_others, memory_definitions}
use Rattle.lower.proofs.Laws.{map-join, rows_model, definitions_model}
use Rattle.lower.proofs.Firsts.{drop_back}
use Rattle.legraph.specs.Tables.{numbered, use_number, Graph, graph, push, note_at, note, note_terms, user_number, note_from, note_all}

-- one definition, term or operand more, for a loop from the last one
pub numbered_back : (l ds : List ℕ) (i : ℕ) → 0 < i → i ≤ length ds → numbered (i - 1) (drop (i - 1) ds) l ≡ set (numbered i (drop i ds) l) (get_or ds (i - 1) 0) i
unfolding numbered
numbered_back l ds i p h = rw (drop_back ds i 0 p h) (ap (λ (j : ℕ). set (numbered j (drop i ds) l) (get_or ds (i - 1) 0) j) (omega arith))

pub push_full : (user shift d : ℕ) (g : Graph) → length g.uses ≤ g.count → g ≡ push user shift d g
unfolding push
push_full user shift d g h = rw (le-ltb g.count (length g.uses) h)

pub push_room : (user shift d : ℕ) (first uses : List ℕ) (n : ℕ) → n < length uses
    → graph (set first d (n + 1)) (set uses n (use_number user shift (get_or first d 0))) (n + 1) ≡ push user shift d (graph first uses n)
unfolding push
push_room user shift d first uses n h = rw (lt-ltb n (length uses) h) (ap (λ (m : ℕ). graph (set first d m) (set uses n (use_number user shift (get_or first d 0))) m) (omega arith))

pub note_opaque : (user shift n : ℕ) (g : Graph) → n ≡ 0 → g ≡ note_at user shift n g
unfolding note_at
note_opaque user shift n g e = rw e

pub note_defined : (user shift n d : ℕ) (g : Graph) → n ≡ suc d → push user shift d g ≡ note_at user shift n g
unfolding note_at
note_defined user shift n d g e = rw e

pub terms_back : (table : List ℕ) (user : ℕ) (ts : List ℕ) (i : ℕ) (g : Graph) → 0 < i → i ≤ length ts
    → note_terms table user (map term_of (drop (i - 1) ts)) g ≡ note table user (term_of (get_or ts (i - 1) 0)) (note_terms table user (map term_of (drop i ts)) g)
unfolding note_terms
terms_back table user ts i g p h = rw (drop_back ts i 0 p h)

pub operands_back : (f : ℕ → Operand) (table : List ℕ) (linear : Bool) (hs : List ℕ) (i : ℕ) (g : Graph) → 0 < i → i ≤ length hs
    → note_from table linear (i - 1) (map f (drop (i - 1) hs)) g
    ≡ note_terms table (user_number linear (i - 1)) (f (get_or hs (i - 1) 0)) (note_from table linear i (map f (drop i hs)) g)
unfolding note_from
operands_back f table linear hs i g p h = rw (drop_back hs i 0 p h)
    (ap (λ (j : ℕ). note_terms table (user_number linear (i - 1)) (f (get_or hs (i - 1) 0)) (note_from table linear j (map f (drop i hs)) g)) (omega arith))

-- users of rows are all one, so their numbers do not count
rows_anywhere : (table : List ℕ) (k j : ℕ) (os : List Operand) (g : Graph) → note_from table false k os g ≡ note_from table false j os g
unfolding note_from
rows_anywhere table k j [] g = refl
rows_anywhere table k j (o ∷ os) g = ap (note_terms table 0 o) (rows_anywhere table (suc k) (suc j) os g)

pub rows_append : (table : List ℕ) (a b : List Operand) (g : Graph) → note_from table false 0 (a ++ b) g ≡ note_from table false 0 a (note_from table false 0 b g)
unfolding note_from
rows_append table [] b g = refl
rows_append table (o ∷ a) b g =
    ap (note_terms table 0 o)
    (rows_anywhere table 1 0 (a ++ b) g ∙ rows_append table a b g ∙ rows_anywhere table 0 1 a (note_from table false 0 b g))

-- the five lists, the last one first
pub all_noted : (table : List ℕ) (z : Sizes) (s : Stores) (g : Graph) → Placed z s
    → note_from table false 0 (map (operand_of s.old s.new) (take (3 * z.ands) s.ands))
    (note_from table false 0 (map (operand_of s.old s.new) (take (4 * z.imuls) s.imuls))
    (note_from table false 0 (map (operand_of s.old s.new) (take (6 * z.bmuls) s.bmuls))
    (note_from table false 0 (map (operand_of s.old s.new) (take z.zeros s.zeros))
    (note_from table true 0 (map (operand_of s.old s.new) (take z.linears s.rhss)) g))))
    ≡ note_all table (system_of z s) g
unfolding note_all row_handles
all_noted table z s g p =
    let f : ℕ → Operand = operand_of s.old s.new in
    let a : List ℕ = take (3 * z.ands) s.ands in
    let i : List ℕ = take (4 * z.imuls) s.imuls in
    let b : List ℕ = take (6 * z.bmuls) s.bmuls in
    let o : List ℕ = take z.zeros s.zeros in
    rw (
      rows_model z s,
      definitions_model z s p.dsts_there p.rhss_there,
      map-join f a (i ++ (b ++ o)),
      map-join f i (b ++ o),
      map-join f b o,
      rows_append table (map f a) (map f i ++ (map f b ++ map f o)),
      rows_append table (map f i) (map f b ++ map f o),
      rows_append table (map f b) (map f o),
    )

-- what the call for each list asks
abbrev pub There : Stores → List ℕ → Type 0
There s hs = (length hs < 65536) × All (Stands s.old s.new) hs

pub record AllThere (z : Sizes) (s : Stores) : Type 0 where
  pub ands_part : There s (take (3 * z.ands) s.ands)
  pub imuls_part : There s (take (4 * z.imuls) s.imuls)
  pub bmuls_part : There s (take (6 * z.bmuls) s.bmuls)
  pub zeros_part : There s (take z.zeros s.zeros)
  pub rhss_part : There s (take z.linears s.rhss)

pub all_there : (z : Sizes) (s : Stores) → memory_fault 8192 z s ≡ 0 → AllThere z s
all_there z s e =
    let y = checked z s (memory_places 8192 z s e) in
    let others = memory_others 8192 z s e in
    let few = memory_definitions 8192 z s e in
    record {
      ands_part = (omega (arith, others, length-take-le _ _ y.ands_in), stand z s y _ y.ands_sound);
      imuls_part = (omega (arith, others, length-take-le _ _ y.imuls_in), stand z s y _ y.imuls_sound);
      bmuls_part = (omega (arith, others, length-take-le _ _ y.bmuls_in), stand z s y _ y.bmuls_sound);
      zeros_part = (omega (arith, others, length-take-le _ _ y.zeros_in), stand z s y _ y.zeros_sound);
      rhss_part = (omega (arith, few, length-take-le _ _ y.rhss_in), stand z s y _ y.rhss_sound);
    }
