-- The table of definitions has at each wire the number of its definition.
-- Assumes nothing.
use mathlib.Core.Path.{◌≡◌, refl, sym, ap, ◌∙◌}
use Prim.Native.Nat.{ℕ, zero, suc, ◌+◌, ◌-◌, ◌≤◌, ◌<◌}
use mathlib.Core.List.{List, [], ◌∷◌}
use mathlib.Core.Bool.{Bool, true, false, cond, ◌||◌}
use mathlib.Core.Option.{none, some}
use native.Mathlib.Omega.{arith}
use lib.ListN.{length, get_or, set, replicate, length-set, length-replicate}
use lib.Seq.{get_or-set_same, get_or-set_other}
use lib.Dec.{eqb}
use borrow.Author.Tests.{eqb-true, eqb-false, eq-eqb, ne_eqb}
use Rattle.lower.specs.Lists.{All, more}
use Rattle.lower.specs.Model.{Definition, destinations, defines, definition_of}
use Rattle.lower.specs.Accepted.{Once}
use Rattle.legraph.specs.Uses.{no_definition}
use Rattle.legraph.specs.Tables.{numbered, number_in}
use Rattle.legraph.proofs.Cases.{clash, zero_at}

pub numbered-length : (k : ℕ) (ds l : List ℕ) → length (numbered k ds l) ≡ length l
unfolding numbered
numbered-length k [] l = refl
numbered-length k (d ∷ ds) l = length-set (numbered (suc k) ds l) d (suc k) ∙ numbered-length (suc k) ds l

pub table_right : (m k : ℕ) (ds : List ℕ) → All (λ (d : ℕ). d < m) ds → (w : ℕ) → get_or (numbered k ds (replicate m 0)) w 0 ≡ number_in k ds w
unfolding numbered number_in
table_right m k [] a w = zero_at m w
table_right m k (d ∷ ds) (more h a) w = go (eqb w d) refl (table_right m (suc k) ds a w)
  where
    go : (b : Bool) → eqb w d ≡ b → get_or (numbered (suc k) ds (replicate m 0)) w 0 ≡ number_in (suc k) ds w → get_or (set (numbered (suc k) ds (replicate m 0)) d (suc k)) w 0 ≡ cond b (suc k) (number_in (suc k) ds w)
    go true e r =
        ap (λ (x : ℕ). get_or (set (numbered (suc k) ds (replicate m 0)) d (suc k)) x 0) (eqb-true w d e)
        ∙ get_or-set_same (numbered (suc k) ds (replicate m 0)) d (suc k) 0 (omega (arith, h, numbered-length (suc k) ds (replicate m 0), length-replicate {A = ℕ} m 0))
    go false e r = get_or-set_other (numbered (suc k) ds (replicate m 0)) d w (suc k) 0 (eqb-false w d e) ∙ r

-- the number found is that of a definition of the wire
pub record Numbered (k : ℕ) (ds : List Definition) (w j : ℕ) : Type 0 where
  pub from : k ≤ j
  pub under : j < k + length ds
  pub wire : (get_or ds (j - k) no_definition).dst ≡ w
  pub right : definition_of ds w ≡ some (get_or ds (j - k) no_definition).rhs

pub number_there : (k : ℕ) (ds : List Definition) (w j : ℕ) → number_in k (destinations ds) w ≡ suc j → Numbered k ds w j
unfolding number_in
number_there k [] w j e = absurd (omega arith)
number_there k (d ∷ ds) w j e = go (eqb w d.dst) refl (λ h. number_there (suc k) ds w j h) e
  where
    later : Numbered (suc k) ds w j → eqb w d.dst ≡ false → Numbered k (d ∷ ds) w j
    later r q =
        let up : j - k ≡ suc (j - suc k) = omega (arith, r.from) in
        record {
          from = omega (arith, r.from);
          under = omega (arith, r.under);
          wire = rw up r.wire;
          right = rw (q, up) r.right;
        }

    go : (b : Bool) → eqb w d.dst ≡ b → (number_in (suc k) (destinations ds) w ≡ suc j → Numbered (suc k) ds w j) → cond b (suc k) (number_in (suc k) (destinations ds) w) ≡ suc j → Numbered k (d ∷ ds) w j
    go true q r h =
        let here : j - k ≡ 0 = omega (arith, h) in
        record { from = omega (arith, h); under = omega (arith, h); wire = rw here (sym (eqb-true w d.dst q)); right = rw (q, here) }
    go false q r h = later (r h) q

pub number-none : (k : ℕ) (ds : List Definition) (w : ℕ) → number_in k (destinations ds) w ≡ 0 → definition_of ds w ≡ none
unfolding number_in
number-none k [] w e = refl
number-none k (d ∷ ds) w e = go (eqb w d.dst) (λ h. number-none (suc k) ds w h) e
  where
    go : (b : Bool) → (number_in (suc k) (destinations ds) w ≡ 0 → definition_of ds w ≡ none) → cond b (suc k) (number_in (suc k) (destinations ds) w) ≡ 0 → cond b (some d.rhs) (definition_of ds w) ≡ none
    go true r h = absurd (omega (arith, h))
    go false r h = r h

-- where no wire is defined twice, each definition is found by its wire
other : (ds : List Definition) (w i : ℕ) → defines ds w ≡ false → i < length ds → (get_or ds i no_definition).dst ≡ w → ⊥
other [] w i f l e = omega arith
other (d ∷ ds) w zero f l e = clash (ap (λ (b : Bool). b || defines ds w) (eq-eqb w d.dst (sym e))) f
other (d ∷ ds) w (suc i) f l e = other ds w i (or_second (eqb w d.dst) (defines ds w) f) (omega arith) e
  where
    or_second : (a b : Bool) → (a || b) ≡ false → b ≡ false
    or_second true b h = clash refl h
    or_second false b h = h

pub number_once : (k : ℕ) (ds : List Definition) → Once ds → (i : ℕ) → i < length ds → number_in k (destinations ds) (get_or ds i no_definition).dst ≡ suc (k + i)
unfolding number_in
number_once k [] o i h = absurd (omega arith)
number_once k (d ∷ ds) o zero h = rw (eq-eqb d.dst d.dst refl) (omega arith)
number_once k (d ∷ ds) o (suc i) h =
    rw (ne_eqb (get_or ds i no_definition).dst d.dst (λ q. other ds d.dst i o.0 (omega arith) q))
    (number_once (suc k) ds o.1 i (omega arith) ∙ omega arith)
