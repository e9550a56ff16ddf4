-- What the program writes is the expansion, where what it passes over expands to nothing.
-- Assumes nothing.
use mathlib.Core.Path.{◌≡◌, refl, sym, ap, ◌∙◌, subst}
use Prim.Native.Nat.{ℕ, zero, suc}
use mathlib.Core.Bool.{Bool, true, false, cond}
use mathlib.Core.List.{List, [], ◌∷◌}
use mathlib.Core.Option.{Option, none, some}
use Rattle.shift.specs.Shifts.{shift_at}
use Rattle.operand.specs.declared.PushInner.{PushInner}
use Rattle.operand.specs.declared.PushInner.TheVariants.{Seq, Zero, OverBudget}
use Rattle.operand.specs.Numbers.{Term, Operand}
use Rattle.lower.specs.Lists.{All, done, more}
use Rattle.patch.specs.Expansion.{folded, descend, DescendFits, below, BelowFits, expand_by, FitsBy, expand, Fits, Within}
use Rattle.patch.specs.Steps.{Written, put, write_down, Spilt, Does}
use Rattle.patch.specs.Spelling.{Source, in_place, dead, spell_under, spell_by, spell}
use Rattle.patch.proofs.Writing.{does_nothing, does_put, does_both}

does_as : (f g : Written → Written) (ts : List Term) (ws : List ℕ) → ((m : Written) → f m ≡ g m) → Does g ts ws → Does f ts ws
does_as f g ts ws e h =
    record {
      stays = λ m x. e m ∙ h.stays m x;
      fits = λ m x y. e m ∙ h.fits m x y;
      over = λ m x y z. subst (Spilt m.new m.count ts) (sym (e m)) (h.over m x y z);
    }

-- nothing is done once a term found no room
does_guarded : (f : Written → Written) (ts : List Term) (ws : List ℕ) → Does f ts ws → Does (λ m. cond m.full m (f m)) ts ws
does_guarded f ts ws h = does_as (λ m. cond m.full m (f m)) f ts ws (λ m. go m m.full refl) h
  where
    go : (m : Written) (b : Bool) → m.full ≡ b → cond m.full m (f m) ≡ f m
    go m true e = ap (λ (x : Bool). cond x m (f m)) e ∙ sym (h.stays m e)
    go m false e = ap (λ (x : Bool). cond x m (f m)) e

module _ (s : Source) (n : ℕ) (t : Term) (does : (u : Term) → Within (in_place s) n u.wire → Fits (in_place s) n u → Does (spell s n u) (expand (in_place s) n u) []) where
  does_fold : (w : ℕ) → Within (in_place s) n w → (x : PushInner) → DescendFits (Fits (in_place s) n) w x → Does (write_down (spell s n) w x) (descend (expand (in_place s) n) w x) []
  does_fold w k (Seq i o) h = does _ k h
  does_fold w k Zero h = does_nothing
  does_fold w k OverBudget h = absurd h

  does_under : (us : Operand) → All (λ (u : Term). Within (in_place s) n u.wire) us → BelowFits (Fits (in_place s) n) t us → Does (spell_under (spell s n) (shift_at t.inner) (shift_at t.outer) us) (below (expand (in_place s) n) t us) []
  unfolding spell_under
  does_under [] done h = does_nothing
  does_under (u ∷ us) (more k ks) (more h hs) =
      does_both (write_down (spell s n) u.wire (folded t u)) (spell_under (spell s n) (shift_at t.inner) (shift_at t.outer) us)
      (descend (expand (in_place s) n) u.wire (folded t u)) (below (expand (in_place s) n) t us) [] []
      (does_fold u.wire k (folded t u) h) (does_under us ks hs)

-- what is dead expands to nothing, where the bound is no less than the depth
abbrev pub Tells : Source → Type 0
Tells s = (n : ℕ) (t : Term) (rhs : Operand) → in_place s t.wire ≡ some rhs → Within (in_place s) (suc n) t.wire → Fits (in_place s) (suc n) t → dead s t ≡ true → below (expand (in_place s) n) t rhs ≡ []

module _ (s : Source) (tells : Tells s) (n : ℕ) (ih : (u : Term) → Within (in_place s) n u.wire → Fits (in_place s) n u → Does (spell s n u) (expand (in_place s) n u) []) (t : Term) (within : Within (in_place s) (suc n) t.wire) where
  passed : (rhs : Operand) → Does (spell_under (spell s n) (shift_at t.inner) (shift_at t.outer) rhs) (below (expand (in_place s) n) t rhs) [] → (b : Bool) → (b ≡ true → below (expand (in_place s) n) t rhs ≡ [])
      → Does (λ m. cond b m (spell_under (spell s n) (shift_at t.inner) (shift_at t.outer) rhs m)) (below (expand (in_place s) n) t rhs) []
  passed rhs d true k = subst (λ (ts : List Term). Does (λ m. m) ts []) (sym (k refl)) does_nothing
  passed rhs d false k = d

  does_opened : (o : Option Operand) → in_place s t.wire ≡ o → FitsBy (Fits (in_place s) n) t o → Does (λ m. cond m.full m (spell_by s (spell s n) t o m)) (expand_by (expand (in_place s) n) t o) []
  unfolding spell_by
  does_opened none e h = does_guarded (put t) (t ∷ []) [] (does_put t)
  does_opened (some rhs) e h =
      does_guarded (λ m. cond (dead s t) m (spell_under (spell s n) (shift_at t.inner) (shift_at t.outer) rhs m)) (below (expand (in_place s) n) t rhs) []
      (passed rhs (does_under s n t ih rhs (within rhs e) h.1) (dead s t) (tells n t rhs e within (subst (FitsBy (Fits (in_place s) n) t) (sym e) h)))

module _ (s : Source) (tells : Tells s) where
  pub does_spell : (n : ℕ) (t : Term) → Within (in_place s) n t.wire → Fits (in_place s) n t → Does (spell s n t) (expand (in_place s) n t) []
  unfolding spell
  does_spell zero t k h = does_guarded (put t) (t ∷ []) [] (does_put t)
  does_spell (suc n) t k h = does_opened s tells n (does_spell n) t k (in_place s t.wire) refl h
