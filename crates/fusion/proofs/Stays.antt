-- The definitions that stay are told by the decisions and the masks. Assumes nothing.
use mathlib.Core.Path.{◌≡◌, refl, sym, ap, ap₂, ◌∙◌}
use Prim.Native.Nat.{ℕ, zero, suc, ◌+◌, ◌≤◌, ◌<◌}
use native.Mathlib.Omega.{arith}
use mathlib.Core.Bool.{Bool, true, false, cond, not, ◌&&◌}
use mathlib.Core.List.{List, [], ◌∷◌, Memᴰ}
use lib.Dec.{eqb}
use lib.ListN.{length, get_or, take, length-map}
use lib.Seq.{length-take-le, get_or-take}
use Rattle.lower.specs.declared.Sizes.{Sizes}
use Rattle.lower.specs.Lists.{keep}
use Rattle.lower.specs.Model.{Definition, System, destinations}
use Rattle.lower.specs.Accepted.{Accepted}
use Rattle.lower.specs.Stores.{Stores, system_of, Placed}
use Rattle.lower.specs.Faults.{memory_fault}
use Rattle.lower.proofs.Laws.{destinations_model}
use Rattle.lower.proofs.Checks.{checked, placed, memory_places}
use Rattle.legraph.specs.Uses.{no_definition, dst_of}
use Rattle.legraph.proofs.Theorem.{count, rhs_same, dst_same, small}
use Rattle.commit_set.specs.Numbers.{state_at}
use Rattle.commit_set.specs.Decision.{Solves}
use Rattle.patch.specs.Patch as P
use Rattle.patch.specs.Patch.{commit_set, stranded, stays}
use Rattle.patch.specs.Handles.{keep_by}
use Rattle.reach.specs.Reach.{ReachIn}
use Rattle.reach.specs.Steps.{Held, held}
use Rattle.reach.proofs.Masking.{decided_of}
use Rattle.reach.proofs.Told.{stranded_by_mask}
use Rattle.apply.specs.Applied.{is_stranded, keep_from}

-- ---- elements kept by their number, or by themselves

module _ (q r : ℕ → Bool) where
  -- the tests agree at each place of ds, which are counted from i on
  abbrev pub Agree : ℕ → List ℕ → Type 0
  Agree i ds = (j : ℕ) → j < length ds → q (i + j) ≡ r (get_or ds j 0)

  agree_next : (i d : ℕ) (ds : List ℕ) → Agree i (d ∷ ds) → Agree (suc i) ds
  agree_next i d ds a j l = ap q (omega arith) ∙ a (suc j) (omega arith)

  agree_here : (i d : ℕ) (ds : List ℕ) → Agree i (d ∷ ds) → q i ≡ r d
  agree_here i d ds a = ap q (omega arith) ∙ a 0 (omega arith)

  pub keep-by-number : (i : ℕ) (ds : List ℕ) → Agree i ds → keep_from q i ds ≡ keep r ds
  unfolding keep_from
  keep-by-number i [] a = refl
  keep-by-number i (d ∷ ds) a =
      ap₂ {C = List ℕ} (λ (b : Bool) (l : List ℕ). cond b (d ∷ l) l) (agree_here i d ds a) (keep-by-number (suc i) ds (agree_next i d ds a))

  pub keep_others : (i : ℕ) (ds hs : List ℕ) → length ds ≡ length hs → Agree i ds → keep_from q i hs ≡ keep_by r ds hs
  unfolding keep_from keep_by
  keep_others i [] [] e a = refl
  keep_others i [] (h ∷ hs) e a = absurd (omega arith)
  keep_others i (d ∷ ds) [] e a = refl
  keep_others i (d ∷ ds) (h ∷ hs) e a =
      ap₂ {C = List ℕ} (λ (b : Bool) (l : List ℕ). cond b (h ∷ l) l) (agree_here i d ds a) (keep_others (suc i) ds hs (omega arith) (agree_next i d ds a))

pub keep-destinations : (q : ℕ → Bool) (ds : List Definition) → destinations (keep (λ (d : Definition). q d.dst) ds) ≡ keep q (destinations ds)
keep-destinations q [] = refl
keep-destinations q (d ∷ ds) = go (q d.dst) (keep-destinations q ds)
  where
    go : (b : Bool) → destinations (keep (λ (d : Definition). q d.dst) ds) ≡ keep q (destinations ds)
        → destinations (cond b (d ∷ keep (λ (d : Definition). q d.dst) ds) (keep (λ (d : Definition). q d.dst) ds)) ≡ cond b (d.dst ∷ keep q (destinations ds)) (keep q (destinations ds))
    go true k = ap (λ (l : List ℕ). d.dst ∷ l) k
    go false k = k

member_at : {A : Type 0} (l : List A) (i : ℕ) (z : A) → i < length l → Memᴰ (get_or l i z) l
member_at [] i z h = absurd (omega arith)
member_at (x ∷ l) zero z h = Memᴰ.head refl
member_at (x ∷ l) (suc i) z h = Memᴰ.tail (member_at l i z (omega arith))

twice : (b : Bool) → not (not b) ≡ b
twice true = refl
twice false = refl

-- ---- a system in stores

module _ (slots : ℕ) (z : Sizes) (s : Stores) (e : memory_fault 8192 z s ≡ 0) (decisions out : List ℕ) (few : slots ≤ 2) (a : Accepted (system_of z s))
    (solves : Solves slots (system_of z s) (state_at decisions)) (r : ReachIn (system_of z s) (commit_set (system_of z s) (state_at decisions)) z.linears s.dsts out) where
  abbrev p : System
  p = system_of z s

  abbrev c : ℕ → Bool
  c = commit_set p (state_at decisions)

  there : Placed z s
  there = placed z s (checked z s (memory_places 8192 z s e))

  -- the definition of the number d
  pub stays_by_mask : (d : ℕ) → d < z.linears → is_stranded decisions out d ≡ stays p c (get_or s.dsts d 0)
  unfolding P.is_stranded
  stays_by_mask d l =
      let k : d < length p.linears = omega (arith, l, count z s e) in
      let w : get_or s.dsts d 0 ≡ dst_of p d = dst_same z s e d k in
      let h : Held = held s.old s.new s.dsts s.rhss decisions in
      let decided : c (dst_of p d) ≡ eqb (get_or decisions d 0) 0 = decided_of h p 4096 a.once (small z s e) (record { rhs_is = rhs_same z s e; dst_is = dst_same z s e }) d k in
      let mask : get_or out d 0 ≡ r.reach (dst_of p d) = r.stands_in d l ∙ ap r.reach w in
      sym (
      ap (stays p c) w
      ∙ stranded_by_mask slots p (state_at decisions) solves few a r.reach r.is_reach (get_or p.linears d no_definition) (member_at p.linears d no_definition k)
      ∙ ap₂ {C = Bool} (λ (x y : Bool). not x && y) decided (twice (eqb (r.reach (dst_of p d)) 0) ∙ ap (λ (n : ℕ). eqb n 0) (sym mask))
      )

  agrees : Agree (is_stranded decisions out) (stays p c) 0 (take z.linears s.dsts)
  agrees j l =
      let b : j < z.linears = omega (arith, l, length-take-le z.linears s.dsts there.dsts_there) in
      ap (is_stranded decisions out) (omega arith) ∙ stays_by_mask j b ∙ ap (stays p c) (sym (get_or-take z.linears s.dsts j 0 b))

  -- THE THEOREMS. The stranded definitions: destinations,
  pub dsts_stay : keep_from (is_stranded decisions out) 0 (take z.linears s.dsts) ≡ keep (stays p c) (take z.linears s.dsts)
  dsts_stay = keep-by-number (is_stranded decisions out) (stays p c) 0 (take z.linears s.dsts) agrees

  -- right sides,
  pub rhss_stay : keep_from (is_stranded decisions out) 0 (take z.linears s.rhss) ≡ keep_by (stays p c) (take z.linears s.dsts) (take z.linears s.rhss)
  rhss_stay =
      keep_others (is_stranded decisions out) (stays p c) 0 (take z.linears s.dsts) (take z.linears s.rhss)
      (length-take-le z.linears s.dsts there.dsts_there ∙ sym (length-take-le z.linears s.rhss there.rhss_there)) agrees

  -- and how many
  pub stay_count : length (keep_from (is_stranded decisions out) 0 (take z.linears s.dsts)) ≡ length (stranded p c)
  unfolding stranded P.is_stranded
  stay_count =
      ap length (dsts_stay ∙ ap (keep (stays p c)) (sym (destinations_model z s there.dsts_there there.rhss_there)) ∙ sym (keep-destinations (stays p c) p.linears))
      ∙ length-map (keep (λ (d : Definition). stays p c d.dst) p.linears) (λ (d : Definition). d.dst)
