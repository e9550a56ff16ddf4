-- Demand 3 of what fusing leaves in the lent stores. Assumes nothing.
use mathlib.Core.Path.{◌≡◌, refl, sym, ap, ap₂, ◌∙◌, subst, fun_ext}
use mathlib.Core.Logic.{◌↔◌}
use Prim.Native.Nat.{ℕ, zero, suc, ◌+◌, ◌≤◌, ◌<◌}
use native.Mathlib.Omega.{arith}
use native.Mathlib.Decide.{dec_lt}
use mathlib.Core.Bool.{Bool, true, false, cond, not, ◌&&◌}
use mathlib.Core.List.{List, map, Memᴰ}
use lib.Dec.{eqb}
use lib.ListN.{length, get_or, take, length-map, get_or-eq_default}
use lib.Seq.{take_at, drop_at}
use borrow.Author.Tests.{eq-eqb}
use Rattle.word.specs.Answers as T
use Rattle.word.specs.Answers.{Told, given}
use Rattle.lower.specs.declared.Sizes.{Sizes}
use Rattle.lower.specs.Lists.{All, some_of}
use Rattle.lower.specs.Model.{Definition, System, destinations}
use Rattle.lower.specs.Accepted.{NoCircle, Accepted}
use Rattle.lower.specs.Tables.{marked}
use Rattle.lower.specs.Values.{word_of, Satisfies}
use Rattle.lower.specs.Stores.{Stores, system_of}
use Rattle.lower.specs.Faults.{fault_of}
use Rattle.legraph.specs.Tables.{number_in}
use Rattle.legraph.proofs.Numbering.{number_there}
use Rattle.commit_set.specs.declared.Decision.{Decision}
use Rattle.commit_set.specs.Answer.{decision_fault}
use Rattle.commit_set.proofs.Answers.{memory_none, definition_none, slots_few}
use Rattle.commit_set.proofs.Theorem.{decided_accepted}
use Rattle.patch.specs.Lists.{up_to}
use Rattle.patch.specs.Patch.{commit_set, commits, all_met, is_stranded, stranded, rebuild, patched, live}
use Rattle.patch.proofs.Parts.{clash, all_kept, all_members}
use Rattle.patch.proofs.Definitions.{of_looked_up}
use Rattle.patch.proofs.Unique.{set_undefined}
use Rattle.undo.specs.FillBack.{Assignment, FilledBack, filled_list}
use Rattle.undo.specs.Demand3.{MentionsNone, Demand3}
use Rattle.undo.proofs.Listed.{up_to-length, tabled_at}
use Rattle.undo.proofs.Theorem.{theorem}
use Rattle.fusion.specs.declared.Counts.{Counts}
use Rattle.std.specs.Prelude.{Ok}
use Rattle.fusion.specs.Left.{Lent, input, output, fused, flags_of, counts_of, sizes_after, leaves}
use Rattle.fusion.specs.Answer.{told_fused, Patches, Fuses, refused, circular, short, patches}
use Rattle.fusion.proofs.System.{take_front, room}
use Rattle.fill_back.specs.Filling as B
use Rattle.fill_back.specs.Filling.{flagged, lengths_right, FillsIs}
use Rattle.demand.specs.OnStores.{after, left, flags_left, set_aside, UndoneOnStores}

-- ---- what is told

-- value i of an answer
abbrev at : ℕ → Told → ℕ
at i (T.refused n) = 0
at i (T.refused_at n p) = 0
at i (given vs) = get_or vs i 0

abbrev is_given : Told → Bool
is_given (T.refused n) = false
is_given (T.refused_at n p) = false
is_given (given vs) = true

told_given : (k : Counts) → is_given (told_fused (Ok k)) ≡ true
unfolding told_fused
told_given k = refl

module _ (k m : Counts) (e : told_fused (Ok m) ≡ told_fused (Ok k)) where
  told_stranded : k.stranded ≡ m.stranded
  unfolding told_fused
  told_stranded = sym (ap (at 1) e)

  told-committed : k.committed ≡ m.committed
  unfolding told_fused
  told-committed = sym (ap (at 2) e)

module _ (p : System) (c : ℕ → Bool) where
  counts_stranded : (counts_of p c).stranded ≡ length (stranded p c)
  unfolding counts_of
  counts_stranded = refl

  counts_committed : (counts_of p c).committed ≡ length (commits p c)
  unfolding counts_of
  counts_committed = refl

-- ---- the committed wires, and their flags

-- no wire past the count is committed
past_set : (p : System) (st : ℕ → Decision) → Accepted p → (w : ℕ) → p.wires ≤ w → commit_set p st w ≡ false
past_set p st acc w h = go (number_in 0 (destinations p.linears) w) refl
  where
    go : (n : ℕ) → number_in 0 (destinations p.linears) w ≡ n → commit_set p st w ≡ false
    go zero e = set_undefined p st w e
    go (suc d) e =
        let b : w < p.wires = of_looked_up {P = λ (d : Definition). d.dst < p.wires} acc.named.destinations_named w _ (number_there 0 p.linears w d e).right in
        absurd (omega (arith, b, h))

abbrev with_definitions : System → List Definition → System
with_definitions q ds = record { wires = q.wires; ands = q.ands; imuls = q.imuls; bmuls = q.bmuls; zeros = q.zeros; linears = ds }

module _ (p : System) (c : ℕ → Bool) where
  flags_length : length (flags_of p c) ≡ p.wires
  unfolding flags_of
  flags_length = length-map (up_to p.wires) _ ∙ up_to-length p.wires

  -- the flags that are written stand for the set
  flags_set : ((w : ℕ) → p.wires ≤ w → c w ≡ false) → flagged (flags_of p c) ≡ c
  unfolding flags_of
  flags_set past = fun_ext (λ w. step w (dec_lt w p.wires))
    where
      bit : (b : Bool) → not (eqb (cond b 1 0) 0) ≡ b
      bit true = refl
      bit false = refl

      step : (w : ℕ) → Dec (w < p.wires) → marked (flags_of p c) w ≡ c w
      step w (yes h) = ap (λ (n : ℕ). not (eqb n 0)) (tabled_at (λ (i : ℕ). cond (c i) 1 0) 0 p.wires w h) ∙ bit (c w)
      step w (no h) =
          ap (λ (n : ℕ). not (eqb n 0)) (get_or-eq_default (flags_of p c) 0 (omega (arith, flags_length, h)))
          ∙ sym (past w (omega (arith, h)))

  -- the stranded definitions stand first
  aside_live : (n : ℕ) → n ≡ length (stranded p c) → set_aside n (patched p c) ≡ live p c
  unfolding set_aside patched live
  aside_live n e = ap (with_definitions (patched p c)) (drop_at (stranded p c) (map (rebuild p c) (commits p c)) n (sym e))

  -- they are definitions of the system, and not committed
  stranded_original : All (λ (d : Definition). Memᴰ d p.linears × (c d.dst ≡ false)) (stranded p c)
  unfolding stranded is_stranded
  stranded_original =
      all_kept (is_stranded p c) (all_members p.linears (λ d m h. (m, first (c d.dst) (not (some_of (eqb d.dst) (all_met p c))) h)))
    where
      first : (a b : Bool) → (not a && b) ≡ true → a ≡ false
      first true b h = sym h
      first false b h = refl

  aside_original : (n : ℕ) → n ≡ length (stranded p c)
      → All (λ (d : Definition). Memᴰ d p.linears × (c d.dst ≡ false)) (take n (patched p c).linears)
  unfolding patched
  aside_original n e = rw (take_at (stranded p c) (map (rebuild p c) (commits p c)) n (sym e)) stranded_original

-- ---- filling back

module _ (z : Sizes) (s : Stores) (flags ws ws' : List ℕ) where
  -- filling back that answers 0 has filled
  pub record Filled : Type 0 where
    pub no_fault : fault_of 8192 z s ≡ 0
    pub no_circle : NoCircle (system_of z s)
    pub sized : lengths_right z flags ws ≡ true
    pub as_long : length ws' ≡ length ws
    pub back : FilledBack (system_of z s) (flagged flags) ws ws'

  pub fills_back : (r : ℕ) → FillsIs z s flags ws ws' r → r ≡ 0 → Filled
  fills_back r (B.refused e h k) q = absurd (h q)
  fills_back r (B.circular e w c k) q = absurd (omega (arith, q))
  fills_back r (B.sized e n h k) q = absurd (omega (arith, q))
  fills_back r (B.filled e n h k b) q = record { no_fault = e; no_circle = n; sized = h; as_long = k; back = b }

  sized_right : length flags ≡ z.wires → length ws ≡ z.wires → lengths_right z flags ws ≡ true
  unfolding lengths_right
  sized_right a b = rw (eq-eqb (length flags) z.wires a, eq-eqb (length ws) z.wires b)

  never_refuses : fault_of 8192 z s ≡ 0 → NoCircle (system_of z s) → lengths_right z flags ws ≡ true → (r : ℕ) → FillsIs z s flags ws ws' r → r ≡ 0
  never_refuses f n a r (B.refused e h k) = absurd (h (e ∙ f))
  never_refuses f n a r (B.circular e w c k) = absurd (n w c)
  never_refuses f n a r (B.sized e m h k) = absurd (clash a h)
  never_refuses f n a r (B.filled e m h k b) = refl

-- ---- the theorem

module _ (slots : ℕ) (z : Sizes) (l l' : Lent) (st : ℕ → Decision) (f : decision_fault slots z (input l) ≡ 0) (none : NoCircle (fused z l)) (y : Patches slots z l l' st) where
  abbrev p : System
  p = fused z l

  abbrev c : ℕ → Bool
  c = commit_set p st

  abbrev F : List ℕ
  F = flags_left z l'

  acc : Accepted p
  acc = decided_accepted slots z (input l) f none

  no_fault : fault_of 8192 z (input l) ≡ 0
  unfolding fault_of
  no_fault = rw (memory_none slots z (input l) f, definition_none slots z (input l) f)

  wires_are : p.wires ≡ z.wires
  unfolding system_of
  wires_are = refl

  flags_left_lem : F ≡ flags_of p c
  unfolding leaves
  flags_left_lem =
      ap (λ (m : Lent). take z.wires m.flags) y.left
      ∙ take_front (flags_of p c) l.flags z.wires (flags_length p c ∙ wires_are) (omega (arith, (room p c l y.fits).flags_long, wires_are))

  set-left : c ≡ flagged F
  set-left = sym (ap flagged flags_left_lem ∙ flags_set p c (past_set p st acc))

  module _ (k : Counts) (s : k.stranded ≡ length (stranded p c)) (m : k.committed ≡ length (commits p c)) where
    sizes-left : after z k ≡ sizes_after p c z
    unfolding after sizes_after
    sizes-left = ap₂ (λ (a b : ℕ). record { wires = z.wires; ands = z.ands; imuls = z.imuls; bmuls = z.bmuls; zeros = z.zeros; linears = a + b }) s m

    system_left : left z l' k ≡ patched p (flagged F)
    system_left = ap (λ (a : Sizes). system_of a (output l')) sizes-left ∙ y.system ∙ ap (patched p) set-left

    standing_left : set_aside k.stranded (left z l' k) ≡ live p (flagged F)
    standing_left = ap (set_aside k.stranded) system_left ∙ aside_live p (flagged F) k.stranded (s ∙ ap (λ (e : ℕ → Bool). length (stranded p e)) set-left)

    aside_left : All (λ (d : Definition). Memᴰ d p.linears × (flagged F d.dst ≡ false)) (take k.stranded (left z l' k).linears)
    aside_left = rw system_left (aside_original p (flagged F) k.stranded (s ∙ ap (λ (e : ℕ → Bool). length (stranded p e)) set-left))

    sizes-right : (ws : List ℕ) → Assignment p ws → lengths_right z F ws ≡ true
    sizes-right ws a = sized_right z (input l) F ws ws (ap length flags_left_lem ∙ flags_length p c ∙ wires_are) (a.as_long ∙ wires_are)

    module _ (Imul Bmul : List ℕ → Type 0) where
      model : Demand3 p (flagged F) Imul Bmul
      model = subst (λ (e : ℕ → Bool). Demand3 p e Imul Bmul) set-left (theorem slots (slots_few slots z (input l) f) p acc st y.solves Imul Bmul)

      one : (ws ws' : List ℕ) → Assignment p ws → FillsIs z (input l) F ws ws' 0 → ws' ≡ filled_list p (flagged F) ws
      one ws ws' a h = let b = fills_back z (input l) F ws ws' 0 h refl in model.one_filling ws ws' a (b.as_long ∙ a.as_long) b.back

      abbrev Holds : List ℕ → System → Type 0
      Holds ws q = Satisfies Imul Bmul (word_of ws) q

      on_stores : UndoneOnStores z l l' k Imul Bmul
      on_stores =
          record {
            vanished = subst (MentionsNone p (flagged F)) (sym standing_left) model.vanished;
            aside = aside_left;
            answered = λ ws ws' r a h. never_refuses z (input l) F ws ws' no_fault none (sizes-right ws a) r h;
            fills = λ ws a. B.filled no_fault none (sizes-right ws a) ((model.fills ws a).0.as_long ∙ sym a.as_long) (model.fills ws a).1;
            one_filling = one;
            filled_words = λ ws ws' a h. subst (Assignment p) (sym (one ws ws' a h)) (model.fills ws a).0;
            exactly = λ ws ws' a h.
                subst (λ (vs : List ℕ). Holds ws (set_aside k.stranded (left z l' k)) ↔ Holds vs p) (sym (one ws ws' a h))
                (subst (λ (q : System). Holds ws q ↔ Holds (filled_list p (flagged F) ws) p) (sym standing_left) (model.exactly ws a));
            no_other = λ ws ws' vs a h v o t. model.no_other ws vs a (v ∙ sym wires_are) o t ∙ sym (one ws ws' a h);
            still = λ ws a t. subst (Holds ws) (sym system_left) (model.still ws a t);
            returns = λ ws vs vs' a b t o h. one vs vs' b h ∙ model.returns ws vs a b t o;
          }

-- which case of fusing it was, by what is told
module _ (slots : ℕ) (z : Sizes) (l l' : Lent) (k : Counts) (Imul Bmul : List ℕ → Type 0) where
  from_told : (t : Told) → Fuses slots z l l' t → t ≡ told_fused (Ok k) → UndoneOnStores z l l' k Imul Bmul
  from_told t (refused e h q) q' = absurd (clash (told_given k) (ap is_given (sym q')))
  from_told t (circular f w c q) q' = absurd (clash (told_given k) (ap is_given (sym q')))
  from_told t (short f n st s h q) q' = absurd (clash (told_given k) (ap is_given (sym q')))
  from_told t (patches f n st y) q' =
      on_stores slots z l l' st f n y k
      (told_stranded k (counts_of (fused z l) (commit_set (fused z l) st)) q' ∙ counts_stranded (fused z l) (commit_set (fused z l) st))
      (told-committed k (counts_of (fused z l) (commit_set (fused z l) st)) q' ∙ counts_committed (fused z l) (commit_set (fused z l) st))
      Imul Bmul

  -- THE THEOREM. Demand 3, of the stores that fusing leaves.
  pub demand_3_on_stores : Fuses slots z l l' (told_fused (Ok k)) → UndoneOnStores z l l' k Imul Bmul
  demand_3_on_stores h = from_told (told_fused (Ok k)) h refl
