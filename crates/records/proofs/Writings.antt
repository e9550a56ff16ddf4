-- What is written, or evaluated, by the first numbers is the answer over all records, where there are not too many of them. Assumes nothing.
use mathlib.Core.Path.{◌≡◌, refl, sym, ap, ap₂, ◌∙◌}
use mathlib.Core.Logic.{⊎_elim}
use Prim.Native.Nat.{ℕ, zero, suc, min}
use mathlib.Core.List.{List, [], ◌∷◌}
use lib.ListN.{length, take}
use lib.Seq.{sets}
use Rattle.std.proofs.Common.{false, Result, Ok, Err}
use Rattle.std.specs.Result.{IfOk}
use Rattle.refusal.specs.declared.Refusal.{Refusal}
use Rattle.refusal.specs.Refusals.{number_of, fault_in}
use Rattle.word.specs.Answers as T
use Rattle.lower.specs.declared.Sizes.{Sizes}
use Rattle.lower.specs.Model.{System, operands_of}
use Rattle.lower.specs.Values.{word_of}
use Rattle.lower.specs.Stores.{Stores, stores, system_of}
use Rattle.lower.specs.Faults.{or_else, memory_fault}
use Rattle.lower.proofs.Refusals.{number_some}
use Rattle.house_file.specs.Format.{entries_of, file_of, file_size}
use Rattle.house_write.specs.Write.{wide_fault, room_fault, write_fault, bytes_by, numbered, WriteIs}
use Rattle.evaluate.specs.Evaluation.{values_of, size_fault, evaluation_fault, values_by, numbered_by, EvaluateIs}
use Rattle.evaluate.specs.Evaluation as X
use Rattle.records.specs.Records.{crowded, crowd_fault}
use Rattle.records.proofs.Crowds.{crowd_first}
use Rattle.records.proofs.Wholes.{same_after, held_or_short, short_memory, first_memory, first_system}

-- ---- a fault tells all, and the system counts only where there is none
told_same : (f : ℕ) (vs vs' : List ℕ) → (f ≡ 0 → vs ≡ vs') → numbered f vs ≡ numbered f vs'
unfolding numbered
told_same zero vs vs' h = ap (numbered 0) (h refl)
told_same (suc f) vs vs' h = refl

bytes_same : (f : ℕ) (bs bs' : List ℕ) → (f ≡ 0 → bs ≡ bs') → bytes_by f bs ≡ bytes_by f bs'
unfolding bytes_by
bytes_same zero bs bs' h = ap (bytes_by 0) (h refl)
bytes_same (suc f) bs bs' h = refl

refused_told : (f : ℕ) (vs : List ℕ) → (f ≡ 0 → ⊥) → T.refused f ≡ numbered f vs
unfolding numbered
refused_told zero vs h = absurd (h refl)
refused_told (suc f) vs h = refl

refused_bytes : (f : ℕ) (out bs : List ℕ) → (f ≡ 0 → ⊥) → out ≡ sets out 0 (bytes_by f bs)
unfolding bytes_by
refused_bytes zero out bs h = absurd (h refl)
refused_bytes (suc f) out bs h = refl

module _ (z : Sizes) (s : Stores) (out : List ℕ) (r : Refusal) where
  pub writes_crowd : number_of r ≡ crowd_fault z s → WriteIs z s out (Err r) out
  unfolding write_fault
  writes_crowd e =
      let p : System = system_of z s in
      let f : number_of r ≡ write_fault z s (length out) = e ∙ sym (crowd_first z s 24576 (or_else (wide_fault p) (room_fault p (length out))) (λ o. number_some r (e ∙ o))) in
      record {
        answer = f;
        length_is = tt;
        tells = refused_told (number_of r) (file_size (entries_of p) ∷ []) (number_some r) ∙ ap (λ (k : ℕ). numbered k (file_size (entries_of p) ∷ [])) f;
        bytes_are = refused_bytes (number_of r) out (file_of p) (number_some r) ∙ ap (λ (k : ℕ). sets out 0 (bytes_by k (file_of p))) f;
      }

-- ---- evaluating: the same
given_same : (f : ℕ) (vs vs' : List ℕ) → (f ≡ 0 → vs ≡ vs') → numbered_by f vs ≡ numbered_by f vs'
unfolding numbered_by
given_same zero vs vs' h = ap (numbered_by 0) (h refl)
given_same (suc f) vs vs' h = refl

values_same : (f : ℕ) (vs vs' : List ℕ) → (f ≡ 0 → vs ≡ vs') → values_by f vs ≡ values_by f vs'
unfolding values_by
values_same zero vs vs' h = ap (values_by 0) (h refl)
values_same (suc f) vs vs' h = refl

refused_given : (f : ℕ) (vs : List ℕ) → (f ≡ 0 → ⊥) → T.refused f ≡ numbered_by f vs
unfolding numbered_by
refused_given zero vs h = absurd (h refl)
refused_given (suc f) vs h = refl

refused_values : (f : ℕ) (out vs : List ℕ) → (f ≡ 0 → ⊥) → out ≡ sets out 0 (values_by f vs)
unfolding values_by
refused_values zero out vs h = absurd (h refl)
refused_values (suc f) out vs h = refl

module _ (z : Sizes) (s : Stores) (ws out : List ℕ) (r : Refusal) where
  pub evaluates_crowd : number_of r ≡ crowd_fault z s → EvaluateIs z s ws out (Err r) out
  unfolding evaluation_fault
  evaluates_crowd e =
      let p : System = system_of z s in
      let f : number_of r ≡ evaluation_fault z s (length ws) (length out) =
      e ∙ sym (crowd_first z s 24576 (or_else (size_fault z.wires (length ws)) (X.room_fault p (length out))) (λ o. number_some r (e ∙ o))) in
      record {
        answer = f;
        tells = refused_given (number_of r) (length (operands_of p) ∷ []) (number_some r) ∙ ap (λ (k : ℕ). numbered_by k (length (operands_of p) ∷ [])) f;
        filled = refused_values (number_of r) out (values_of p (word_of ws)) (number_some r) ∙ ap (λ (k : ℕ). sets out 0 (values_by k (values_of p (word_of ws)))) f;
      }

-- ---- the same fault, and where there is none the same system
module _ (z : Sizes) (s s' : Stores) (out out' : List ℕ) (r : Result ℕ Refusal) where
  writes_agree : write_fault z s (length out) ≡ write_fault z s' (length out) → (write_fault z s' (length out) ≡ 0 → system_of z s ≡ system_of z s') → WriteIs z s out r out' → WriteIs z s' out r out'
  writes_agree e g y =
      let f : ℕ = write_fault z s' (length out) in
      let size : System → ℕ = λ p. file_size (entries_of p) in
      record {
        answer = y.answer ∙ e;
        length_is = long r (y.answer ∙ e) y.length_is;
        tells =
            y.tells
            ∙ ap (λ (k : ℕ). numbered k (size (system_of z s) ∷ [])) e
            ∙ told_same f (size (system_of z s) ∷ []) (size (system_of z s') ∷ []) (λ o. ap (λ (p : System). size p ∷ []) (g o));
        bytes_are =
            y.bytes_are
            ∙ ap (λ (k : ℕ). sets out 0 (bytes_by k (file_of (system_of z s)))) e
            ∙ ap (sets out 0) (bytes_same f (file_of (system_of z s)) (file_of (system_of z s')) (λ o. ap file_of (g o)));
      }
    where
      long : (a : Result ℕ Refusal) → fault_in a ≡ write_fault z s' (length out) → IfOk a (λ n. n ≡ file_size (entries_of (system_of z s))) → IfOk a (λ n. n ≡ file_size (entries_of (system_of z s')))
      long (Ok n) k x = x ∙ ap (λ (p : System). file_size (entries_of p)) (g (sym k))
      long (Err q) k x = tt

module _ (z : Sizes) (s s' : Stores) (ws out out' : List ℕ) (r : Result ℕ Refusal) where
  abbrev fault_over_words : Stores → ℕ
  fault_over_words x = evaluation_fault z x (length ws) (length out)

  evaluates_agree : fault_over_words s ≡ fault_over_words s' → (fault_over_words s' ≡ 0 → system_of z s ≡ system_of z s') → EvaluateIs z s ws out r out' → EvaluateIs z s' ws out r out'
  evaluates_agree e g y =
      let f : ℕ = fault_over_words s' in
      let size : System → ℕ = λ p. length (operands_of p) in
      let values : System → List ℕ = λ p. values_of p (word_of ws) in
      record {
        answer = y.answer ∙ e;
        tells =
            y.tells
            ∙ ap (λ (k : ℕ). numbered_by k (size (system_of z s) ∷ [])) e
            ∙ given_same f (size (system_of z s) ∷ []) (size (system_of z s') ∷ []) (λ o. ap (λ (p : System). size p ∷ []) (g o));
        filled =
            y.filled
            ∙ ap (λ (k : ℕ). sets out 0 (values_by k (values (system_of z s)))) e
            ∙ ap (sets out 0) (values_same f (values (system_of z s)) (values (system_of z s')) (λ o. ap values (g o)));
      }

-- ---- the first numbers, and all
module _ (z : Sizes) (old new ands imuls bmuls zeros ds rs : List ℕ) (m : ℕ) (e : m ≡ min (length ds) 1024) (same : length rs ≡ length ds) (calm : crowded z (length ds) ≡ false) where
  abbrev There : Stores
  There = stores old new ands imuls bmuls zeros ds rs

  abbrev First : Stores
  First = stores old new ands imuls bmuls zeros (take m ds) (take m rs)

  -- the checks after the first fault, of a system
  module _ (after : System → ℕ) where
    abbrev fault_over : Stores → ℕ
    fault_over s = or_else (memory_fault 24576 z s) (after (system_of z s))

    record Agrees : Type 0 where
      pub faults : fault_over First ≡ fault_over There
      pub system : fault_over There ≡ 0 → system_of z First ≡ system_of z There

    agrees : Agrees
    agrees =
        ⊎_elim
        (λ lack. let x = same_after (memory_fault 24576 z First) (memory_fault 24576 z There) (after (system_of z First)) (after (system_of z There)) (short_memory z old new ands imuls bmuls zeros ds rs m e same calm 24576 lack) in
        record { faults = x.0; system = λ o. absurd (x.1 (x.0 ∙ o)) })
        (λ k. let g = first_system z old new ands imuls bmuls zeros ds rs m e same calm k in
        record { faults = ap₂ {C = ℕ} or_else (first_memory z old new ands imuls bmuls zeros ds rs m e same calm 24576 k) (ap after g); system = λ o. g }) (held_or_short z old new ands imuls bmuls zeros ds rs m e same calm)

  -- writing
  pub writes_calm : (out out' : List ℕ) (r : Result ℕ Refusal) → WriteIs z First out r out' → WriteIs z There out r out'
  unfolding write_fault
  writes_calm out out' r y =
      let g = agrees (λ (p : System). or_else (wide_fault p) (room_fault p (length out))) in
      writes_agree z First There out out' r g.faults g.system y

  -- evaluating
  pub evaluates_calm : (ws out out' : List ℕ) (r : Result ℕ Refusal) → EvaluateIs z First ws out r out' → EvaluateIs z There ws out r out'
  unfolding evaluation_fault
  evaluates_calm ws out out' r y =
      let g = agrees (λ (p : System). or_else (size_fault z.wires (length ws)) (X.room_fault p (length out))) in
      evaluates_agree z First There ws out out' r g.faults g.system y
