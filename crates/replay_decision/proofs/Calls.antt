-- What the calls of `decide` and `read` come to. Assumes nothing.
use Rattle.std.proofs.Common.{◌≡◌, refl, ℕ, zero, suc, [], ◌∷◌, get_or, arith, ◌+◌, ◌-◌, ◌<◌, Bool, true, false, List, length, sym, ap, ◌∙◌, subst, eq-eqb, ne_eqb, eqb}
use Rattle.lower.specs.declared.Sizes.{Sizes}
use Rattle.lower.specs.Stores.{Stores}
use Rattle.commit_set.specs.Answer.{SLOTS, ROOM}
use Rattle.replay_decision.specs.declared.Tally.{Tally}
use Rattle.replay_decision.specs.declared.Vector.{Vector}
use Rattle.replaying.specs.Places.{part_of, untouched_from}
use Rattle.replay_decision.specs.Replay.{vector_at, check_counted, wrong_slots, answered_right, AnswersIn, SlotsChecked, more, RoomChecked, both, VectorReplayed, Replayed, next}

-- ---- one call of `decide`

module _ (a e : ℕ) (l : List ℕ) (b : Bool) where
  pub another : eqb a e ≡ false → b ≡ false → b ≡ answered_right a e l
  unfolding answered_right
  another h k = rw (h, k)

  pub accepted : eqb a e ≡ true → a ≡ 0 → b ≡ true → b ≡ answered_right a e l
  unfolding answered_right
  accepted h k q = rw (h, eq-eqb a 0 k, q)

  pub kept : eqb a e ≡ true → (a ≡ 0 → ⊥) → b ≡ untouched_from l 0 → b ≡ answered_right a e l
  unfolding answered_right
  kept h k q = rw (h, ne_eqb a 0 k) q

-- ---- further calls

pub slots_are : (i : ℕ) → i < 7 → get_or (0 ∷ 3 ∷ 255 ∷ 256 ∷ 257 ∷ 4294967297 ∷ 18446744073709551615 ∷ []) i 0 ≡ wrong_slots i
slots_are zero h = refl
slots_are (suc zero) h = refl
slots_are (suc (suc zero)) h = refl
slots_are (suc (suc (suc zero))) h = refl
slots_are (suc (suc (suc (suc zero)))) h = refl
slots_are (suc (suc (suc (suc (suc zero))))) h = refl
slots_are (suc (suc (suc (suc (suc (suc zero)))))) h = refl
slots_are (suc (suc (suc (suc (suc (suc (suc i))))))) h = absurd (omega arith)

module _ (z : Sizes) (s : Stores) (t : Tally) where
  pub slots_next : (i w : ℕ) (u v : Tally) (a : Bool) → SlotsChecked z s t i u → w ≡ wrong_slots i → AnswersIn w z s 1024 SLOTS a → v ≡ check_counted u a → SlotsChecked z s t (i + 1) v
  slots_next i w u v a x p y q = subst (SlotsChecked z s t (i + 1)) (sym q) (more x (subst (λ (k : ℕ). AnswersIn k z s 1024 SLOTS a) p y))

  pub rooms : (slots : ℕ) (u v : Tally) (a b : Bool) → 0 < z.linears → AnswersIn slots z s (z.linears - 1) ROOM a → AnswersIn slots z s z.linears 0 b → u ≡ check_counted t a → v ≡ check_counted u b → RoomChecked slots z s t v
  rooms slots u v a b h x y p q = subst (RoomChecked slots z s t) (sym (q ∙ ap (λ (w : Tally). check_counted w b) p)) (both h x y)

-- ---- one vector

pub vector_next : (b : List ℕ) (at : ℕ) (v : Vector) (t u : Tally) (file flags : List ℕ) → at < length b → v ≡ vector_at b at → Replayed b at t → file ≡ part_of b v.file v.answer → flags ≡ part_of b v.flags v.end → VectorReplayed file v.slots v.refusal flags t u → Replayed b v.end u
vector_next b at v t u file flags h p x q r y =
    next h p x
    (subst (λ (l : List ℕ). VectorReplayed (part_of b v.file v.answer) v.slots v.refusal l t u) r
    (subst (λ (l : List ℕ). VectorReplayed l v.slots v.refusal flags t u) q y))
