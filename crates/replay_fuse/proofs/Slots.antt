-- The slots that are refused, one by one. Assumes nothing.
use Rattle.std.proofs.Common.{◌≡◌, ℕ, zero, suc, ◌<◌, [], ◌∷◌, get_or, refl, arith}
use Rattle.replay_fuse.specs.Further.{wrong_slots}

pub slots_are : (i : ℕ) → i < 4 → get_or (0 ∷ 3 ∷ 4294967297 ∷ 1099511627776 ∷ []) i 0 ≡ wrong_slots i
slots_are zero h = refl
slots_are (suc zero) h = refl
slots_are (suc (suc zero)) h = refl
slots_are (suc (suc (suc zero))) h = refl
slots_are (suc (suc (suc (suc i)))) h = absurd (omega arith)
