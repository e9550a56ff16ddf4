-- What each number of the checks in memory says of the system that stands in the stores (01, "Numbers given back").
--
--   Sound z s          3, 4 and 5 are right: all stands in its place, and names wires and shifts that there are
--   Standing n z s     the same, and within the limits: what every entry point asks
--   Explained          for the number given: just when it is 0; of 3, 4 and 5, which are given as they are met, what each says; and just
--                      when each of 6, 8, 9 and 10 is given, all before it being right
--
-- Assumes nothing.
use Rattle.std.specs.Prelude.{◌≡◌, ◌↔◌, ◌⊎◌, ℕ}
use Rattle.lower.specs.declared.Sizes.{Sizes}
use Rattle.lower.specs.Accepted.{Named, Shifted, Limits, Once, NotEmpty, Single}
use Rattle.lower.specs.Stores.{Stores, system_of, Placed}

module _ (z : Sizes) (s : Stores) where
  abbrev pub Sound : Type 0
  Sound = Placed z s × Named (system_of z s) × Shifted (system_of z s)

  abbrev pub Standing : ℕ → Type 0
  Standing limit = Sound × Limits limit (system_of z s)

  -- f is the number given where there may be `limit` terms
  pub record Explained (limit f : ℕ) : Type 0 where
    pub none : f ≡ 0 ↔ Standing limit × (Once (system_of z s).linears × NotEmpty (system_of z s) × Single (system_of z s))
    pub unsound : (f ≡ 3) ⊎ ((f ≡ 4) ⊎ (f ≡ 5)) ↔ (Sound → ⊥)
    pub shape : f ≡ 3 → Placed z s → ⊥
    pub shift : f ≡ 4 → Shifted (system_of z s) → ⊥
    pub wire : f ≡ 5 → Named (system_of z s) → ⊥
    pub full : f ≡ 6 ↔ Sound × (Limits limit (system_of z s) → ⊥)
    pub twice : f ≡ 8 ↔ Standing limit × (Once (system_of z s).linears → ⊥)
    pub empty : f ≡ 9 ↔ Standing limit × (Once (system_of z s).linears × (NotEmpty (system_of z s) → ⊥))
    pub double : f ≡ 10 ↔ Standing limit × (Once (system_of z s).linears × NotEmpty (system_of z s) × (Single (system_of z s) → ⊥))
