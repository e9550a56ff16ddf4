-- When two shifts, `inner` first and then `outer`, are one shift, or clear the word (01, "Shifts": "compose").
--
--   NoIdentities i o  neither of the two leaves every word: their amounts are 1 or more
--   Rule             for two variants, each from an amount on, what makes the two shifts one
--   degenerates      the rules by which the inner or the outer shift absorbs the other
--   chains           the rules by which two shifts of different variants chain
--   first_of rs i o   what the first rule that fits i and o makes of them, or Neither
--   chain_of i o      the variant that i and o go on as, if they chain
--   makes_of i o      what the tests of 01, in their order, make of two shifts that are no identities
--   past_width v e    what a chain comes to whose sum is the width and e more
--   chained_of v d    what a chain comes to that goes on as v, d being the sum of the two amounts
--   compose_valid     the composition of two valid shifts
--   Right i o c      what the answer c claims of i and then o: "Single and Zero .. have the meaning of the two shifts. Pair claims nothing"
--
-- Assumes nothing.
use Rattle.std.specs.Prelude.{ℕ, ◌+◌, ◌-◌, ◌<◌, ◌≤◌, ◌^◌, ◌≡◌, Bool, cond, ◌&&◌, List, [], ◌∷◌, ltb, leb, eqb}
use Rattle.shift.specs.declared.ShiftVariant.{ShiftVariant}
use Rattle.shift.specs.declared.ShiftVariant.TheVariants.{Sll, Slr, Sar, Rotr, Sll32, Srl32, Sra32, Rotr32}
use Rattle.shift.specs.declared.Shift.{Shift}
use Rattle.shift.specs.declared.Makes.{Makes}
use Rattle.shift.specs.declared.Makes.TheVariants.{Inner, Outer, Chain, Neither}
use Rattle.shift.specs.declared.Composition.{Composition}
use Rattle.shift.specs.declared.Composition.TheVariants.{Single, Zero, Pair}
use Rattle.shift.specs.Shifts.{by, width_of, variant_number, Valid, identity, apply_of}

abbrev pub NoIdentities : Shift → Shift → Type 0
NoIdentities i o = (1 ≤ i.amount) × (1 ≤ o.amount)

-- "where 0 becomes sll 0"
abbrev pub turned : ShiftVariant → ℕ → Composition
turned v d = cond (eqb d 0) (Single identity) (Single (by v d))

-- "A chain's sum at or above the width is Zero for left and logical right shifts, width - 1 for arithmetic ones, and is reduced by the
-- width for rotations, where 0 becomes sll 0": e is the sum less the width
abbrev pub past_width : ShiftVariant → ℕ → Composition
past_width Sll e = Zero
past_width Slr e = Zero
past_width Sar e = Single (by Sar 63)
past_width Rotr e = turned Rotr e
past_width Sll32 e = Zero
past_width Srl32 e = Zero
past_width Sra32 e = Single (by Sra32 31)
past_width Rotr32 e = turned Rotr32 e

abbrev pub chained_of : ShiftVariant → ℕ → Composition
chained_of v d = cond (ltb d (width_of v)) (Single (by v d)) (past_width v (d - width_of v))

pub record Rule : Type 0 where
  pub first : ShiftVariant
  pub from : ℕ
  pub second : ShiftVariant
  pub from2 : ℕ
  pub makes : Makes

abbrev pub rule : ShiftVariant → ℕ → ShiftVariant → ℕ → Makes → Rule
rule a m b n c = record { first = a; from = m; second = b; from2 = n; makes = c }

-- "sar 63 then rotr or rotr32, and sra32 31 then rotr32, give inner; sar or sra32 then slr 63, and sra32 then srl32 31, give outer"
-- (Identities are tested before, so 1 is every amount; no valid sar has an amount above 63, and no sra32 or srl32 one above 31.)
unfoldable pub degenerates : List Rule
degenerates =
    rule Sar 63 Rotr 1 Inner
    ∷ rule Sar 63 Rotr32 1 Inner
    ∷ rule Sra32 31 Rotr32 1 Inner
    ∷ rule Sar 1 Slr 63 Outer
    ∷ rule Sra32 1 Slr 63 Outer
    ∷ rule Sra32 1 Srl32 31 Outer
    ∷ []

-- "slr,sar as slr; srl32,sra32 as srl32; sll,sll32 or slr,srl32 or sar,sra32 as the full one if inner is 32 or more; the same pairs
-- reversed if outer is 32 or more; slr,sra32 as slr if inner is 33 or more; srl32,sar as slr if outer is 32 or more"
unfoldable pub chains : List Rule
chains =
    rule Slr 1 Sar 1 (Chain Slr)
    ∷ rule Srl32 1 Sra32 1 (Chain Srl32)
    ∷ rule Sll 32 Sll32 1 (Chain Sll)
    ∷ rule Slr 32 Srl32 1 (Chain Slr)
    ∷ rule Sar 32 Sra32 1 (Chain Sar)
    ∷ rule Sll32 1 Sll 32 (Chain Sll)
    ∷ rule Srl32 1 Slr 32 (Chain Slr)
    ∷ rule Sra32 1 Sar 32 (Chain Sar)
    ∷ rule Slr 33 Sra32 1 (Chain Slr)
    ∷ rule Srl32 1 Sar 32 (Chain Slr)
    ∷ []

-- the two variants are one
abbrev pub same : ShiftVariant → ShiftVariant → Bool
same a b = eqb (variant_number a) (variant_number b)

abbrev pub fits : Rule → Shift → Shift → Bool
fits c i o = same i.variant c.first && (same o.variant c.second && (leb c.from i.amount && leb c.from2 o.amount))

abbrev pub first_of : List Rule → Shift → Shift → Makes
first_of [] i o = Neither
first_of (c ∷ cs) i o = cond (fits c i o) c.makes (first_of cs i o)

-- "Chains: equal variants; slr,sar as slr; .."
abbrev pub chain_of : Shift → Shift → Makes
chain_of i o = cond (same i.variant o.variant) (Chain i.variant) (first_of chains i o)

abbrev pub or_else : Makes → Makes → Makes
or_else Inner x = Inner
or_else Outer x = Outer
or_else (Chain v) x = Chain v
or_else Neither x = x

-- ".. give inner; .. give outer; then chains .."
abbrev pub makes_of : Shift → Shift → Makes
makes_of i o = or_else (first_of degenerates i o) (chain_of i o)

-- "then chains by the sum of amounts .. Everything else is Pair"
abbrev pub made : Makes → Shift → Shift → Composition
made Inner i o = Single i
made Outer i o = Single o
made (Chain v) i o = chained_of v (i.amount + o.amount)
made Neither i o = Pair

-- "inner identity gives outer; outer identity gives inner; .."
unfoldable pub compose_valid : Shift → Shift → Composition
compose_valid i o = cond (eqb i.amount 0) (Single o) (cond (eqb o.amount 0) (Single i) (made (makes_of i o) i o))

abbrev pub Right : Shift → Shift → Composition → Type 0
Right i o (Single s) = Valid s × ((w : ℕ) → w < 2 ^ 64 → apply_of o (apply_of i w) ≡ apply_of s w)
Right i o Zero = (w : ℕ) → w < 2 ^ 64 → apply_of o (apply_of i w) ≡ 0
Right i o Pair = Unit
