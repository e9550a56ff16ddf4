-- What a refusal says (01, "Numbers given back"): "The reader gives the first fault in byte order with the offset of its field's tag (for
-- bytes after the end, of the first such byte)". This is the reading of Reading.antt once more, with no order of work in it.
--
--   FaultFrom s w n j c at   from the field at `at` on, with c counted so far and w wires, the first fault is n, at offset j: the field's
--                            own, with all before it sound; or bytes after a sound end field; or one of a later field
--   FirstFault s n j         the same of the whole file, the first field first
--
-- Assumes nothing.
use Rattle.std.specs.Prelude.{◌≡◌, true, false, List, ℕ, ◌+◌, ◌<◌, eqb, length, get_or}
use Rattle.lower.specs.Faults.{SHAPE}
use Rattle.house_file.specs.Decoding.{u16_at, field_end}
use Rattle.house_file.specs.Reading.{END, counts_after, field_fault, wires_fault, none}
use Rattle.house_file.specs.declared.Counts.{Counts}

pub data FaultFrom (s : List ℕ) (w n j : ℕ) : Counts → ℕ → Type 0 where
  here : {c : Counts} {at : ℕ} → field_fault s w c at ≡ n → 0 < n → j ≡ at → FaultFrom s w n j c at
  after : {c : Counts} {at : ℕ} → field_fault s w c at ≡ 0 → eqb (get_or s at 0) END ≡ true → at + 3 < length s → n ≡ SHAPE → j ≡ at + 3 → FaultFrom s w n j c at
  later : {c : Counts} {at : ℕ} → field_fault s w c at ≡ 0 → eqb (get_or s at 0) END ≡ false → FaultFrom s w n j (counts_after s c at) (field_end s at) → FaultFrom s w n j c at

pub data FirstFault (s : List ℕ) (n j : ℕ) : Type 0 where
  in_the_first : wires_fault s ≡ n → 0 < n → j ≡ 0 → FirstFault s n j
  in_another : wires_fault s ≡ 0 → FaultFrom s (u16_at s 3) n j none 5 → FirstFault s n j
