-- What the steps of the reading answer where they find no fault, and the bounds that a sound answer keeps.
--
--   end_fault           a field that is known to be the end, by its number and offset
--   entry_fault         a field that is known to be no end
--   PartIs             a part of a field: where it ends, how many terms it had; it ends by `end`, and has no more terms than fit
--   StartIs            where the operands start, within the payload
--   TermsAre           how many terms a payload has: no more than fit
--   HeadIs             the tag part of a field: the field lies in the file
--   CountsAre          the counts with a field more are within the limits
--   WiresAre           the wire count of a sound first field, which lies in the file
--   Onward             the next field starts within the file, after this one, with counts within the limits
--
-- Assumes nothing.
use Rattle.std.specs.Prelude.{◌≡◌, ℕ, ◌+◌, ◌*◌, ◌≤◌, cond, List, eqb, ltb, length, Option, Some, None, Result, Ok, Err}
use Rattle.lower.specs.Faults.{SHAPE, or_else}
use Rattle.house_file.specs.Format.{arity}
use Rattle.house_file.specs.Decoding.{u16_at, operands_terms, operands_start}
use Rattle.house_file.specs.Reading.{payload_fault, counted, full_fault, Small, after_end, Fault, fault}
use Rattle.house_file.specs.declared.Counts.{Counts}
use Rattle.house_file.specs.declared.Place.{Place}
use Rattle.house_scan.specs.declared.Part.{Part}
use Rattle.house_scan.specs.declared.Head.{Head}

unfoldable pub end_fault : List ℕ → ℕ → Result Unit Fault
end_fault s at =
    cond (eqb (u16_at s (at + 1)) 0) (cond (ltb (at + 3) (length s)) (Err (fault SHAPE (at + 3))) (Ok tt)) (Err (fault SHAPE at))

abbrev pub with_field : List ℕ → Counts → ℕ → ℕ → Counts
with_field s c tag at = counted c tag (operands_terms s (arity tag) (operands_start tag (at + 3)))

unfoldable pub entry_fault : List ℕ → ℕ → Counts → ℕ → ℕ → ℕ → ℕ
entry_fault s wires c tag end at = or_else (payload_fault s wires tag end (at + 3)) (full_fault (with_field s c tag at))

pub record PartIs (at end next terms : ℕ) (p : Part) : Type 0 where
  pub next_is : p.next ≡ next
  pub terms_are : p.terms ≡ terms
  pub fits : at + 6 * p.terms ≤ p.next
  pub inside : p.next ≤ end

pub record StartIs (at end start : ℕ) (n : ℕ) : Type 0 where
  pub is : n ≡ start
  pub later : at ≤ n
  pub inside : n ≤ end

pub record TermsAre (at end terms : ℕ) (n : ℕ) : Type 0 where
  pub are : n ≡ terms
  pub fit : at + 6 * n ≤ end

pub record HeadIs (at len tag end : ℕ) (h : Head) : Type 0 where
  pub tag_is : h.tag ≡ tag
  pub end_is : h.end ≡ end
  pub after : at + 3 ≤ h.end
  pub inside : h.end ≤ len

pub record CountsAre (s : List ℕ) (c : Counts) (tag at : ℕ) (d : Counts) : Type 0 where
  pub are : d ≡ with_field s c tag at
  pub small : Small d

pub record WiresAre (s : List ℕ) (n : ℕ) : Type 0 where
  pub are : n ≡ u16_at s 3
  pub there : 5 ≤ length s

abbrev pub Onward : ℕ → ℕ → Option Place → Type 0
Onward at len None = Unit {0}
Onward at len (Some p) = (at + 3 ≤ p.at) × ((p.at ≤ len) × Small p.counts)
