-- The house file, both ways, over the contracts of `write` and `read`: what is written and read again is the same system, and what is read
-- and written again is the same file with its fields in tag order. Assumes nothing.
use mathlib.Core.Path.{◌≡◌, refl, sym, ap, ◌∙◌}
use mathlib.Core.Bool.{Bool, true, false, cond}
use mathlib.Core.List.{List, []}
use Prim.Native.Nat.{ℕ, ◌≤◌, ◌<◌}
use native.Mathlib.Omega.{arith}
use lib.ListN.{length, take}
use lib.Seq.{sets}
use lib.Dec.{leb}
use borrow.Author.Tests.{leb-true, leb-false}
use Rattle.std.specs.Prelude.{Result, Ok, Err, IfOk}
use Rattle.refusal.specs.declared.Refusal.{Refusal}
use Rattle.refusal.specs.declared.Refusal.TheVariants.{Room}
use Rattle.refusal.specs.Refusals.{fault_in}
use Rattle.operand.specs.Numbers.{operand_of}
use Rattle.lower.specs.declared.Sizes.{Sizes}
use Rattle.lower.specs.Lists.{All}
use Rattle.lower.specs.Model.{System, terms_of}
use Rattle.lower.specs.Accepted.{Shaped, Limits, MAX_TERMS}
use Rattle.lower.specs.Stores.{Stores, stores, system_of, Placed}
use Rattle.lower.specs.Faults.{memory_fault}
use Rattle.lower.proofs.Laws.{rows_length, linears_length}
use Rattle.lower.proofs.Accepts.{shaped}
use Rattle.lower.proofs.Explains.{standing_right}
use Rattle.house_file.specs.Format.{Entry, sizes_in, system_from, entries_of, file_of, file_bytes, file_size}
use Rattle.house_file.specs.Decoding.{entries_at}
use Rattle.house_file.specs.Reading.{ROOM, file_read, by_number, read_of, total}
use Rattle.house_file.specs.declared.FileRead.{FileRead}
use Rattle.house_file.specs.declared.FileFault.{FileFault}
use Rattle.house_file.proofs.Faults.{number_above, refusal_once}
use Rattle.house_file.proofs.Sizes.{file_size_lem}
use Rattle.house_read.specs.Answer.{ReadIs}
use Rattle.house_read.proofs.Backs.{Roomy, answered, read_back}
use Rattle.house_read.proofs.Exact.{accepted_entries, accepted_file}
use Rattle.house_read.proofs.Files.{system_back}
use Rattle.house_read.proofs.Sorted.{in_tag_order, entries_sorted, file_sorted}
use Rattle.house_read.proofs.Standings.{read_stands}
use Rattle.house_write.specs.Write.{MAX_WRITTEN_TERMS, wide, write_fault, bytes_by, WriteIs}
use Rattle.house_write.proofs.Answering.{none_memory, fault_room, fault_none}
use Rattle.house_write.proofs.Once.{is_written}
use Rattle.house.proofs.Sorting.{file_narrow, none-wide, size_sorted}

-- ---- written, then read

module _ (z : Sizes) (s : Stores) (y : Placed z s) where
  -- the counts are the system's
  sizes-same : sizes_in (system_of z s) ≡ z
  unfolding system_of
  sizes-same =
      let f = operand_of s.old s.new in
      rw (
        rows_length f 3 z.ands s.ands,
        rows_length f 4 z.imuls s.imuls,
        rows_length f 6 z.bmuls s.bmuls,
        rows_length f 1 z.zeros s.zeros,
        linears_length z s y.dsts_there y.rhss_there,
      )

  system_shaped : Shaped (system_of z s)
  unfolding system_of
  system_shaped =
      let f = operand_of s.old s.new in
      record {
        ands_shaped = shaped f 3 z.ands s.ands y.ands_there;
        imuls_shaped = shaped f 4 z.imuls s.imuls y.imuls_there;
        bmuls_shaped = shaped f 6 z.bmuls s.bmuls y.bmuls_there;
        zeros_shaped = shaped f 1 z.zeros s.zeros (omega (arith, y.zeros_there));
      }

fewer : {limit : ℕ} {p : System} (n : ℕ) → Limits limit p → length (terms_of p) ≤ n → Limits n p
fewer n l h = record { wires_some = l.wires_some; wires_few = l.wires_few; definitions_few = l.definitions_few; others_few = l.others_few; terms_few = h }

-- "Written files of at most 8,192 terms read back to the same lists"
pub record WriteRead (z : Sizes) (s : Stores) (r : Result FileRead FileFault) (terms' ands' imuls' bmuls' zeros' dsts' rhss' : List ℕ) : Type 0 where
  pub answer : r ≡ Ok (file_read z (length (terms_of (system_of z s))))
  pub same : system_of z (stores terms' [] ands' imuls' bmuls' zeros' dsts' rhss') ≡ system_of z s

module _ {z : Sizes} {s : Stores} {out out' : List ℕ} {n : ℕ} {terms ands imuls bmuls zeros dsts rhss : List ℕ} {r : Result FileRead FileFault}
    {terms' ands' imuls' bmuls' zeros' dsts' rhss' : List ℕ} where
  pub write_read : WriteIs z s out (Ok n) out' → length (terms_of (system_of z s)) ≤ MAX_TERMS
      → Roomy z (length (terms_of (system_of z s))) (length terms) (length ands) (length imuls) (length bmuls) (length zeros) (length dsts) (length rhss)
      → ReadIs (take n out') terms ands imuls bmuls zeros dsts rhss r terms' ands' imuls' bmuls' zeros' dsts' rhss' → WriteRead z s r terms' ands' imuls' bmuls' zeros' dsts' rhss'
  write_read w few room is =
      let p = system_of z s in
      let k = is_written w in
      let y = (standing_right MAX_WRITTEN_TERMS z s).0 (none_memory z s (length out) k.no_fault) in
      let e = sizes-same z s y.0.0 in
      let b = system_back p (system_shaped z s y.0.0) y.0.1 y.0.2 (fewer MAX_TERMS y.1 few) (rw e room) (rw k.file_is at is) in
      record { answer = rw e at b.answer; same = rw e at b.same }

-- ---- read, then written

-- the entries of the bytes s, where z is what they count
abbrev pub entries_in : List ℕ → Sizes → List Entry
entries_in s z = entries_at s (total z) 5

-- "The reader takes tags 2 to 6 in any order; the writer in tag order": the same fields, those of one tag as they stood, in as many bytes
pub record ReadWrite (s : List ℕ) (z : Sizes) (out : List ℕ) (w : Result ℕ Refusal) (out' : List ℕ) : Type 0 where
  pub was : file_bytes z.wires (entries_in s z) ≡ s
  pub as_long : length (file_bytes z.wires (in_tag_order (entries_in s z))) ≡ length s
  pub answer : w ≡ cond (leb (length s) (length out)) (Ok (length s)) (Err Room)
  pub bytes_are : out' ≡ sets out 0 (cond (leb (length s) (length out)) (file_bytes z.wires (in_tag_order (entries_in s z))) [])

-- a file that can be written is refused for want of room alone
only_room : (z : Sizes) (held : Stores) (s out : List ℕ) → memory_fault MAX_WRITTEN_TERMS z held ≡ 0 → wide (system_of z held) ≡ false
    → file_size (entries_of (system_of z held)) ≡ length s → (t : Bool) → leb (length s) (length out) ≡ t → write_fault z held (length out) ≡ cond t 0 ROOM
only_room z held s out m k l true h = sym (fault_none z held (length out) m k (omega (arith, l, leb-true (length s) (length out) h)))
only_room z held s out m k l false h = sym (fault_room z held (length out) m k (omega (arith, l, leb-false (length s) (length out) h)))

answers : (w : Result ℕ Refusal) (t : Bool) (m : ℕ) → fault_in w ≡ cond t 0 ROOM → IfOk w (λ n. n ≡ m) → w ≡ cond t (Ok m) (Err Room)
answers (Ok n) true m e k = ap Ok k
answers (Ok n) false m e k = absurd (omega (arith, e))
answers (Err r) true m e k = absurd (omega (arith, e, number_above r))
answers (Err r) false m e k = ap Err (refusal_once r Room e)

stored : (t : Bool) (bs : List ℕ) → bytes_by (cond t 0 ROOM) bs ≡ cond t bs []
unfolding bytes_by
stored true bs = refl
stored false bs = refl

module _ {s terms ands imuls bmuls zeros dsts rhss : List ℕ} {r : Result FileRead FileFault} {terms' ands' imuls' bmuls' zeros' dsts' rhss' : List ℕ} {z : Sizes} {n : ℕ} {w : Result ℕ Refusal} {out out' : List ℕ} where
  pub read_write : All (λ (b : ℕ). b < 256) s → ReadIs s terms ands imuls bmuls zeros dsts rhss r terms' ands' imuls' bmuls' zeros' dsts' rhss' → r ≡ Ok (file_read z n)
      → WriteIs z (stores terms' [] ands' imuls' bmuls' zeros' dsts' rhss') out w out' → ReadWrite s z out w out'
  unfolding wide system_from
  read_write b is e w_is =
      let held = stores terms' [] ands' imuls' bmuls' zeros' dsts' rhss' in
      let es = entries_in s z in
      let g = answered (length terms) (length ands) (length imuls) (length bmuls) (length zeros) (length dsts) (length rhss) (read_of s) (length s) z n (sym is.answer ∙ ap by_number e) in
      let ok = (accepted_entries s z n g.0).sound.entries_ok in
      let was = accepted_file s z n g.0 b in
      let y = (standing_right MAX_TERMS z held).0 (read_stands z n is e) in
      let memory : memory_fault MAX_WRITTEN_TERMS z held ≡ 0 = (standing_right MAX_WRITTEN_TERMS z held).1 (y.0, fewer MAX_WRITTEN_TERMS y.1 (omega (arith, y.1.terms_few))) in
      let back : system_of z held ≡ system_from z.wires es = read_back z n is e in
      let entries : entries_of (system_of z held) ≡ in_tag_order es = ap entries_of back ∙ entries_sorted z.wires es ok in
      let file : file_of (system_of z held) ≡ file_bytes z.wires (in_tag_order es) = ap file_of back ∙ file_sorted s z n g.0 in
      let size : file_size (entries_of (system_of z held)) ≡ length s =
      ap file_size entries ∙ size_sorted z.wires es ok ∙ sym (file_size_lem z.wires es) ∙ ap length was in
      let narrow : wide (system_of z held) ≡ false = rw entries (none-wide es (file_narrow z.wires es (rw was b))) in
      let fault = only_room z held s out memory narrow size (leb (length s) (length out)) refl in
      record {
        was = was;
        as_long = file_size_lem z.wires (in_tag_order es) ∙ ap file_size (sym entries) ∙ size;
        answer = answers w (leb (length s) (length out)) (length s) (w_is.answer ∙ fault) (rw size at w_is.length_is);
        bytes_are = w_is.bytes_are ∙ rw (fault, file) (ap (sets out 0) (stored (leb (length s) (length out)) (file_bytes z.wires (in_tag_order es))));
      }
