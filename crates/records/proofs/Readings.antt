-- A file has no more definitions than the arrays take, so what is read to the first numbers, put back, is what is read to all. Assumes nothing.
use mathlib.Core.Path.{◌≡◌, refl, sym, ap, ap₂, subst, ◌∙◌}
use mathlib.Core.Logic.{⊎_elim}
use Prim.Native.Nat.{ℕ, min, ◌≤◌}
use native.Mathlib.Omega.{arith}
use mathlib.Core.List.{List}
use lib.Dec.{leb}
use lib.ListN.{length, take, length-map}
use lib.Seq.{sets, length-take-le}
use borrow.Author.Tests.{le-leb, lt-leb}
use Rattle.lower.specs.declared.Sizes.{Sizes}
use Rattle.lower.specs.Lists.{All}
use Rattle.lower.proofs.Laws.{all_imp}
use Rattle.house_file.specs.Format.{Entry, LINEAR, of_kind, definition_from, system_from, EntryOk}
use Rattle.house_file.specs.Decoding.{entries_at}
use Rattle.house_file.specs.Reading.{Fault, by_number, read_of, entries_read, total}
use Rattle.house_file.specs.declared.FileRead.{FileRead}
use Rattle.house_file.specs.declared.FileFault.{FileFault}
use Rattle.std.specs.Prelude.{Result, Ok, Err}
use Rattle.house_fill.specs.Layout.{list_laid, destinations_laid}
use Rattle.house_read.specs.Answer.{room_of, with_room, ReadIs}
use Rattle.house_read.proofs.Answers.{read_fits, answer_tells}
use Rattle.house_read.proofs.Exact.{accepted_entries}
use Rattle.house_read.proofs.Stored.{Laid, list_length, linear_one}
use Rattle.house_read.proofs.Backs.{answered, entry-laid}
use Rattle.records.specs.declared.Definition as D
use Rattle.records.specs.Records.{dsts_of, rhss_of}
use Rattle.records.proofs.Laws.{lt_or_le}
use Rattle.records.proofs.Wholes.{sets_part}

-- ---- longer stores never differ in room
same_fit : (n len m : ℕ) → m ≡ min len 1024 → n ≤ 1024 → leb n m ≡ leb n len
same_fit n len m e h = ⊎_elim (λ lack. lt-leb n m (omega (arith, lack, e)) ∙ sym (lt-leb n len lack)) (λ all. le-leb n m (omega (arith, all, e, h)) ∙ sym (le-leb n len all)) (lt_or_le len n)

module _ (len m : ℕ) (e : m ≡ min len 1024) (t a i b o : ℕ) where
  same_room : (z : Sizes) (n : ℕ) → z.linears ≤ 1024 → room_of z n t a i b o m m ≡ room_of z n t a i b o len len
  unfolding room_of
  same_room z n h = rw (same_fit z.linears len m e h)

  same_answer : (x : Result FileRead Fault) (at : ℕ) → ((y : FileRead) → x ≡ Ok y → y.sizes.linears ≤ 1024) → with_room x at t a i b o m m ≡ with_room x at t a i b o len len
  unfolding with_room
  same_answer (Err f) at h = refl
  same_answer (Ok y) at h = rw (same_room y.sizes y.terms (h y refl))

-- ---- so many definitions are read
record Few (es : List Entry) (m : ℕ) : Type 0 where
  pub destinations : length (destinations_laid es) ≤ m
  pub sides : length (list_laid LINEAR 0 es) ≤ m

module _ (s terms ands imuls bmuls zeros ds rs : List ℕ) (len m : ℕ) (e : m ≡ min len 1024) (a : length ds ≡ len) (b : length rs ≡ len) where
  in_ds : m ≤ length ds
  in_ds = omega (arith, a, e)

  in_rs : m ≤ length rs
  in_rs = omega (arith, b, e)

  abbrev with_lengths : ℕ → ℕ → Result FileRead Fault
  with_lengths d r = with_room (read_of s) (length s) (length terms) (length ands) (length imuls) (length bmuls) (length zeros) d r

  few_read : (r : Result FileRead FileFault) → by_number r ≡ with_lengths (length (take m ds)) (length (take m rs)) → Few (entries_read s r) m
  unfolding list_laid destinations_laid system_from
  few_read (Err f) h = record { destinations = omega arith; sides = omega arith }
  few_read (Ok y) h = some
    where
      some : Few (entries_at s (total y.sizes) 5) m
      some =
          let es = entries_at s (total y.sizes) 5 in
          let g = answered (length terms) (length ands) (length imuls) (length bmuls) (length zeros) (length (take m ds)) (length (take m rs)) (read_of s) (length s) y.sizes y.terms (sym h) in
          let k = accepted_entries s y.sizes y.terms g.0 in
          let laid : All Laid es = all_imp {P = EntryOk y.sizes.wires} {Q = Laid} (entry-laid y.sizes.wires k.sound.limits.wires_few) es k.sound.entries_ok in
          let d : y.sizes.linears ≡ length (of_kind LINEAR es) = ap (λ (x : Sizes). x.linears) k.sizes_are ∙ length-map (of_kind LINEAR es) definition_from in
          let f : y.sizes.linears ≤ m = omega (arith, g.1.dsts_fit, length-take-le m ds in_ds) in
          record {
            destinations = omega (arith, d, f, length-map (of_kind LINEAR es) (λ (x : Entry). x.dst));
            sides = omega (arith, d, f, list_length LINEAR 1 linear_one 0 es laid);
          }

  pub reads_all : (r : Result FileRead FileFault) (t' a' i' b' o' us vs : List ℕ) → ReadIs s terms ands imuls bmuls zeros (take m ds) (take m rs) r t' a' i' b' o' us vs
      → ReadIs s terms ands imuls bmuls zeros ds rs r t' a' i' b' o' (sets ds 0 us) (sets rs 0 vs)
  reads_all r t' a' i' b' o' us vs y =
      let same : with_lengths (length (take m ds)) (length (take m rs)) ≡ with_lengths (length ds) (length rs) =
      ap₂ {C = Result FileRead Fault} with_lengths (length-take-le m ds in_ds) (length-take-le m rs in_rs)
      ∙ same_answer len m e (length terms) (length ands) (length imuls) (length bmuls) (length zeros) (read_of s) (length s) (λ y x. (read_fits s y x).0)
      ∙ ap₂ {C = Result FileRead Fault} with_lengths (sym a) (sym b) in
      let few = few_read r y.answer in
      let f = y.filled in
      let e = y.answer ∙ same in
      record {
        answer = e;
        tells = answer_tells _ _ _ _ _ _ _ _ r (read_of s) e;
        filled =
            record {
              terms_are = f.terms_are;
              ands_are = f.ands_are;
              imuls_are = f.imuls_are;
              bmuls_are = f.bmuls_are;
              zeros_are = f.zeros_are;
              dsts_are = ap (sets ds 0) f.dsts_are ∙ sets_part m ds (destinations_laid (entries_read s r)) in_ds few.destinations;
              rhss_are = ap (sets rs 0) f.rhss_are ∙ sets_part m rs (list_laid LINEAR 0 (entries_read s r)) in_rs few.sides;
            };
      }

-- ---- over records
abbrev dst_of : D.Definition → ℕ
dst_of d = d.dst

abbrev rhs_of : D.Definition → ℕ
rhs_of d = d.rhs

-- THE THEOREM for reading.
module _ (s terms ands imuls bmuls zeros : List ℕ) (ys : List D.Definition) (us vs : List ℕ) (m : ℕ) (e : m ≡ min (length ys) 1024) (p : us ≡ take m (dsts_of ys)) (q : vs ≡ take m (rhss_of ys)) where
  pub reads_records : (r : Result FileRead FileFault) (t' a' i' b' o' us' vs' : List ℕ) (ys' : List D.Definition) → dsts_of ys' ≡ sets (dsts_of ys) 0 us' → rhss_of ys' ≡ sets (rhss_of ys) 0 vs'
      → ReadIs s terms ands imuls bmuls zeros us vs r t' a' i' b' o' us' vs' → ReadIs s terms ands imuls bmuls zeros (dsts_of ys) (rhss_of ys) r t' a' i' b' o' (dsts_of ys') (rhss_of ys')
  reads_records r t' a' i' b' o' us' vs' ys' p' q' y =
      subst (λ (l : List ℕ). ReadIs s terms ands imuls bmuls zeros (dsts_of ys) (rhss_of ys) r t' a' i' b' o' l (rhss_of ys')) (sym p')
      (subst (λ (l : List ℕ). ReadIs s terms ands imuls bmuls zeros (dsts_of ys) (rhss_of ys) r t' a' i' b' o' (sets (dsts_of ys) 0 us') l) (sym q')
      (reads_all s terms ands imuls bmuls zeros (dsts_of ys) (rhss_of ys) (length ys) m e (length-map ys dst_of) (length-map ys rhs_of) r t' a' i' b' o' us' vs'
      (subst (λ (l : List ℕ). ReadIs s terms ands imuls bmuls zeros l (take m (rhss_of ys)) r t' a' i' b' o' us' vs') p
      (subst (λ (l : List ℕ). ReadIs s terms ands imuls bmuls zeros us l r t' a' i' b' o' us' vs') q y))))
