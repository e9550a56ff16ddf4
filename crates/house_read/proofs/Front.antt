-- The front of a file tells all that is told of it. A field stands at 83,973 and before, and has 65,538 bytes and less, so what is read of it, and
-- whether the bytes end before it does, is the same in the first 149,511 bytes and in the whole; and what is longer is refused. Assumes nothing.
use mathlib.Core.Path.{◌≡◌, refl, sym, ap, ◌∙◌, subst}
use mathlib.Core.Bool.{Bool, true, false, cond}
use mathlib.Core.Logic.{◌↔◌}
use mathlib.Core.List.{List, [], ◌∷◌}
use Prim.Native.Nat.{ℕ, zero, suc, ◌+◌, ◌*◌, ◌≤◌, ◌<◌}
use native.Mathlib.Omega.{arith}
use lib.ListN.{length, get_or, take}
use lib.Seq.{length-take-le, take_all, get_or-take}
use lib.Dec.{eqb, ltb}
use borrow.Author.Tests.{ltb-true, ltb-false, le-ltb}
use Rattle.lower.specs.declared.Sizes.{Sizes}
use Rattle.lower.specs.Faults.{SHAPE, WIRE, or_else, first_fault, term_fault}
use Rattle.lower.proofs.Firsts.{else_first, else_second}
use Rattle.std.specs.Prelude.{Result, Ok, Err}
use Rattle.house_file.specs.declared.FileRead.{FileRead}
use Rattle.house_file.specs.declared.FileFault.{FileFault}
use Rattle.house_file.specs.Format.{Entry, LINEAR, arity}
use Rattle.house_file.specs.Decoding.{u16_at, term_at, terms_at, operand_next, operands_next, operands_terms, field_end, operands_start}
use Rattle.house_file.specs.Reading.{END, head_fault, operand_fault, operands_fault, destination_fault, payload_fault, counted, full_fault, counts_after, field_fault, wires_fault, read_of, entries_read, Fault, fault, file_read, by_number}
use Rattle.house_file.specs.First.{FaultFrom, here, after, later, FirstFault, in_the_first, in_another}
use Rattle.house_file.specs.declared.Counts.{Counts}
use Rattle.house_fill.specs.Layout.{Filled}
use Rattle.house_read.specs.Answer.{with_room, ReadIs}
use Rattle.house_read.proofs.Answers.{room_refused, answer_tells}
use Rattle.house_read.proofs.Runs.{entry-field, wires_are}
use Rattle.house_read.proofs.Exact.{operand_fault_lem}
use Rattle.house_read.proofs.Refusals.{refusal_right}
use Rattle.house_read.proofs.Short.{Near, near_first, near_next, near_short, accepted_short}

-- ---- a fault that is only looked at where there is none before it

else_same : (a b c d : ℕ) → a ≡ b → (b ≡ 0 → c ≡ d) → or_else a c ≡ or_else b d
else_same a b c d e k = rw e (go b k)
  where
    go : (b : ℕ) → (b ≡ 0 → c ≡ d) → or_else b c ≡ or_else b d
    go zero k = k refl
    go (suc b) k = refl

cond_same : (x : Bool) (n a b : ℕ) → (x ≡ false → a ≡ b) → cond x n a ≡ cond x n b
cond_same true n a b k = refl
cond_same false n a b k = k refl

-- ---- two files that have the same first bytes

module _ (s t : List ℕ) (limit : ℕ) (same : (i : ℕ) → i < limit → get_or t i 0 ≡ get_or s i 0) where
  u16_same : (at : ℕ) → at + 2 ≤ limit → u16_at t at ≡ u16_at s at
  unfolding u16_at
  u16_same at h = omega (arith, same at (omega arith), same (at + 1) (omega arith))

  terms_same : (n at : ℕ) → at + 6 * n ≤ limit → terms_at t n at ≡ terms_at s n at
  unfolding terms_at term_at
  terms_same zero at h = refl
  terms_same (suc n) at h =
      rw (u16_same at (omega arith), u16_same (at + 2) (omega arith), u16_same (at + 4) (omega arith), terms_same n (at + 6) (omega arith))

  next_same : (at : ℕ) → at + 2 ≤ limit → operand_next t at ≡ operand_next s at
  next_same at h = ap (λ (n : ℕ). at + 2 + 6 * n) (u16_same at h)

  operand_same : (w end at : ℕ) → end ≤ limit → operand_fault t w end at ≡ operand_fault s w end at
  unfolding operand_fault
  operand_same w end at l =
      cond_same (ltb end (at + 2)) SHAPE (cond (ltb end (operand_next t at)) SHAPE (first_fault (term_fault w) (terms_at t (u16_at t at) (at + 2))))
      (cond (ltb end (operand_next s at)) SHAPE (first_fault (term_fault w) (terms_at s (u16_at s at) (at + 2))))
      (λ x. let h : at + 2 ≤ end = ltb-false _ _ x in
      rw (u16_same at (omega arith))
      (cond_same (ltb end (operand_next s at)) SHAPE (first_fault (term_fault w) (terms_at t (u16_at s at) (at + 2)))
      (first_fault (term_fault w) (terms_at s (u16_at s at) (at + 2)))
      (λ y. let g : operand_next s at ≤ end = ltb-false _ _ y in
      ap (first_fault (term_fault w)) (terms_same (u16_at s at) (at + 2) (omega arith)))))

  operands_same : (w end k at : ℕ) → end ≤ limit → operands_fault t w end k at ≡ operands_fault s w end k at
  unfolding operands_fault
  operands_same w end zero at l = refl
  operands_same w end (suc k) at l =
      else_same (operand_fault t w end at) (operand_fault s w end at) (operands_fault t w end k (operand_next t at)) (operands_fault s w end k (operand_next s at))
      (operand_same w end at l)
      (λ e. ap (λ (j : ℕ). operands_fault t w end k j) (next_same at (omega (arith, (operand_fault_lem s w end at e).1))) ∙ operands_same w end k (operand_next s at) l)

  -- where the operands have no fault, they end at the same offset and have as many terms
  after_same : (w end k at : ℕ) → end ≤ limit → operands_fault s w end k at ≡ 0
      → (operands_next t k at ≡ operands_next s k at) × (operands_terms t k at ≡ operands_terms s k at)
  unfolding operands_fault operands_next operands_terms
  after_same w end zero at l e = (refl, refl)
  after_same w end (suc k) at l e =
      let rest : ℕ = operands_fault s w end k (operand_next s at) in
      let h : operand_next s at ≤ end = (operand_fault_lem s w end at (else_first (operand_fault s w end at) rest e)).1 in
      let u = u16_same at (omega arith) in
      let r = after_same w end k (operand_next s at) l (else_second (operand_fault s w end at) rest e) in
      (rw u r.0, rw u (ap (λ (n : ℕ). u16_at s at + n) r.1))

  destination_same : (w tag end at : ℕ) → end ≤ limit → destination_fault t w tag end at ≡ destination_fault s w tag end at
  unfolding destination_fault
  destination_same w tag end at l = go (eqb tag LINEAR)
    where
      go : (b : Bool) → cond b (cond (ltb end (at + 2)) SHAPE (cond (ltb (u16_at t at) w) 0 WIRE)) 0 ≡ cond b (cond (ltb end (at + 2)) SHAPE (cond (ltb (u16_at s at) w) 0 WIRE)) 0
      go false = refl
      go true =
          cond_same (ltb end (at + 2)) SHAPE (cond (ltb (u16_at t at) w) 0 WIRE) (cond (ltb (u16_at s at) w) 0 WIRE)
          (λ x. let h : at + 2 ≤ end = ltb-false _ _ x in rw (u16_same at (omega arith)))

  payload_same : (w tag end at : ℕ) → end ≤ limit → payload_fault t w tag end at ≡ payload_fault s w tag end at
  unfolding payload_fault
  payload_same w tag end at l =
      let q = operands_start tag at in
      let k = arity tag in
      let left : List ℕ → ℕ = λ x. cond (ltb (operands_next x k q) end) SHAPE 0 in
      else_same (destination_fault t w tag end at) (destination_fault s w tag end at) (or_else (operands_fault t w end k q) (left t))
      (or_else (operands_fault s w end k q) (left s)) (destination_same w tag end at l)
      (λ _. else_same (operands_fault t w end k q) (operands_fault s w end k q) (left t) (left s) (operands_same w end k q l)
      (λ e. ap (λ (n : ℕ). cond (ltb n end) SHAPE 0) (after_same w end k q l e).0))

  counts_same : (w : ℕ) (c : Counts) (at : ℕ) → at < limit → field_end s at ≤ limit → payload_fault s w (get_or s at 0) (field_end s at) (at + 3) ≡ 0
      → counts_after t c at ≡ counts_after s c at
  unfolding counts_after payload_fault
  counts_same w c at h l e =
      let tag = get_or s at 0 in
      let q = operands_start tag (at + 3) in
      let o : ℕ = operands_fault s w (field_end s at) (arity tag) q in
      let left : ℕ = cond (ltb (operands_next s (arity tag) q) (field_end s at)) SHAPE 0 in
      let r : or_else o left ≡ 0 = else_second (destination_fault s w tag (field_end s at) (at + 3)) (or_else o left) e in
      rw (same at h) (ap (counted c tag) (after_same w (field_end s at) (arity tag) q l (else_first o left r)).1)

-- ---- and both of them more bytes than a field can end at

module _ (s t : List ℕ) (limit : ℕ) (same : (i : ℕ) → i < limit → get_or t i 0 ≡ get_or s i 0) (bytes : (i : ℕ) → i < limit → get_or s i 0 < 256)
    (long : limit ≤ length s) (long' : limit ≤ length t) where
  end_few : (at : ℕ) → at + 65538 ≤ limit → field_end s at ≤ at + 65538
  unfolding u16_at
  end_few at h = omega (arith, bytes (at + 1) (omega arith), bytes (at + 1 + 1) (omega arith))

  end_same : (at : ℕ) → at + 65538 ≤ limit → field_end t at ≡ field_end s at
  end_same at h = ap (λ (n : ℕ). at + 3 + n) (u16_same s t limit same (at + 1) (omega arith))

  head_same : (low high at : ℕ) → at + 65538 ≤ limit → head_fault t low high at ≡ head_fault s low high at
  unfolding head_fault
  head_same low high at h =
      let e = end_few at h in
      rw (
        same at (omega arith),
        end_same at h,
        le-ltb (length t) (at + 3) (omega arith),
        le-ltb (length s) (at + 3) (omega arith),
        le-ltb (length t) (field_end s at) (omega arith),
        le-ltb (length s) (field_end s at) (omega arith),
      )

  field-same : (w : ℕ) (c : Counts) (at : ℕ) → at + 65538 ≤ limit → field_fault t w c at ≡ field_fault s w c at
  unfolding field_fault
  field-same w c at h =
      let tag = get_or s at 0 in
      let end = field_end s at in
      let l = end_few at h in
      let shut : ℕ = cond (eqb (u16_at s (at + 1)) 0) 0 SHAPE in
      let rest : List ℕ → ℕ = λ x. or_else (payload_fault x w tag end (at + 3)) (full_fault (counts_after x c at)) in
      rw (head_same 2 END at h, same at (omega arith), u16_same s t limit same (at + 1) (omega arith))
      (ap (or_else (head_fault s 2 END at))
      (cond_same (eqb tag END) shut (rest t) (rest s)
      (λ _. else_same (payload_fault t w tag end (at + 3)) (payload_fault s w tag end (at + 3)) (full_fault (counts_after t c at)) (full_fault (counts_after s c at))
      (payload_same s t limit same w tag end (at + 3) (omega arith))
      (λ e. ap full_fault (counts_same s t limit same w c at (omega arith) (omega arith) e)))))

  fault_front : {w n j : ℕ} {c : Counts} {at : ℕ} → 149511 ≤ limit → 0 < w → Near c at → FaultFrom s w n j c at → FaultFrom t w n j c at
  fault_front {w} {c = c} {at = at} m z k (here f p e) = let h = near_short k in here (field-same w c at (omega arith) ∙ f) p e
  fault_front {w} {c = c} {at = at} m z k (after f g i a b) =
      let h = near_short k in
      after (field-same w c at (omega arith) ∙ f) (ap (λ (x : ℕ). eqb x END) (same at (omega arith)) ∙ g) (omega arith) a b
  fault_front {w} {c = c} {at = at} m z k (later f g q) =
      let h = near_short k in
      let l = end_few at (omega arith) in
      let r = fault_front m z (near_next s w c at z f g k) q in
      later (field-same w c at (omega arith) ∙ f) (ap (λ (x : ℕ). eqb x END) (same at (omega arith)) ∙ g)
      (rw (end_same at (omega arith), counts_same s t limit same w c at (omega arith) (omega arith) (entry-field s w c at f g).payload) r)

  wires_same : 149511 ≤ limit → wires_fault t ≡ wires_fault s
  unfolding wires_fault
  wires_same m = rw (head_same 1 1 0 (omega arith), u16_same s t limit same 1 (omega arith), u16_same s t limit same 3 (omega arith))

  first_front : {n j : ℕ} → 149511 ≤ limit → FirstFault s n j → FirstFault t n j
  first_front m (in_the_first f p e) = in_the_first (wires_same m ∙ f) p e
  first_front m (in_another f q) =
      in_another (wires_same m ∙ f) (rw (u16_same s t limit same 3 (omega arith)) (fault_front m (wires_are s f).some near_first q))

-- ---- what is refused alike is answered alike

no_entries : (s : List ℕ) (r : Result FileRead FileFault) {f : Fault} → by_number r ≡ Err f → entries_read s r ≡ []
no_entries s (Ok x) e = cc
no_entries s (Err g) e = refl

module _ (s u terms ands imuls bmuls zeros dsts rhss : List ℕ) (r : Result FileRead FileFault) (terms' ands' imuls' bmuls' zeros' dsts' rhss' : List ℕ) (n j : ℕ) where
  refused_alike : read_of s ≡ Err (fault n j) → read_of u ≡ Err (fault n j) → ReadIs s terms ands imuls bmuls zeros dsts rhss r terms' ands' imuls' bmuls' zeros' dsts' rhss'
      → ReadIs u terms ands imuls bmuls zeros dsts rhss r terms' ands' imuls' bmuls' zeros' dsts' rhss'
  refused_alike e f k =
      let t = length terms in
      let a = length ands in
      let i = length imuls in
      let b = length bmuls in
      let o = length zeros in
      let d = length dsts in
      let h = length rhss in
      let g : by_number r ≡ Err (fault n j) = k.answer ∙ sym (room_refused (length s) t a i b o d h e) in
      let is : by_number r ≡ with_room (read_of u) (length u) t a i b o d h = g ∙ room_refused (length u) t a i b o d h f in
      let es : entries_read s r ≡ entries_read u r = no_entries s r g ∙ sym (no_entries u r g) in
      record {
        answer = is;
        tells = answer_tells (length u) t a i b o d h r (read_of u) is;
        filled = subst (λ (l : List Entry). Filled l terms ands imuls bmuls zeros dsts rhss terms' ands' imuls' bmuls' zeros' dsts' rhss') es k.filled;
      }

-- ---- the front of a file

-- bytes have a front of bytes
pub front_bytes : (n : ℕ) (s : List ℕ) → ((i : ℕ) → get_or s i 0 < 256) → (i : ℕ) → get_or (take n s) i 0 < 256
front_bytes zero s b i = omega arith
front_bytes (suc n) [] b i = omega arith
front_bytes (suc n) (x ∷ s) b zero = b 0
front_bytes (suc n) (x ∷ s) b (suc i) = front_bytes n s (λ j. b (suc j)) i

-- only the front need be bytes, which is all that a reader of it knows
module _ (limit : ℕ) (s : List ℕ) (most : 149511 ≤ limit) (bytes : (i : ℕ) → get_or (take limit s) i 0 < 256) where
  front_done : (z : Sizes) (n : ℕ) → read_of s ≡ Ok (file_read z n) → take limit s ≡ s
  front_done z n e = take_all limit s (omega (arith, accepted_short s z n e))

  front_by : (n j : ℕ) (b : Bool) → ltb limit (length s) ≡ b → read_of s ≡ Err (fault n j) → read_of (take limit s) ≡ Err (fault n j)
  front_by n j false h e = ap read_of (take_all limit s (ltb-false _ _ h)) ∙ e
  front_by n j true h e =
      let l : limit < length s = ltb-true _ _ h in
      let same : (i : ℕ) → i < limit → get_or (take limit s) i 0 ≡ get_or s i 0 = λ i k. get_or-take limit s i 0 k in
      let long : limit ≤ length (take limit s) = omega (arith, length-take-le limit s (omega arith)) in
      (refusal_right (take limit s) n j).1 (first_front s (take limit s) limit same (λ i k. rw (same i k) at (bytes i)) (omega arith) long most ((refusal_right s n j).0 e))

  front_of : (x : Result FileRead Fault) → read_of s ≡ x → read_of (take limit s) ≡ x
  front_of (Err f) e = front_by f.number f.at (ltb limit (length s)) refl e
  front_of (Ok x) e = ap read_of (front_done x.sizes x.terms e) ∙ e

  -- what is told of a file is told by its first bytes
  pub front_tells : read_of (take limit s) ≡ read_of s
  front_tells = front_of (read_of s) refl

  module _ {terms ands imuls bmuls zeros dsts rhss : List ℕ} {r : Result FileRead FileFault} {terms' ands' imuls' bmuls' zeros' dsts' rhss' : List ℕ} where
    read_by_lem : (x : Result FileRead Fault) → read_of s ≡ x → ReadIs (take limit s) terms ands imuls bmuls zeros dsts rhss r terms' ands' imuls' bmuls' zeros' dsts' rhss'
        ↔ ReadIs s terms ands imuls bmuls zeros dsts rhss r terms' ands' imuls' bmuls' zeros' dsts' rhss'
    read_by_lem (Err q) e =
        let n = q.number in
        let j = q.at in
        let f = front_of (Err q) e in (
          refused_alike (take limit s) s terms ands imuls bmuls zeros dsts rhss r terms' ands' imuls' bmuls' zeros' dsts' rhss' n j f e,
          refused_alike s (take limit s) terms ands imuls bmuls zeros dsts rhss r terms' ands' imuls' bmuls' zeros' dsts' rhss' n j e f,
        )
    read_by_lem (Ok x) e =
        let f = front_done x.sizes x.terms e in
        let At : List ℕ → Type 0 = λ l. ReadIs l terms ands imuls bmuls zeros dsts rhss r terms' ands' imuls' bmuls' zeros' dsts' rhss' in
        (subst At f, subst At (sym f))

    -- what `read` answers to the front, and leaves in the stores, is what it answers to the whole, and leaves
    pub front_read : ReadIs (take limit s) terms ands imuls bmuls zeros dsts rhss r terms' ands' imuls' bmuls' zeros' dsts' rhss'
        ↔ ReadIs s terms ands imuls bmuls zeros dsts rhss r terms' ands' imuls' bmuls' zeros' dsts' rhss'
    front_read = read_by_lem (read_of s) refl
