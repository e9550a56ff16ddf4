-- What is accepted is a file of the format: its bytes are those of the entries that it says, and they are sound. Assumes nothing.
use mathlib.Core.Path.{◌≡◌, refl, sym, ap, ◌∙◌, subst}
use mathlib.Core.Bool.{Bool, true, false, cond}
use mathlib.Core.List.{List, [], ◌∷◌, ◌++◌}
use Prim.Native.Nat.{ℕ, zero, suc, ◌+◌, ◌*◌, ◌/◌, ◌%◌, ◌≤◌, ◌<◌}
use native.Mathlib.Nat.{add-zero}
use native.Mathlib.Omega.{arith}
use lib.ListN.{length, get_or, length-append, length-map}
use lib.Dec.{eqb, ltb}
use borrow.Author.Tests.{ltb-false, ltb-true, eqb-true}
use Rattle.shift.specs.Shifts.{valid_number}
use Rattle.operand.specs.Numbers.{Term, Operand}
use Rattle.lower.specs.declared.Sizes.{Sizes}
use Rattle.lower.specs.Lists.{All, done, more}
use Rattle.lower.specs.Model.{terms_of}
use Rattle.lower.specs.Accepted.{Limits, MAX_TERMS}
use Rattle.lower.specs.Faults.{SHAPE, WIRE, or_else, unless, first_fault, term_fault}
use Rattle.lower.proofs.Firsts.{else_first, else_second, unless_holds}
use Rattle.std.specs.Prelude.{Ok}
use Rattle.house_file.specs.Format.{le16, terms_bytes, operands_bytes, Entry, LINEAR, payload_bytes, file_bytes, of_kind, definition_from, system_from, sizes_in, arity, TermOk, EntryOk, Sound}
use Rattle.house_file.specs.Decoding.{u16_at, term_at, terms_at, operand_next, operands_at, operands_next, field_end, operands_start, entry_at, entries_at}
use Rattle.house_file.specs.Reading.{END, operand_fault, operands_fault, destination_fault, payload_fault, counted, Small, counts_after, none, sizes_of, total, read_of, file_read}
use Rattle.house_file.specs.declared.Counts.{Counts}
use Rattle.house_file.proofs.Sizes.{terms_size}
use Rattle.house_fill.specs.Layout.{terms_count}
use Rattle.house_fill.proofs.Fills.{terms_length, count_operands}
use Rattle.house_read.proofs.Has.{Has, has_both, has_all}
use Rattle.house_read.proofs.Round.{counts_of, rest_bytes, rest_more, rest_none, rest_size, total-counted}
use Rattle.house_read.proofs.Tallies.{counts_are, terms_of_lem, sizes_are}
use Rattle.house_read.proofs.Runs.{Runs, ended, onward, entry-field, end_field, runs_small, read_whole}

-- ---- no fault of a part

fault_term : (w : ℕ) (t : Term) → term_fault w t ≡ 0 → TermOk w t
unfolding term_fault
fault_term w t e =
    let rest : ℕ = or_else (unless (valid_number t.inner) 4) (unless (valid_number t.outer) 4) in
    let a = else_first (unless (ltb t.wire w) WIRE) rest e in
    let r = else_second (unless (ltb t.wire w) WIRE) rest e in
    let b = else_first (unless (valid_number t.inner) 4) (unless (valid_number t.outer) 4) r in
    let c = else_second (unless (valid_number t.inner) 4) (unless (valid_number t.outer) 4) r in
    record {
      wire_ok = ltb-true _ _ (unless_holds (ltb t.wire w) WIRE (omega arith) a);
      inner_ok = unless_holds (valid_number t.inner) 4 (omega arith) b;
      outer_ok = unless_holds (valid_number t.outer) 4 (omega arith) c;
    }

fault_terms : (w : ℕ) (ts : List Term) → first_fault (term_fault w) ts ≡ 0 → All (TermOk w) ts
fault_terms w [] e = done
fault_terms w (t ∷ ts) e =
    more (fault_term w t (else_first (term_fault w t) (first_fault (term_fault w) ts) e))
    (fault_terms w ts (else_second (term_fault w t) (first_fault (term_fault w) ts) e))

no_cond : (t : Bool) (a b : ℕ) → cond t (suc a) b ≡ 0 → (t ≡ false) × (b ≡ 0)
no_cond true a b e = absurd (omega arith)
no_cond false a b e = (refl, e)

module _ (s : List ℕ) where
  pub operand_fault_lem : (w end at : ℕ) → operand_fault s w end at ≡ 0 → All (TermOk w) (terms_at s (u16_at s at) (at + 2)) × (operand_next s at ≤ end)
  unfolding operand_fault
  operand_fault_lem w end at e =
      let last : ℕ = first_fault (term_fault w) (terms_at s (u16_at s at) (at + 2)) in
      let a = no_cond (ltb end (at + 2)) 2 (cond (ltb end (operand_next s at)) SHAPE last) e in
      let b = no_cond (ltb end (operand_next s at)) 2 last a.1 in
      (fault_terms w (terms_at s (u16_at s at) (at + 2)) b.1, ltb-false _ _ b.0)

  operands_fault_lem : (w end k at : ℕ) → at ≤ end → operands_fault s w end k at ≡ 0
      → All (λ (o : Operand). All (TermOk w) o) (operands_at s k at) × (operands_next s k at ≤ end)
  unfolding operands_fault operands_at operands_next
  operands_fault_lem w end zero at h e = (done, h)
  operands_fault_lem w end (suc k) at h e =
      let a = operand_fault_lem w end at (else_first (operand_fault s w end at) (operands_fault s w end k (operand_next s at)) e) in
      let b = operands_fault_lem w end k (operand_next s at) a.1 (else_second (operand_fault s w end at) (operands_fault s w end k (operand_next s at)) e) in
      (more a.0 b.0, b.1)

  operands_length : (k at : ℕ) → length (operands_at s k at) ≡ k
  unfolding operands_at
  operands_length zero at = refl
  operands_length (suc k) at = ap suc (operands_length k (operand_next s at))

  next_grows : (k at : ℕ) → at ≤ operands_next s k at
  unfolding operands_next
  next_grows zero at = omega arith
  next_grows (suc k) at = omega (arith, next_grows k (operand_next s at))

  pub record PayloadIs (w tag end at : ℕ) : Type 0 where
    pub dst_ok : cond (eqb tag LINEAR) (u16_at s at) 0 < w
    pub starts : operands_start tag at ≤ end
    pub operands_ok : All (λ (o : Operand). All (TermOk w) o) (operands_at s (arity tag) (operands_start tag at))
    pub ends : operands_next s (arity tag) (operands_start tag at) ≡ end

  dest_by : (b : Bool) (w end at : ℕ) → 0 < w → at ≤ end → cond b (cond (ltb end (at + 2)) SHAPE (cond (ltb (u16_at s at) w) 0 WIRE)) 0 ≡ 0
      → (cond b (u16_at s at) 0 < w) × (cond b (at + 2) at ≤ end)
  dest_by false w end at z h e = (z, h)
  dest_by true w end at z h e =
      let a = no_cond (ltb end (at + 2)) 2 (cond (ltb (u16_at s at) w) 0 WIRE) e in
      (ltb-true _ _ (go (ltb (u16_at s at) w) a.1), ltb-false _ _ a.0)
    where
      go : (b : Bool) → ◌≡◌ {A = ℕ} (cond b 0 5) 0 → b ≡ true
      go true e = refl
      go false e = absurd (omega arith)

  pub payload_fault_lem : (w tag end at : ℕ) → 0 < w → at ≤ end → payload_fault s w tag end at ≡ 0 → PayloadIs w tag end at
  unfolding payload_fault destination_fault operands_start
  payload_fault_lem w tag end at z h e =
      let q = operands_start tag at in
      let last : ℕ = cond (ltb (operands_next s (arity tag) q) end) SHAPE 0 in
      let rest : ℕ = or_else (operands_fault s w end (arity tag) q) last in
      let a = dest_by (eqb tag LINEAR) w end at z h (else_first (destination_fault s w tag end at) rest e) in
      let r = else_second (destination_fault s w tag end at) rest e in
      let b = operands_fault_lem w end (arity tag) q a.1 (else_first (operands_fault s w end (arity tag) q) last r) in
      let c = no_cond (ltb (operands_next s (arity tag) q) end) 2 0 (else_second (operands_fault s w end (arity tag) q) last r) in
      let u : end ≤ operands_next s (arity tag) q = ltb-false _ _ c.0 in
      record { dst_ok = a.0; starts = a.1; operands_ok = b.0; ends = omega (arith, b.1, u) }

-- ---- an entry with no fault is sound

module _ (s : List ℕ) (w at : ℕ) (z : 0 < w) (p : PayloadIs s w (get_or s at 0) (field_end s at) (at + 3)) (l : 2 ≤ get_or s at 0) (h : get_or s at 0 ≤ 6) where
  entry_ok : EntryOk w (entry_at s at)
  unfolding entry_at
  entry_ok = record {
    low = l;
    high = h;
    dst_ok = p.dst_ok;
    dst_none = λ f. go (eqb (get_or s at 0) LINEAR) refl f;
    count_ok = operands_length s (arity (get_or s at 0)) (operands_start (get_or s at 0) (at + 3));
    operands_ok = p.operands_ok;
  }
    where
      go : (b : Bool) → eqb (get_or s at 0) LINEAR ≡ b → (get_or s at 0 ≡ LINEAR → ⊥) → cond b (u16_at s (at + 3)) 0 ≡ 0
      go true e f = absurd (f (eqb-true _ _ e))
      go false e f = refl

-- ---- bytes

module _ (s : List ℕ) (bytes : (i : ℕ) → get_or s i 0 < 256) where
  low_byte : (at : ℕ) → u16_at s at % 256 ≡ get_or s at 0
  unfolding u16_at
  low_byte at = let a = bytes at in omega arith

  high_byte : (at : ℕ) → u16_at s at / 256 ≡ get_or s (at + 1) 0
  unfolding u16_at
  high_byte at = let a = bytes at in omega arith

  has_le : (at : ℕ) (xs : List ℕ) → Has s (at + 2) xs → Has s at (le16 (u16_at s at) ++ xs)
  unfolding Has
  has_le at xs h =
      let e : at + 2 ≡ at + 1 + 1 = omega arith in
      (sym (low_byte at), (sym (high_byte at), subst (λ (k : ℕ). Has s k xs) e h))

  terms_bytes_lem : (n at : ℕ) → at + 6 * n ≤ length s → Has s at (terms_bytes (terms_at s n at))
  unfolding terms_bytes terms_at term_at Has
  terms_bytes_lem zero at h = omega (arith, h)
  terms_bytes_lem (suc n) at h =
      let xs = terms_bytes (terms_at s n (at + 6)) in
      let r : Has s (at + 6) xs = terms_bytes_lem n (at + 6) (omega (arith, h)) in
      let e₆ : at + 6 ≡ at + 4 + 2 = omega arith in
      let e₄ : at + 4 ≡ at + 2 + 2 = omega arith in
      let r₄ : Has s (at + 4) (le16 (u16_at s (at + 4)) ++ xs) = has_le (at + 4) xs (subst (λ (k : ℕ). Has s k xs) e₆ r) in
      let r₂ : Has s (at + 2) (le16 (u16_at s (at + 2)) ++ (le16 (u16_at s (at + 4)) ++ xs)) =
      has_le (at + 2) (le16 (u16_at s (at + 4)) ++ xs) (subst (λ (k : ℕ). Has s k (le16 (u16_at s (at + 4)) ++ xs)) e₄ r₄) in
      has_le at (le16 (u16_at s (at + 2)) ++ (le16 (u16_at s (at + 4)) ++ xs)) r₂

  operand_size_lem : (at : ℕ) → at + 2 + length (terms_bytes (terms_at s (u16_at s at) (at + 2))) ≡ operand_next s at
  operand_size_lem at = omega (arith, terms_size (terms_at s (u16_at s at) (at + 2)), terms_length s (u16_at s at) (at + 2))

  record OperandsHave (k at : ℕ) : Type 0 where
    have : Has s at (operands_bytes (operands_at s k at))
    size : at + length (operands_bytes (operands_at s k at)) ≡ operands_next s k at

  operands_bytes_lem : (k at : ℕ) → operands_next s k at ≤ length s → OperandsHave k at
  unfolding operands_bytes operands_at operands_next Has
  operands_bytes_lem zero at h = record { have = omega (arith, h); size = add-zero at }
  operands_bytes_lem (suc k) at h =
      let n = u16_at s at in
      let ts = terms_at s n (at + 2) in
      let r = operands_bytes_lem k (operand_next s at) h in
      let xs = operands_bytes (operands_at s k (operand_next s at)) in
      let g = next_grows s k (operand_next s at) in
      let e = operand_size_lem at in
      let t : Has s (at + 2) (terms_bytes ts) = terms_bytes_lem n (at + 2) (omega arith) in
      let b : Has s (at + 2) (terms_bytes ts ++ xs) = has_both s (at + 2) (terms_bytes ts) xs t (subst (λ (j : ℕ). Has s j xs) (sym e) r.have) in
      let m : length ts ≡ n = terms_length s n (at + 2) in
      record {
        have = rw m (has_le at (terms_bytes ts ++ xs) b);
        size = omega (arith, r.size, e, length-append (terms_bytes ts) xs);
      }

  record PayloadHas (b : Bool) (at : ℕ) (xs : List ℕ) (end : ℕ) : Type 0 where
    have : Has s at (cond b (le16 (cond b (u16_at s at) 0)) [] ++ xs)
    size : at + length (cond b (le16 (cond b (u16_at s at) 0)) [] ++ xs) ≡ end

  payload_by : (b : Bool) (at : ℕ) (xs : List ℕ) (end : ℕ) → Has s (cond b (at + 2) at) xs → cond b (at + 2) at + length xs ≡ end → PayloadHas b at xs end
  payload_by true at xs end h e = record { have = has_le at xs h; size = omega (arith, e) }
  payload_by false at xs end h e = record { have = h; size = e }

  -- the payload of the field at `at` is that of its entry
  record EntryHas (at : ℕ) : Type 0 where
    have : Has s (at + 3) (payload_bytes (entry_at s at))
    size : length (payload_bytes (entry_at s at)) ≡ u16_at s (at + 1)

  entry_bytes_lem : (w at : ℕ) → PayloadIs s w (get_or s at 0) (field_end s at) (at + 3) → field_end s at ≤ length s → EntryHas at
  unfolding payload_bytes entry_at operands_start
  entry_bytes_lem w at p i =
      let tag = get_or s at 0 in
      let q = operands_start tag (at + 3) in
      let o = operands_bytes_lem (arity tag) q (omega (arith, p.ends, i)) in
      let r = payload_by (eqb tag LINEAR) (at + 3) (operands_bytes (operands_at s (arity tag) q)) (field_end s at) o.have (o.size ∙ p.ends) in
      record { have = r.have; size = omega (arith, r.size) }

-- ---- a run of fields

-- the counts after a field are those of its entry
counts_after_lem : (s : List ℕ) (c : Counts) (at : ℕ) → counts_after s c at ≡ counted c (entry_at s at).tag (terms_count (entry_at s at).operands)
unfolding counts_after entry_at
counts_after_lem s c at = rw (count_operands s (arity (get_or s at 0)) (operands_start (get_or s at 0) (at + 3)))

pub runs_counts : {s : List ℕ} {w : ℕ} {c : Counts} {at n : ℕ} {d : Counts} → Runs s w c at n d → d ≡ counts_of c (entries_at s n at)
unfolding counts_of entries_at
runs_counts (ended f g h) = refl
runs_counts {s} {w} {c} {at} (onward {n = n} f g r) =
    runs_counts r ∙ ap (λ (x : Counts). counts_of x (entries_at s n (field_end s at))) (counts_after_lem s c at)

counted_once : (s : List ℕ) (w : ℕ) (c : Counts) (at : ℕ) → 2 ≤ get_or s at 0 → get_or s at 0 ≤ 6 → total (sizes_of w (counts_after s c at)) ≡ total (sizes_of w c) + 1
unfolding entry_at
counted_once s w c at l h =
    ap (λ (x : Counts). total (sizes_of w x)) (counts_after_lem s c at)
    ∙ total-counted w c (entry_at s at).tag (terms_count (entry_at s at).operands) l h

pub runs-total : {s : List ℕ} {w : ℕ} {c : Counts} {at n : ℕ} {d : Counts} → Runs s w c at n d → total (sizes_of w d) ≡ total (sizes_of w c) + n
runs-total (ended f g h) = omega arith
runs-total {s} {w} {c} {at} (onward f g r) =
    let k = (entry-field s w c at f g).head in
    omega (arith, runs-total r, counted_once s w c at k.low_ok k.high_ok)

pub runs_ok : {s : List ℕ} {w : ℕ} {c : Counts} {at n : ℕ} {d : Counts} → 0 < w → Runs s w c at n d → All (EntryOk w) (entries_at s n at)
unfolding entries_at
runs_ok z (ended f g h) = done
runs_ok {s} {w} {c} {at} z (onward f g r) =
    let k = entry-field s w c at f g in
    let p = payload_fault_lem s w (get_or s at 0) (field_end s at) (at + 3) z (omega arith) k.payload in
    more (entry_ok s w at z p k.head.low_ok k.head.high_ok) (runs_ok z r)

module _ (s : List ℕ) (bytes : (i : ℕ) → get_or s i 0 < 256) where
  record RestHas (at n : ℕ) : Type 0 where
    have : Has s at (rest_bytes (entries_at s n at))
    size : at + length (rest_bytes (entries_at s n at)) ≡ length s

  end_bytes : (at : ℕ) → get_or s at 0 ≡ END → u16_at s (at + 1) ≡ 0 → at + 3 ≤ length s → Has s at (END ∷ le16 0)
  unfolding Has u16_at
  end_bytes at t e h = (t, (omega (arith, e), (omega (arith, e), omega (arith, h))))

  rest_end : (at : ℕ) → Has s at (END ∷ le16 0) → at + 3 ≡ length s → RestHas at 0
  unfolding entries_at
  rest_end at h e = record { have = subst (Has s at) (sym rest_none) h; size = omega (arith, e, ap length rest_none) }

  field_bytes_lem : (at : ℕ) (es : List Entry) → EntryHas s bytes at → Has s (field_end s at) (rest_bytes es) → Has s at (rest_bytes (entry_at s at ∷ es))
  unfolding Has entry_at
  field_bytes_lem at es g h =
      let e = entry_at s at in
      let P = payload_bytes e in
      let end : field_end s at ≡ at + 3 + length P = omega (arith, g.size) in
      let e₃ : at + 3 ≡ at + 1 + 2 = omega arith in
      let b : Has s (at + 3) (P ++ rest_bytes es) = has_both s (at + 3) P (rest_bytes es) g.have (subst (λ (j : ℕ). Has s j (rest_bytes es)) end h) in
      let l : Has s (at + 1) (le16 (u16_at s (at + 1)) ++ (P ++ rest_bytes es)) = has_le s bytes (at + 1) (P ++ rest_bytes es) (subst (λ (j : ℕ). Has s j (P ++ rest_bytes es)) e₃ b) in
      let m : Has s (at + 1) (le16 (length P) ++ (P ++ rest_bytes es)) = subst (λ (n : ℕ). Has s (at + 1) (le16 n ++ (P ++ rest_bytes es))) (sym g.size) l in
      subst (Has s at) (sym (rest_more e es)) (tag_is at, m)
    where
      tag_is : (at : ℕ) → get_or s at 0 ≡ (entry_at s at).tag
      tag_is at = refl

  runs_bytes : {w : ℕ} {c : Counts} {at n : ℕ} {d : Counts} → 0 < w → Runs s w c at n d → RestHas at n
  unfolding entries_at
  runs_bytes {w} {c} {at} z (ended f g h) =
      let k = end_field s w c at f g in
      rest_end at (end_bytes at k.tag k.empty k.head.there) (omega (arith, h, k.head.there))
  runs_bytes {w} {c} {at} z (onward {n = n} f g r) =
      let k = entry-field s w c at f g in
      let p = payload_fault_lem s w (get_or s at 0) (field_end s at) (at + 3) z (omega arith) k.payload in
      let e = entry_bytes_lem s bytes w at p k.head.inside in
      let q = runs_bytes z r in
      record {
        have = field_bytes_lem at (entries_at s n (field_end s at)) e q.have;
        size = omega (arith, q.size, rest_size (entry_at s at) (entries_at s n (field_end s at)), e.size);
      }

-- ---- the whole file

-- what is accepted says sound entries, and counts them
pub record EntriesAre (s : List ℕ) (z : Sizes) (t : ℕ) : Type 0 where
  pub sound : Sound z.wires (entries_at s (total z) 5)
  pub sizes_are : z ≡ sizes_in (system_from z.wires (entries_at s (total z) 5))
  pub terms_are : t ≡ length (terms_of (system_from z.wires (entries_at s (total z) 5)))

within : (w : ℕ) (es : List Entry) → 0 < w → w ≤ 4096 → All (EntryOk w) es → Small (counts_of none es) → Limits MAX_TERMS (system_from w es)
unfolding system_from
within w es z m k h =
    let r = counts_are none es in
    let a = length-map (of_kind 2 es) (λ (e : Entry). e.operands) in
    let i = length-map (of_kind 3 es) (λ (e : Entry). e.operands) in
    let b = length-map (of_kind 4 es) (λ (e : Entry). e.operands) in
    let o = length-map (of_kind 5 es) (λ (e : Entry). e.operands) in
    let d = length-map (of_kind LINEAR es) definition_from in
    record {
      wires_some = z;
      wires_few = m;
      definitions_few = omega (arith, r.linears_are, d, h.0);
      others_few = omega (arith, r.ands_are, r.imuls_are, r.bmuls_are, r.zeros_are, a, i, b, o, h.1.0);
      terms_few = omega (arith, r.terms_are, terms_of_lem w es k, h.1.1);
    }

file_bytes_lem : (s : List ℕ) (bytes : (i : ℕ) → get_or s i 0 < 256) (es : List Entry) → get_or s 0 0 ≡ 1 → u16_at s 1 ≡ 2 → Has s 5 (rest_bytes es) → 5 + length (rest_bytes es) ≡ length s
    → file_bytes (u16_at s 3) es ≡ s
unfolding file_bytes Has
file_bytes_lem s bytes es t n h l =
    let w = u16_at s 3 in
    let h₃ : Has s 3 (le16 w ++ rest_bytes es) = has_le s bytes 3 (rest_bytes es) h in
    let h₁ : Has s 1 (le16 (u16_at s 1) ++ (le16 w ++ rest_bytes es)) = has_le s bytes 1 (le16 w ++ rest_bytes es) h₃ in
    let h₂ : Has s 1 (le16 2 ++ (le16 w ++ rest_bytes es)) = subst (λ (k : ℕ). Has s 1 (le16 k ++ (le16 w ++ rest_bytes es))) n h₁ in
    sym (has_all s (file_bytes w es) (t, h₂) (omega (arith, l)))

pub byte_at : (s : List ℕ) → All (λ (b : ℕ). b < 256) s → (i : ℕ) → get_or s i 0 < 256
byte_at [] done i = omega arith
byte_at (b ∷ s) (more h k) zero = h
byte_at (b ∷ s) (more h k) (suc i) = byte_at s k i

-- the same of any wires and entries that are those of the answer
entries_be : (s : List ℕ) (z : Sizes) (t w : ℕ) (es : List Entry) → z.wires ≡ w → entries_at s (total z) 5 ≡ es → Sound w es
    → z ≡ sizes_in (system_from w es) → t ≡ length (terms_of (system_from w es)) → EntriesAre s z t
entries_be s z t w es a b k n m =
    record {
      sound = rw (a, b) k;
      sizes_are = n ∙ ap (λ (v : ℕ). sizes_in (system_from v es)) (sym a) ∙ ap (λ (l : List Entry). sizes_in (system_from z.wires l)) (sym b);
      terms_are = rw (a, b) m;
    }

module _ (s : List ℕ) (z : Sizes) (t : ℕ) (e : read_of s ≡ Ok (file_read z t)) where
  wires_be : z.wires ≡ u16_at s 3
  wires_be = ap (λ (x : Sizes). x.wires) (read_whole s z t e).run.sizes_are

  total_be : total z ≡ (read_whole s z t e).run.n
  total_be =
      let r = (read_whole s z t e).run in
      ap total r.sizes_are ∙ omega (arith, runs-total r.runs)

  pub accepted_entries : EntriesAre s z t
  accepted_entries =
      let f = read_whole s z t e in
      let g = f.first in
      let r = f.run in
      let w = u16_at s 3 in
      let es = entries_at s r.n 5 in
      let d : r.d ≡ counts_of none es = runs_counts r.runs in
      let zs : z ≡ sizes_of w (counts_of none es) = r.sizes_are ∙ ap (sizes_of w) d in
      let ok : All (EntryOk w) es = runs_ok g.some r.runs in
      let small : Small (counts_of none es) = rw d at (runs_small r.runs (omega arith, (omega arith, omega arith))) in
      let c = counts_are none es in
      entries_be s z t w es wires_be (ap (λ (j : ℕ). entries_at s j 5) total_be)
      (record { entries_ok = ok; limits = within w es g.some g.few ok small })
      (zs ∙ sizes_are w es)
      (r.terms_are ∙ ap (λ (x : Counts). x.terms) d ∙ omega (arith, c.terms_are, terms_of_lem w es ok))

  -- and its bytes are those of the entries
  pub accepted_file : All (λ (b : ℕ). b < 256) s → file_bytes z.wires (entries_at s (total z) 5) ≡ s
  accepted_file b =
      let f = read_whole s z t e in
      let g = f.first in
      let r = f.run in
      let h = runs_bytes s (byte_at s b) g.some r.runs in
      let one : get_or s 0 0 ≡ 1 = omega (arith, g.head.low_ok, g.head.high_ok) in
      rw (wires_be, total_be) (file_bytes_lem s (byte_at s b) (entries_at s r.n 5) one g.size h.have h.size)
