-- A file of the format is accepted, counts its entries, and has them. Assumes nothing.
use mathlib.Core.Path.{◌≡◌, refl, sym, ap, ◌∙◌, subst}
use mathlib.Core.Bool.{Bool, true, false, cond}
use mathlib.Core.List.{List, [], ◌∷◌, ◌++◌, append_assoc}
use Prim.Native.Nat.{ℕ, zero, suc, ◌+◌, ◌-◌, ◌*◌, ◌≤◌, ◌<◌}
use native.Mathlib.Nat.{add-zero}
use native.Mathlib.Omega.{arith}
use lib.ListN.{length, get_or, length-append}
use lib.Dec.{eqb, ltb}
use borrow.Author.Tests.{lt-ltb, le-ltb, eq-eqb, eqb-false}
use Rattle.operand.specs.Numbers.{Term, Operand}
use Rattle.lower.specs.Lists.{All, done, more}
use Rattle.lower.specs.Accepted.{MAX_WIRES}
use Rattle.lower.specs.Faults.{SHAPE, WIRE, first_fault, term_fault}
use Rattle.std.specs.Prelude.{Some, None, Ok}
use Rattle.house_file.specs.Format.{le16, terms_bytes, operands_bytes, Entry, LINEAR, payload_bytes, entry_bytes, list_bytes, file_bytes, arity, TermOk, EntryOk}
use Rattle.house_file.specs.Decoding.{u16_at, term_at, terms_at, operand_next, operands_at, operands_next, operands_terms, field_end, operands_start, entry_at, entries_at}
use Rattle.house_file.specs.Reading.{head_fault, operand_fault, operands_fault, destination_fault, payload_fault, counted, full_fault, Small, turn_of, read_from, none, read_of, done_of, total, sizes_of, one_if, counts_after}
use Rattle.house_file.specs.declared.Counts.{Counts}
use Rattle.house_file.proofs.Sizes.{terms_size}
use Rattle.house_scan.specs.Parts.{end_fault}
use Rattle.house_scan.proofs.Laws.{payload_fine, entry_fine, turn_closed, turn_go, read_step, wires_fine, scan_in}
use Rattle.house_fill.specs.Layout.{terms_count}
use Rattle.house_read.proofs.Has.{Has, has_fits, has_left, has_right, has_head, has_tail, has_num, has_after, has_whole}

-- ---- the counts after entries, and that they stay small after each
unfoldable pub counts_of : Counts → List Entry → Counts
counts_of c [] = c
counts_of c (e ∷ es) = counts_of (counted c e.tag (terms_count e.operands)) es

pub data EntriesOk (wires : ℕ) : Counts → List Entry → Type 0 where
  none_left : {c : Counts} → EntriesOk wires c []
  one_more : {c : Counts} {e : Entry} {es : List Entry} → EntryOk wires e → Small (counted c e.tag (terms_count e.operands))
      → EntriesOk wires (counted c e.tag (terms_count e.operands)) es → EntriesOk wires c (e ∷ es)

-- ---- terms
module _ (s : List ℕ) where
  record TermHas (at : ℕ) (t : Term) (ts : List Term) : Type 0 where
    wire_is : u16_at s at ≡ t.wire
    inner_is : u16_at s (at + 2) ≡ t.inner
    outer_is : u16_at s (at + 4) ≡ t.outer
    rest : Has s (at + 6) (terms_bytes ts)

  term_has : (at : ℕ) (t : Term) (ts : List Term) → Has s at (terms_bytes (t ∷ ts)) → TermHas at t ts
  unfolding terms_bytes
  term_has at t ts h =
      let h₂ = has_after s at t.wire _ h in
      let h₄ = has_after s (at + 2) t.inner _ h₂ in
      let e₄ : at + 2 + 2 ≡ at + 4 = omega arith in
      let e₆ : at + 2 + 2 + 2 ≡ at + 6 = omega arith in
      record {
        wire_is = has_num s at t.wire _ h;
        inner_is = has_num s (at + 2) t.inner _ h₂;
        outer_is = ap (u16_at s) (sym e₄) ∙ has_num s (at + 2 + 2) t.outer _ h₄;
        rest = subst (λ (k : ℕ). Has s k (terms_bytes ts)) e₆ (has_after s (at + 2 + 2) t.outer (terms_bytes ts) h₄);
      }

  term_is : (at : ℕ) (t : Term) (ts : List Term) → TermHas at t ts → term_at s at ≡ t
  unfolding term_at
  term_is at t ts k = rw (k.wire_is, k.inner_is, k.outer_is)

  has_terms : (at : ℕ) (ts : List Term) → Has s at (terms_bytes ts) → terms_at s (length ts) at ≡ ts
  unfolding terms_at
  has_terms at [] h = refl
  has_terms at (t ∷ ts) h =
      let k = term_has at t ts h in
      rw (term_is at t ts k, has_terms (at + 6) ts k.rest)

sound_term : (w : ℕ) (t : Term) → TermOk w t → term_fault w t ≡ 0
unfolding term_fault
sound_term w t k = rw (lt-ltb _ _ k.wire_ok, k.inner_ok, k.outer_ok)

sound_terms : (w : ℕ) (ts : List Term) → All (TermOk w) ts → first_fault (term_fault w) ts ≡ 0
sound_terms w [] done = refl
sound_terms w (t ∷ ts) (more k ks) = rw (sound_term w t k, sound_terms w ts ks)

-- ---- operands
module _ (s : List ℕ) where
  record OperandHas (at : ℕ) (o : Operand) (os : List Operand) : Type 0 where
    count_is : u16_at s at ≡ length o
    terms_in_lem : Has s (at + 2) (terms_bytes o)
    next_is : at + (2 + 6 * length o) ≡ operand_next s at
    rest : Has s (operand_next s at) (operands_bytes os)

  operand_has : (at : ℕ) (o : Operand) (os : List Operand) → Has s at (operands_bytes (o ∷ os)) → OperandHas at o os
  unfolding operands_bytes
  operand_has at o os h =
      let n = has_num s at (length o) _ h in
      let h₂ = has_after s at (length o) _ h in
      let e : at + 2 + length (terms_bytes o) ≡ operand_next s at = omega (arith, n, terms_size o) in
      record {
        count_is = n;
        terms_in_lem = has_left s (at + 2) (terms_bytes o) (operands_bytes os) h₂;
        next_is = omega (arith, n);
        rest = subst (λ (k : ℕ). Has s k (operands_bytes os)) e (has_right s (at + 2) (terms_bytes o) (operands_bytes os) h₂);
      }

  operands_bytes_lem : (o : Operand) (os : List Operand) → length (operands_bytes (o ∷ os)) ≡ 2 + 6 * length o + length (operands_bytes os)
  unfolding operands_bytes
  operands_bytes_lem o os = omega (arith, length-append (terms_bytes o) (operands_bytes os), terms_size o)

  has_operands : (at : ℕ) (os : List Operand) → Has s at (operands_bytes os) → operands_at s (length os) at ≡ os
  unfolding operands_at
  has_operands at [] h = refl
  has_operands at (o ∷ os) h =
      let g = operand_has at o os h in
      rw (has_operands (operand_next s at) os g.rest, g.count_is, has_terms s (at + 2) o g.terms_in_lem)

  next_operands : (at : ℕ) (os : List Operand) → Has s at (operands_bytes os) → operands_next s (length os) at ≡ at + length (operands_bytes os)
  unfolding operands_next operands_bytes
  next_operands at [] h = sym (add-zero at)
  next_operands at (o ∷ os) h =
      let g = operand_has at o os h in
      omega (arith, next_operands (operand_next s at) os g.rest, operands_bytes_lem o os, g.next_is)

  count_operands : (at : ℕ) (os : List Operand) → Has s at (operands_bytes os) → operands_terms s (length os) at ≡ terms_count os
  unfolding operands_terms terms_count
  count_operands at [] h = refl
  count_operands at (o ∷ os) h =
      let g = operand_has at o os h in
      omega (arith, count_operands (operand_next s at) os g.rest, g.count_is)

  sound_operand : (w end at : ℕ) (o : Operand) (os : List Operand) → All (TermOk w) o → OperandHas at o os → operand_next s at ≤ end → operand_fault s w end at ≡ 0
  unfolding operand_fault
  sound_operand w end at o os k g l =
      let m : at + 2 ≤ end = omega (arith, g.next_is) in
      simp (le-ltb _ _ m, le-ltb _ _ l) (rw (g.count_is, has_terms s (at + 2) o g.terms_in_lem) (sound_terms w o k))

  sound_operands : (w end at : ℕ) (os : List Operand) → All (λ (o : Operand). All (TermOk w) o) os → Has s at (operands_bytes os)
      → at + length (operands_bytes os) ≤ end → operands_fault s w end (length os) at ≡ 0
  unfolding operands_fault
  sound_operands w end at [] done h l = refl
  sound_operands w end at (o ∷ os) (more k ks) h l =
      let g = operand_has at o os h in
      let b = operands_bytes_lem o os in
      let m : operand_next s at + length (operands_bytes os) ≤ end = omega (arith, g.next_is) in
      rw (sound_operand w end at o os k g (omega arith), sound_operands w end (operand_next s at) os ks g.rest m)

-- ---- a payload
module _ (s : List ℕ) where
  record PayloadHas (b : Bool) (p d : ℕ) (xs : List ℕ) : Type 0 where
    dest_is : cond b (u16_at s p) 0 ≡ cond b d 0
    in_place : Has s (cond b (p + 2) p) xs
    end_is : cond b (p + 2) p + length xs ≡ p + length (cond b (le16 d) [] ++ xs)
    start_in : cond b (p + 2) p ≤ p + length (cond b (le16 d) [] ++ xs)

  payload_has : (b : Bool) (p d : ℕ) (xs : List ℕ) → Has s p (cond b (le16 d) [] ++ xs) → PayloadHas b p d xs
  payload_has true p d xs h = record { dest_is = has_num s p d xs h; in_place = has_after s p d xs h; end_is = omega arith; start_in = omega arith }
  payload_has false p d xs h = record { dest_is = refl; in_place = h; end_is = refl; start_in = omega arith }

  sound_dest : (b : Bool) (w p d end : ℕ) → d < w → cond b (u16_at s p) 0 ≡ cond b d 0 → cond b (p + 2) p ≤ end
      → ◌≡◌ {A = ℕ} (cond b (cond (ltb end (p + 2)) SHAPE (cond (ltb (u16_at s p) w) 0 WIRE)) 0) 0
  sound_dest true w p d end k e l =
      let m : u16_at s p < w = omega (arith, e) in
      simp (le-ltb _ _ l, lt-ltb _ _ m)
  sound_dest false w p d end k e l = refl

  dest_of : (w tag p d end : ℕ) → d < w → cond (eqb tag LINEAR) (u16_at s p) 0 ≡ cond (eqb tag LINEAR) d 0 → operands_start tag p ≤ end
      → destination_fault s w tag end p ≡ 0
  unfolding destination_fault operands_start
  dest_of w tag p d end k e l = sound_dest (eqb tag LINEAR) w p d end k e l

  -- the payload of an entry at p
  record EntryPayload (w p : ℕ) (e : Entry) : Type 0 where
    operands_are : operands_at s (arity e.tag) (operands_start e.tag p) ≡ e.operands
    dst_is : cond (eqb e.tag LINEAR) (u16_at s p) 0 ≡ e.dst
    count_is : operands_terms s (arity e.tag) (operands_start e.tag p) ≡ terms_count e.operands
    no_fault : payload_fault s w e.tag (p + length (payload_bytes e)) p ≡ 0

  dst_by : (b : Bool) (d : ℕ) → (b ≡ false → d ≡ 0) → cond b d 0 ≡ d
  dst_by true d h = refl
  dst_by false d h = sym (h refl)

  payload_of : (w p : ℕ) (e : Entry) → EntryOk w e → Has s p (payload_bytes e) → EntryPayload w p e
  unfolding payload_bytes operands_start
  payload_of w p e k h =
      let b = eqb e.tag LINEAR in
      let xs = operands_bytes e.operands in
      let g = payload_has b p e.dst xs h in
      let q = operands_start e.tag p in
      let end = p + length (payload_bytes e) in
      let n = k.count_ok in
      let over : operands_next s (length e.operands) q ≡ end = next_operands s q e.operands g.in_place ∙ g.end_is in
      record {
        operands_are = rw (← n) (has_operands s q e.operands g.in_place);
        dst_is = g.dest_is ∙ dst_by b e.dst (λ f. k.dst_none (eqb-false _ _ f));
        count_is = rw (← n) (count_operands s q e.operands g.in_place);
        no_fault =
            sym (payload_fine s w e.tag end p (sym (dest_of w e.tag p e.dst end k.dst_ok g.dest_is g.start_in)) refl refl
            (sym (rw (← n) (sound_operands s w end q e.operands k.operands_ok g.in_place (omega (arith, g.end_is)))))
            (rw (← n) (omega (arith, over))));
      }

-- ---- an entry
-- the entries' fields, and the end field
abbrev pub rest_bytes : List Entry → List ℕ
rest_bytes es = list_bytes es ++ (7 ∷ le16 0)

pub rest_more : (e : Entry) (es : List Entry)
    → rest_bytes (e ∷ es) ≡ e.tag ∷ (le16 (length (payload_bytes e)) ++ (payload_bytes e ++ rest_bytes es))
unfolding list_bytes entry_bytes
rest_more e es =
    ap (λ (l : List ℕ). e.tag ∷ (le16 (length (payload_bytes e)) ++ l)) (append_assoc (payload_bytes e) (list_bytes es) (7 ∷ le16 0))

pub rest_none : rest_bytes [] ≡ 7 ∷ le16 0
unfolding list_bytes
rest_none = refl

pub rest_size : (e : Entry) (es : List Entry) → length (rest_bytes (e ∷ es)) ≡ 3 + length (payload_bytes e) + length (rest_bytes es)
rest_size e es = ap length (rest_more e es) ∙ omega (arith, length-append (payload_bytes e) (rest_bytes es))

few : (es : List Entry) → length es + 3 ≤ length (rest_bytes es)
unfolding list_bytes
few [] = omega arith
few (e ∷ es) = omega (arith, rest_size e es, few es)

module _ (s : List ℕ) where
  record EntryHas (w at : ℕ) (e : Entry) (es : List Entry) : Type 0 where
    tag_is : get_or s at 0 ≡ e.tag
    len_is : u16_at s (at + 1) ≡ length (payload_bytes e)
    payload_is : EntryPayload s w (at + 3) e
    inside : field_end s at ≤ length s
    rest : Has s (field_end s at) (rest_bytes es)

  entry_has : (w at : ℕ) (e : Entry) (es : List Entry) → EntryOk w e → Has s at (rest_bytes (e ∷ es)) → EntryHas w at e es
  entry_has w at e es k h₀ =
      let P = payload_bytes e in
      let h : Has s at (e.tag ∷ (le16 (length P) ++ (P ++ rest_bytes es))) = subst (Has s at) (rest_more e es) h₀ in
      let h₁ = has_tail s at e.tag _ h in
      let n = has_num s (at + 1) (length P) _ h₁ in
      let e₃ : at + 1 + 2 ≡ at + 3 = omega arith in
      let h₃ : Has s (at + 3) (P ++ rest_bytes es) = subst (λ (j : ℕ). Has s j (P ++ rest_bytes es)) e₃ (has_after s (at + 1) (length P) (P ++ rest_bytes es) h₁) in
      let end : at + 3 + length P ≡ field_end s at = omega (arith, n) in
      let r : Has s (field_end s at) (rest_bytes es) = subst (λ (j : ℕ). Has s j (rest_bytes es)) end (has_right s (at + 3) P (rest_bytes es) h₃) in
      record {
        tag_is = has_head s at e.tag _ h;
        len_is = n;
        payload_is = payload_of s w (at + 3) e k (has_left s (at + 3) P (rest_bytes es) h₃);
        inside = omega (arith, has_fits s (field_end s at) (rest_bytes es) r);
        rest = r;
      }

  entry-is : (w at : ℕ) (e : Entry) (es : List Entry) → EntryHas w at e es → entry_at s at ≡ e
  unfolding entry_at
  entry-is w at e es g = rw (g.tag_is, g.payload_is.dst_is, g.payload_is.operands_are)

  has_entries : (w at : ℕ) (c : Counts) (es : List Entry) → EntriesOk w c es → Has s at (rest_bytes es) → entries_at s (length es) at ≡ es
  unfolding entries_at
  has_entries w at c [] none_left h = refl
  has_entries w at c (e ∷ es) (one_more k l ks) h =
      let g = entry_has w at e es k h in
      rw (has_entries w (field_end s at) (counted c e.tag (terms_count e.operands)) es ks g.rest, entry-is w at e es g)

  small_full : (c : Counts) → Small c → full_fault c ≡ 0
  unfolding full_fault
  small_full c h = simp (le-ltb _ _ h.0, le-ltb _ _ h.1.0, le-ltb _ _ h.1.1)

  head_fine : (low high at tag : ℕ) → get_or s at 0 ≡ tag → low ≤ tag → tag ≤ high → field_end s at ≤ length s → head_fault s low high at ≡ 0
  unfolding head_fault
  head_fine low high at tag e l h i =
      let a : at + 3 ≤ length s = omega arith in
      let b : low ≤ get_or s at 0 = omega (arith, e) in
      let c : get_or s at 0 ≤ high = omega (arith, e) in
      simp (le-ltb _ _ a, le-ltb _ _ b, le-ltb _ _ c, le-ltb _ _ i)

  turn_entries : (w at : ℕ) (c : Counts) (e : Entry) (es : List Entry) → EntryOk w e → EntryHas w at e es → Small (counted c e.tag (terms_count e.operands))
      → turn_of s w c at ≡ Ok (Some (record { at = field_end s at; counts = counted c e.tag (terms_count e.operands) }))
  unfolding counts_after
  turn_entries w at c e es k g l =
      let end : at + 3 + length (payload_bytes e) ≡ field_end s at = omega (arith, g.len_is) in
      let sound : payload_fault s w e.tag (field_end s at) (at + 3) ≡ 0 = rw end at g.payload_is.no_fault in
      let other : get_or s at 0 ≡ 7 → ⊥ = λ f. omega (arith, g.tag_is, k.high) in
      let fine = entry_fine s w c e.tag (field_end s at) at (terms_count e.operands) sound (sym g.payload_is.count_is) (small_full _ l) in
      sym (turn_go s w c at (head_fine 2 7 at e.tag g.tag_is k.low (omega (arith, k.high)) g.inside) other (rw g.tag_is fine))
      ∙ rw (g.tag_is, g.payload_is.count_is)

  turn_last : (w at : ℕ) (c : Counts) → Has s at (7 ∷ le16 0) → at + 3 ≡ length s → turn_of s w c at ≡ Ok None
  unfolding end_fault
  turn_last w at c h l =
      let z : u16_at s (at + 1) ≡ 0 = has_num s (at + 1) 0 [] (has_tail s at 7 (le16 0) h) in
      let t = has_head s at 7 (le16 0) h in
      let m : length s ≤ at + 3 = omega arith in
      sym (turn_closed s w c at (head_fine 2 7 at 7 t (omega arith) (omega arith) (omega (arith, z))) t (simp (eq-eqb _ _ z, le-ltb _ _ m)))

  -- the fields from at on read back
  read_entries : (w k at : ℕ) (c : Counts) (es : List Entry) → length es < k → EntriesOk w c es → Has s at (rest_bytes es) → at + length (rest_bytes es) ≡ length s
      → read_from s w k c at ≡ Ok (done_of w (counts_of c es))
  unfolding counts_of
  read_entries w k at c [] l none_left h n =
      read_step s w c at k l ∙ rw (turn_last w at c (subst (Has s at) rest_none h) (omega (arith, n, ap length rest_none)))
  read_entries w k at c (e ∷ es) l (one_more ok small oks) h n =
      let g = entry_has w at e es ok h in
      let d = counted c e.tag (terms_count e.operands) in
      let m : field_end s at + length (rest_bytes es) ≡ length s = omega (arith, rest_size e es, g.len_is) in
      read_step s w c at k (omega arith)
      ∙ rw (turn_entries w at c e es ok g small)
      (read_entries w (k - 1) (field_end s at) d es (omega arith) oks g.rest m)

-- ---- the whole file

-- one field of a tag from 2 to 6 is counted once
one_of : (tag : ℕ) → 2 ≤ tag → tag ≤ 6 → one_if tag 2 + one_if tag 3 + one_if tag 4 + one_if tag 5 + one_if tag 6 ≡ 1
one_of zero l h = absurd (omega (arith, l))
one_of (suc zero) l h = absurd (omega (arith, l))
one_of (suc (suc zero)) l h = refl
one_of (suc (suc (suc zero))) l h = refl
one_of (suc (suc (suc (suc zero)))) l h = refl
one_of (suc (suc (suc (suc (suc zero))))) l h = refl
one_of (suc (suc (suc (suc (suc (suc zero)))))) l h = refl
one_of (suc (suc (suc (suc (suc (suc (suc n))))))) l h = absurd (omega (arith, h))

pub total-counted : (w : ℕ) (c : Counts) (tag terms : ℕ) → 2 ≤ tag → tag ≤ 6 → total (sizes_of w (counted c tag terms)) ≡ total (sizes_of w c) + 1
unfolding counted
total-counted w c tag terms l h = omega (arith, one_of tag l h)

total_of : (w : ℕ) (c : Counts) (es : List Entry) → EntriesOk w c es → total (sizes_of w (counts_of c es)) ≡ total (sizes_of w c) + length es
unfolding counts_of
total_of w c [] none_left = omega arith
total_of w c (e ∷ es) (one_more ok small oks) =
    omega (arith, total_of w (counted c e.tag (terms_count e.operands)) es oks, total-counted w c e.tag (terms_count e.operands) ok.low ok.high)

pub record ReadsBack (wires : ℕ) (es : List Entry) : Type 0 where
  pub accepted : read_of (file_bytes wires es) ≡ Ok (done_of wires (counts_of none es))
  pub same : entries_at (file_bytes wires es) (total (sizes_of wires (counts_of none es))) 5 ≡ es

pub round : (wires : ℕ) (es : List Entry) → 1 ≤ wires → wires ≤ MAX_WIRES → EntriesOk wires none es → ReadsBack wires es
unfolding file_bytes
round wires es one most ok =
    let s = file_bytes wires es in
    let h : Has s 0 s = has_whole [] s in
    let h₁ : Has s 1 (le16 2 ++ (le16 wires ++ rest_bytes es)) = has_tail s 0 1 (le16 2 ++ (le16 wires ++ rest_bytes es)) h in
    let h₃ : Has s 3 (le16 wires ++ rest_bytes es) = has_after s 1 2 (le16 wires ++ rest_bytes es) h₁ in
    let h₅ : Has s 5 (rest_bytes es) = has_after s 3 wires (rest_bytes es) h₃ in
    let n : u16_at s 1 ≡ 2 = has_num s 1 2 (le16 wires ++ rest_bytes es) h₁ in
    let w : u16_at s 3 ≡ wires = has_num s 3 wires (rest_bytes es) h₃ in
    let t : total (sizes_of wires (counts_of none es)) ≡ length es = omega (arith, total_of wires none es ok) in
    let len : 5 + length (rest_bytes es) ≡ length s = omega arith in
    let head : head_fault s 1 1 0 ≡ 0 = head_fine s 1 1 0 1 (has_head s 0 1 (le16 2 ++ (le16 wires ++ rest_bytes es)) h) (omega arith) (omega arith) (omega (arith, n, few es)) in
    record {
      accepted =
          sym (scan_in s (wires_fine s (sym head) n (λ z. omega (arith, w)) (omega (arith, w))))
          ∙ rw w (read_entries s wires (length s) 5 none es (omega (arith, few es)) ok h₅ len);
      same = rw t (has_entries s wires 5 none es ok h₅);
    }
