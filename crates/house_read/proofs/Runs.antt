-- An accepted file, field by field. Assumes nothing.
use mathlib.Core.Path.{◌≡◌, refl, sym, ap}
use mathlib.Core.Bool.{Bool, true, false, cond}
use mathlib.Core.List.{List}
use Prim.Native.Nat.{ℕ, zero, suc, ◌+◌, ◌≤◌, ◌<◌}
use native.Mathlib.Omega.{arith}
use lib.ListN.{length, get_or}
use lib.Dec.{eqb, ltb}
use borrow.Author.Tests.{ltb-false, eqb-true, eqb-false}
use Rattle.lower.specs.declared.Sizes.{Sizes}
use Rattle.lower.specs.Accepted.{MAX_WIRES}
use Rattle.lower.specs.Faults.{SHAPE, FULL, or_else}
use Rattle.lower.proofs.Firsts.{else_first, else_second}
use Rattle.std.specs.Prelude.{None, Result, Ok, Err}
use Rattle.house_file.specs.declared.FileRead.{FileRead}
use Rattle.house_file.proofs.Faults.{read_is}
use Rattle.house_file.specs.Decoding.{u16_at, field_end}
use Rattle.house_file.specs.Reading.{CUT, END, head_fault, payload_fault, full_fault, Small, counts_after, field_fault, sizes_of, done_of, turn_by, turn_of, follow, read_from, wires_fault, none, read_by, read_of, Fault, fault, file_read}
use Rattle.house_file.specs.declared.Counts.{Counts}

-- n fields with no fault from an offset and counts on, then the end; d is what they count
pub data Runs (s : List ℕ) (w : ℕ) : Counts → ℕ → ℕ → Counts → Type 0 where
  ended : {c : Counts} {at : ℕ} → field_fault s w c at ≡ 0 → eqb (get_or s at 0) END ≡ true → length s ≤ at + 3 → Runs s w c at 0 c
  onward : {c d : Counts} {at n : ℕ} → field_fault s w c at ≡ 0 → eqb (get_or s at 0) END ≡ false → Runs s w (counts_after s c at) (field_end s at) n d → Runs s w c at (suc n) d

pub record Run (s : List ℕ) (w : ℕ) (c : Counts) (at : ℕ) (z : Sizes) (t : ℕ) : Type 0 where
  pub n : ℕ
  pub d : Counts
  pub runs : Runs s w c at n d
  pub sizes_are : z ≡ sizes_of w d
  pub terms_are : t ≡ d.terms

refused_done : (f : Fault) (x : FileRead) {A : Type 0} → Err f ≡ Ok x → A
refused_done f x e = absurd (let h : ◌≡◌ {A = ℕ} 0 1 = cc in omega arith)

module _ (s : List ℕ) (w : ℕ) (z : Sizes) (t : ℕ) where
  at_end : (c : Counts) (at : ℕ) (go : Counts → ℕ → Result FileRead Fault) (b : Bool) → ltb (at + 3) (length s) ≡ b → field_fault s w c at ≡ 0 → eqb (get_or s at 0) END ≡ true
      → follow w c go (cond b (Err (fault SHAPE (at + 3))) (Ok None)) ≡ Ok (file_read z t) → Run s w c at z t
  at_end c at go true h f g e = refused_done (fault SHAPE (at + 3)) (file_read z t) e
  at_end c at go false h f g e =
      let k = sym (read_is (done_of w c) (file_read z t) e) in
      record { n = 0; d = c; runs = ended f g (ltb-false _ _ h); sizes_are = ap (λ (x : FileRead). x.sizes) k; terms_are = ap (λ (x : FileRead). x.terms) k }

  by_turn : (c : Counts) (at : ℕ) (go : Counts → ℕ → Result FileRead Fault) (f : ℕ) (b : Bool) → field_fault s w c at ≡ f → eqb (get_or s at 0) END ≡ b
      → ((d : Counts) (j : ℕ) → go d j ≡ Ok (file_read z t) → Run s w d j z t) → follow w c go (turn_by f s c at) ≡ Ok (file_read z t) → Run s w c at z t
  unfolding turn_by
  by_turn c at go (suc f) b h g next e = refused_done (fault (suc f) at) (file_read z t) e
  by_turn c at go zero true h g next e = at_end c at go (ltb (at + 3) (length s)) refl h g (rw g at e)
  by_turn c at go zero false h g next e =
      let r = next (counts_after s c at) (field_end s at) (rw g at e) in
      record { n = suc r.n; d = r.d; runs = onward h g r.runs; sizes_are = r.sizes_are; terms_are = r.terms_are }

  pub from_runs : (k : ℕ) (c : Counts) (at : ℕ) → read_from s w k c at ≡ Ok (file_read z t) → Run s w c at z t
  unfolding read_from turn_of
  from_runs zero c at e = refused_done (fault CUT at) (file_read z t) e
  from_runs (suc k) c at e = by_turn c at (read_from s w k) (field_fault s w c at) (eqb (get_or s at 0) END) refl refl (λ d j. from_runs k d j) e

-- ---- what no fault says

no_cond : (t : Bool) (a b : ℕ) → cond t (suc a) b ≡ 0 → (t ≡ false) × (b ≡ 0)
no_cond true a b e = absurd (omega arith)
no_cond false a b e = (refl, e)

pub full_small : (c : Counts) → full_fault c ≡ 0 → Small c
unfolding full_fault
full_small c e =
    let last : ℕ = cond (ltb 8192 c.terms) 6 0 in
    let over : ℕ = cond (ltb 1024 (c.ands + c.imuls + c.bmuls + c.zeros)) 6 last in
    let a = no_cond (ltb 1024 c.linears) 5 over e in
    let b = no_cond (ltb 1024 (c.ands + c.imuls + c.bmuls + c.zeros)) 5 last a.1 in
    let d = no_cond (ltb 8192 c.terms) 5 0 b.1 in
    (ltb-false _ _ a.0, (ltb-false _ _ b.0, ltb-false _ _ d.0))

pub record HeadIs (s : List ℕ) (low high at : ℕ) : Type 0 where
  pub there : at + 3 ≤ length s
  pub low_ok : low ≤ get_or s at 0
  pub high_ok : get_or s at 0 ≤ high
  pub inside : field_end s at ≤ length s

pub head_is : (s : List ℕ) (low high at : ℕ) → head_fault s low high at ≡ 0 → HeadIs s low high at
unfolding head_fault
head_is s low high at e =
    let last : ℕ = cond (ltb (length s) (field_end s at)) 1 0 in
    let over : ℕ = cond (ltb high (get_or s at 0)) 2 last in
    let a = no_cond (ltb (length s) (at + 3)) 0 (cond (ltb (get_or s at 0) low) 2 over) e in
    let b = no_cond (ltb (get_or s at 0) low) 1 over a.1 in
    let c = no_cond (ltb high (get_or s at 0)) 1 last b.1 in
    let d = no_cond (ltb (length s) (field_end s at)) 0 0 c.1 in
    record { there = ltb-false _ _ a.0; low_ok = ltb-false _ _ b.0; high_ok = ltb-false _ _ c.0; inside = ltb-false _ _ d.0 }

-- a field of a tag from 2 to 6 with no fault
pub record EntryIs (s : List ℕ) (w : ℕ) (c : Counts) (at : ℕ) : Type 0 where
  pub head : HeadIs s 2 6 at
  pub payload : payload_fault s w (get_or s at 0) (field_end s at) (at + 3) ≡ 0
  pub small : Small (counts_after s c at)

pub entry-field : (s : List ℕ) (w : ℕ) (c : Counts) (at : ℕ) → field_fault s w c at ≡ 0 → eqb (get_or s at 0) END ≡ false → EntryIs s w c at
unfolding field_fault
entry-field s w c at f g =
    let rest : ℕ = or_else (payload_fault s w (get_or s at 0) (field_end s at) (at + 3)) (full_fault (counts_after s c at)) in
    let shut : ℕ = cond (eqb (u16_at s (at + 1)) 0) 0 SHAPE in
    let h = head_is s 2 END at (else_first (head_fault s 2 END at) (cond (eqb (get_or s at 0) END) shut rest) f) in
    let r : rest ≡ 0 = rw g at (else_second (head_fault s 2 END at) (cond (eqb (get_or s at 0) END) shut rest) f) in
    let n : get_or s at 0 ≡ END → ⊥ = eqb-false _ _ g in
    record {
      head = record { there = h.there; low_ok = h.low_ok; high_ok = below (get_or s at 0) h.high_ok n; inside = h.inside };
      payload = else_first (payload_fault s w (get_or s at 0) (field_end s at) (at + 3)) (full_fault (counts_after s c at)) r;
      small = full_small (counts_after s c at) (else_second (payload_fault s w (get_or s at 0) (field_end s at) (at + 3)) (full_fault (counts_after s c at)) r);
    }
  where
    below : (n : ℕ) → n ≤ 7 → (n ≡ 7 → ⊥) → n ≤ 6
    below n h k = omega (arith, h, k)

pub record EndIs (s : List ℕ) (at : ℕ) : Type 0 where
  pub head : HeadIs s 2 END at
  pub tag : get_or s at 0 ≡ END
  pub empty : u16_at s (at + 1) ≡ 0

pub end_field : (s : List ℕ) (w : ℕ) (c : Counts) (at : ℕ) → field_fault s w c at ≡ 0 → eqb (get_or s at 0) END ≡ true → EndIs s at
unfolding field_fault
end_field s w c at f g =
    let rest : ℕ = or_else (payload_fault s w (get_or s at 0) (field_end s at) (at + 3)) (full_fault (counts_after s c at)) in
    let shut : ℕ = cond (eqb (u16_at s (at + 1)) 0) 0 SHAPE in
    let h = head_is s 2 END at (else_first (head_fault s 2 END at) (cond (eqb (get_or s at 0) END) shut rest) f) in
    let r : shut ≡ 0 = rw g at (else_second (head_fault s 2 END at) (cond (eqb (get_or s at 0) END) shut rest) f) in
    record { head = h; tag = eqb-true _ _ g; empty = eqb-true _ _ (go (eqb (u16_at s (at + 1)) 0) r) }
  where
    go : (b : Bool) → ◌≡◌ {A = ℕ} (cond b 0 3) 0 → b ≡ true
    go true e = refl
    go false e = absurd (omega arith)

-- ---- the counts of a run

pub runs_small : {s : List ℕ} {w : ℕ} {c : Counts} {at n : ℕ} {d : Counts} → Runs s w c at n d → Small c → Small d
runs_small (ended f g h) k = k
runs_small {s} {w} {c} {at} (onward f g r) k = runs_small r (entry-field s w c at f g).small

-- ---- the first field

pub record WiresAre (s : List ℕ) : Type 0 where
  pub head : HeadIs s 1 1 0
  pub size : u16_at s 1 ≡ 2
  pub some : 0 < u16_at s 3
  pub few : u16_at s 3 ≤ MAX_WIRES

pub wires_are : (s : List ℕ) → wires_fault s ≡ 0 → WiresAre s
unfolding wires_fault
wires_are s e =
    let over : ℕ = cond (ltb MAX_WIRES (u16_at s 3)) FULL 0 in
    let zeros : ℕ = cond (eqb (u16_at s 3) 0) FULL over in
    let rest : ℕ = cond (eqb (u16_at s 1) 2) zeros SHAPE in
    let h = head_is s 1 1 0 (else_first (head_fault s 1 1 0) rest e) in
    let r : rest ≡ 0 = else_second (head_fault s 1 1 0) rest e in
    let a = two (eqb (u16_at s 1) 2) zeros r in
    let b = no_cond (eqb (u16_at s 3) 0) 5 over a.1 in
    let c = no_cond (ltb MAX_WIRES (u16_at s 3)) 5 0 b.1 in
    record { head = h; size = eqb-true _ _ a.0; some = pos (u16_at s 3) (eqb-false _ _ b.0); few = ltb-false _ _ c.0 }
  where
    two : (b : Bool) (n : ℕ) → cond b n 3 ≡ 0 → (b ≡ true) × (n ≡ 0)
    two true n e = (refl, e)
    two false n e = absurd (omega arith)

    pos : (n : ℕ) → (n ≡ 0 → ⊥) → 0 < n
    pos n h = omega (arith, h)

-- ---- the whole file

pub record Whole (s : List ℕ) (z : Sizes) (t : ℕ) : Type 0 where
  pub first : WiresAre s
  pub run : Run s (u16_at s 3) none 5 z t

by_read : (s : List ℕ) (f : ℕ) (z : Sizes) (t : ℕ) → wires_fault s ≡ f → read_by f s ≡ Ok (file_read z t) → Whole s z t
by_read s zero z t h e = record { first = wires_are s h; run = from_runs s (u16_at s 3) z t (length s) none 5 e }
by_read s (suc f) z t h e = refused_done (fault (suc f) 0) (file_read z t) e

pub read_whole : (s : List ℕ) (z : Sizes) (t : ℕ) → read_of s ≡ Ok (file_read z t) → Whole s z t
unfolding read_of
read_whole s z t e = by_read s (wires_fault s) z t refl e
