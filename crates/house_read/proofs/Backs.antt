-- Where the reader answers, the system that the stores hold afterwards is the one that the file says. Assumes nothing.
use mathlib.Core.Path.{◌≡◌, refl, sym, ap, ◌∙◌}
use mathlib.Core.Bool.{Bool, true, false, cond, ◌&&◌}
use mathlib.Core.List.{List, []}
use Prim.Native.Nat.{ℕ, ◌*◌, ◌≤◌, ◌<◌}
use native.Mathlib.Omega.{arith}
use lib.Dec.{leb, ltb}
use lib.ListN.{length, length-map}
use borrow.Author.Tests.{leb-true, ltb-true}
use Rattle.shift.specs.Shifts.{valid_number, valid, shift_at}
use Rattle.operand.specs.Numbers.{Operand}
use Rattle.lower.specs.declared.Sizes.{Sizes}
use Rattle.lower.specs.Lists.{All}
use Rattle.lower.specs.Stores.{Stores, stores, system_of}
use Rattle.lower.proofs.Laws.{all_imp}
use Rattle.std.specs.Prelude.{Result, Ok, Err}
use Rattle.house_file.specs.declared.FileRead.{FileRead}
use Rattle.house_file.specs.declared.FileFault.{FileFault}
use Rattle.house_file.specs.Format.{Entry, LINEAR, of_kind, definition_from, system_from, TermOk, EntryOk}
use Rattle.house_file.specs.Decoding.{entries_at}
use Rattle.house_file.specs.Reading.{ROOM, read_of, total, Fault, fault, file_read, by_number}
use Rattle.house_fill.specs.Layout.{Filled, terms_in_all}
use Rattle.house_file.proofs.Faults.{read_is}
use Rattle.house_read.specs.Answer.{room_of, with_room, ReadIs}
use Rattle.house_read.proofs.Tallies.{terms_of_lem}
use Rattle.house_read.proofs.Exact.{accepted_entries}
use Rattle.house_read.proofs.Stored.{Narrow, Laid, system_stored}

-- ---- an answer says that there is room

and-true : (x y : Bool) → x && y ≡ true → (x ≡ true) × (y ≡ true)
and-true true y e = (refl, e)
and-true false y e = (cc, cc)

pub record Roomy (z : Sizes) (n terms ands imuls bmuls zeros dsts rhss : ℕ) : Type 0 where
  pub terms_fit : n ≤ terms
  pub ands_fit : 3 * z.ands ≤ ands
  pub imuls_fit : 4 * z.imuls ≤ imuls
  pub bmuls_fit : 6 * z.bmuls ≤ bmuls
  pub zeros_fit : z.zeros ≤ zeros
  pub dsts_fit : z.linears ≤ dsts
  pub rhss_fit : z.linears ≤ rhss

module _ (t a i b o d r : ℕ) where
  roomy : (z : Sizes) (n : ℕ) → room_of z n t a i b o d r ≡ true → Roomy z n t a i b o d r
  unfolding room_of
  roomy z n e =
      let e₁ = and-true (leb n t) (leb (3 * z.ands) a && (leb (4 * z.imuls) i && (leb (6 * z.bmuls) b && (leb z.zeros o && (leb z.linears d && leb z.linears r))))) e in
      let e₂ = and-true (leb (3 * z.ands) a) (leb (4 * z.imuls) i && (leb (6 * z.bmuls) b && (leb z.zeros o && (leb z.linears d && leb z.linears r)))) e₁.1 in
      let e₃ = and-true (leb (4 * z.imuls) i) (leb (6 * z.bmuls) b && (leb z.zeros o && (leb z.linears d && leb z.linears r))) e₂.1 in
      let e₄ = and-true (leb (6 * z.bmuls) b) (leb z.zeros o && (leb z.linears d && leb z.linears r)) e₃.1 in
      let e₅ = and-true (leb z.zeros o) (leb z.linears d && leb z.linears r) e₄.1 in
      let e₆ = and-true (leb z.linears d) (leb z.linears r) e₅.1 in
      record {
        terms_fit = leb-true _ _ e₁.0;
        ands_fit = leb-true _ _ e₂.0;
        imuls_fit = leb-true _ _ e₃.0;
        bmuls_fit = leb-true _ _ e₄.0;
        zeros_fit = leb-true _ _ e₅.0;
        dsts_fit = leb-true _ _ e₆.0;
        rhss_fit = leb-true _ _ e₆.1;
      }

  room_by : (b : Bool) (x y : FileRead) (len : ℕ) → cond b (Ok x) (Err (fault ROOM len)) ≡ Ok y → (x ≡ y) × (b ≡ true)
  room_by true x y len e = (read_is x y e, refl)
  room_by false x y len e = (cc, cc)

  pub answered : (x : Result FileRead Fault) (len : ℕ) (z : Sizes) (n : ℕ) → with_room x len t a i b o d r ≡ Ok (file_read z n) → (x ≡ Ok (file_read z n)) × Roomy z n t a i b o d r
  unfolding with_room
  answered (Err f) len z n e = absurd (let h : ◌≡◌ {A = ℕ} 0 1 = cc in omega arith)
  answered (Ok y) len z n e =
      let g = room_by (room_of y.sizes y.terms t a i b o d r) y (file_read z n) len e in
      (ap Ok g.0, roomy z n (ap (λ (x : FileRead). room_of x.sizes x.terms t a i b o d r) (sym g.0) ∙ g.1))

-- ---- sound entries can be laid out

valid_small : (n : ℕ) → valid_number n ≡ true → n < 65536
valid_small n e = omega (arith, ltb-true n 512 (and-true (ltb n 512) (valid (shift_at n)) e).0)

pub entry-laid : (w : ℕ) → w ≤ 4096 → (e : Entry) → EntryOk w e → Laid e
entry-laid w m e k =
    record {
      fits = all_imp {P = λ (o : Operand). All (TermOk w) o} {Q = λ (o : Operand). All Narrow o} (λ o h. all_imp {P = TermOk w} {Q = Narrow} (λ t g. (omega (arith, g.wire_ok), valid_small t.inner g.inner_ok)) o h) e.operands k.operands_ok;
      count = k.count_ok;
    }

module _ {s terms ands imuls bmuls zeros dsts rhss : List ℕ} {r : Result FileRead FileFault} {terms' ands' imuls' bmuls' zeros' dsts' rhss' : List ℕ} where
  pub read_back : (z : Sizes) (n : ℕ) → ReadIs s terms ands imuls bmuls zeros dsts rhss r terms' ands' imuls' bmuls' zeros' dsts' rhss' → r ≡ Ok (file_read z n)
      → system_of z (stores terms' [] ands' imuls' bmuls' zeros' dsts' rhss') ≡ system_from z.wires (entries_at s (total z) 5)
  unfolding system_from
  read_back z n is e =
      let es = entries_at s (total z) 5 in
      let w = z.wires in
      let g = answered (length terms) (length ands) (length imuls) (length bmuls) (length zeros) (length dsts) (length rhss) (read_of s) (length s) z n (sym is.answer ∙ ap by_number e) in
      let m = g.1 in
      let k = accepted_entries s z n g.0 in
      let f : Filled es terms ands imuls bmuls zeros dsts rhss terms' ands' imuls' bmuls' zeros' dsts' rhss' = rw e at is.filled in
      let l = k.sound.limits in
      let laid : All Laid es = all_imp {P = EntryOk w} {Q = Laid} (entry-laid w l.wires_few) es k.sound.entries_ok in
      let count = terms_of_lem w es k.sound.entries_ok in
      let a : z.ands ≡ length (of_kind 2 es) = ap (λ (x : Sizes). x.ands) k.sizes_are ∙ length-map (of_kind 2 es) (λ (e : Entry). e.operands) in
      let i : z.imuls ≡ length (of_kind 3 es) = ap (λ (x : Sizes). x.imuls) k.sizes_are ∙ length-map (of_kind 3 es) (λ (e : Entry). e.operands) in
      let b : z.bmuls ≡ length (of_kind 4 es) = ap (λ (x : Sizes). x.bmuls) k.sizes_are ∙ length-map (of_kind 4 es) (λ (e : Entry). e.operands) in
      let o : z.zeros ≡ length (of_kind 5 es) = ap (λ (x : Sizes). x.zeros) k.sizes_are ∙ length-map (of_kind 5 es) (λ (e : Entry). e.operands) in
      let d : z.linears ≡ length (of_kind LINEAR es) = ap (λ (x : Sizes). x.linears) k.sizes_are ∙ length-map (of_kind LINEAR es) definition_from in
      let few : terms_in_all es < 2147483648 = omega (arith, count, l.terms_few) in
      let room : terms_in_all es ≤ length terms = omega (arith, count, k.terms_are, m.terms_fit) in
      let held : Stores = stores terms' [] ands' imuls' bmuls' zeros' dsts' rhss' in
      ap (λ (x : Sizes). system_of x held) k.sizes_are
      ∙ rw (f.terms_are, f.ands_are, f.imuls_are, f.bmuls_are, f.zeros_are, f.dsts_are, f.rhss_are)
      (system_stored w es laid few terms room ands imuls bmuls zeros dsts rhss (omega (arith, a, m.ands_fit)) (omega (arith, i, m.imuls_fit)) (omega (arith, b, m.bmuls_fit))
      (omega (arith, o, m.zeros_fit)) (omega (arith, d, m.dsts_fit)) (omega (arith, d, m.rhss_fit)))
