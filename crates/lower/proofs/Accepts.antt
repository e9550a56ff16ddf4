-- What each number says, and that a system without fault and circle is accepted. Assumes nothing.
use mathlib.Core.Path.{◌≡◌, refl, sym, ◌∙◌}
use mathlib.Core.Logic.{◌↔◌}
use mathlib.Core.List.{List, [], ◌∷◌}
use mathlib.Core.Bool.{Bool, true, false, cond, not, ◌&&◌, ◌||◌}
use mathlib.Core.Option.{none, some}
use Prim.Native.Nat.{ℕ, zero, suc, ◌+◌, ◌*◌, ◌≤◌, ◌<◌}
use native.Mathlib.Omega.{arith}
use native.Mathlib.Nat.{mul-suc}
use lib.ListN.{length, take, drop, length-map, length-drop}
use lib.Seq.{length-take-le}
use lib.Dec.{ltb, leb, eqb}
use borrow.Author.Tests.{le-leb, leb-true, lt-ltb, ltb-true, ne_eqb, eqb-false, not-false}
use Rattle.operand.specs.Numbers.{Term, Operand, operand_of}
use Rattle.lower.specs.declared.Sizes.{Sizes}
use Rattle.lower.specs.Lists.{All, done, more, joined}
use Rattle.lower.specs.Model.{Row, Definition, System, definition_operands, terms_of, destinations, defines, definition_of}
use Rattle.lower.specs.Accepted.{Limits, Once, NotEmpty, Single, is_identity}
use Rattle.lower.specs.Stores.{Stores, rows_of, system_of, Placed}
use Rattle.lower.specs.Faults.{unless, full_fault, terms_in, repeated, empty, is_empty, double, is_double}
use Rattle.lower.proofs.Firsts.{else_first, else_second, else_only, unless_holds, unless_only}
use Rattle.lower.proofs.Laws.{rows_length, linears_length, terms_model, all_imp}
use Rattle.lower.proofs.Alls.{all_unmap}
use Rattle.lower.proofs.Laws.{all_map}
use Rattle.lower.proofs.Somes.{neither, none_all, all_none}

-- ---- 8, 9 and 10 as tests

-- a wire is defined just when there is a right side that defines it
pub defines-none : (ds : List Definition) (w : ℕ) → defines ds w ≡ false ↔ definition_of ds w ≡ none
defines-none [] w = (λ e. refl, λ e. refl)
defines-none (d ∷ ds) w = go (eqb w d.dst) (defines-none ds w)
  where
    go : (b : Bool) → (defines ds w ≡ false ↔ definition_of ds w ≡ none)
        → (b || defines ds w) ≡ false ↔ cond b (some d.rhs) (definition_of ds w) ≡ none
    go true k = (λ e. absurd (let z : ◌≡◌ {A = ℕ} 0 1 = cc in omega arith), λ e. absurd (let z : ◌≡◌ {A = ℕ} 0 1 = cc in omega arith))
    go false k = k

pub once_right : (ds : List Definition) → repeated (destinations ds) ≡ false ↔ Once ds
once_right [] = (λ e. tt, λ o. refl)
once_right (d ∷ ds) =
    let k = once_right ds in (
      λ e. let b = neither (defines ds d.dst) (repeated (destinations ds)) e in (b.0, k.0 b.1),
      λ o. rw (o.0, k.1 o.1),
    )

pub not-empty-right : (p : System) → empty p ≡ false ↔ NotEmpty p
unfolding definition_operands
not-empty-right p = (
  λ e. all_imp some p.linears (all_unmap (λ (o : Operand). is_empty o ≡ false) (λ (d : Definition). d.rhs) p.linears (none_all (λ (o : Operand). is_empty o) _ e)),
  λ h. all_none (λ (o : Operand). is_empty o) _ (all_map (λ (o : Operand). is_empty o ≡ false) (λ (d : Definition). d.rhs) p.linears (all_imp none p.linears h)),
)
  where
    some : (d : Definition) → is_empty d.rhs ≡ false → 0 < length d.rhs
    some d e = let n = eqb-false (length d.rhs) 0 e in omega (arith, n)

    none : (d : Definition) → 0 < length d.rhs → is_empty d.rhs ≡ false
    none d h = ne_eqb (length d.rhs) 0 (λ e. omega (arith, h, e))

pub single_right : (p : System) → double p ≡ false ↔ Single p
single_right p = (
  λ e. let b = neither _ _ e in
      record {
        definitions_single = all_imp (λ (t : Term) k. not-false (is_identity t.outer) k) _ (none_all is_double _ b.0);
        uses_single = all_imp (λ (t : Term) k. used t k) _ (none_all (λ (t : Term). is_double t && defines p.linears t.wire) _ b.1);
      },
  λ y. rw (
    all_none is_double (joined (definition_operands p)) (all_imp (λ (t : Term) k. single t k) _ y.definitions_single),
    all_none (λ (t : Term). is_double t && defines p.linears t.wire) (terms_of p) (all_imp (λ (t : Term) k. unused t k) _ y.uses_single),
  ),
)
  where
    single : (t : Term) → is_identity t.outer ≡ true → is_double t ≡ false
    single t e = rw e

    used : (t : Term) → (is_double t && defines p.linears t.wire) ≡ false → defines p.linears t.wire ≡ true → is_identity t.outer ≡ true
    used t k d = go (is_identity t.outer) (defines p.linears t.wire) k d
      where
        go : (a b : Bool) → (not a && b) ≡ false → b ≡ true → a ≡ true
        go true b k d = refl
        go false b k d = absurd (let z : ◌≡◌ {A = ℕ} 0 1 = cc in omega arith)

    unused : (t : Term) → (defines p.linears t.wire ≡ true → is_identity t.outer ≡ true) → (is_double t && defines p.linears t.wire) ≡ false
    unused t k = go (is_identity t.outer) (defines p.linears t.wire) k
      where
        go : (a b : Bool) → (b ≡ true → a ≡ true) → (not a && b) ≡ false
        go true b k = refl
        go false true k = sym (k refl)
        go false false k = refl

-- ---- 6

pub shaped : (f : ℕ → Operand) (k n : ℕ) (hs : List ℕ) → k * n ≤ length hs → All (λ (r : Row). length r ≡ k) (rows_of f k n hs)
shaped f k zero hs p = done
shaped f k (suc n) hs p =
    let m = mul-suc k n in
    more (length-map (take k hs) f ∙ length-take-le k hs (omega arith)) (shaped f k n (drop k hs) (rw (length-drop k hs) (omega arith)))

module _ (limit : ℕ) (z : Sizes) (s : Stores) (y : Placed z s) where
  -- the counts are the lengths
  others : length (system_of z s).ands + length (system_of z s).imuls + length (system_of z s).bmuls + length (system_of z s).zeros ≡ z.ands + z.imuls + z.bmuls + z.zeros
  unfolding system_of
  others =
      let f = operand_of s.old s.new in
      rw (rows_length f 3 z.ands s.ands, rows_length f 4 z.imuls s.imuls, rows_length f 6 z.bmuls s.bmuls, rows_length f 1 z.zeros s.zeros)

  pub full_right : full_fault limit z (terms_in z s) ≡ 0 ↔ Limits limit (system_of z s)
  unfolding full_fault system_of
  full_right =
      let w = z.wires in
      let n = linears_length z s y.dsts_there y.rhss_there in
      let t = terms_model z s y in (
        λ e.
            let f1 = else_second (unless (ltb 0 w) 6) _ e in
            let f2 = else_second (unless (leb w 4096) 6) _ f1 in
            let f3 = else_second (unless (leb z.linears 1024) 6) _ f2 in
            let f4 = else_second (unless (leb (z.ands + z.imuls + z.bmuls + z.zeros) 1024) 6) _ f3 in
            record {
              wires_some = ltb-true _ _ (unless_holds (ltb 0 w) 6 (omega arith) (else_first (unless (ltb 0 w) 6) _ e));
              wires_few = leb-true _ _ (unless_holds (leb w 4096) 6 (omega arith) (else_first (unless (leb w 4096) 6) _ f1));
              definitions_few = rw n (leb-true z.linears 1024 (unless_holds (leb z.linears 1024) 6 (omega arith) (else_first (unless (leb z.linears 1024) 6) _ f2)));
              others_few = rw others (leb-true (z.ands + z.imuls + z.bmuls + z.zeros) 1024 (unless_holds _ 6 (omega arith) (else_first (unless (leb (z.ands + z.imuls + z.bmuls + z.zeros) 1024) 6) _ f3)));
              terms_few = rw (← t) (leb-true (terms_in z s) limit (unless_holds (leb (terms_in z s) limit) 6 (omega arith) f4));
            },
        λ l.
            let a : z.linears ≤ 1024 = rw n at l.definitions_few in
            let b : z.ands + z.imuls + z.bmuls + z.zeros ≤ 1024 = rw others at l.others_few in
            let c : terms_in z s ≤ limit = rw (← t) at l.terms_few in
            rw (lt-ltb 0 w l.wires_some, le-leb w 4096 l.wires_few, le-leb z.linears 1024 a, le-leb (z.ands + z.imuls + z.bmuls + z.zeros) 1024 b, le-leb (terms_in z s) limit c),
      )

pub full_only : (Q : ℕ → Type 0) (limit : ℕ) (z : Sizes) (n : ℕ) → Q 0 → Q 6 → Q (full_fault limit z n)
unfolding full_fault
full_only Q limit z n a b =
    else_only Q (unless (ltb 0 z.wires) 6) _ (unless_only Q (ltb 0 z.wires) 6 a b)
    (else_only Q (unless (leb z.wires 4096) 6) _ (unless_only Q (leb z.wires 4096) 6 a b)
    (else_only Q (unless (leb z.linears 1024) 6) _ (unless_only Q (leb z.linears 1024) 6 a b)
    (else_only Q (unless (leb (z.ands + z.imuls + z.bmuls + z.zeros) 1024) 6) _ (unless_only Q (leb (z.ands + z.imuls + z.bmuls + z.zeros) 1024) 6 a b)
    (unless_only Q (leb n limit) 6 a b))))
