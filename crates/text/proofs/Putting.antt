-- Texts put one after the other. Assumes nothing.
use mathlib.Core.Path.{◌≡◌, refl, sym, ap, ◌∙◌, subst}
use Prim.Native.Nat.{ℕ, suc, ◌+◌, ◌/◌, ◌%◌, ◌≤◌, ◌<◌}
use native.Mathlib.Omega.{arith}
use native.Mathlib.Numerals.{add-one}
use mathlib.Core.Bool.{Bool, true, false, cond}
use mathlib.Core.List.{List, [], ◌∷◌, ◌++◌, append_assoc, append-nil}
use lib.Dec.{eqb, leb}
use lib.ListN.{length, take, get_or, set, length-append}
use lib.Seq.{take-suc, take_all, length-take-le}
use borrow.Author.Tests.{le-leb, lt-leb, eq-eqb, ne_eqb}
use Rattle.std.specs.Prelude.{Result, Ok, Err}
use Rattle.refusal.specs.declared.Refusal.{Refusal}
use Rattle.refusal.specs.declared.Refusal.TheVariants.{Room}
use Rattle.house_write.proofs.Storing.{sets-append}
use Rattle.text.specs.Decimal.{decimal}
use Rattle.text.specs.Text.{NEWLINE, REFUSED, AT, OK, refused_text, refused_at_text, value_text, values_text, ok_text, line_text, lines_text, PutsAt, Puts}
use Rattle.text.specs.Committed.{committed_from, flag_text}
use Rattle.text.proofs.Decimals.{decimal_one, decimal-more}

-- ---- one text after the other

pub puts_none : (out : List ℕ) (at p : ℕ) → p ≡ at → PutsAt [] out at p out
puts_none out at p e = record { after_is = omega arith; bytes_are = refl }

pub puts_then : {xs ys out : List ℕ} {at p r : ℕ} {o₁ o₂ : List ℕ} → PutsAt xs out at p o₁ → PutsAt ys o₁ p r o₂ → PutsAt (xs ++ ys) out at r o₂
puts_then {xs} {ys} {out} {at} {p} {r} {o₁} {o₂} a b =
    record {
      after_is = b.after_is ∙ rw (length-append xs ys) (omega (arith, a.after_is));
      bytes_are = b.bytes_are ∙ (rw (a.bytes_are, a.after_is)) ∙ sym (sets-append out at xs ys);
    }

pub puts_one : (x : ℕ) (out o : List ℕ) (at p : ℕ) → p ≡ at + 1 → o ≡ set out at x → PutsAt (x ∷ []) out at p o
puts_one x out o at p k e = record { after_is = k; bytes_are = e }

pub puts_as : {xs ys out : List ℕ} {at r : ℕ} {o : List ℕ} → xs ≡ ys → PutsAt xs out at r o → PutsAt ys out at r o
puts_as {out = out} {at} {r} {o} e p = subst (λ (l : List ℕ). PutsAt l out at r o) e p

-- ---- digits

pub digit_one : (n : ℕ) (out o : List ℕ) (at : ℕ) → n < 10 → o ≡ set out at (48 + n) → PutsAt (decimal n) out at (at + 1) o
digit_one n out o at h e = puts_as (sym (decimal_one n h)) (puts_one (48 + n) out o at (at + 1) refl e)

pub digit-more : (n : ℕ) {out o : List ℕ} {at p : ℕ} (u : List ℕ) → 10 ≤ n → PutsAt (decimal (n / 10)) out at p o → u ≡ set o p (48 + n % 10)
    → PutsAt (decimal n) out at (p + 1) u
digit-more n {out} {o} {at} {p} u h a e = puts_as (sym (decimal-more n h)) (puts_then a (puts_one (48 + n % 10) o u p (p + 1) refl e))

-- ---- bytes

pub bytes_next : (text : List ℕ) (i : ℕ) {out o : List ℕ} {at p : ℕ} (u : List ℕ) (r : ℕ) → i < length text → PutsAt (take i text) out at p o
    → u ≡ set o p (get_or text i 0) → r ≡ p + 1 → PutsAt (take (i + 1) text) out at r u
bytes_next text i {o = o} {p = p} u r h a e k =
    puts_as (sym (rw (add-one i) (take-suc text i 0 h))) (puts_then a (puts_one (get_or text i 0) o u p r k e))

pub puts_all : (text : List ℕ) (i : ℕ) {out o : List ℕ} {at p : ℕ} → i ≤ length text → length text ≤ i → PutsAt (take i text) out at p o → PutsAt text out at p o
puts_all text i k h a = puts_as (take_all i text h) a

pub puts_first : (x : ℕ) {xs : List ℕ} (out : List ℕ) {o u : List ℕ} (at : ℕ) {r : ℕ} → o ≡ set out at x → PutsAt xs o (at + 1) r u → PutsAt (x ∷ xs) out at r u
puts_first x out {o} at e a = puts_then (puts_one x out o at (at + 1) refl e) a

-- ---- values

values-append : (a b : List ℕ) → values_text (a ++ b) ≡ values_text a ++ values_text b
unfolding values_text
values-append [] b = refl
values-append (v ∷ a) b = ap (λ (l : List ℕ). value_text v ++ l) (values-append a b) ∙ sym (append_assoc (value_text v) (values_text a) (values_text b))

values_one : (v : ℕ) → values_text (v ∷ []) ≡ value_text v
unfolding values_text
values_one v = append-nil (value_text v)

values-none : values_text [] ≡ []
unfolding values_text
values-none = refl

values_next : (vs : List ℕ) (i : ℕ) → i < length vs → values_text (take i vs) ++ value_text (get_or vs i 0) ≡ values_text (take (i + 1) vs)
values_next vs i h =
    sym (ap values_text (ap (λ (k : ℕ). take k vs) (add-one i) ∙ take-suc vs i 0 h)
    ∙ values-append (take i vs) (get_or vs i 0 ∷ [])
    ∙ ap (λ (l : List ℕ). values_text (take i vs) ++ l) (values_one (get_or vs i 0)))

pub values_first : {out : List ℕ} {at p : ℕ} → p ≡ at → PutsAt (values_text []) out at p out
values_first {out} {at} {p} e = puts_as (sym values-none) (puts_none out at p e)

module _ (vs : List ℕ) (i : ℕ) where
  pub values_step : {out o u : List ℕ} {at p r : ℕ} → i < length vs → PutsAt (values_text (take i vs)) out at p o → PutsAt (value_text (get_or vs i 0)) o p r u
      → PutsAt (values_text (take (i + 1) vs)) out at r u
  values_step h a b = puts_as (values_next vs i h) (puts_then a b)

  pub values_all : {out o : List ℕ} {at p : ℕ} → length vs ≤ i → PutsAt (values_text (take i vs)) out at p o → PutsAt (values_text vs) out at p o
  values_all h a = puts_as (ap values_text (take_all i vs h)) a

-- ---- lines

lines_append : (a b : List ℕ) → lines_text (a ++ b) ≡ lines_text a ++ lines_text b
unfolding lines_text
lines_append [] b = refl
lines_append (v ∷ a) b = ap (λ (l : List ℕ). line_text v ++ l) (lines_append a b) ∙ sym (append_assoc (line_text v) (lines_text a) (lines_text b))

pub committed-append : (i : ℕ) (a b : List ℕ) → committed_from i (a ++ b) ≡ committed_from i a ++ committed_from (i + length a) b
unfolding committed_from
committed-append i [] b = ap (λ (k : ℕ). committed_from k b) (let e : i ≡ i + 0 = omega arith in e)
committed-append i (f ∷ a) b = go (eqb f 0) (committed-append (suc i) a b ∙ ap (λ (k : ℕ). committed_from (suc i) a ++ committed_from k b) (let e : suc i + length a ≡ i + suc (length a) = omega arith in e))
  where
    go : (c : Bool) → committed_from (suc i) (a ++ b) ≡ committed_from (suc i) a ++ committed_from (i + suc (length a)) b
        → cond c (committed_from (suc i) (a ++ b)) (i ∷ committed_from (suc i) (a ++ b)) ≡ cond c (committed_from (suc i) a) (i ∷ committed_from (suc i) a) ++ committed_from (i + suc (length a)) b
    go true e = e
    go false e = ap (λ (l : List ℕ). i ∷ l) e

flag_line : (f i : ℕ) → lines_text (committed_from i (f ∷ [])) ≡ flag_text f i
unfolding lines_text committed_from
flag_line f i = go (eqb f 0)
  where
    go : (c : Bool) → lines_text (cond c [] (i ∷ [])) ≡ cond c [] (line_text i)
    go true = refl
    go false = append-nil (line_text i)

lines_none : lines_text (committed_from 0 []) ≡ []
unfolding lines_text committed_from
lines_none = refl

lines_next : (flags : List ℕ) (i : ℕ) → i < length flags
    → lines_text (committed_from 0 (take i flags)) ++ flag_text (get_or flags i 0) i ≡ lines_text (committed_from 0 (take (i + 1) flags))
lines_next flags i h =
    let n : length (take i flags) ≡ i = length-take-le i flags (omega arith) in
    sym (ap (λ (l : List ℕ). lines_text (committed_from 0 l)) (ap (λ (k : ℕ). take k flags) (add-one i) ∙ take-suc flags i 0 h)
    ∙ ap lines_text (committed-append 0 (take i flags) (get_or flags i 0 ∷ []))
    ∙ lines_append (committed_from 0 (take i flags)) (committed_from (0 + length (take i flags)) (get_or flags i 0 ∷ []))
    ∙ ap (λ (l : List ℕ). lines_text (committed_from 0 (take i flags)) ++ l) (ap (λ (k : ℕ). lines_text (committed_from k (get_or flags i 0 ∷ []))) (let e : 0 + length (take i flags) ≡ i = omega (arith, n) in e) ∙ flag_line (get_or flags i 0) i))

pub lines_first : {out : List ℕ} {at p : ℕ} → p ≡ at → PutsAt (lines_text (committed_from 0 [])) out at p out
lines_first {out} {at} {p} e = puts_as (sym lines_none) (puts_none out at p e)

module _ (flags : List ℕ) (i : ℕ) where
  pub lines_step : {out o u : List ℕ} {at p r : ℕ} → i < length flags → PutsAt (lines_text (committed_from 0 (take i flags))) out at p o
      → PutsAt (flag_text (get_or flags i 0) i) o p r u → PutsAt (lines_text (committed_from 0 (take (i + 1) flags))) out at r u
  lines_step h a b = puts_as (lines_next flags i h) (puts_then a b)

  pub lines_all : {out o : List ℕ} {at p : ℕ} → length flags ≤ i → PutsAt (lines_text (committed_from 0 (take i flags))) out at p o
      → PutsAt (lines_text (committed_from 0 flags)) out at p o
  lines_all h a = puts_as (ap (λ (l : List ℕ). lines_text (committed_from 0 l)) (take_all i flags h)) a

module _ (f w : ℕ) {out : List ℕ} {at : ℕ} where
  pub flag_none : f ≡ 0 → PutsAt (flag_text f w) out at at out
  flag_none e = puts_as (sym (rw (eq-eqb f 0 e))) (puts_none out at at refl)

  pub flag_some : {o u : List ℕ} {p r : ℕ} → (f ≡ 0 → ⊥) → PutsAt (decimal w) out at p o → PutsAt (NEWLINE ∷ []) o p r u → PutsAt (flag_text f w) out at r u
  flag_some h a b = puts_as (sym (rw (ne_eqb f 0 h))) (puts_then a b)

-- ---- texts whole

module _ {out o₁ o₂ o₃ : List ℕ} {p q r : ℕ} where
  pub refused_text_lem : (number : ℕ) → PutsAt REFUSED out 0 p o₁ → PutsAt (decimal number) o₁ p q o₂ → PutsAt (NEWLINE ∷ []) o₂ q r o₃ → PutsAt (refused_text number) out 0 r o₃
  unfolding refused_text
  refused_text_lem number a b c = puts_then a (puts_then b c)

  pub ok_text_lem : (vs : List ℕ) → PutsAt OK out 0 p o₁ → PutsAt (values_text vs) o₁ p q o₂ → PutsAt (NEWLINE ∷ []) o₂ q r o₃ → PutsAt (ok_text vs) out 0 r o₃
  unfolding ok_text
  ok_text_lem vs a b c = puts_then a (puts_then b c)

module _ (number offset : ℕ) {out o₁ o₂ o₃ o₄ o₅ : List ℕ} {p q s t r : ℕ} where
  pub refused_at_text_lem : PutsAt REFUSED out 0 p o₁ → PutsAt (decimal number) o₁ p q o₂ → PutsAt AT o₂ q s o₃ → PutsAt (decimal offset) o₃ s t o₄
      → PutsAt (NEWLINE ∷ []) o₄ t r o₅ → PutsAt (refused_at_text number offset) out 0 r o₅
  unfolding refused_at_text
  refused_at_text_lem a b c d e = puts_then a (puts_then b (puts_then c (puts_then d e)))

-- ---- whether they fit: they are counted first

module _ {text none none' : List ℕ} {n : ℕ} (a : PutsAt text none 0 n none') where
  pub puts_short : (out : List ℕ) → length out < n → Puts text out (Err Room) out
  puts_short out h =
      let e : leb (length text) (length out) ≡ false = lt-leb (length text) (length out) (omega (arith, a.after_is)) in
      record { answer = rw e; bytes_are = rw e }

  pub puts_fit : {out out' : List ℕ} {m : ℕ} → n ≤ length out → PutsAt text out 0 m out' → Puts text out (Ok n) out'
  puts_fit {out} {out'} h b =
      let k : n ≡ length text = omega (arith, a.after_is) in
      let e : leb (length text) (length out) ≡ true = le-leb (length text) (length out) (omega (arith, a.after_is)) in
      record { answer = rw e (ap Ok k); bytes_are = rw e b.bytes_are }
