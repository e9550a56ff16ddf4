-- What entries count is what their system has: lists by kind, and all terms. Assumes nothing.
use mathlib.Core.Path.{◌≡◌, refl, ◌∙◌, subst}
use mathlib.Core.Bool.{Bool, true, false, cond}
use mathlib.Core.List.{List, [], ◌∷◌, ◌++◌, map}
use Prim.Native.Nat.{ℕ, zero, suc, ◌+◌, ◌≤◌}
use native.Mathlib.Omega.{arith}
use lib.Dec.{eqb}
use lib.ListN.{length, length-append, length-map}
use Rattle.operand.specs.Numbers.{Operand}
use Rattle.lower.specs.declared.Sizes.{Sizes}
use Rattle.lower.specs.Lists.{All, done, more, joined, sum_of}
use Rattle.lower.specs.Model.{Definition, row_operands, definition_operands, terms_of}
use Rattle.std.specs.Prelude.{Ok}
use Rattle.house_file.specs.Format.{Entry, LINEAR, of_kind, rows_from, definition_from, system_from, sizes_in, EntryOk, Sound, file_bytes}
use Rattle.house_file.specs.Reading.{counted, Small, none, sizes_of, read_of, total, file_read}
use Rattle.house_file.specs.Decoding.{entries_at}
use Rattle.house_file.specs.declared.Counts.{Counts}
use Rattle.house_fill.specs.Layout.{terms_count, terms_in_all}
use Rattle.house_read.proofs.Round.{counts_of, EntriesOk, none_left, one_more, round}

-- ---- rows and definitions of a kind

kept_length : (b : Bool) (e : Entry) (l : List Entry) → length (cond b (e ∷ l) l) ≡ cond b 1 0 + length l
kept_length true e l = omega arith
kept_length false e l = omega arith

pub record CountsAre (c : Counts) (es : List Entry) : Type 0 where
  pub ands_are : (counts_of c es).ands ≡ c.ands + length (of_kind 2 es)
  pub imuls_are : (counts_of c es).imuls ≡ c.imuls + length (of_kind 3 es)
  pub bmuls_are : (counts_of c es).bmuls ≡ c.bmuls + length (of_kind 4 es)
  pub zeros_are : (counts_of c es).zeros ≡ c.zeros + length (of_kind 5 es)
  pub linears_are : (counts_of c es).linears ≡ c.linears + length (of_kind LINEAR es)
  pub terms_are : (counts_of c es).terms ≡ c.terms + terms_in_all es

pub counts_are : (c : Counts) (es : List Entry) → CountsAre c es
unfolding counts_of terms_in_all counted
counts_are c [] = record { ands_are = omega arith; imuls_are = omega arith; bmuls_are = omega arith; zeros_are = omega arith; linears_are = omega arith; terms_are = omega arith }
counts_are c (e ∷ es) =
    let d = counted c e.tag (terms_count e.operands) in
    let r = counts_are d es in
    record {
      ands_are = omega (arith, r.ands_are, kept_length (eqb e.tag 2) e (of_kind 2 es));
      imuls_are = omega (arith, r.imuls_are, kept_length (eqb e.tag 3) e (of_kind 3 es));
      bmuls_are = omega (arith, r.bmuls_are, kept_length (eqb e.tag 4) e (of_kind 4 es));
      zeros_are = omega (arith, r.zeros_are, kept_length (eqb e.tag 5) e (of_kind 5 es));
      linears_are = omega (arith, r.linears_are, kept_length (eqb e.tag LINEAR) e (of_kind LINEAR es));
      terms_are = omega (arith, r.terms_are);
    }

-- ---- all terms

pub joined_length : {A : Type 0} (a b : List (List A)) → length (joined (a ++ b)) ≡ length (joined a) + length (joined b)
joined_length [] b = omega arith
joined_length (x ∷ a) b = omega (arith, length-append x (joined (a ++ b)), length-append x (joined a), joined_length a b)

pub terms_counted : (os : List Operand) → length (joined os) ≡ terms_count os
unfolding terms_count
terms_counted [] = refl
terms_counted (o ∷ os) = omega (arith, length-append o (joined os), terms_counted os)

-- the terms of the entries of a kind
abbrev kind_terms : ℕ → List Entry → ℕ
kind_terms kind es = sum_of (λ (e : Entry). cond (eqb e.tag kind) (terms_count e.operands) 0) es

row_by : (b : Bool) (e : Entry) (l : List Entry) → length (joined (joined (map (λ (e : Entry). e.operands) (cond b (e ∷ l) l))))
    ≡ cond b (terms_count e.operands) 0 + length (joined (joined (map (λ (e : Entry). e.operands) l)))
row_by true e l = joined_length e.operands (joined (map (λ (e : Entry). e.operands) l)) ∙ rw (terms_counted e.operands)
row_by false e l = omega arith

rows_terms : (kind : ℕ) (es : List Entry) → length (joined (joined (rows_from kind es))) ≡ kind_terms kind es
rows_terms kind [] = refl
rows_terms kind (e ∷ es) = row_by (eqb e.tag kind) e (of_kind kind es) ∙ rw (rows_terms kind es)

definition_by : (b : Bool) (e : Entry) (l : List Entry) → length (joined (map (λ (d : Definition). d.rhs) (map definition_from (cond b (e ∷ l) l))))
    ≡ cond b (terms_count e.operands) 0 + length (joined (map (λ (d : Definition). d.rhs) (map definition_from l)))
definition_by true e l = length-append (joined e.operands) _ ∙ rw (terms_counted e.operands)
definition_by false e l = omega arith

definitions_terms : (es : List Entry) → length (joined (map (λ (d : Definition). d.rhs) (map definition_from (of_kind LINEAR es)))) ≡ kind_terms LINEAR es
definitions_terms [] = refl
definitions_terms (e ∷ es) = definition_by (eqb e.tag LINEAR) e (of_kind LINEAR es) ∙ rw (definitions_terms es)

one_kind : (tag x : ℕ) → 2 ≤ tag → tag ≤ 6
    → cond (eqb tag 2) x 0 + (cond (eqb tag 3) x 0 + (cond (eqb tag 4) x 0 + cond (eqb tag 5) x 0)) + cond (eqb tag 6) x 0 ≡ x
one_kind zero x l h = absurd (omega (arith, l))
one_kind (suc zero) x l h = absurd (omega (arith, l))
one_kind (suc (suc zero)) x l h = omega arith
one_kind (suc (suc (suc zero))) x l h = omega arith
one_kind (suc (suc (suc (suc zero)))) x l h = omega arith
one_kind (suc (suc (suc (suc (suc zero))))) x l h = omega arith
one_kind (suc (suc (suc (suc (suc (suc zero)))))) x l h = omega arith
one_kind (suc (suc (suc (suc (suc (suc (suc n))))))) x l h = absurd (omega (arith, h))

all_kinds : (w : ℕ) (es : List Entry) → All (EntryOk w) es
    → kind_terms 2 es + (kind_terms 3 es + (kind_terms 4 es + kind_terms 5 es)) + kind_terms LINEAR es ≡ terms_in_all es
unfolding terms_in_all
all_kinds w [] done = omega arith
all_kinds w (e ∷ es) (more k ks) = omega (arith, one_kind e.tag (terms_count e.operands) k.low k.high, all_kinds w es ks)

-- all terms of the system are those of the entries
pub terms_of_lem : (w : ℕ) (es : List Entry) → All (EntryOk w) es → length (terms_of (system_from w es)) ≡ terms_in_all es
unfolding system_from row_operands definition_operands
terms_of_lem w es k =
    let p = system_from w es in
    let a = joined (rows_from 2 es) in
    let i = joined (rows_from 3 es) in
    let b = joined (rows_from 4 es) in
    let o = joined (rows_from 5 es) in
    let d = map (λ (d : Definition). d.rhs) (map definition_from (of_kind LINEAR es)) in
    omega (
      arith,
      joined_length (a ++ (i ++ (b ++ o))) d,
      joined_length a (i ++ (b ++ o)),
      joined_length i (b ++ o),
      joined_length b o,
      rows_terms 2 es,
      rows_terms 3 es,
      rows_terms 4 es,
      rows_terms 5 es,
      definitions_terms es,
      all_kinds w es k,
    )

-- ---- entries that are sound

-- counts that are small in the end were small after each field
pub entries_ok : (w : ℕ) (c : Counts) (es : List Entry) → All (EntryOk w) es → Small (counts_of c es) → EntriesOk w c es
unfolding counts_of
entries_ok w c [] done s = none_left
entries_ok w c (e ∷ es) (more k ks) s =
    let d = counted c e.tag (terms_count e.operands) in
    let r = counts_are d es in
    let small : Small d = (omega (arith, s, r.linears_are), (omega (arith, s, r.ands_are, r.imuls_are, r.bmuls_are, r.zeros_are), omega (arith, s, r.terms_are))) in
    one_more k small (entries_ok w d es ks s)

-- the sizes of the system are the counts
pub sizes_are : (w : ℕ) (es : List Entry) → sizes_of w (counts_of none es) ≡ sizes_in (system_from w es)
unfolding system_from
sizes_are w es =
    let r = counts_are none es in
    let a : (counts_of none es).ands ≡ length (rows_from 2 es) = omega (arith, r.ands_are, length-map (of_kind 2 es) (λ (e : Entry). e.operands)) in
    let i : (counts_of none es).imuls ≡ length (rows_from 3 es) = omega (arith, r.imuls_are, length-map (of_kind 3 es) (λ (e : Entry). e.operands)) in
    let b : (counts_of none es).bmuls ≡ length (rows_from 4 es) = omega (arith, r.bmuls_are, length-map (of_kind 4 es) (λ (e : Entry). e.operands)) in
    let o : (counts_of none es).zeros ≡ length (rows_from 5 es) = omega (arith, r.zeros_are, length-map (of_kind 5 es) (λ (e : Entry). e.operands)) in
    let l : (counts_of none es).linears ≡ length (map definition_from (of_kind LINEAR es)) = omega (arith, r.linears_are, length-map (of_kind LINEAR es) definition_from) in
    rw (a, i, b, o, l)

pub counts_small : (w : ℕ) (es : List Entry) → Sound w es → Small (counts_of none es)
unfolding system_from
counts_small w es k =
    let r = counts_are none es in
    let l = k.limits in
    let a = length-map (of_kind 2 es) (λ (e : Entry). e.operands) in
    let i = length-map (of_kind 3 es) (λ (e : Entry). e.operands) in
    let b = length-map (of_kind 4 es) (λ (e : Entry). e.operands) in
    let o = length-map (of_kind 5 es) (λ (e : Entry). e.operands) in
    let d = length-map (of_kind LINEAR es) definition_from in (
      omega (arith, r.linears_are, d, l.definitions_few),
      (
        omega (arith, r.ands_are, r.imuls_are, r.bmuls_are, r.zeros_are, a, i, b, o, l.others_few),
        omega (arith, r.terms_are, terms_of_lem w es k.entries_ok, l.terms_few),
      ),
    )

-- what the reader makes of a sound file
pub record Accepts (wires : ℕ) (es : List Entry) : Type 0 where
  pub accepted : read_of (file_bytes wires es) ≡ Ok (file_read (sizes_in (system_from wires es)) (length (terms_of (system_from wires es))))
  pub same : entries_at (file_bytes wires es) (total (sizes_in (system_from wires es))) 5 ≡ es

pub accepts : (wires : ℕ) (es : List Entry) → Sound wires es → Accepts wires es
unfolding system_from
accepts wires es k =
    let l = k.limits in
    let r = round wires es l.wires_some l.wires_few (entries_ok wires none es k.entries_ok (counts_small wires es k)) in
    let t : (counts_of none es).terms ≡ length (terms_of (system_from wires es)) = omega (arith, (counts_are none es).terms_are, terms_of_lem wires es k.entries_ok) in
    record {
      accepted = r.accepted ∙ rw (sizes_are wires es, t);
      same = subst (λ (z : Sizes). entries_at (file_bytes wires es) (total z) 5 ≡ es) (sizes_are wires es) r.same;
    }
