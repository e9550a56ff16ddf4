-- A file read into empty stores, and what was read written: both contracts together. Assumes nothing.
use Rattle.std.proofs.Common.{◌≡◌, ℕ, zero, suc, ◌+◌, ◌-◌, ◌<◌, ◌≤◌, Bool, false, List, [], length, take, drop, replicate, sym, ap, subst, ◌∙◌, arith, eq-eqb, ne_eqb, le-leb}
use Rattle.std.specs.Prelude.{Option, Result, Ok, Err, IfOk}
use borrow.Author.Tests.{lt-leb}
use lib.ListN.{length-replicate}
use lib.Seq.{sets}
use Rattle.refusal.specs.declared.Refusal.{Refusal}
use Rattle.refusal.specs.Refusals.{number_of, fault_in}
use Rattle.lower.specs.Stores.{Stores, stores, system_of}
use Rattle.house_file.specs.Format.{file_of, file_size, entries_of}
use Rattle.house_file.specs.Reading.{Fault, by_number, entries_read}
use Rattle.house_file.specs.declared.FileRead.{FileRead}
use Rattle.house_file.specs.declared.FileFault.{FileFault}
use Rattle.house_file.proofs.Faults.{number_above}
use Rattle.house_fill.specs.Layout.{Filled}
use Rattle.house_read.specs.Answer.{ReadIs}
use Rattle.house_write.specs.Write.{write_fault, bytes_by, WriteIs}
use Rattle.replaying.specs.Places.{same_from}
use Rattle.replay_house.specs.Replay.{number_at, counted, with_bytes, refused_seen, done_seen, written_seen, outcome_seen, same_seen, read_in, held_of, pass_by, bytes_after, Passed, pass_seen, pass_bytes, expected_at, State, state_of, compared_tally, again_of, told_of, file_of_vector, vector_of, vectors_of, term_made, operand_made, wire_made, made_from, made_stores}
use Rattle.replay_house.specs.declared.tally.Tally.{Tally}
use Rattle.replay_house.specs.declared.pass.Seen.{Seen}
use Rattle.replay_house.specs.declared.limits.Case.{Case}

module _ {s : List ℕ} {r : Result FileRead FileFault} {terms ands imuls bmuls zeros dsts rhss : List ℕ}
    (is : ReadIs s (replicate 8192 0) (replicate 3072 0) (replicate 4096 0) (replicate 6144 0) (replicate 1024 0) (replicate 1024 0) (replicate 1024 0) r terms ands imuls bmuls zeros dsts rhss) where
  read_in_lem : by_number r ≡ read_in s
  read_in_lem =
      rw (
        length-replicate {A = ℕ} 8192 0,
        length-replicate {A = ℕ} 3072 0,
        length-replicate {A = ℕ} 4096 0,
        length-replicate {A = ℕ} 6144 0,
        length-replicate {A = ℕ} 1024 0,
      ) at is.answer

  pub pass_refused : (out : List ℕ) {f : FileFault} → r ≡ Err f → Passed s out (refused_seen (number_of f.refusal) f.at) out
  pass_refused out e =
      let k = sym read_in_lem ∙ ap by_number e in
      record {
        seen_is = sym (ap (λ (x : Result FileRead Fault). pass_by (entries_read s x) x (length out)) k);
        bytes_are = sym (ap (λ (x : Result FileRead Fault). bytes_after (entries_read s x) x out) k);
      }

  written_is : (x : FileRead) (w : Result ℕ Refusal) (f m : ℕ) → fault_in w ≡ f → IfOk w (λ n. n ≡ m) → written_seen x w ≡ outcome_seen x f m
  written_is x (Ok n) f m e k = rw (← e) (ap (done_seen x 0) k)
  written_is x (Err q) zero m e k = absurd (omega (arith, e, number_above q))
  written_is x (Err q) (suc f) m e k = ap (λ (n : ℕ). done_seen x n 0) e

  pub pass_done : {out out' : List ℕ} {x : FileRead} {w : Result ℕ Refusal} → r ≡ Ok x → WriteIs x.sizes (stores terms [] ands imuls bmuls zeros dsts rhss) out w out'
      → Passed s out (written_seen x w) out'
  pass_done {out = out} {x = x} {w = w} e w_is =
      let z = x.sizes in
      let k = sym read_in_lem ∙ ap by_number e in
      let es = entries_read {E = Fault} s (Ok x) in
      let f : Filled es (replicate 8192 0) (replicate 3072 0) (replicate 4096 0) (replicate 6144 0) (replicate 1024 0) (replicate 1024 0) (replicate 1024 0) terms ands imuls bmuls zeros dsts rhss = rw e at is.filled in
      let held : stores terms [] ands imuls bmuls zeros dsts rhss ≡ held_of es =
      rw (f.terms_are, f.ands_are, f.imuls_are, f.bmuls_are, f.zeros_are, f.dsts_are, f.rhss_are) in
      let a = written_is x w _ _ w_is.answer w_is.length_is in
      record {
        seen_is = a ∙ ap (λ (h : Stores). outcome_seen x (write_fault z h (length out)) (file_size (entries_of (system_of z h)))) held
            ∙ sym (ap (λ (x : Result FileRead Fault). pass_by (entries_read s x) x (length out)) k);
        bytes_are = w_is.bytes_are ∙ ap (λ (h : Stores). sets out 0 (bytes_by (write_fault z h (length out)) (file_of (system_of z h)))) held
            ∙ sym (ap (λ (x : Result FileRead Fault). bytes_after (entries_read s x) x out) k);
      }

-- ---- vectors

pub compared_is : (seen : Seen) (file two : List ℕ) (t : Tally) {p : Seen} {two' : List ℕ} {a b : Bool} → Passed file two p two' → a ≡ same_seen seen p → b ≡ same_from file (take (length file) two') 0
    → with_bytes (counted (counted t a) b) file ≡ compared_tally seen file two t
unfolding compared_tally
compared_is seen file two t {b = b} is e f =
    ap (λ (x : Bool). with_bytes (counted (counted t x) b) file) (e ∙ ap (same_seen seen) is.seen_is)
    ∙ ap (λ (x : Bool). with_bytes (counted (counted t (same_seen seen (pass_seen file (length two)))) x) file) (f ∙ ap (λ (l : List ℕ). same_from file (take (length file) l) 0) is.bytes_are)

module _ (seen : Seen) (one two : List ℕ) (t : Tally) where
  pub again_short_one : length one < seen.length → state_of one two (counted t false) ≡ again_of seen (state_of one two t)
  unfolding again_of
  again_short_one h = rw (lt-leb seen.length (length one) h)

  pub again_short_two : seen.length ≤ length one → length two < seen.length → state_of one two (counted t false) ≡ again_of seen (state_of one two t)
  unfolding again_of
  again_short_two h k = rw (le-leb seen.length (length one) h, lt-leb seen.length (length two) k)

  pub again_is : seen.length ≤ length one → seen.length ≤ length two
      → state_of one (pass_bytes (take seen.length one) two) (compared_tally seen (take seen.length one) two t) ≡ again_of seen (state_of one two t)
  unfolding again_of
  again_is h k = rw (le-leb seen.length (length one) h, le-leb seen.length (length two) k)

module _ (file : List ℕ) (asked : Option Seen) (one two : List ℕ) (t : Tally) {p : Seen} {one' : List ℕ} (is : Passed file one p one') where
  pub file_refused : (p.number ≡ 0 → ⊥) → state_of one' two (told_of t p asked) ≡ file_of_vector file asked (state_of one two t)
  unfolding file_of_vector
  file_refused h =
      let e = is.seen_is in
      rw (is.bytes_are, e) (sym (rw (ne_eqb (pass_seen file (length one)).number 0 (λ k. h (ap (λ (x : Seen). x.number) e ∙ k)))))

  pub file_again : p.number ≡ 0 → again_of p (state_of one' two (told_of t p asked)) ≡ file_of_vector file asked (state_of one two t)
  unfolding file_of_vector
  file_again h =
      let e = is.seen_is in
      rw (is.bytes_are, e) (sym (rw (eq-eqb (pass_seen file (length one)).number 0 (ap (λ (x : Seen). x.number) (sym e) ∙ h))))

module _ (input : List ℕ) (at n : ℕ) (s : State) where
  pub vector_short : length input < at + n → state_of s.one s.two (counted s.tally false) ≡ vector_of input at n s
  unfolding vector_of
  vector_short h = rw (lt-leb (at + n) (length input) h)

  pub vector_is : at + n ≤ length input → file_of_vector (take n (drop at input)) (expected_at input (at + n) n) s ≡ vector_of input at n s
  unfolding vector_of
  vector_is h = rw (le-leb (at + n) (length input) h)

-- what is left after i of k vectors
module _ (input : List ℕ) (at : ℕ) (s : State) (k i : ℕ) (h : i < k) where
  one_more : k - i ≡ suc (k - (i + 1))
  one_more = omega arith

  pub vectors_stop : length input ≤ at → vectors_of input (k - i) at s ≡ state_of s.one s.two (counted s.tally false)
  unfolding vectors_of
  vectors_stop l = rw (one_more, le-leb (length input) at l)

  pub vectors_go : at < length input
      → vectors_of input (k - i) at s ≡ vectors_of input (k - (i + 1)) (at + 4 + number_at input at + 36) (vector_of input (at + 4) (number_at input at) s)
  unfolding vectors_of
  vectors_go l = rw (one_more, lt-leb (length input) at l)

pub vectors_end : (input : List ℕ) (at : ℕ) (s : State) (k : ℕ) → k ≡ 0 → vectors_of input k at s ≡ s
unfolding vectors_of
vectors_end input at s k e = rw e

-- ---- systems that are made

abbrev zeroes : ℕ → List ℕ
zeroes n = replicate n 0

-- all places of each store are made
abbrev pub Whole : Case → List ℕ → List ℕ → List ℕ → List ℕ → List ℕ → List ℕ → List ℕ → Type 0
Whole c terms ands imuls bmuls zeros dsts rhss =
    (terms ≡ made_from (term_made c.sizes.wires) 0 (length (zeroes 11264)))
    × ((ands ≡ made_from (operand_made c.row) 0 (length (zeroes 3075)))
    × ((imuls ≡ made_from (operand_made c.row) 0 (length (zeroes 4100)))
    × ((bmuls ≡ made_from (operand_made c.row) 0 (length (zeroes 6150)))
    × ((zeros ≡ made_from (operand_made c.row) 0 (length (zeroes 1025)))
    × ((dsts ≡ made_from (wire_made c.sizes.wires) 0 (length (zeroes 1025))) × (rhss ≡ made_from (operand_made c.side) 0 (length (zeroes 1025))))))))

module _ (c : Case) {terms ands imuls bmuls zeros dsts rhss : List ℕ} where
  pub make_is : {out out' : List ℕ} {w : Result ℕ Refusal} → Whole c terms ands imuls bmuls zeros dsts rhss → WriteIs c.sizes (stores terms [] ands imuls bmuls zeros dsts rhss) out w out'
      → WriteIs c.sizes (made_stores c) out w out'
  make_is {out = out} {out'} {w} y is =
      let z = c.sizes in
      let row : ℕ → List ℕ = made_from (operand_made c.row) 0 in
      let t = y.0 ∙ ap (made_from (term_made z.wires) 0) (length-replicate {A = ℕ} 11264 0) in
      let a = y.1.0 ∙ ap row (length-replicate {A = ℕ} 3075 0) in
      let i = y.1.1.0 ∙ ap row (length-replicate {A = ℕ} 4100 0) in
      let b = y.1.1.1.0 ∙ ap row (length-replicate {A = ℕ} 6150 0) in
      let o = y.1.1.1.1.0 ∙ ap row (length-replicate {A = ℕ} 1025 0) in
      let d = y.1.1.1.1.1.0 ∙ ap (made_from (wire_made z.wires) 0) (length-replicate {A = ℕ} 1025 0) in
      let r = y.1.1.1.1.1.1 ∙ ap (made_from (operand_made c.side) 0) (length-replicate {A = ℕ} 1025 0) in
      let held : stores terms [] ands imuls bmuls zeros dsts rhss ≡ made_stores c = rw (t, a, i, b, o, d, r) in
      subst (λ (h : Stores). WriteIs z h out w out') held is
