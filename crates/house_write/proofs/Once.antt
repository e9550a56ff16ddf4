-- A write that is done has put the whole file at the front; the contract of `write` has one answer. Assumes nothing.
use mathlib.Core.Path.{◌≡◌, refl, sym, ap, ◌∙◌}
use mathlib.Core.List.{List, ◌++◌}
use Prim.Native.Nat.{ℕ, ◌+◌, ◌≤◌}
use native.Mathlib.Nat.{zero-add}
use native.Mathlib.Omega.{arith}
use lib.ListN.{length, take, drop}
use lib.Seq.{sets, sets-eq, take_at, drop_at}
use Rattle.lower.specs.declared.Sizes.{Sizes}
use Rattle.lower.specs.Stores.{Stores, system_of}
use Rattle.house_file.specs.Format.{entries_of, file_of, file_size}
use Rattle.house_write.specs.Write.{write_fault, bytes_by, WriteIs}
use Rattle.std.specs.Prelude.{Result, Ok, Err}
use Rattle.refusal.specs.declared.Refusal.{Refusal}
use Rattle.house_file.proofs.Faults.{number_above, refusal_once}
use Rattle.house_write.proofs.Storing.{file_length}
use Rattle.house_write.proofs.Answering.{none_room}

pub record IsWritten (z : Sizes) (s : Stores) (out : List ℕ) (n : ℕ) (out' : List ℕ) : Type 0 where
  pub no_fault : write_fault z s (length out) ≡ 0
  pub length-is : n ≡ length (file_of (system_of z s))
  pub file_is : take n out' ≡ file_of (system_of z s)
  pub rest_is : drop n out' ≡ drop n out

module _ {z : Sizes} {s : Stores} {out out' : List ℕ} {n : ℕ} where
  pub is_written : WriteIs z s out (Ok n) out' → IsWritten z s out n out'
  unfolding bytes_by
  is_written w =
      let p = system_of z s in
      let g = sym w.answer in
      let l : n ≡ length (file_of p) = w.length_is ∙ sym (file_length p) in
      let fits : 0 + length (file_of p) ≤ length out = omega (arith, none_room z s (length out) g, file_length p) in
      let e : out' ≡ file_of p ++ drop (length (file_of p)) out =
      w.bytes_are ∙ ap (λ (f : ℕ). sets out 0 (bytes_by f (file_of p))) g ∙ sets-eq (file_of p) out 0 fits ∙ ap (λ (k : ℕ). file_of p ++ drop k out) (zero-add (length (file_of p))) in
      record {
        no_fault = g;
        length-is = l;
        file_is = ap (take n) e ∙ take_at (file_of p) (drop (length (file_of p)) out) n (sym l);
        rest_is = ap (drop n) e ∙ drop_at (file_of p) (drop (length (file_of p)) out) n (sym l) ∙ ap (λ (k : ℕ). drop k out) (sym l);
      }

-- no second answer satisfies the contract
pub write_once : (z : Sizes) (s : Stores) (out : List ℕ) (r r₂ : Result ℕ Refusal) (o o₂ : List ℕ) → WriteIs z s out r o → WriteIs z s out r₂ o₂ → (r ≡ r₂) × (o ≡ o₂)
write_once z s out r r₂ o o₂ x y = (same r r₂ x y, x.bytes_are ∙ sym y.bytes_are)
  where
    same : (r r₂ : Result ℕ Refusal) → WriteIs z s out r o → WriteIs z s out r₂ o₂ → r ≡ r₂
    same (Ok n) (Ok m) x y = ap Ok (x.length_is ∙ sym y.length_is)
    same (Ok n) (Err q) x y = absurd (omega (arith, x.answer, y.answer, number_above q))
    same (Err q) (Ok n) x y = absurd (omega (arith, x.answer, y.answer, number_above q))
    same (Err q) (Err t) x y = ap Err (refusal_once q t (x.answer ∙ sym y.answer))
