-- A system's file, read into stores that have room, is the system again; the contract of `read` has one answer. Assumes nothing.
use mathlib.Core.Path.{◌≡◌, sym, ◌∙◌}
use mathlib.Core.Bool.{true}
use mathlib.Core.List.{List, []}
use Prim.Native.Nat.{ℕ}
use lib.ListN.{length}
use borrow.Author.Tests.{le-leb}
use Rattle.lower.specs.declared.Sizes.{Sizes}
use Rattle.lower.specs.Model.{System, terms_of}
use Rattle.lower.specs.Accepted.{Shaped, Named, Shifted, Limits, MAX_TERMS}
use Rattle.lower.specs.Stores.{stores, system_of}
use Rattle.std.specs.Prelude.{Result, Ok}
use Rattle.house_file.specs.declared.FileRead.{FileRead}
use Rattle.house_file.specs.declared.FileFault.{FileFault}
use Rattle.house_file.specs.Format.{file_of, system_from, sizes_in}
use Rattle.house_file.specs.Decoding.{entries_at}
use Rattle.house_file.specs.Reading.{total, file_read, by_number}
use Rattle.house_file.proofs.Faults.{answer_once, by_number_ok}
use Rattle.house_read.specs.Answer.{room_of, ReadIs}
use Rattle.house_read.proofs.Answers.{room_done}
use Rattle.house_read.proofs.Writes.{file_back}
use Rattle.house_read.proofs.Backs.{Roomy, read_back}

room_is : (z : Sizes) (n t a i b o d r : ℕ) → Roomy z n t a i b o d r → room_of z n t a i b o d r ≡ true
unfolding room_of
room_is z n t a i b o d r m =
    simp (
      le-leb _ _ m.terms_fit,
      le-leb _ _ m.ands_fit,
      le-leb _ _ m.imuls_fit,
      le-leb _ _ m.bmuls_fit,
      le-leb _ _ m.zeros_fit,
      le-leb _ _ m.dsts_fit,
      le-leb _ _ m.rhss_fit,
    )

-- "Written files of at most 8,192 terms read back to the same lists"
pub record SystemBack (p : System) (r : Result FileRead FileFault) (terms' ands' imuls' bmuls' zeros' dsts' rhss' : List ℕ) : Type 0 where
  pub answer : r ≡ Ok (file_read (sizes_in p) (length (terms_of p)))
  pub same : system_of (sizes_in p) (stores terms' [] ands' imuls' bmuls' zeros' dsts' rhss') ≡ p

module _ {terms ands imuls bmuls zeros dsts rhss : List ℕ} {r : Result FileRead FileFault} {terms' ands' imuls' bmuls' zeros' dsts' rhss' : List ℕ} where
  pub system_back : (p : System) → Shaped p → Named p → Shifted p → Limits MAX_TERMS p
      → Roomy (sizes_in p) (length (terms_of p)) (length terms) (length ands) (length imuls) (length bmuls) (length zeros) (length dsts) (length rhss)
      → ReadIs (file_of p) terms ands imuls bmuls zeros dsts rhss r terms' ands' imuls' bmuls' zeros' dsts' rhss' → SystemBack p r terms' ands' imuls' bmuls' zeros' dsts' rhss'
  system_back p shaped named shifted limits room is =
      let b = file_back p shaped named shifted limits in
      let full = room_is (sizes_in p) (length (terms_of p)) (length terms) (length ands) (length imuls) (length bmuls) (length zeros) (length dsts) (length rhss) room in
      let a : r ≡ Ok (file_read (sizes_in p) (length (terms_of p))) =
      by_number_ok r _ (is.answer ∙ sym (room_done (length (file_of p)) (length terms) (length ands) (length imuls) (length bmuls) (length zeros) (length dsts) (length rhss) b.answer full)) in
      let same : system_from p.wires (entries_at (file_of p) (total (sizes_in p)) 5) ≡ p = rw b.answer at b.same in
      record { answer = a; same = read_back (sizes_in p) (length (terms_of p)) is a ∙ same }

-- no second answer satisfies the contract
pub record Same (r r₂ : Result FileRead FileFault) (t a i b o d h t₂ a₂ i₂ b₂ o₂ d₂ h₂ : List ℕ) : Type 0 where
  pub answers : r ≡ r₂
  pub terms_same : t ≡ t₂
  pub ands_same : a ≡ a₂
  pub imuls_same : i ≡ i₂
  pub bmuls_same : b ≡ b₂
  pub zeros_same : o ≡ o₂
  pub dsts_same : d ≡ d₂
  pub rhss_same : h ≡ h₂

module _ {s terms ands imuls bmuls zeros dsts rhss : List ℕ} where
  pub read_once : (r r₂ : Result FileRead FileFault) (t a i b o d h t₂ a₂ i₂ b₂ o₂ d₂ h₂ : List ℕ) → ReadIs s terms ands imuls bmuls zeros dsts rhss r t a i b o d h
      → ReadIs s terms ands imuls bmuls zeros dsts rhss r₂ t₂ a₂ i₂ b₂ o₂ d₂ h₂ → Same r r₂ t a i b o d h t₂ a₂ i₂ b₂ o₂ d₂ h₂
  read_once r r₂ t a i b o d h t₂ a₂ i₂ b₂ o₂ d₂ h₂ x y =
      let e : r ≡ r₂ = answer_once r r₂ (x.answer ∙ sym y.answer) in
      let f = rw e at x.filled in
      let g = y.filled in
      record {
        answers = e;
        terms_same = f.terms_are ∙ sym g.terms_are;
        ands_same = f.ands_are ∙ sym g.ands_are;
        imuls_same = f.imuls_are ∙ sym g.imuls_are;
        bmuls_same = f.bmuls_are ∙ sym g.bmuls_are;
        zeros_same = f.zeros_are ∙ sym g.zeros_are;
        dsts_same = f.dsts_are ∙ sym g.dsts_are;
        rhss_same = f.rhss_are ∙ sym g.rhss_are;
      }
