-- An answer with room, and the counts of an accepted file. Assumes nothing.
use mathlib.Core.Path.{◌≡◌, refl, ap, ◌∙◌}
use mathlib.Core.Bool.{Bool, true, false, cond}
use mathlib.Core.List.{List}
use Prim.Native.Nat.{ℕ}
use native.Mathlib.Omega.{arith}
use Rattle.lower.specs.declared.Sizes.{Sizes}
use Rattle.std.specs.Prelude.{Result, Ok, Err}
use Rattle.house_file.specs.declared.FileRead.{FileRead}
use Rattle.house_file.specs.declared.FileFault.{FileFault}
use Rattle.house_file.specs.Reading.{ROOM, read_of, told_read, Fault, fault, by_number, values_read}
use Rattle.word.specs.Answers.{Told, given, refused_at}
use Rattle.house_read.specs.Answer.{Fits, room_of, with_room, told_room}
use Rattle.house_read.proofs.Runs.{runs_small, read_whole}

-- what is accepted is within the limits
pub read_fits : (s : List ℕ) (x : FileRead) → read_of s ≡ Ok x → Fits x.sizes
read_fits s x e =
    let r = (read_whole s x.sizes x.terms e).run in
    let k = runs_small r.runs (omega arith, (omega arith, omega arith)) in
    rw r.sizes_are (k.0, k.1.0)

module _ (len t a i b o d r : ℕ) where
  pub room_done : {x : Result FileRead Fault} {z : FileRead} → x ≡ Ok z → room_of z.sizes z.terms t a i b o d r ≡ true → Ok z ≡ with_room x len t a i b o d r
  unfolding with_room
  room_done e h = rw (e, h)

  pub room_short : {x : Result FileRead Fault} {z : FileRead} → x ≡ Ok z → room_of z.sizes z.terms t a i b o d r ≡ false → Err (fault ROOM len) ≡ with_room x len t a i b o d r
  unfolding with_room
  room_short e h = rw (e, h)

  pub room_refused : {x : Result FileRead Fault} {f : Fault} → x ≡ Err f → Err f ≡ with_room x len t a i b o d r
  unfolding with_room
  room_refused e = rw e

  abbrev told_of : Result FileRead Fault → Told
  told_of (Err f) = refused_at f.number f.at
  told_of (Ok x) = given (values_read x)

  told_by_number : (y : Result FileRead FileFault) → told_read y ≡ told_of (by_number y)
  told_by_number (Err f) = refl
  told_by_number (Ok x) = refl

  -- what is told of an answer is what is told of the bytes and the room
  told_room_lem : (x : Result FileRead Fault) → told_of (with_room x len t a i b o d r) ≡ told_room x len t a i b o d r
  unfolding with_room told_room
  told_room_lem (Err f) = refl
  told_room_lem (Ok x) = go (room_of x.sizes x.terms t a i b o d r)
    where
      go : (q : Bool) → told_of (cond q (Ok x) (Err (fault ROOM len))) ≡ cond q (given (values_read x)) (refused_at ROOM len)
      go true = refl
      go false = refl

  pub answer_tells : (y : Result FileRead FileFault) (x : Result FileRead Fault) → by_number y ≡ with_room x len t a i b o d r → told_read y ≡ told_room x len t a i b o d r
  answer_tells y x e = told_by_number y ∙ ap told_of e ∙ told_room_lem x
