-- One call of `fuse` on the system of a house file, in stores that are made for it.
--
--   FusedIn             what `fuse` answers and leaves, judged
--   lent_in              the stores with a result store of so many terms, and so many flags, as they are made
--   lent_with            the stores with such a result store and such flags
--   InRoom              with those
--   FromRead            after the file was read; one that is not read is not answered as told
--   Attempt             from the bytes on
--
-- What `fuse` leaves is said by its contract, `Fuses`.
--
-- Assumes nothing.
use Rattle.std.specs.Prelude.{ℕ, false, List, min, take, replicate, Result, Ok, Err}
use Rattle.lower.specs.declared.Sizes.{Sizes}
use Rattle.lower.specs.Stores.{Stores}
use Rattle.refusal.specs.declared.Refusal.{Refusal}
use Rattle.house_file.specs.declared.FileRead.{FileRead}
use Rattle.house_file.specs.declared.FileFault.{FileFault}
use Rattle.fusion.specs.declared.Counts.{Counts}
use Rattle.fusion.specs.Left.{Lent, lent}
use Rattle.fusion.specs.Answer.{told_fused, Fuses}
use Rattle.replay_fuse.specs.declared.judge.Told.{Told}
use Rattle.replay_fuse.specs.declared.judge.Seen.{Seen}
use Rattle.replaying.specs.Places.{UNTOUCHED}
use Rattle.replay_fuse.specs.Judged.{ReadIn, refusal_seen, Judged}

pub record FusedIn (slots : ℕ) (z : Sizes) (file : List ℕ) (told : Told) (result : List ℕ) (digest : ℕ) (l l' : Lent) (r : Seen) : Type 0 where
  pub answer : Result Counts Refusal
  pub fuses : Fuses slots z l l' (told_fused answer)
  pub judged : Judged file told l' z result digest answer r

abbrev pub lent_in : ℕ → ℕ → Stores → Lent
lent_in room wires s =
    lent s.old (take (min room 16384) (replicate 16384 UNTOUCHED)) s.ands s.imuls s.bmuls s.zeros s.dsts s.rhss
    (take (min wires 4096) (replicate 4096 UNTOUCHED))

abbrev pub lent_with : List ℕ → List ℕ → Stores → Lent
lent_with new flags s = lent s.old new s.ands s.imuls s.bmuls s.zeros s.dsts s.rhss flags

module _ (slots room wires : ℕ) (file : List ℕ) (told : Told) (result : List ℕ) (digest : ℕ) where
  pub record InRoom (z : Sizes) (s s' : Stores) (r : Seen) : Type 0 where
    pub new : List ℕ
    pub flags : List ℕ
    pub fused : FusedIn slots z file told result digest (lent_in room wires s) (lent_with new flags s') r

  pub data FromRead (s : Stores) : Stores → Result FileRead FileFault → Seen → Type 0 where
    unread : {why : FileFault} → FromRead s s (Err why) (refusal_seen false digest)
    read : {s' : Stores} {f : FileRead} {r : Seen} → InRoom f.sizes s s' r → FromRead s s' (Ok f) r

pub record Attempt (file : List ℕ) (slots room wires : ℕ) (told : Told) (result : List ℕ) (digest : ℕ) (r : Seen) : Type 0 where
  pub before : Stores
  pub after : Stores
  pub answer : Result FileRead FileFault
  pub reads : ReadIn file answer before
  pub goes : FromRead slots room wires file told result digest before after answer r
