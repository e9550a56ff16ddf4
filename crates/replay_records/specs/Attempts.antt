-- One vector: its file is read, fused and written, on one array of records and in stores that are made for it.
--
--   sizes_after z a      the sizes of what stands in the stores after the answer a of fusing
--   FusedIn             what fusing leaves, for the records left; it is written, and judged
--   InRoom              with a result store of so many terms, as many flags as wires, and bytes to write to, as they are made
--   FromRead            after the file was read; one that is not read is not answered as told
--   Attempt             from the bytes on
--
-- What is lent to fusing is a function of the records, or of the result store, the flags and the records, where those are not yet made.
--
-- Assumes nothing.
use Rattle.std.specs.Prelude.{ℕ, ◌+◌, false, min, List, take, replicate, Result, Ok, Err}
use Rattle.refusal.specs.declared.Refusal.{Refusal}
use Rattle.lower.specs.declared.Sizes.{Sizes}
use Rattle.house_file.specs.declared.FileRead.{FileRead}
use Rattle.house_file.specs.declared.FileFault.{FileFault}
use Rattle.house_write.specs.Write.{WriteIs}
use Rattle.fusion.specs.declared.Counts.{Counts}
use Rattle.fusion.specs.Left.{Lent, output}
use Rattle.fusion.specs.Answer.{told_fused, Fuses}
use Rattle.records.specs.declared.Definition.{Definition}
use Rattle.records.specs.Records.{lent_by}
use Rattle.replay_records.specs.declared.judge.Told.{Told}
use Rattle.replay_records.specs.declared.judge.Seen.{Seen}
use Rattle.replay_records.specs.declared.lend.Loaded.{Loaded}
use Rattle.replaying.specs.Places.{UNTOUCHED}
use Rattle.replay_records.specs.Words.{rows_of, ReadIn}
use Rattle.replay_records.specs.Judged.{file_of, refusal_seen, Judged}

abbrev pub sizes_after : Sizes → Result Counts Refusal → Sizes
sizes_after z (Err _) = z
sizes_after z (Ok k) =
    record {
      wires = z.wires;
      ands = z.ands;
      imuls = z.imuls;
      bmuls = z.bmuls;
      zeros = z.zeros;
      linears = rows_of k.stranded + rows_of k.committed;
    }

module _ (slots : ℕ) (file : List ℕ) (told : Told) (result : List ℕ) (digest : ℕ) where
  pub record FusedIn (z : Sizes) (l : Lent) (left : List Definition → Lent) (out out' : List ℕ) (r : Seen) : Type 0 where
    pub defs : List Definition
    pub answer : Result Counts Refusal
    pub written : Result ℕ Refusal
    pub fuses : Fuses slots z l (left defs) (told_fused answer)
    pub writes : WriteIs (sizes_after z answer) (output (left defs)) out written out'
    pub judged : Judged told file (left defs).new (left defs).flags (file_of written out') result digest answer r

  module _ (room : ℕ) (l : List ℕ → List ℕ → Lent) (left : List ℕ → List ℕ → List Definition → Lent) where
    pub record InRoom (z : Sizes) (r : Seen) : Type 0 where
      pub new : List ℕ
      pub flags : List ℕ
      pub out : List ℕ
      pub fused : FusedIn z (l (take (min room 16384) (replicate 16384 UNTOUCHED)) (take (min z.wires 4096) (replicate 4096 UNTOUCHED))) (left new flags) (replicate 65536 0) out r

    pub data FromRead : Result FileRead FileFault → Seen → Type 0 where
      unread : {f : FileFault} → FromRead (Err f) (refusal_seen false digest)
      read : {a : FileRead} {r : Seen} → InRoom a.sizes r → FromRead (Ok a) r

pub record Attempt (file : List ℕ) (slots room : ℕ) (told : Told) (result : List ℕ) (digest : ℕ) (r : Seen) : Type 0 where
  pub loaded : Loaded
  pub terms : List ℕ
  pub ands : List ℕ
  pub imuls : List ℕ
  pub bmuls : List ℕ
  pub zeros : List ℕ
  -- what fusing left of the rows' stores
  pub ands' : List ℕ
  pub imuls' : List ℕ
  pub bmuls' : List ℕ
  pub zeros' : List ℕ
  pub reads : ReadIn file loaded terms ands imuls bmuls zeros
  pub goes : FromRead slots file told result digest room
      (λ new flags. lent_by terms new ands imuls bmuls zeros loaded.defs flags)
      (λ new flags defs. lent_by terms new ands' imuls' bmuls' zeros' defs flags)
      loaded.read
      r
