-- What the calls of reading, fusing, writing and filling back come to. Assumes nothing.
use Rattle.std.proofs.Common.{◌≡◌, ℕ, ◌<◌, false, min, List, [], length, take, replicate, sym, subst, Result, Ok, Err}
use Rattle.refusal.specs.declared.Refusal.{Refusal}
use Rattle.lower.specs.declared.Sizes.{Sizes}
use Rattle.lower.specs.Stores.{Stores}
use Rattle.house_file.specs.declared.FileRead.{FileRead}
use Rattle.house_file.specs.declared.FileFault.{FileFault}
use Rattle.house_write.specs.Write.{WriteIs}
use Rattle.fusion.specs.declared.Counts.{Counts}
use Rattle.fusion.specs.Left.{Lent, output}
use Rattle.fusion.specs.Answer.{told_fused, Fuses}
use Rattle.fill_back.specs.Filling.{FillsIs}
use Rattle.evaluate.specs.Evaluation.{EvaluateIs}
use Rattle.records.specs.declared.Definition.{Definition}
use Rattle.records.specs.Records.{stores_by, lent_by}
use Rattle.replay_records.specs.declared.Vector.{Vector}
use Rattle.replay_records.specs.declared.judge.Told.{Told}
use Rattle.replay_records.specs.declared.judge.Seen.{Seen}
use Rattle.replay_records.specs.declared.lend.Loaded.{Loaded}
use Rattle.replay_records.specs.declared.tally.Tally.{Tally}
use Rattle.replaying.specs.Places.{part_of, UNTOUCHED}
use Rattle.replay_records.specs.Words as W
use Rattle.replay_records.specs.Words.{made_words, counted_of, FilledIn, WithWords, ReadIn, Filled}
use Rattle.replay_records.specs.Judged.{file_of, refusal_seen, Judged}
use Rattle.replay_records.specs.Attempts.{sizes_after, FusedIn, InRoom, FromRead, unread, read, Attempt}
use Rattle.replay_records.specs.Tallies.{nothing_counted, vector_counted}
use Rattle.replay_records.specs.Replay.{vector_at, told_at, Replayed, begun, next}

-- ---- filling back

pub was_filled : (z : Sizes) (s : Stores) (ds : List Definition) (flags words values made words' values' : List ℕ) (n number : ℕ) (answer : Result ℕ Refusal) → made ≡ made_words (length words) words → FillsIs z s flags made words' number → EvaluateIs z s words' values answer values' → n ≡ counted_of number answer ds z values' flags words' → FilledIn z s ds flags words values words' values' n
was_filled z s ds flags words values made words' values' n number answer p x y e =
    record {
      number = number;
      answer = answer;
      fills = subst (λ (l : List ℕ). FillsIs z s flags l words' number) p x;
      evaluates = y;
      counts = e;
    }

pub some_words : (z : Sizes) (s : Stores) (ds : List Definition) (flags words values : List ℕ) (n m : ℕ) → m ≡ min z.wires 4096 → FilledIn z s ds flags (take m (replicate 4096 0)) (replicate 7168 UNTOUCHED) words values n → WithWords z s ds flags n
some_words z s ds flags words values n m p x =
    record {
      words = words;
      values = values;
      filled = subst (λ (i : ℕ). FilledIn z s ds flags (take i (replicate 4096 0)) (replicate 7168 UNTOUCHED) words values n) p x;
    }

module _ (s : Stores) (ds : List Definition) (flags : List ℕ) (a : Result FileRead FileFault) where
  pub no_words : (f : FileFault) → a ≡ Err f → W.FromRead s ds flags a 0
  no_words f p = rw p W.unread

  pub all_words : (b : FileRead) (n : ℕ) → a ≡ Ok b → WithWords b.sizes s ds flags n → W.FromRead s ds flags a n
  all_words b n p x = rw p (W.read x)

-- ---- fusing

module _ (slots : ℕ) (file : List ℕ) (told : Told) (result : List ℕ) (digest : ℕ) where
  pub was_fused : (z : Sizes) (l : Lent) (left : List Definition → Lent) (out out' : List ℕ) (r : Seen) (ds : List Definition) (a : Result Counts Refusal) (w : Result ℕ Refusal) (z' : Sizes) → Fuses slots z l (left ds) (told_fused a) → z' ≡ sizes_after z a → WriteIs z' (output (left ds)) out w out' → Judged told file (left ds).new (left ds).flags (file_of w out') result digest a r → FusedIn slots file told result digest z l left out out' r
  was_fused z l left out out' r ds a w z' x p y j =
      record {
        defs = ds;
        answer = a;
        written = w;
        fuses = x;
        writes = subst (λ (v : Sizes). WriteIs v (output (left ds)) out w out') p y;
        judged = j;
      }

  module _ (room : ℕ) (l : List ℕ → List ℕ → Lent) (left : List ℕ → List ℕ → List Definition → Lent) where
    pub in_parts : (z : Sizes) (r : Seen) (n m : ℕ) (new flags out : List ℕ) → n ≡ min room 16384 → m ≡ min z.wires 4096 → FusedIn slots file told result digest z (l (take n (replicate 16384 UNTOUCHED)) (take m (replicate 4096 UNTOUCHED))) (left new flags) (replicate 65536 0) out r → InRoom slots file told result digest room l left z r
    in_parts z r n m new flags out p q x =
        record {
          new = new;
          flags = flags;
          out = out;
          fused = subst (λ (i : ℕ). FusedIn slots file told result digest z (l (take i (replicate 16384 UNTOUCHED)) (take (min z.wires 4096) (replicate 4096 UNTOUCHED))) (left new flags) (replicate 65536 0) out r) p
              (subst (λ (i : ℕ). FusedIn slots file told result digest z (l (take n (replicate 16384 UNTOUCHED)) (take i (replicate 4096 UNTOUCHED))) (left new flags) (replicate 65536 0) out r) q x);
        }

    pub not_read : (a : Result FileRead FileFault) (r : Seen) (f : FileFault) → a ≡ Err f → r ≡ refusal_seen false digest → FromRead slots file told result digest room l left a r
    not_read a r f p q = rw (p, q) unread

    pub was_read : (a : Result FileRead FileFault) (r : Seen) (b : FileRead) → a ≡ Ok b → InRoom slots file told result digest room l left b.sizes r → FromRead slots file told result digest room l left a r
    was_read a r b p x = rw p (read x)

-- ---- from the bytes on

module _ (file : List ℕ) (loaded : Loaded) (terms ands imuls bmuls zeros : List ℕ) where
  pub file_filled : (flags : List ℕ) (n : ℕ) → ReadIn file loaded terms ands imuls bmuls zeros → W.FromRead (stores_by terms [] ands imuls bmuls zeros loaded.defs) loaded.defs flags loaded.read n → Filled file flags n
  file_filled flags n x y =
      record {
        loaded = loaded;
        terms = terms;
        ands = ands;
        imuls = imuls;
        bmuls = bmuls;
        zeros = zeros;
        reads = x;
        goes = y;
      }

  pub was_attempted : (slots room : ℕ) (told : Told) (result : List ℕ) (digest : ℕ) (r : Seen) (ands' imuls' bmuls' zeros' : List ℕ) → ReadIn file loaded terms ands imuls bmuls zeros → FromRead slots file told result digest room (λ new flags. lent_by terms new ands imuls bmuls zeros loaded.defs flags) (λ new flags defs. lent_by terms new ands' imuls' bmuls' zeros' defs flags) loaded.read r → Attempt file slots room told result digest r
  was_attempted slots room told result digest r ands' imuls' bmuls' zeros' x y =
      record {
        loaded = loaded;
        terms = terms;
        ands = ands;
        imuls = imuls;
        bmuls = bmuls;
        zeros = zeros;
        ands' = ands';
        imuls' = imuls';
        bmuls' = bmuls';
        zeros' = zeros';
        reads = x;
        goes = y;
      }

-- ---- the vectors

pub vector_first : (b : List ℕ) (t : Tally) → t ≡ nothing_counted → Replayed b 4 t
vector_first b t p = subst (Replayed b 4) (sym p) begun

pub vector_next : (b : List ℕ) (at : ℕ) (v : Vector) (t u : Tally) (file result : List ℕ) (told : Told) (seen : Seen) → at < length b → v ≡ vector_at b at → Replayed b at t → file ≡ part_of b v.file v.answer → told ≡ told_at b v.answer v.counts → result ≡ part_of b v.result v.counts → Attempt file v.slots v.room told result t.digest seen → u ≡ vector_counted t seen → Replayed b v.end u
vector_next b at v t u file result told seen h p x q k r y e =
    next h p x
    (record {
      seen = seen;
      attempted =
          subst (λ (l : List ℕ). Attempt (part_of b v.file v.answer) v.slots v.room (told_at b v.answer v.counts) l t.digest seen) r
          (subst (λ (m : Told). Attempt (part_of b v.file v.answer) v.slots v.room m result t.digest seen) k
          (subst (λ (l : List ℕ). Attempt l v.slots v.room told result t.digest seen) q y));
      counted = e;
    })
