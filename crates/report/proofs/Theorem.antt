-- The same in 01's words: the system that the file says is patched, counted and written. Assumes nothing.
use mathlib.Core.Path.{◌≡◌, refl, sym, ap, ap₂, ◌∙◌, subst}
use Prim.Native.Nat.{ℕ, zero, suc, ◌+◌, ◌-◌, ◌≤◌}
use native.Mathlib.Omega.{arith}
use mathlib.Core.Bool.{Bool, true, false, cond}
use mathlib.Core.List.{List, [], ◌∷◌, ◌++◌, map}
use lib.ListN.{length, take, drop, length-map, length-append}
use lib.Seq.{sets, drop_at, length-sets}
use Rattle.operand.specs.Numbers.{operand_of}
use Rattle.std.specs.Prelude.{Result, Ok, Err}
use Rattle.lower.specs.declared.Sizes.{Sizes}
use Rattle.house_file.specs.declared.FileRead.{FileRead}
use Rattle.lower.specs.Lists.{keep}
use Rattle.lower.specs.Model.{System}
use Rattle.lower.specs.Accepted.{Accepted}
use Rattle.lower.specs.Stores.{system_of}
use Rattle.lower.proofs.Laws.{map-join, rows_length}
use Rattle.house_file.specs.Format.{system_from, file_of}
use Rattle.house_file.specs.Decoding.{entries_at}
use Rattle.house_file.specs.Reading.{total, read_of}
use Rattle.house_read.specs.Answer.{ReadIs}
use Rattle.house_read.proofs.Backs.{answered, read_back}
use Rattle.house_write.specs.Write.{WriteIs}
use Rattle.house_write.proofs.Once.{is_written}
use Rattle.commit_set.specs.declared.Decision.{Decision}
use Rattle.commit_set.specs.Decision.{Solves}
use Rattle.commit_set.proofs.Theorem.{decided_accepted}
use Rattle.patch.specs.Lists.{up_to}
use Rattle.patch.specs.Patch as P
use Rattle.patch.specs.Patch.{commit_set, commits, gone, stranded, terms_written, kept, patched}
use Rattle.patch.proofs.Counting.{counted}
use Rattle.fusion.specs.declared.Counts.{Counts}
use Rattle.fusion.specs.Left as Left
use Rattle.fusion.specs.Left.{Lent, input, output, flags_of, counts_of, sizes_after, leaves}
use Rattle.fusion.proofs.System.{sets_front, take_front, room}
use Rattle.text.specs.Text.{ok_text}
use Rattle.text.specs.Committed.{committed_from}
use Rattle.text.proofs.Putting.{committed-append}
use Rattle.report.specs.declared.outcome.FusedSystem.{FusedSystem}
use Rattle.report.specs.declared.outcome.Fault.{Fault}
use Rattle.report.specs.declared.FusedFile.{FusedFile}
use Rattle.report.specs.Outcome as C
use Rattle.report.specs.Outcome.{made, Comes, nine_of, told_outcome}
use Rattle.report.specs.Report.{RESULT_TERMS, line_of, Answered}
use Rattle.report.specs.File.{after, WritesFile, short, unwritten, written, WritesOut, refused, fused, FusesFile, long, looked}
use Rattle.report.proofs.Coming.{FusedDone, fused_done, done_counts}

-- the system that the bytes say, z being what they count
abbrev pub said_by : List ℕ → Sizes → System
said_by bytes z = system_from z.wires (entries_at bytes (total z) 5)

-- p is accepted, st the solution of its rules: what is told and left is that of the patched system
pub record Patched (slots : ℕ) (z : Sizes) (k : Counts) (l : Lent) (p : System) (st : ℕ → Decision) : Type 0 where
  pub accepted : Accepted p
  pub solves : Solves slots p st
  pub values : nine_of z k ≡ P.counts_of p (commit_set p st)
  pub system : system_of (after z k) (output l) ≡ patched p (commit_set p st)
  pub flags : take z.wires l.flags ≡ flags_of p (commit_set p st)

up_to-length : (n : ℕ) → length (up_to n) ≡ n
up_to-length zero = refl
up_to-length (suc n) = length-append (up_to n) (n ∷ []) ∙ omega (arith, up_to-length n)

flags_count : (p : System) (c : ℕ → Bool) → length (flags_of p c) ≡ p.wires
unfolding flags_of
flags_count p c = length-map (up_to p.wires) (λ (w : ℕ). cond (c w) 1 0) ∙ up_to-length p.wires

same_nine : (a b c d e f g h i a₂ b₂ c₂ d₂ e₂ f₂ g₂ h₂ i₂ : ℕ) → a ≡ a₂ → b ≡ b₂ → c ≡ c₂ → d ≡ d₂ → e ≡ e₂ → f ≡ f₂ → g ≡ g₂ → h ≡ h₂ → i ≡ i₂
    → (a ∷ b ∷ c ∷ d ∷ e ∷ f ∷ g ∷ h ∷ i ∷ []) ≡ (a₂ ∷ b₂ ∷ c₂ ∷ d₂ ∷ e₂ ∷ f₂ ∷ g₂ ∷ h₂ ∷ i₂ ∷ [])
same_nine a b c d e f g h i a₂ b₂ c₂ d₂ e₂ f₂ g₂ h₂ i₂ p q r s t u v w x = rw (p, q, r, s, t, u, v, w, x)

module _ (slots : ℕ) (z : Sizes) (m l : Lent) (k : Counts) (d : FusedDone slots z m l k) where
  abbrev p : System
  p = Left.fused z m

  abbrev c : ℕ → Bool
  c = commit_set p d.st

  acc : Accepted p
  acc = decided_accepted slots z (input m) d.no_fault d.no_circle

  k_stranded : k.stranded ≡ length (stranded p c)
  unfolding counts_of
  k_stranded = ap (λ (x : Counts). x.stranded) d.counts

  k_committed : k.committed ≡ length (commits p c)
  unfolding counts_of
  k_committed = ap (λ (x : Counts). x.committed) d.counts

  k_written : k.written ≡ terms_written p c
  unfolding counts_of
  k_written = ap (λ (x : Counts). x.written) d.counts

  k_kept : k.kept ≡ kept p c
  unfolding counts_of
  k_kept = ap (λ (x : Counts). x.kept) d.counts

  values_are : nine_of z k ≡ P.counts_of p c
  unfolding P.counts_of system_of
  values_are =
      let q = counted p c acc.once acc.named.destinations_named in
      let f = operand_of m.old [] in
      same_nine _ _ _ _ _ _ _ _ _ _ _ _ _ _ _ _ _ _ (sym (q.ands_count ∙ rows_length f 3 z.ands m.ands)) (sym (q.imuls_count ∙ rows_length f 4 z.imuls m.imuls))
      (sym (q.bmuls_count ∙ rows_length f 6 z.bmuls m.bmuls)) (sym (q.zeros_count ∙ rows_length f 1 z.zeros m.zeros))
      (omega (arith, done_counts slots z m l k d, q.after_count, k_stranded, k_committed)) k_committed k_stranded k_written k_kept

  sizes_are : after z k ≡ sizes_after p c z
  unfolding after sizes_after
  sizes_are =
      let n : z.linears - k.gone ≡ length (stranded p c) + length (commits p c) = omega (arith, done_counts slots z m l k d, k_stranded, k_committed) in
      ap (λ (x : ℕ). record { wires = z.wires; ands = z.ands; imuls = z.imuls; bmuls = z.bmuls; zeros = z.zeros; linears = x }) n

  wires_are : p.wires ≡ z.wires
  unfolding system_of
  wires_are = refl

  flags_length : length (flags_of p c) ≡ z.wires
  flags_length = flags_count p c ∙ wires_are

  flags_are : take z.wires l.flags ≡ flags_of p c
  unfolding leaves
  flags_are =
      ap (λ (x : Lent). take z.wires x.flags) d.patched.left
      ∙ take_front (flags_of p c) m.flags z.wires flags_length (omega (arith, (room p c m d.patched.fits).flags_long, wires_are))

  pub was_patched : Patched slots z k l p d.st
  was_patched =
      record {
        accepted = acc;
        solves = d.patched.solves;
        values = values_are;
        system = ap (λ (x : Sizes). system_of x (output l)) sizes_are ∙ d.patched.system;
        flags = flags_are;
      }

was_accepted : {bytes t a i b o d h t' a' i' b' o' d' h' : List ℕ} {x : FileRead} → ReadIs bytes t a i b o d h (Ok x) t' a' i' b' o' d' h' → read_of bytes ≡ Ok x
was_accepted {bytes} {t} {a} {i} {b} {o} {d} {h} {x = x} r = (answered (length t) (length a) (length i) (length b) (length o) (length d) (length h) (read_of bytes) (length bytes) x.sizes x.terms (sym r.answer)).0

abbrev pub fused_as : Sizes → Counts → Result FusedSystem Fault
fused_as z k = Ok (record { sizes = z; counts = k })

pub same_system : {s t : FusedSystem} → ◌≡◌ {A = Result FusedSystem Fault} (Ok s) (Ok t) → s ≡ t
same_system e = cc

pub record FusedIs (slots : ℕ) (bytes : List ℕ) (z : Sizes) (k : Counts) (l : Lent) : Type 0 where
  pub st : ℕ → Decision
  pub terms : ℕ
  pub is_read : read_of bytes ≡ Ok (record { sizes = z; terms = terms })
  pub patches : Patched slots z k l (said_by bytes z) st

-- THE THEOREM. What is told and left is that of the patched system, which the file said before.
pub comes_patched : (slots : ℕ) (bytes : List ℕ) (m l : Lent) (z : Sizes) (k : Counts) → Comes slots bytes m (fused_as z k) l → FusedIs slots bytes z k l
comes_patched slots bytes m l z k h = go (fused_as z k) h refl
  where
    go : (o : Result FusedSystem Fault) → Comes slots bytes m o l → o ≡ fused_as z k → FusedIs slots bytes z k l
    go o (C.unread a) e = absurd (let x : ◌≡◌ {A = ℕ} 0 1 = cc in omega arith)
    go o (C.unfused a f) e = absurd (let x : ◌≡◌ {A = ℕ} 0 1 = cc in omega arith)
    go o (C.fused {x} {k = j} {m = i} a f) e =
        let s = same_system e in
        let p : x.sizes ≡ z = ap (λ (y : FusedSystem). y.sizes) s in
        let q : j ≡ k = ap (λ (y : FusedSystem). y.counts) s in
        let d = fused_done slots x.sizes i l j f in
        let b : FusedIs slots bytes x.sizes j l = record { st = d.st; terms = x.terms; is_read = was_accepted a.reads; patches = subst (λ (s : System). Patched slots x.sizes j l s d.st) (read_back x.sizes x.terms a.reads refl) (was_patched slots x.sizes i l j d) } in
        subst (λ (y : Counts). FusedIs slots bytes z y l) q (subst (λ (y : Sizes). FusedIs slots bytes y j l) p b)

-- ---- the sums

-- "Definitions before = gone + stranded + committed", "the wire count less the uncommitted definitions"
pub record Sums (z : Sizes) (k : Counts) : Type 0 where
  pub before : z.linears ≡ k.gone + k.stranded + k.committed
  pub after_is : z.linears - k.gone ≡ k.stranded + k.committed
  pub kept_is : z.wires ≡ k.kept + (k.gone + k.stranded)

module _ (slots : ℕ) (z : Sizes) (m l : Lent) (k : Counts) (d : FusedDone slots z m l k) where
  k_gone : k.gone ≡ length (gone (Left.fused z m) (c slots z m l k d))
  unfolding counts_of
  k_gone = ap (λ (x : Counts). x.gone) d.counts

  sums_are : Sums z k
  sums_are =
      let b = done_counts slots z m l k d in
      let a = acc slots z m l k d in
      let q = (counted (Left.fused z m) (c slots z m l k d) a.once a.named.destinations_named).kept_count in
      record {
        before = b;
        after_is = omega (arith, b);
        kept_is = omega (arith, q, wires_are slots z m l k d, k_gone, k_stranded slots z m l k d, k_kept slots z m l k d);
      }

pub comes_sums : {slots : ℕ} {bytes : List ℕ} {m l : Lent} (z : Sizes) (k : Counts) → Comes slots bytes m (fused_as z k) l → Sums z k
comes_sums {slots} {bytes} {m} {l} z k h = go (fused_as z k) h refl
  where
    go : (o : Result FusedSystem Fault) → Comes slots bytes m o l → o ≡ fused_as z k → Sums z k
    go o (C.unread a) e = absurd (let x : ◌≡◌ {A = ℕ} 0 1 = cc in omega arith)
    go o (C.unfused a f) e = absurd (let x : ◌≡◌ {A = ℕ} 0 1 = cc in omega arith)
    go o (C.fused {x} {k = j} {m = i} a f) e =
        let s = same_system e in
        let p : x.sizes ≡ z = ap (λ (y : FusedSystem). y.sizes) s in
        let q : j ≡ k = ap (λ (y : FusedSystem). y.counts) s in
        subst (λ (y : Counts). Sums z y) q (subst (λ (y : Sizes). Sums y j) p (sums_are slots x.sizes i l j (fused_done slots x.sizes i l j f)))

-- ---- the line

pub record LineIs (bytes : List ℕ) (z : Sizes) (line : List ℕ) : Type 0 where
  pub st : ℕ → Decision
  pub terms : ℕ
  pub is_read : read_of bytes ≡ Ok (record { sizes = z; terms = terms })
  pub accepted : Accepted (said_by bytes z)
  pub solves : Solves 2 (said_by bytes z) st
  pub line_is : line ≡ ok_text (P.counts_of (said_by bytes z) (commit_set (said_by bytes z) st))

-- THE THEOREM. The values of a line are the nine counts of the patched system.
pub line_counts : (bytes : List ℕ) (z : Sizes) (k : Counts) → Answered bytes (fused_as z k) → LineIs bytes z (line_of (told_outcome (fused_as z k)))
line_counts bytes z k a =
    let f = comes_patched 2 bytes (made RESULT_TERMS) a.left z k a.comes in
    let q = f.patches in
    record { st = f.st; terms = f.terms; is_read = f.is_read; accepted = q.accepted; solves = q.solves; line_is = ap ok_text q.values }

-- ---- the file

-- n bytes of out' are the file of the patched system, w of flags' the committed wires, and the rest is as it was
pub record FileIs (slots : ℕ) (bytes out flags : List ℕ) (n w : ℕ) (out' flags' : List ℕ) : Type 0 where
  pub sizes : Sizes
  pub st : ℕ → Decision
  pub terms : ℕ
  pub is_read : read_of bytes ≡ Ok (record { sizes = sizes; terms = terms })
  pub accepted : Accepted (said_by bytes sizes)
  pub solves : Solves slots (said_by bytes sizes) st
  pub wires_are : w ≡ sizes.wires
  pub file_is : take n out' ≡ file_of (patched (said_by bytes sizes) (commit_set (said_by bytes sizes) st))
  pub flags_are : take w flags' ≡ flags_of (said_by bytes sizes) (commit_set (said_by bytes sizes) st)
  pub rest_is : drop n out' ≡ drop n out
  pub flags_rest : drop w flags' ≡ drop w flags
  pub out_there : n ≤ length out'
  pub flags_there : w ≤ length flags'

reaches : (n : ℕ) (l : List ℕ) → length (take n l) ≡ n → n ≤ length l
reaches zero l e = omega arith
reaches (suc n) [] e = absurd (omega arith)
reaches (suc n) (x ∷ l) e = omega (arith, reaches n l (omega arith))

drop_front : (xs l : List ℕ) (n : ℕ) → length xs ≡ n → n ≤ length l → drop n (sets l 0 xs) ≡ drop n l
drop_front xs l n e h = ap (drop n) (sets_front xs l (omega (arith, e, h))) ∙ drop_at xs (drop (length xs) l) n e ∙ ap (λ (m : ℕ). drop m l) e

wires_after : (z : Sizes) (k : Counts) → (after z k).wires ≡ z.wires
unfolding after
wires_after z k = refl

said_wires : (bytes : List ℕ) (z : Sizes) → (said_by bytes z).wires ≡ z.wires
unfolding system_from
said_wires bytes z = refl

file_of_lem : {slots : ℕ} {bytes out flags out' : List ℕ} {z : Sizes} {k : Counts} {l : Lent} {n : ℕ} → FusedIs slots bytes z k l → z.wires ≤ length flags
    → WriteIs (after z k) (output l) out (Ok n) out' → FileIs slots bytes out flags n z.wires out' (sets flags 0 (take z.wires l.flags))
file_of_lem {bytes = bytes} {out} {flags} {out'} {z} {k} {l} {n} f h w =
    let q = f.patches in
    let i = is_written w in
    let F = take z.wires l.flags in
    let t : length F ≡ z.wires = ap length q.flags ∙ flags_count (said_by bytes z) (commit_set (said_by bytes z) f.st) ∙ said_wires bytes z in
    record {
      sizes = z;
      st = f.st;
      terms = f.terms;
      is_read = f.is_read;
      accepted = q.accepted;
      solves = q.solves;
      wires_are = refl;
      file_is = i.file_is ∙ ap file_of q.system;
      flags_are = take_front F flags z.wires t h ∙ q.flags;
      rest_is = i.rest_is;
      flags_rest = drop_front F flags z.wires t h;
      out_there = reaches n out' (ap length i.file_is ∙ sym i.length-is);
      flags_there = omega (arith, h, length-sets flags 0 F);
    }

module _ (slots : ℕ) (bytes out flags : List ℕ) (n w : ℕ) where
  abbrev filed : Result FusedFile Fault
  filed = Ok (record { length = n; wires = w })

  written_file : {m l : Lent} (z : Sizes) (k : Counts) (y : Sizes) (r : Result FusedFile Fault) (out' flags' : List ℕ) → r ≡ filed → y ≡ after z k → Comes slots bytes m (fused_as z k) l → WritesFile y l out flags r out' flags'
      → FileIs slots bytes out flags n w out' flags'
  written_file z k y r out' flags' e v a (short h) = absurd (let x : ◌≡◌ {A = ℕ} 0 1 = cc in omega arith)
  written_file z k y r out' flags' e v a (unwritten h i) = absurd (let x : ◌≡◌ {A = ℕ} 0 1 = cc in omega arith)
  written_file {m} {l} z k y r out' flags' e v a (written {n = j} h i) =
      let g : ◌≡◌ {A = FusedFile} (record { length = j; wires = y.wires }) (record { length = n; wires = w }) = cc in
      let p : j ≡ n = ap (λ (x : FusedFile). x.length) g in
      let u : y.wires ≡ z.wires = ap (λ (x : Sizes). x.wires) v ∙ wires_after z k in
      let q : z.wires ≡ w = sym u ∙ ap (λ (x : FusedFile). x.wires) g in
      let h₂ : z.wires ≤ length flags = omega (arith, h, u) in
      let f : FileIs slots bytes out flags j z.wires out' (sets flags 0 (take z.wires l.flags)) =
      file_of_lem (comes_patched slots bytes m l z k a) h₂ (subst (λ (x : Sizes). WriteIs x (output l) out (Ok j) out') v i) in
      let f₂ : FileIs slots bytes out flags n z.wires out' (sets flags 0 (take z.wires l.flags)) =
      subst (λ (x : ℕ). FileIs slots bytes out flags x z.wires out' (sets flags 0 (take z.wires l.flags))) p f in
      let f₃ : FileIs slots bytes out flags n w out' (sets flags 0 (take z.wires l.flags)) =
      subst (λ (x : ℕ). FileIs slots bytes out flags n x out' (sets flags 0 (take z.wires l.flags))) q f₂ in
      subst (λ (x : ℕ). FileIs slots bytes out flags n w out' (sets flags 0 (take x l.flags))) (sym u) f₃

  written_out : {m l : Lent} (o : Result FusedSystem Fault) (r : Result FusedFile Fault) (out' flags' : List ℕ) → r ≡ filed → Comes slots bytes m o l → WritesOut l out flags o r out' flags' → FileIs slots bytes out flags n w out' flags'
  written_out o r out' flags' e a refused = absurd (let x : ◌≡◌ {A = ℕ} 0 1 = cc in omega arith)
  written_out o r out' flags' e a (fused {s} h) = written_file s.sizes s.counts (after s.sizes s.counts) r out' flags' e refl a h

  from_file : (r : Result FusedFile Fault) (out' flags' : List ℕ) → r ≡ filed → FusesFile slots bytes out flags r out' flags' → FileIs slots bytes out flags n w out' flags'
  from_file r out' flags' e (long h) = absurd (let x : ◌≡◌ {A = ℕ} 0 1 = cc in omega arith)
  from_file r out' flags' e (looked h b) = written_out b.outcome r out' flags' e b.comes b.writes

  -- THE THEOREM. What is written is the file of the patched system, and the flags are its committed wires.
  pub file_patched : (out' flags' : List ℕ) → FusesFile slots bytes out flags (Ok (record { length = n; wires = w })) out' flags' → FileIs slots bytes out flags n w out' flags'
  file_patched out' flags' h = from_file filed out' flags' refl h

-- ---- the committed wires

keep_append : (c : ℕ → Bool) (a b : List ℕ) → keep c (a ++ b) ≡ keep c a ++ keep c b
keep_append c [] b = refl
keep_append c (x ∷ a) b = go (c x) (keep_append c a b)
  where
    go : (t : Bool) → keep c (a ++ b) ≡ keep c a ++ keep c b → cond t (x ∷ keep c (a ++ b)) (keep c (a ++ b)) ≡ cond t (x ∷ keep c a) (keep c a) ++ keep c b
    go true e = ap (λ (l : List ℕ). x ∷ l) e
    go false e = e

flag_of : (t : Bool) (n : ℕ) → committed_from n (cond t 1 0 ∷ []) ≡ cond t (n ∷ []) []
unfolding committed_from
flag_of true n = refl
flag_of false n = refl

committed-none : committed_from 0 [] ≡ []
unfolding committed_from
committed-none = refl

flags_from_lem : (c : ℕ → Bool) (n : ℕ) → committed_from 0 (map (λ (w : ℕ). cond (c w) 1 0) (up_to n)) ≡ keep c (up_to n)
flags_from_lem c zero = committed-none
flags_from_lem c (suc n) =
    let f : ℕ → ℕ = λ w. cond (c w) 1 0 in
    let m : 0 + length (map f (up_to n)) ≡ n = omega (arith, length-map (up_to n) f, up_to-length n) in
    ap (committed_from 0) (map-join f (up_to n) (n ∷ []))
    ∙ committed-append 0 (map f (up_to n)) (f n ∷ [])
    ∙ ap₂ (λ (a b : List ℕ). a ++ b) (flags_from_lem c n) (ap (λ (k : ℕ). committed_from k (f n ∷ [])) m ∙ flag_of (c n) n)
    ∙ sym (keep_append c (up_to n) (n ∷ []))

-- "the committed set is listed by rising wire number"
pub committed_flags : (p : System) (c : ℕ → Bool) → committed_from 0 (flags_of p c) ≡ keep c (up_to p.wires)
unfolding flags_of
committed_flags p c = flags_from_lem c p.wires
