-- What fusing leaves in the lent stores is the patched system. Assumes nothing.
use mathlib.Core.Path.{◌≡◌, refl, sym, ap, ap₂, ◌∙◌, subst}
use Prim.Native.Nat.{ℕ, zero, suc, ◌+◌, ◌*◌, ◌≤◌}
use native.Mathlib.Omega.{arith}
use mathlib.Core.Bool.{Bool, true, false, cond, not, ◌&&◌}
use mathlib.Core.List.{List, [], ◌∷◌, ◌++◌, map, map-append}
use lib.Dec.{leb}
use lib.ListN.{length, take, drop, length-append, length-map}
use lib.Seq.{sets, sets-eq, take_at, drop_at, drop-drop, length-take-le}
use borrow.Author.Tests.{leb-true}
use Rattle.shift.proofs.Numbers.{valid-low}
use Rattle.operand.specs.Numbers.{Term, Operand, operand_of, term_number}
use Rattle.lower.specs.declared.Sizes.{Sizes}
use Rattle.lower.specs.Lists.{All, keep, joined}
use Rattle.lower.specs.Model.{Row, Definition, System, destinations}
use Rattle.lower.specs.Accepted.{Accepted}
use Rattle.lower.specs.Stores.{chunks, rows_of, definitions_of, system_of, row_handles, Placed}
use Rattle.lower.specs.Faults.{memory_fault}
use Rattle.lower.proofs.Laws.{chunks_flat, all_left, all_right, below_none, operand_kept, destinations_model, linears_length}
use Rattle.lower.proofs.Checks.{checked, placed, memory_places}
use Rattle.commit_set.specs.declared.Decision.{Decision}
use Rattle.commit_set.specs.Decision.{Solves}
use Rattle.patch.specs.Patch as P
use Rattle.patch.specs.Patch.{commit_set, rhss_of, rebuilt, expand_operand, row_rebuilds, rebuilds, written, terms_written, commits, stranded, stays, patch_rows, patched, NeverOver}
use Rattle.patch.specs.Handles.{handles_from, keep_by}
use Rattle.patch.proofs.Parts.{all_each, all_two, all_gather}
use Rattle.patch.proofs.Counting.{counted}
use Rattle.patch.proofs.NeverOver.{never_over}
use Rattle.patch.proofs.Results.{new_named, expanded_shifted, gather-joined}
use Rattle.patch.proofs.Handles.{Small, handles_right, rows_patched, linears_patched}
use Rattle.apply.specs.Applied.{kept_rows}
use Rattle.fusion.specs.Left.{Lent, input, output, fused, is_kept, numbers, ands_end, imuls_end, bmuls_end, zeros_end, has_room, sizes_after, leaves}
use Rattle.fusion.proofs.Stays.{keep-destinations}

-- ---- lists

map-take : {A B : Type 0} (f : A → B) (n : ℕ) (l : List A) → map f (take n l) ≡ take n (map f l)
map-take f zero l = refl
map-take f (suc n) [] = refl
map-take {A} {B} f (suc n) (x ∷ l) = ap (λ (r : List B). f x ∷ r) (map-take f n l)

map-drop : {A B : Type 0} (f : A → B) (n : ℕ) (l : List A) → map f (drop n l) ≡ drop n (map f l)
map-drop f zero l = refl
map-drop f (suc n) [] = refl
map-drop f (suc n) (x ∷ l) = map-drop f n l

-- what is written from the front on stands before what was there
pub sets_front : (xs l : List ℕ) → length xs ≤ length l → sets l 0 xs ≡ xs ++ drop (length xs) l
sets_front xs l h =
    let u : 0 + length xs ≤ length l = omega (arith, h) in
    let e : 0 + length xs ≡ length xs = omega arith in
    sets-eq xs l 0 u ∙ ap (λ (i : ℕ). xs ++ drop i l) e

-- and its front is just that
pub take_front : (xs l : List ℕ) (n : ℕ) → length xs ≡ n → n ≤ length l → take n (sets l 0 xs) ≡ xs
take_front xs l n e h = ap (take n) (sets_front xs l (omega (arith, e, h))) ∙ take_at xs (drop (length xs) l) n e

pub parted_length : {A : Type 0} (q : List A → Bool) (rs : List (List A)) → length (joined (keep (λ r. not (q r)) rs)) + length (joined (keep q rs)) ≡ length (joined rs)
parted_length q [] = refl
parted_length {A} q (r ∷ rs) = step (q r) (parted_length q rs)
  where
    step : (b : Bool) → length (joined (keep (λ r. not (q r)) rs)) + length (joined (keep q rs)) ≡ length (joined rs)
        → length (joined (cond (not b) (r ∷ keep (λ r. not (q r)) rs) (keep (λ r. not (q r)) rs))) + length (joined (cond b (r ∷ keep q rs) (keep q rs))) ≡ length (r ++ joined rs)
    step true h = omega (arith, h, length-append r (joined (keep q rs)), length-append r (joined rs))
    step false h = omega (arith, h, length-append r (joined (keep (λ r. not (q r)) rs)), length-append r (joined rs))

pub kept_length : (q : Row → Bool) (f : ℕ → Operand) (rs : List (List ℕ)) → length (joined (keep q (map (map f) rs))) ≡ length (joined (keep (λ (r : List ℕ). q (map f r)) rs))
kept_length q f [] = refl
kept_length q f (r ∷ rs) = step (q (map f r)) (kept_length q f rs)
  where
    step : (b : Bool) → length (joined (keep q (map (map f) rs))) ≡ length (joined (keep (λ (r : List ℕ). q (map f r)) rs))
        → length (joined (cond b (map f r ∷ keep q (map (map f) rs)) (keep q (map (map f) rs)))) ≡ length (joined (cond b (r ∷ keep (λ (r : List ℕ). q (map f r)) rs) (keep (λ (r : List ℕ). q (map f r)) rs)))
    step true h =
        omega (arith, h, length-append (map f r) (joined (keep q (map (map f) rs))), length-append r (joined (keep (λ (r : List ℕ). q (map f r)) rs)), length-map r f)
    step false h = h

pub by_length : (q : ℕ → Bool) (ds hs : List ℕ) → length ds ≡ length hs → length (keep_by q ds hs) ≡ length (keep q ds)
unfolding keep_by
by_length q [] hs e = refl
by_length q (d ∷ ds) [] e = absurd (omega arith)
by_length q (d ∷ ds) (h ∷ hs) e = step (q d) (by_length q ds hs (omega arith))
  where
    step : (b : Bool) → length (keep_by q ds hs) ≡ length (keep q ds) → length (cond b (h ∷ keep_by q ds hs) (keep_by q ds hs)) ≡ length (cond b (d ∷ keep q ds) (keep q ds))
    step true k = ap suc k
    step false k = k

-- numbers of operands, in parts
module _ (g : ℕ → Operand) (E : Operand → Operand) (xs : List ℕ) (n : ℕ) (A B : List Operand) (e : map g (drop n xs) ≡ map E (A ++ B)) where
  part_first : map g (take (length A) (drop n xs)) ≡ map E A
  part_first = map-take g (length A) (drop n xs) ∙ ap (take (length A)) (e ∙ map-append E A B) ∙ take_at (map E A) (map E B) (length A) (length-map A E)

  part_next : map g (drop (n + length A) xs) ≡ map E B
  part_next =
      ap (map g) (sym (drop-drop (length A) n xs)) ∙ map-drop g (length A) (drop n xs) ∙ ap (drop (length A)) (e ∙ map-append E A B)
      ∙ drop_at (map E A) (map E B) (length A) (length-map A E)

-- ---- tests

both_first : (x y : Bool) → (x && y) ≡ true → x ≡ true
both_first true y h = refl
both_first false y h = h

both_second : (x y : Bool) → (x && y) ≡ true → y ≡ true
both_second true y h = h
both_second false y h = let k : ◌≡◌ {A = ℕ} 0 1 = cc in absurd (omega arith)

pub record Room (p : System) (c : ℕ → Bool) (l : Lent) : Type 0 where
  pub written_few : terms_written p c ≤ 16384
  pub new_long : terms_written p c ≤ length l.new
  pub flags_long : p.wires ≤ length l.flags

pub room : (p : System) (c : ℕ → Bool) (l : Lent) → has_room p c l ≡ true → Room p c l
unfolding has_room
room p c l h =
    let a = leb (terms_written p c) 16384 in let b = leb (terms_written p c) (length l.new) in let d = leb p.wires (length l.flags) in
    let k : (b && d) ≡ true = both_second a (b && d) h in
    record {
      written_few = leb-true (terms_written p c) 16384 (both_first a (b && d) h);
      new_long = leb-true (terms_written p c) (length l.new) (both_first b d k);
      flags_long = leb-true p.wires (length l.flags) (both_second b d k);
    }

-- ---- the theorem

abbrev system : ℕ → List Row → List Row → List Row → List Row → List Definition → System
system w a i b o d = record { wires = w; ands = a; imuls = i; bmuls = b; zeros = o; linears = d }

same_system : (w : ℕ) {a a' i i' b b' o o' : List Row} {d d' : List Definition} → a ≡ a' → i ≡ i' → b ≡ b' → o ≡ o' → d ≡ d' → system w a i b o d ≡ system w a' i' b' o' d'
same_system w p q r s t = rw (p, q, r, s, t)

module _ (z : Sizes) (l : Lent) (c : ℕ → Bool) (e : memory_fault 8192 z (input l) ≡ 0) (acc : Accepted (fused z l)) (over : NeverOver (fused z l) c) (r : Room (fused z l) c l) where
  abbrev p : System
  p = fused z l

  abbrev E : Operand → Operand
  E = expand_operand p c

  -- what a number stood for, and what it stands for
  abbrev f : ℕ → Operand
  f = operand_of l.old []

  abbrev new : List ℕ
  new = sets l.new 0 (map term_number (written p c))

  abbrev g : ℕ → Operand
  g = operand_of l.old new

  there : Placed z (input l)
  there = placed z (input l) (checked z (input l) (memory_places 8192 z (input l) e))

  -- ---- old operands stand in the old store

  abbrev Same : ℕ → Type 0
  Same h = g h ≡ f h

  all_same : All Same (row_handles z l.ands l.imuls l.bmuls l.zeros ++ take z.linears l.rhss)
  all_same = all_each (λ h k. operand_kept l.old [] new 0 h refl (below_none l.old 0 h k)) there.operands_there

  rows_stand : All Same (row_handles z l.ands l.imuls l.bmuls l.zeros)
  rows_stand = all_left Same (row_handles z l.ands l.imuls l.bmuls l.zeros) (take z.linears l.rhss) all_same

  -- ---- new operands stand in the new store

  written_small : All Small (written p c)
  unfolding written
  written_small =
      all_gather E
      (all_two (λ o n s. all_two (λ t w v. (omega (arith, w, acc.limits.wires_few), omega (arith, valid-low t.inner v.0))) n (expanded_shifted p c o s)) (new_named p c acc.named) over)

  numbers_right : map g (numbers p c) ≡ map E (rebuilds p c)
  unfolding numbers written terms_written
  numbers_right =
      let os : List Operand = map E (rebuilds p c) in
      let j : written p c ≡ joined os = gather-joined E (rebuilds p c) in
      let n : terms_written p c ≡ length (joined os) = ap length j in
      ap (λ (ts : List Term). map (operand_of l.old (sets l.new 0 (map term_number ts))) (handles_from 0 os)) j
      ∙ handles_right l.old l.new 0 os (omega (arith, n, r.new_long)) (omega (arith, n, r.written_few)) (subst (All Small) j written_small)

  -- ---- rows

  rows_left : (k n : ℕ) (hs es : List ℕ) → k * n ≤ length hs → All Same (take (k * n) hs) → map g es ≡ map E (row_rebuilds p c (rows_of f k n hs))
      → rows_of g k n (sets hs 0 (kept_rows (is_kept z l) k n hs ++ es)) ≡ patch_rows p c (rows_of f k n hs)
  unfolding kept_rows is_kept row_rebuilds
  rows_left k n hs es long same made =
      let q : List ℕ → Bool = λ r. rebuilt p.linears (map f r) in
      let U : List ℕ = joined (keep (λ r. not (q r)) (chunks k n hs)) in
      let count : length es ≡ length (joined (keep q (chunks k n hs))) =
      sym (length-map es g) ∙ ap length made ∙ length-map (row_rebuilds p c (rows_of f k n hs)) E ∙ kept_length (rebuilt p.linears) f (chunks k n hs) in
      let whole : length (joined (chunks k n hs)) ≡ k * n = ap length (chunks_flat k n hs) ∙ length-take-le (k * n) hs long in
      let fits : length (U ++ es) ≤ length hs = omega (arith, length-append U es, count, parted_length q (chunks k n hs), whole, long) in
      ap (rows_of g k n) (sets_front (U ++ es) hs fits)
      ∙ rows_patched p c f g k n hs es (drop (length (U ++ es)) hs) long same made

  -- the five parts of the rebuilt operands, by what the stores hold
  abbrev Ra : List Operand
  Ra = row_rebuilds p c p.ands

  abbrev RI : List Operand
  RI = row_rebuilds p c p.imuls

  abbrev RB : List Operand
  RB = row_rebuilds p c p.bmuls

  abbrev RZ : List Operand
  RZ = row_rebuilds p c p.zeros

  abbrev RC : List Operand
  RC = rhss_of (commits p c)

  from_start : map g (drop 0 (numbers p c)) ≡ map E (Ra ++ (RI ++ (RB ++ (RZ ++ RC))))
  unfolding rebuilds
  from_start = numbers_right

  from_imuls_lem : map g (drop (ands_end p c) (numbers p c)) ≡ map E (RI ++ (RB ++ (RZ ++ RC)))
  from_imuls_lem =
      let n : 0 + ands_end p c ≡ ands_end p c = omega arith in
      ap (λ (i : ℕ). map g (drop i (numbers p c))) (sym n) ∙ part_next g E (numbers p c) 0 Ra (RI ++ (RB ++ (RZ ++ RC))) from_start

  from_bmuls_lem : map g (drop (imuls_end p c) (numbers p c)) ≡ map E (RB ++ (RZ ++ RC))
  from_bmuls_lem = part_next g E (numbers p c) (ands_end p c) RI (RB ++ (RZ ++ RC)) from_imuls_lem

  from_zeros_lem : map g (drop (bmuls_end p c) (numbers p c)) ≡ map E (RZ ++ RC)
  from_zeros_lem = part_next g E (numbers p c) (imuls_end p c) RB (RZ ++ RC) from_bmuls_lem

  from_commits_lem : map g (drop (zeros_end p c) (numbers p c)) ≡ map E RC
  from_commits_lem = part_next g E (numbers p c) (bmuls_end p c) RZ RC from_zeros_lem

  ands_left : rows_of g 3 z.ands (sets l.ands 0 (kept_rows (is_kept z l) 3 z.ands l.ands ++ take (ands_end p c) (numbers p c))) ≡ patch_rows p c p.ands
  unfolding row_handles system_of
  ands_left =
      rows_left 3 z.ands l.ands (take (ands_end p c) (numbers p c)) there.ands_there (all_left Same (take (3 * z.ands) l.ands) _ rows_stand)
      (part_first g E (numbers p c) 0 Ra (RI ++ (RB ++ (RZ ++ RC))) from_start)

  imuls_left : rows_of g 4 z.imuls (sets l.imuls 0 (kept_rows (is_kept z l) 4 z.imuls l.imuls ++ take (length RI) (drop (ands_end p c) (numbers p c)))) ≡ patch_rows p c p.imuls
  unfolding row_handles system_of
  imuls_left =
      rows_left 4 z.imuls l.imuls (take (length RI) (drop (ands_end p c) (numbers p c))) there.imuls_there
      (all_left Same (take (4 * z.imuls) l.imuls) _ (all_right Same (take (3 * z.ands) l.ands) _ rows_stand))
      (part_first g E (numbers p c) (ands_end p c) RI (RB ++ (RZ ++ RC)) from_imuls_lem)

  bmuls_left : rows_of g 6 z.bmuls (sets l.bmuls 0 (kept_rows (is_kept z l) 6 z.bmuls l.bmuls ++ take (length RB) (drop (imuls_end p c) (numbers p c)))) ≡ patch_rows p c p.bmuls
  unfolding row_handles system_of
  bmuls_left =
      rows_left 6 z.bmuls l.bmuls (take (length RB) (drop (imuls_end p c) (numbers p c))) there.bmuls_there
      (all_left Same (take (6 * z.bmuls) l.bmuls) _ (all_right Same (take (4 * z.imuls) l.imuls) _ (all_right Same (take (3 * z.ands) l.ands) _ rows_stand)))
      (part_first g E (numbers p c) (imuls_end p c) RB (RZ ++ RC) from_bmuls_lem)

  zeros_left : rows_of g 1 z.zeros (sets l.zeros 0 (kept_rows (is_kept z l) 1 z.zeros l.zeros ++ take (length RZ) (drop (bmuls_end p c) (numbers p c)))) ≡ patch_rows p c p.zeros
  unfolding row_handles system_of
  zeros_left =
      let one : z.zeros ≡ 1 * z.zeros = omega arith in
      rows_left 1 z.zeros l.zeros (take (length RZ) (drop (bmuls_end p c) (numbers p c))) (omega (arith, there.zeros_there))
      (subst (λ (n : ℕ). All Same (take n l.zeros)) one
      (all_right Same (take (6 * z.bmuls) l.bmuls) _ (all_right Same (take (4 * z.imuls) l.imuls) _ (all_right Same (take (3 * z.ands) l.ands) _ rows_stand))))
      (part_first g E (numbers p c) (bmuls_end p c) RZ RC from_zeros_lem)

  -- ---- definitions

  abbrev ds : List ℕ
  ds = take z.linears l.dsts

  abbrev hs : List ℕ
  hs = take z.linears l.rhss

  abbrev left : ℕ
  left = length (stranded p c) + length (commits p c)

  same_long : length ds ≡ length hs
  same_long = length-take-le z.linears l.dsts there.dsts_there ∙ sym (length-take-le z.linears l.rhss there.rhss_there)

  stay_length : length (keep (stays p c) ds) ≡ length (stranded p c)
  unfolding stranded P.is_stranded
  stay_length =
      ap length (ap (keep (stays p c)) (sym (destinations_model z (input l) there.dsts_there there.rhss_there)) ∙ sym (keep-destinations (stays p c) p.linears))
      ∙ length-map (keep (λ (d : Definition). stays p c d.dst) p.linears) (λ (d : Definition). d.dst)

  -- no more definitions than before
  left_few : left ≤ z.linears
  left_few = omega (arith, (counted p c acc.once acc.named.destinations_named).linears_count, linears_length z (input l) there.dsts_there there.rhss_there)

  dsts_left : take left (sets l.dsts 0 (keep (stays p c) ds ++ destinations (commits p c))) ≡ keep (stays p c) ds ++ destinations (commits p c)
  dsts_left =
      take_front (keep (stays p c) ds ++ destinations (commits p c)) l.dsts left
      (length-append (keep (stays p c) ds) (destinations (commits p c)) ∙ omega (arith, stay_length, length-map (commits p c) (λ (d : Definition). d.dst)))
      (omega (arith, left_few, there.dsts_there))

  rhss_left : take left (sets l.rhss 0 (keep_by (stays p c) ds hs ++ drop (zeros_end p c) (numbers p c))) ≡ keep_by (stays p c) ds hs ++ drop (zeros_end p c) (numbers p c)
  rhss_left =
      let K = keep_by (stays p c) ds hs in
      let N = drop (zeros_end p c) (numbers p c) in
      let n : length N ≡ length (commits p c) = sym (length-map N g) ∙ ap length from_commits_lem ∙ length-map RC E ∙ length-map (commits p c) (λ (d : Definition). d.rhs) in
      take_front (K ++ N) l.rhss left (length-append K N ∙ omega (arith, by_length (stays p c) ds hs same_long, stay_length, n)) (omega (arith, left_few, there.rhss_there))

  linears_left : definitions_of g (take left (sets l.dsts 0 (keep (stays p c) ds ++ destinations (commits p c)))) (take left (sets l.rhss 0 (keep_by (stays p c) ds hs ++ drop (zeros_end p c) (numbers p c))))
      ≡ (patched p c).linears
  unfolding system_of
  linears_left =
      ap₂ {C = List Definition} (definitions_of g) dsts_left rhss_left
      ∙ linears_patched p c f g ds hs (drop (zeros_end p c) (numbers p c)) refl same_long
      (all_right Same (row_handles z l.ands l.imuls l.bmuls l.zeros) (take z.linears l.rhss) all_same) from_commits_lem

  -- THE THEOREM.
  pub leaves_patched : system_of (sizes_after p c z) (output (leaves z l c)) ≡ patched p c
  unfolding system_of sizes_after leaves patched
  leaves_patched = same_system z.wires ands_left imuls_left bmuls_left zeros_left linears_left

-- for an accepted system and a solution for one or two slots
pub system_left : (slots : ℕ) (z : Sizes) (l : Lent) (st : ℕ → Decision) → memory_fault 8192 z (input l) ≡ 0 → Accepted (fused z l) → Solves slots (fused z l) st → slots ≤ 2
    → has_room (fused z l) (commit_set (fused z l) st) l ≡ true
    → system_of (sizes_after (fused z l) (commit_set (fused z l) st) z) (output (leaves z l (commit_set (fused z l) st))) ≡ patched (fused z l) (commit_set (fused z l) st)
system_left slots z l st e acc solves few h =
    leaves_patched z l (commit_set (fused z l) st) e acc (never_over slots (fused z l) st solves few acc.shifted acc.single) (room (fused z l) (commit_set (fused z l) st) l h)
