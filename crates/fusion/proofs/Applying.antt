-- What writing the patched lists asks is there, and what it leaves. Assumes nothing.
use mathlib.Core.Path.{◌≡◌, refl, sym, ap, ap₂, ◌∙◌, subst}
use Prim.Native.Nat.{ℕ, zero, suc, ◌+◌, ◌*◌, ◌-◌, ◌≤◌, ◌<◌}
use native.Mathlib.Omega.{arith}
use mathlib.Core.Bool.{Bool, true}
use mathlib.Core.List.{List, [], ◌∷◌, ◌++◌, map}
use lib.ListN.{length, take, drop, replicate, length-append, length-map, length-drop}
use lib.Seq.{sets, take-take}
use Rattle.operand.specs.Numbers.{Operand, operand_of, term_number}
use Rattle.lower.specs.declared.Sizes.{Sizes}
use Rattle.lower.specs.Lists.{All, keep}
use Rattle.lower.specs.Model.{System, Definition, destinations}
use Rattle.lower.specs.Accepted.{Accepted}
use Rattle.lower.specs.Stores.{system_of, rows_of, row_handles, Stands}
use Rattle.lower.specs.Faults.{memory_fault}
use Rattle.lower.proofs.Laws.{all_left, linears_length}
use Rattle.legraph.specs.Tables.{numbered}
use Rattle.legraph.proofs.Listing.{table_of}
use Rattle.legraph.proofs.Theorem.{table_made}
use Rattle.patch.specs.Patch.{row_rebuilds, rebuilds, rhss_of, commits, stranded, stays, written, terms_written}
use Rattle.patch.specs.Handles.{keep_by}
use Rattle.patch.specs.Counts.{Counted}
use Rattle.patch.proofs.Counting.{counted, definitions_few}
use Rattle.reach.specs.Reach.{ReachIn}
use Rattle.reach.proofs.Theorem.{ands_part, imuls_part, bmuls_part, zeros_part}
use Rattle.apply.specs.Applied.{untouched, kept_rows, rows_after, struck, from_imuls, from_bmuls, from_zeros, from_commits, Listed, is_stranded, keep_from, committed_wires, flags_from}
use Rattle.fusion.specs.declared.Counts.{Counts}
use Rattle.fusion.specs.declared.Linears.{Linears}
use Rattle.fusion.specs.Left.{Lent, lent, input, fused, is_kept, numbers, ands_end, imuls_end, bmuls_end, zeros_end, flags_of, has_room, counts_of, leaves}
use Rattle.fusion.specs.Steps.{Ready, chosen, Holds, Closable, counts_by}
use Rattle.fusion.proofs.Models.{wires_are, flags_are}
use Rattle.fusion.proofs.Stays.{dsts_stay, rhss_stay, stay_count}
use Rattle.fusion.proofs.System.{Room, room}
use Rattle.fusion.proofs.Closing.{numbers_length, kept_are, struck_count, rows_after_lem}
use Rattle.fusion.proofs.Making.{memory, accepted, few, there, wires_few}

-- a part that ends within the first n
part_within : (m i n : ℕ) (l : List ℕ) → i + m ≤ n → take m (drop i (take n l)) ≡ take m (drop i l)
part_within m zero n l h = take-take m n l (omega (arith, h))
part_within m (suc i) zero l h = absurd (omega arith)
part_within m (suc i) (suc n) [] h = refl
part_within m (suc i) (suc n) (x ∷ l) h = part_within m i n l (omega arith)

take_whole : (n : ℕ) (l : List ℕ) → length l ≤ n → take n l ≡ l
take_whole zero [] h = refl
take_whole zero (x ∷ l) h = absurd (omega arith)
take_whole (suc n) [] h = refl
take_whole (suc n) (x ∷ l) h = ap (λ (r : List ℕ). x ∷ r) (take_whole n l (omega arith))

drop-length : (i : ℕ) (l : List ℕ) → i ≤ length l → i + length (drop i l) ≡ length l
drop-length zero l h = omega arith
drop-length (suc i) [] h = absurd (omega arith)
drop-length (suc i) (x ∷ l) h = omega (arith, drop-length i l (omega arith))

module _ (z : Sizes) (l : Lent) (decisions : List ℕ) (r : Ready z (input l) decisions) (t reach terms list : List ℕ)
    (q : t ≡ numbered 0 (take z.linears l.dsts) (replicate 4096 0)) (m : ReachIn (fused z l) (chosen z (input l) decisions) z.linears l.dsts reach)
    (h : Holds (fused z l) (chosen z (input l) decisions) terms list) (fits : has_room (fused z l) (chosen z (input l) decisions) l ≡ true) where
  abbrev p : System
  p = fused z l

  abbrev c : ℕ → Bool
  c = chosen z (input l) decisions

  abbrev f : ℕ → Operand
  f = operand_of l.old []

  e : memory_fault 8192 z (input l) ≡ 0
  e = memory z (input l) decisions r

  acc : Accepted p
  acc = accepted z (input l) decisions r

  made : t ≡ table_of 4096 p
  made = q ∙ table_made z (input l) e

  rooms : Room p c l
  rooms = room p c l fits

  counts : Counted p c
  counts = counted p c acc.once acc.named.destinations_named

  -- ---- terms

  written_count : length terms ≡ terms_written p c
  unfolding terms_written
  written_count = ap length h.terms ∙ length-map (written p c) term_number

  pub extend_asks : 0 + length terms ≤ length l.new
  extend_asks = omega (arith, written_count, rooms.new_long)

  new_left : (new' : List ℕ) → new' ≡ sets l.new 0 terms → new' ≡ sets l.new 0 (map term_number (written p c))
  new_left new' k = k ∙ ap (sets l.new 0) h.terms

  -- ---- rows

  abbrev test : List ℕ → Bool
  test = untouched l.old [] t

  same_test : test ≡ untouched l.old [] (table_of 4096 p)
  same_test = ap (untouched l.old []) made

  -- as many numbers are struck as operands are rebuilt
  struck-is : (k j : ℕ) (hs : List ℕ) → k * j ≤ length hs → struck test k j hs ≡ length (row_rebuilds p c (rows_of f k j hs))
  unfolding struck
  struck-is k j hs long =
      ap (λ (u : List ℕ → Bool). k * j - length (kept_rows u k j hs)) same_test
      ∙ omega (arith, ap length (kept_are z l e acc.once k j hs), struck_count z l e acc.once k j hs c long)

  one : z.zeros ≡ 1 * z.zeros
  one = omega arith

  ands_struck : from_imuls test z l.ands ≡ ands_end p c
  unfolding system_of
  ands_struck = struck-is 3 z.ands l.ands (there z (input l) decisions r).ands_there

  imuls_struck : from_bmuls test z l.ands l.imuls ≡ imuls_end p c
  unfolding system_of
  imuls_struck = ap₂ {C = ℕ} ◌+◌ ands_struck (struck-is 4 z.imuls l.imuls (there z (input l) decisions r).imuls_there)

  bmuls_struck : from_zeros test z l.ands l.imuls l.bmuls ≡ bmuls_end p c
  unfolding system_of
  bmuls_struck = ap₂ {C = ℕ} ◌+◌ imuls_struck (struck-is 6 z.bmuls l.bmuls (there z (input l) decisions r).bmuls_there)

  pub zeros_struck : from_commits test z l.ands l.imuls l.bmuls l.zeros ≡ zeros_end p c
  unfolding system_of
  zeros_struck = ap₂ {C = ℕ} ◌+◌ bmuls_struck (struck-is 1 z.zeros l.zeros (omega (arith, (there z (input l) decisions r).zeros_there)))

  -- all operands that are rebuilt: those of rows, and of committed definitions
  rebuilds_length : length (rebuilds p c) ≡ zeros_end p c + length (commits p c)
  unfolding rebuilds
  rebuilds_length =
      let A = row_rebuilds p c p.ands in let I = row_rebuilds p c p.imuls in let B = row_rebuilds p c p.bmuls in let Z = row_rebuilds p c p.zeros in
      let C = rhss_of (commits p c) in
      let l1 = length-append A (I ++ (B ++ (Z ++ C))) in
      let l2 = length-append I (B ++ (Z ++ C)) in
      let l3 = length-append B (Z ++ C) in
      let l4 = length-append Z C in
      omega (arith, l1, l2, l3, l4, length-map (commits p c) (λ (d : Definition). d.rhs))

  -- what the list of new numbers has
  part_is : (k i : ℕ) → i + k ≤ length (rebuilds p c) → take k (drop i list) ≡ take k (drop i (numbers p c))
  part_is k i b = sym (part_within k i (length (rebuilds p c)) list b) ∙ ap (λ (x : List ℕ). take k (drop i x)) h.listed

  -- rows of k after patching; i is where their new numbers begin
  rows_left : (k j i g : ℕ) (hs hs' : List ℕ) → k * j ≤ length hs → g ≡ i → i + length (row_rebuilds p c (rows_of f k j hs)) ≤ length (rebuilds p c)
      → hs' ≡ sets hs 0 (rows_after test k j hs (drop g list))
      → hs' ≡ sets hs 0 (kept_rows (is_kept z l) k j hs ++ take (length (row_rebuilds p c (rows_of f k j hs))) (drop i (numbers p c)))
  rows_left k j i g hs hs' long at low d =
      d
      ∙ ap (λ (x : ℕ). sets hs 0 (rows_after test k j hs (drop x list))) at
      ∙ ap (λ (u : List ℕ → Bool). sets hs 0 (rows_after u k j hs (drop i list))) same_test
      ∙ ap (sets hs 0) (rows_after_lem z l e acc.once k j hs c (drop i list) long)
      ∙ ap (λ (x : List ℕ). sets hs 0 (kept_rows (is_kept z l) k j hs ++ x)) (part_is (length (row_rebuilds p c (rows_of f k j hs))) i low)

  standing : All (Stands l.old []) (row_handles z l.ands l.imuls l.bmuls l.zeros)
  standing = all_left (Stands l.old []) (row_handles z l.ands l.imuls l.bmuls l.zeros) (take z.linears l.rhss) (there z (input l) decisions r).operands_there

  pub lists_asks : Listed l.old [] l.ands l.imuls l.bmuls l.zeros z t list
  lists_asks = record {
    ands_there = ((there z (input l) decisions r).ands_there, ands_part z (input l) e decisions standing);
    imuls_there = ((there z (input l) decisions r).imuls_there, imuls_part z (input l) e decisions standing);
    bmuls_there = ((there z (input l) decisions r).bmuls_there, bmuls_part z (input l) e decisions standing);
    zeros_there = (omega (arith, (there z (input l) decisions r).zeros_there), subst (λ (k : ℕ). All (Stands l.old []) (take k l.zeros)) one (zeros_part z (input l) e decisions standing));
    list_there = omega (arith, zeros_struck, rebuilds_length, h.there);
  }

  module _ (x : List ℕ) where
    pub ands_left : x ≡ sets l.ands 0 (rows_after test 3 z.ands l.ands list)
        → x ≡ sets l.ands 0 (kept_rows (is_kept z l) 3 z.ands l.ands ++ take (ands_end p c) (numbers p c))
    unfolding system_of
    ands_left d = rows_left 3 z.ands 0 0 l.ands x (there z (input l) decisions r).ands_there refl (omega (arith, rebuilds_length)) d

    pub imuls_left : x ≡ sets l.imuls 0 (rows_after test 4 z.imuls l.imuls (drop (from_imuls test z l.ands) list))
        → x ≡ sets l.imuls 0 (kept_rows (is_kept z l) 4 z.imuls l.imuls ++ take (length (row_rebuilds p c p.imuls)) (drop (ands_end p c) (numbers p c)))
    unfolding system_of
    imuls_left d = rows_left 4 z.imuls (ands_end p c) _ l.imuls x (there z (input l) decisions r).imuls_there ands_struck (omega (arith, rebuilds_length)) d

    pub bmuls_left : x ≡ sets l.bmuls 0 (rows_after test 6 z.bmuls l.bmuls (drop (from_bmuls test z l.ands l.imuls) list))
        → x ≡ sets l.bmuls 0 (kept_rows (is_kept z l) 6 z.bmuls l.bmuls ++ take (length (row_rebuilds p c p.bmuls)) (drop (imuls_end p c) (numbers p c)))
    unfolding system_of
    bmuls_left d = rows_left 6 z.bmuls (imuls_end p c) _ l.bmuls x (there z (input l) decisions r).bmuls_there imuls_struck (omega (arith, rebuilds_length)) d

    pub zeros_left : x ≡ sets l.zeros 0 (rows_after test 1 z.zeros l.zeros (drop (from_zeros test z l.ands l.imuls l.bmuls) list))
        → x ≡ sets l.zeros 0 (kept_rows (is_kept z l) 1 z.zeros l.zeros ++ take (length (row_rebuilds p c p.zeros)) (drop (bmuls_end p c) (numbers p c)))
    unfolding system_of
    zeros_left d = rows_left 1 z.zeros (bmuls_end p c) _ l.zeros x (omega (arith, (there z (input l) decisions r).zeros_there)) bmuls_struck (omega (arith, rebuilds_length)) d

  -- ---- definitions

  commit_wires : committed_wires t decisions 0 z.wires ≡ destinations (commits p c)
  commit_wires = ap (λ (x : List ℕ). committed_wires x decisions 0 z.wires) made ∙ wires_are z (input l) e acc.once decisions

  commit_count : length (committed_wires t decisions 0 z.wires) ≡ length (commits p c)
  commit_count = ap length commit_wires ∙ length-map (commits p c) (λ (d : Definition). d.dst)

  stranded_count : length (keep_from (is_stranded decisions reach) 0 (take z.linears l.dsts)) ≡ length (stranded p c)
  stranded_count = stay_count r.slots z (input l) e decisions reach (few z (input l) decisions r) acc r.solves m

  before_count : length p.linears ≡ z.linears
  before_count = linears_length z (input l) (there z (input l) decisions r).dsts_there (there z (input l) decisions r).rhss_there

  pub definitions_asks : (rest : List ℕ) → rest ≡ drop (from_commits test z l.ands l.imuls l.bmuls l.zeros) list → Closable l.dsts l.rhss z.linears z.wires decisions t reach rest
  definitions_asks rest g = record {
    dsts_there = (there z (input l) decisions r).dsts_there;
    rhss_there = (there z (input l) decisions r).rhss_there;
    wires_few = wires_few z (input l) decisions r;
    left_few = omega (arith, stranded_count, commit_count, counts.linears_count, before_count);
    list_there = omega (arith, ap length g, length-drop (from_commits test z l.ands l.imuls l.bmuls l.zeros) list, zeros_struck, commit_count, rebuilds_length, h.there);
  }

  pub dsts_left : (x : List ℕ) → x ≡ sets l.dsts 0 (keep_from (is_stranded decisions reach) 0 (take z.linears l.dsts) ++ committed_wires t decisions 0 z.wires)
      → x ≡ sets l.dsts 0 (keep (stays p c) (take z.linears l.dsts) ++ destinations (commits p c))
  dsts_left x d = d ∙ ap (sets l.dsts 0) (ap₂ {C = List ℕ} ◌++◌ (dsts_stay r.slots z (input l) e decisions reach (few z (input l) decisions r) acc r.solves m) commit_wires)

  rest_is : (rest : List ℕ) → rest ≡ drop (from_commits test z l.ands l.imuls l.bmuls l.zeros) list → take (length (committed_wires t decisions 0 z.wires)) rest ≡ drop (zeros_end p c) (numbers p c)
  rest_is rest g =
      ap₂ {C = List ℕ} (λ (i : ℕ) (x : List ℕ). take i x) commit_count (g ∙ ap (λ (j : ℕ). drop j list) zeros_struck)
      ∙ part_is (length (commits p c)) (zeros_end p c) (omega (arith, rebuilds_length))
      ∙ take_whole (length (commits p c)) (drop (zeros_end p c) (numbers p c))
      (omega (arith, drop-length (zeros_end p c) (numbers p c) (omega (arith, numbers_length p c, rebuilds_length)), numbers_length p c, rebuilds_length))

  pub rhss_left : (x rest : List ℕ) → rest ≡ drop (from_commits test z l.ands l.imuls l.bmuls l.zeros) list
      → x ≡ sets l.rhss 0 (keep_from (is_stranded decisions reach) 0 (take z.linears l.rhss) ++ take (length (committed_wires t decisions 0 z.wires)) rest)
      → x ≡ sets l.rhss 0 (keep_by (stays p c) (take z.linears l.dsts) (take z.linears l.rhss) ++ drop (zeros_end p c) (numbers p c))
  rhss_left x rest g d =
      d ∙ ap (sets l.rhss 0) (ap₂ {C = List ℕ} ◌++◌ (rhss_stay r.slots z (input l) e decisions reach (few z (input l) decisions r) acc r.solves m) (rest_is rest g))

  -- ---- flags

  same_wires : p.wires ≡ z.wires
  unfolding system_of
  same_wires = refl

  pub flags_asks : (z.wires < 65536) × (z.wires ≤ length l.flags)
  flags_asks = (wires_few z (input l) decisions r, omega (arith, rooms.flags_long, same_wires))

  pub flags_left_lem : (x : List ℕ) → x ≡ sets l.flags 0 (flags_from t decisions 0 z.wires) → x ≡ sets l.flags 0 (flags_of p c)
  flags_left_lem x d = d ∙ ap (sets l.flags 0) (ap (λ (y : List ℕ). flags_from y decisions 0 z.wires) made ∙ flags_are z (input l) e acc.once decisions)

  -- ---- counts

  module _ (a : Linears) (s : a.stranded ≡ length (keep_from (is_stranded decisions reach) 0 (take z.linears l.dsts))) (k : a.committed ≡ length (committed_wires t decisions 0 z.wires)) where
    pub counts_asks : (a.stranded + a.committed ≤ z.linears) × (z.linears ≤ z.wires)
    counts_asks = (omega (arith, s, k, stranded_count, commit_count, counts.linears_count, before_count), omega (arith, definitions_few p.wires p.linears acc.once acc.named.destinations_named, before_count, same_wires))

    pub counts_are : (x : Counts) → x ≡ counts_by z a (length terms) → x ≡ counts_of p c
    unfolding counts_by counts_of
    counts_are x d =
        d ∙ same_counts_lem (omega (arith, s, k, stranded_count, commit_count, counts.linears_count, before_count)) (s ∙ stranded_count) (k ∙ commit_count) written_count
        (omega (arith, k, commit_count, counts.linears_count, counts.kept_count, before_count, same_wires))
      where
        same_counts_lem : {g g' i i' j j' w w' o o' : ℕ} → g ≡ g' → i ≡ i' → j ≡ j' → w ≡ w' → o ≡ o'
            → ◌≡◌ {A = Counts} (record { gone = g; stranded = i; committed = j; written = w; kept = o }) (record { gone = g'; stranded = i'; committed = j'; written = w'; kept = o' })
        same_counts_lem p q r s t = rw (p, q, r, s, t)

  -- ---- all stores

  same-lent : {a a' b b' i i' j j' k k' u u' v v' w w' : List ℕ} → a ≡ a' → b ≡ b' → i ≡ i' → j ≡ j' → k ≡ k' → u ≡ u' → v ≡ v' → w ≡ w'
      → lent l.old a b i j k u v w ≡ lent l.old a' b' i' j' k' u' v' w'
  same-lent x₁ x₂ x₃ x₄ x₅ x₆ x₇ x₈ = rw (x₁, x₂, x₃, x₄, x₅, x₆, x₇, x₈)

  pub left_is : (new' ands' imuls' bmuls' zeros' dsts' rhss' flags' rest : List ℕ)
      → new' ≡ sets l.new 0 terms
      → ands' ≡ sets l.ands 0 (rows_after test 3 z.ands l.ands list)
      → imuls' ≡ sets l.imuls 0 (rows_after test 4 z.imuls l.imuls (drop (from_imuls test z l.ands) list))
      → bmuls' ≡ sets l.bmuls 0 (rows_after test 6 z.bmuls l.bmuls (drop (from_bmuls test z l.ands l.imuls) list))
      → zeros' ≡ sets l.zeros 0 (rows_after test 1 z.zeros l.zeros (drop (from_zeros test z l.ands l.imuls l.bmuls) list))
      → rest ≡ drop (from_commits test z l.ands l.imuls l.bmuls l.zeros) list
      → dsts' ≡ sets l.dsts 0 (keep_from (is_stranded decisions reach) 0 (take z.linears l.dsts) ++ committed_wires t decisions 0 z.wires)
      → rhss' ≡ sets l.rhss 0 (keep_from (is_stranded decisions reach) 0 (take z.linears l.rhss) ++ take (length (committed_wires t decisions 0 z.wires)) rest)
      → flags' ≡ sets l.flags 0 (flags_from t decisions 0 z.wires)
      → lent l.old new' ands' imuls' bmuls' zeros' dsts' rhss' flags' ≡ leaves z l c
  unfolding leaves
  left_is new' ands' imuls' bmuls' zeros' dsts' rhss' flags' rest x₁ x₂ x₃ x₄ x₅ g x₆ x₇ x₈ =
      same-lent (new_left new' x₁) (ands_left ands' x₂) (imuls_left imuls' x₃) (bmuls_left bmuls' x₄) (zeros_left zeros' x₅) (dsts_left dsts' x₆) (rhss_left rhss' rest g x₇) (flags_left_lem flags' x₈)
