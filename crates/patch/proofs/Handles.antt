-- The numbers of the patched lists stand for the patched lists. Assumes nothing.
use mathlib.Core.Path.{◌≡◌, refl, sym, ap, ap₂, ◌∙◌, subst}
use Prim.Native.Nat.{ℕ, zero, suc, ◌+◌, ◌*◌, ◌≤◌, ◌<◌}
use native.Mathlib.Omega.{arith}
use native.Mathlib.Nat.{mul-suc}
use mathlib.Core.Bool.{Bool, true, false, cond, not}
use mathlib.Core.List.{List, [], ◌∷◌, ◌++◌, map, map-append, append_assoc, append-nil}
use lib.ListN.{length, take, drop, length-append, length-map, length-drop}
use lib.Seq.{sets, take_at, drop_at, length-take-le, take-length}
use Rattle.operand.specs.declared.WireOperand.{WireOperand}
use Rattle.operand.specs.Numbers.{Term, Operand, term_of, term_number, operand_at, operand_number, operand_of}
use Rattle.operand.proofs.Stored.{term_there, operand_there}
use Rattle.lower.specs.Lists.{All, done, more, keep, joined}
use Rattle.lower.specs.Model.{Row, Definition, System, destinations}
use Rattle.lower.specs.Stores.{chunks, rows_of, definitions_of}
use Rattle.lower.proofs.Laws.{all_left, all_right, all_both, joined-map, chunks-length, chunks_flat, operand_kept, operand_written, sets_below, definitions_same}
use Rattle.lower.proofs.Alls.{all_unjoin}
use Rattle.patch.specs.Lists.{gather, up_to}
use Rattle.patch.specs.Patch.{rhss_of, expand_operand, rebuilt, row_rebuilds, patch_rows, commits, commit_at, is_stranded, stranded, stays, rebuild, patched}
use Rattle.patch.specs.Handles.{handles_from, keep_by, commits_from}
use Rattle.patch.proofs.Parts.{all_each, all_keep, all_mapped, gather_append}
use Rattle.patch.proofs.Counting.{length_parted}
use Rattle.patch.proofs.Writing.{sets_both, sets-length}

-- ---- operands that are written

-- within the bits of a number
abbrev pub Small : Term → Type 0
Small t = (t.wire < 65536) × (t.inner < 65536)

terms_back : (ts : List Term) → All Small ts → map term_of (map term_number ts) ≡ ts
terms_back [] done = refl
terms_back (t ∷ ts) (more h k) = ap₂ {C = List Term} ◌∷◌ (term_there t h.0 h.1) (terms_back ts k)

-- the numbers of operands that are written stand for them
pub handles_right : (old new : List ℕ) (n : ℕ) (os : List Operand) → n + length (joined os) ≤ length new → n + length (joined os) < 2147483648 → All Small (joined os)
    → map (operand_of old (sets new n (map term_number (joined os)))) (handles_from n os) ≡ os
unfolding handles_from
handles_right old new n [] room low small = refl
handles_right old new n (o ∷ os) room low small =
    let long : length (o ++ joined os) ≡ length o + length (joined os) = length-append o (joined os) in
    let numbers : length (map term_number o) ≡ length o = length-map o term_number in
    let h : ℕ = operand_number (record { start = n; len = length o; new = true }) in
    let at : operand_at h ≡ record { start = n; len = length o; new = true } = operand_there (record { start = n; len = length o; new = true }) (omega arith) (omega (arith, long, low)) in
    let first : List ℕ = sets new n (map term_number o) in
    let e : sets new n (map term_number (o ++ joined os)) ≡ sets first (n + length o) (map term_number (joined os)) =
    ap (sets new n) (map-append term_number o (joined os))
    ∙ sym (sets_both new n (map term_number o) (map term_number (joined os)))
    ∙ ap (λ (i : ℕ). sets first (n + i) (map term_number (joined os))) numbers in
    let kept : operand_of old (sets first (n + length o) (map term_number (joined os))) h ≡ operand_of old first h =
    operand_kept old first (sets first (n + length o) (map term_number (joined os))) (n + length o) h (sym (sets_below first (map term_number (joined os)) (n + length o) (n + length o) (omega arith)))
    (λ q. omega (arith, ap (λ (x : WireOperand). x.start) at, ap (λ (x : WireOperand). x.len) at)) in
    let here : operand_of old first h ≡ o =
    operand_written old new (map term_number o) n h (ap (λ (x : WireOperand). x.new) at) (ap (λ (x : WireOperand). x.start) at)
    (ap (λ (x : WireOperand). x.len) at ∙ sym numbers) (omega (arith, room, long, numbers))
    ∙ terms_back o (all_left Small o (joined os) small) in
    let rest : map (operand_of old (sets first (n + length o) (map term_number (joined os)))) (handles_from (n + length o) os) ≡ os =
    handles_right old first (n + length o) os (omega (arith, sets-length new n (map term_number o), room, long)) (omega (arith, low, long)) (all_right Small o (joined os) small) in
    ap (λ (l : List ℕ). map (operand_of old l) (h ∷ handles_from (n + length o) os)) e
    ∙ ap₂ {C = List Operand} ◌∷◌ (kept ∙ here) rest

pub handles_length : (n : ℕ) (os : List Operand) → length (handles_from n os) ≡ length os
unfolding handles_from
handles_length n [] = refl
handles_length n (o ∷ os) = ap suc (handles_length (n + length o) os)

pub handles_append : (n : ℕ) (a b : List Operand) → handles_from n (a ++ b) ≡ handles_from n a ++ handles_from (n + length (joined a)) b
unfolding handles_from
handles_append n [] b = ap (λ (i : ℕ). handles_from i b) (omega arith)
handles_append n (o ∷ a) b =
    ap (λ (l : List ℕ). operand_number (record { start = n; len = length o; new = true }) ∷ l)
    (handles_append (n + length o) a b ∙ ap (λ (i : ℕ). handles_from (n + length o) a ++ handles_from i b) (omega (arith, length-append o (joined a))))

-- ---- rows

-- rows of k numbers, one after the other, are found again
pub chunks-joined : (k : ℕ) (rs : List (List ℕ)) (rest : List ℕ) → All (λ (r : List ℕ). length r ≡ k) rs → chunks k (length rs) (joined rs ++ rest) ≡ rs
chunks-joined k [] rest done = refl
chunks-joined k (r ∷ rs) rest (more e h) =
    let a : (r ++ joined rs) ++ rest ≡ r ++ (joined rs ++ rest) = append_assoc r (joined rs) rest in
    rw (a, take_at r (joined rs ++ rest) k e, drop_at r (joined rs ++ rest) k e) (ap (λ (l : List (List ℕ)). r ∷ l) (chunks-joined k rs rest h))

-- rows of k are known by what they are one after the other
rows_one : {A : Type 0} (k : ℕ) (a b : List (List A)) → All (λ (r : List A). length r ≡ k) a → All (λ (r : List A). length r ≡ k) b → length a ≡ length b → joined a ≡ joined b → a ≡ b
rows_one k [] [] h g l e = refl
rows_one k [] (s ∷ b) h g l e = absurd (omega arith)
rows_one k (r ∷ a) [] h g l e = absurd (omega arith)
rows_one {A} k (r ∷ a) (s ∷ b) (more hr h) (more gs g) l e =
    let first : r ≡ s = sym (take_at r (joined a) k hr) ∙ ap (take k) e ∙ take_at s (joined b) k gs in
    let next : joined a ≡ joined b = sym (drop_at r (joined a) k hr) ∙ ap (drop k) e ∙ drop_at s (joined b) k gs in
    ap₂ {C = List (List A)} ◌∷◌ first (rows_one k a b h g (omega arith) next)

chunks_shaped : (k n : ℕ) (hs : List ℕ) → k * n ≤ length hs → All (λ (r : List ℕ). length r ≡ k) (chunks k n hs)
chunks_shaped k zero hs h = done
chunks_shaped k (suc n) hs h =
    let m = mul-suc k n in
    more (length-take-le k hs (omega arith)) (chunks_shaped k n (drop k hs) (rw (length-drop k hs) (omega arith)))

keep-map : {A B : Type 0} (q : B → Bool) (f : A → B) (l : List A) → keep q (map f l) ≡ map f (keep (λ (x : A). q (f x)) l)
keep-map q f [] = refl
keep-map {A} {B} q f (x ∷ l) = go (q (f x)) (keep-map q f l)
  where
    go : (b : Bool) → keep q (map f l) ≡ map f (keep (λ (x : A). q (f x)) l) → cond b (f x ∷ keep q (map f l)) (keep q (map f l)) ≡ map f (cond b (x ∷ keep (λ (x : A). q (f x)) l) (keep (λ (x : A). q (f x)) l))
    go true e = ap (λ (r : List B). f x ∷ r) e
    go false e = e

joined_both : (a b : List (List ℕ)) → joined (a ++ b) ≡ joined a ++ joined b
joined_both [] b = refl
joined_both (r ∷ a) b = ap (λ (l : List ℕ). r ++ l) (joined_both a b) ∙ sym (append_assoc r (joined a) (joined b))

joined_length : {A : Type 0} (k : ℕ) (rs : List (List A)) → All (λ (r : List A). length r ≡ k) rs → length (joined rs) ≡ k * length rs
joined_length k [] done = omega arith
joined_length k (r ∷ rs) (more e h) = let m = mul-suc k (length rs) in length-append r (joined rs) ∙ omega (arith, e, joined_length k rs h, m)

maps_same : (f g : ℕ → Operand) {r : List ℕ} → All (λ (h : ℕ). g h ≡ f h) r → map g r ≡ map f r
maps_same f g done = refl
maps_same f g (more e h) = ap₂ {C = List Operand} ◌∷◌ e (maps_same f g h)

rows_maps : (f g : ℕ → Operand) {rs : List (List ℕ)} → All (λ (r : List ℕ). All (λ (h : ℕ). g h ≡ f h) r) rs → map (map g) rs ≡ map (map f) rs
rows_maps f g done = refl
rows_maps f g (more e h) = ap₂ {C = List Row} ◌∷◌ (maps_same f g e) (rows_maps f g h)

-- Closed up, and the new numbers es after what is left: the rows of the numbers are the patched rows. f says what a number stood for, g
-- what it stands for.
module _ (p : System) (c : ℕ → Bool) (f g : ℕ → Operand) (k n : ℕ) (hs es rest : List ℕ) (room : k * n ≤ length hs)
    (same : All (λ (h : ℕ). g h ≡ f h) (take (k * n) hs)) where
  abbrev pub redone : List (List ℕ)
  redone = keep (λ (r : List ℕ). rebuilt p.linears (map f r)) (chunks k n hs)

  abbrev pub untouched : List (List ℕ)
  untouched = keep (λ (r : List ℕ). not (rebuilt p.linears (map f r))) (chunks k n hs)

  redone_rows : row_rebuilds p c (rows_of f k n hs) ≡ joined (map (map f) redone)
  unfolding row_rebuilds
  redone_rows = ap joined (keep-map (rebuilt p.linears) (map f) (chunks k n hs))

  pub rows_patched : map g es ≡ map (expand_operand p c) (row_rebuilds p c (rows_of f k n hs)) → rows_of g k n ((joined untouched ++ es) ++ rest) ≡ patch_rows p c (rows_of f k n hs)
  unfolding patch_rows
  rows_patched new =
      let shape = chunks_shaped k n hs room in
      let shape_u : All (λ (r : List ℕ). length r ≡ k) untouched = all_keep (λ (r : List ℕ). not (rebuilt p.linears (map f r))) shape in
      let shape_r : All (λ (r : List ℕ). length r ≡ k) redone = all_keep (λ (r : List ℕ). rebuilt p.linears (map f r)) shape in
      let shape_m : All (λ (r : Row). length r ≡ k) (map (map f) redone) = all_mapped (map f) (all_each (λ r e. length-map r f ∙ e) shape_r) in
      let long : length es ≡ k * length redone =
      sym (length-map es g)
      ∙ ap length (new ∙ ap (map (expand_operand p c)) redone_rows)
      ∙ length-map (joined (map (map f) redone)) (expand_operand p c)
      ∙ joined_length k (map (map f) redone) shape_m
      ∙ ap (λ (i : ℕ). k * i) (length-map redone (map f)) in
      let E : List (List ℕ) = chunks k (length redone) es in
      let flat : joined E ≡ es = chunks_flat k (length redone) es ∙ ap (λ (i : ℕ). take i es) (sym long) ∙ take-length es in
      let shape_e : All (λ (r : List ℕ). length r ≡ k) E = chunks_shaped k (length redone) es (omega (arith, long)) in
      let count : length (untouched ++ E) ≡ n =
      length-append untouched E ∙ omega (arith, chunks-length k (length redone) es, length_parted (λ (r : List ℕ). rebuilt p.linears (map f r)) (chunks k n hs), chunks-length k n hs) in
      let found : chunks k n ((joined untouched ++ es) ++ rest) ≡ untouched ++ E =
      ap (λ (l : List ℕ). chunks k n (l ++ rest)) (ap (λ (l : List ℕ). joined untouched ++ l) (sym flat) ∙ sym (joined_both untouched E))
      ∙ ap (λ (i : ℕ). chunks k i (joined (untouched ++ E) ++ rest)) (sym count)
      ∙ chunks-joined k (untouched ++ E) rest (all_both (λ (r : List ℕ). length r ≡ k) shape_u shape_e) in
      let left : map (map g) untouched ≡ keep (λ (r : Row). not (rebuilt p.linears r)) (rows_of f k n hs) =
      rows_maps f g (all_keep (λ (r : List ℕ). not (rebuilt p.linears (map f r))) (all_unjoin (λ (h : ℕ). g h ≡ f h) (chunks k n hs) (subst (All (λ (h : ℕ). g h ≡ f h)) (sym (chunks_flat k n hs)) same)))
      ∙ sym (keep-map (λ (r : Row). not (rebuilt p.linears r)) (map f) (chunks k n hs)) in
      let right : map (map g) E ≡ map (map (expand_operand p c)) (map (map f) redone) =
      rows_one k (map (map g) E) (map (map (expand_operand p c)) (map (map f) redone))
      (all_mapped (map g) (all_each (λ r e. length-map r g ∙ e) shape_e))
      (all_mapped (map (expand_operand p c)) (all_each (λ r e. length-map r (expand_operand p c) ∙ e) shape_m))
      (length-map E (map g) ∙ chunks-length k (length redone) es ∙ sym (length-map (map (map f) redone) (map (expand_operand p c)) ∙ length-map redone (map f)))
      (joined-map g E ∙ ap (map g) flat ∙ new ∙ ap (map (expand_operand p c)) redone_rows ∙ sym (joined-map (expand_operand p c) (map (map f) redone))) in
      ap (map (map g)) found
      ∙ map-append (map g) untouched E
      ∙ ap₂ {C = List Row} ◌++◌ left (right ∙ ap (map (map (expand_operand p c))) (sym (keep-map (rebuilt p.linears) (map f) (chunks k n hs))))

-- ---- definitions

-- definitions closed up by their destinations
pub keep_definitions : (f : ℕ → Operand) (q : ℕ → Bool) (ds hs : List ℕ) → length ds ≡ length hs
    → definitions_of f (keep q ds) (keep_by q ds hs) ≡ keep (λ (d : Definition). q d.dst) (definitions_of f ds hs)
unfolding keep_by
keep_definitions f q [] hs e = refl
keep_definitions f q (d ∷ ds) [] e = absurd (omega arith)
keep_definitions f q (d ∷ ds) (h ∷ hs) e = go (q d) (keep_definitions f q ds hs (omega arith))
  where
    go : (b : Bool) → definitions_of f (keep q ds) (keep_by q ds hs) ≡ keep (λ (d : Definition). q d.dst) (definitions_of f ds hs)
        → definitions_of f (cond b (d ∷ keep q ds) (keep q ds)) (cond b (h ∷ keep_by q ds hs) (keep_by q ds hs))
        ≡ cond b (record { dst = d; rhs = f h } ∷ keep (λ (d : Definition). q d.dst) (definitions_of f ds hs)) (keep (λ (d : Definition). q d.dst) (definitions_of f ds hs))
    go true k = ap (λ (l : List Definition). record { dst = d; rhs = f h } ∷ l) k
    go false k = k

pub definitions_append : (f : ℕ → Operand) (ds es hs gs : List ℕ) → length ds ≡ length hs → definitions_of f (ds ++ es) (hs ++ gs) ≡ definitions_of f ds hs ++ definitions_of f es gs
definitions_append f [] es [] gs e = refl
definitions_append f [] es (h ∷ hs) gs e = absurd (omega arith)
definitions_append f (d ∷ ds) es [] gs e = absurd (omega arith)
definitions_append f (d ∷ ds) es (h ∷ hs) gs e = ap (λ (l : List Definition). record { dst = d; rhs = f h } ∷ l) (definitions_append f ds es hs gs (omega arith))

keep-by-length : (q : ℕ → Bool) (ds hs : List ℕ) → length ds ≡ length hs → length (keep q ds) ≡ length (keep_by q ds hs)
unfolding keep_by
keep-by-length q [] hs e = refl
keep-by-length q (d ∷ ds) [] e = absurd (omega arith)
keep-by-length q (d ∷ ds) (h ∷ hs) e = go (q d) (keep-by-length q ds hs (omega arith))
  where
    go : (b : Bool) → length (keep q ds) ≡ length (keep_by q ds hs) → length (cond b (d ∷ keep q ds) (keep q ds)) ≡ length (cond b (h ∷ keep_by q ds hs) (keep_by q ds hs))
    go true k = ap suc k
    go false k = k

module _ (p : System) (c : ℕ → Bool) where
  made_definitions : (g : ℕ → Operand) (ds : List Definition) (es : List ℕ) → map g es ≡ map (expand_operand p c) (rhss_of ds) → definitions_of g (destinations ds) es ≡ map (rebuild p c) ds
  unfolding rebuild
  made_definitions g [] es e = refl
  made_definitions g (d ∷ ds) [] e = absurd (let l = ap length e in omega (arith, l))
  made_definitions g (d ∷ ds) (h ∷ es) e =
      let first : g h ≡ expand_operand p c d.rhs = cc in
      let next : map g es ≡ map (expand_operand p c) (rhss_of ds) = cc in
      ap₂ {C = List Definition} ◌∷◌ (ap (λ (o : Operand). record { dst = d.dst; rhs = o }) first) (made_definitions g ds es next)

  -- closed up by destination, and the committed ones after them: the definitions of the patched system
  pub linears_patched : (f g : ℕ → Operand) (ds hs es : List ℕ) → p.linears ≡ definitions_of f ds hs → length ds ≡ length hs → All (λ (h : ℕ). g h ≡ f h) hs
      → map g es ≡ map (expand_operand p c) (rhss_of (commits p c))
      → definitions_of g (keep (stays p c) ds ++ destinations (commits p c)) (keep_by (stays p c) ds hs ++ es) ≡ (patched p c).linears
  unfolding patched stranded is_stranded
  linears_patched f g ds hs es are long same new =
      definitions_append g (keep (stays p c) ds) (destinations (commits p c)) (keep_by (stays p c) ds hs) es (keep-by-length (stays p c) ds hs long)
      ∙ ap₂ {C = List Definition} ◌++◌
      (keep_definitions g (stays p c) ds hs long ∙ ap (keep (λ (d : Definition). stays p c d.dst)) (definitions_same g f ds hs same ∙ sym are))
      (made_definitions g (commits p c) es new)

-- ---- committed definitions, one wire after the other

module _ (c : ℕ → Bool) (ds : List Definition) where
  commits_last : (w n : ℕ) → commits_from c ds w (suc n) ≡ commits_from c ds w n ++ commit_at c ds (w + n)
  unfolding commits_from
  commits_last w zero = append-nil (commit_at c ds w) ∙ ap (commit_at c ds) (omega arith)
  commits_last w (suc n) =
      ap (λ (l : List Definition). commit_at c ds w ++ l) (commits_last (suc w) n ∙ ap (λ (i : ℕ). commits_from c ds (suc w) n ++ commit_at c ds i) (omega arith))
      ∙ sym (append_assoc (commit_at c ds w) (commits_from c ds (suc w) n) (commit_at c ds (w + suc n)))

  pub commits_from_lem : (n : ℕ) → gather (commit_at c ds) (up_to n) ≡ commits_from c ds 0 n
  unfolding commits_from
  commits_from_lem zero = refl
  commits_from_lem (suc n) =
      gather_append (commit_at c ds) (up_to n) (n ∷ [])
      ∙ ap₂ {C = List Definition} ◌++◌ (commits_from_lem n) (append-nil (commit_at c ds n))
      ∙ ap (λ (i : ℕ). commits_from c ds 0 n ++ commit_at c ds i) (omega arith)
      ∙ sym (commits_last 0 n)

pub commits_are : (p : System) (c : ℕ → Bool) → commits p c ≡ commits_from c p.linears 0 p.wires
unfolding commits
commits_are p c = commits_from_lem c p.linears p.wires
