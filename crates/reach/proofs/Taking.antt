-- The masks that are made in an order of the definitions, each before those that it names, are what masks of what is met should be.
-- Assumes nothing.
use mathlib.Core.Path.{◌≡◌, refl, sym, ap, ◌∙◌, subst}
use mathlib.Core.Logic.{◌↔◌}
use Prim.Native.Nat.{ℕ, ◌^◌, ◌<◌}
use mathlib.Core.Bool.{Bool, true, false, cond}
use mathlib.Core.List.Memᴰ
use mathlib.Core.List.{List, [], ◌∷◌, Memᴰ}
use lib.Dec.{eqb, lit<}
use lib.ListN.{length, get_or, length-set}
use lib.Seq.{get_or-set_same, get_or-set_other}
use lib.Bits.{bit_and, bit_or, and_zero_r, or_lt}
use borrow.Author.Tests.{eqb-true, eqb-false}
use Rattle.shift.specs.Shifts.{shift_at}
use Rattle.shift.proofs.Composes.{on_cond}
use Rattle.operand.specs.Numbers.{Term, Operand, operand_of}
use Rattle.alive.specs.Masks.{ones, pulled}
use Rattle.alive.proofs.Ors.{misses_or, misses_left, misses_right}
use Rattle.alive.proofs.Pulls.{pulled_lt}
use Rattle.lower.specs.Lists.{All, done, more}
use Rattle.lower.specs.Model.{System, destinations}
use Rattle.lower.specs.Accepted.{Once}
use Rattle.legraph.specs.Orders as O
use Rattle.legraph.specs.Orders.{Link, Posted}
use Rattle.legraph.proofs.Walking.{links_in}
use Rattle.legraph.proofs.Listing.{table_of, found-by}
use Rattle.shift.proofs.Numbers.{valid_at}
use Rattle.patch.proofs.Parts.{all_members}
use Rattle.reach.specs.Reach.{from_term}
use Rattle.reach.specs.Steps.{Held, rhs_at, dst_at, committed_at, mask_at, pull_term, pull_terms, pull_operands, taken, reach_step, reach_from, Usable}
use Rattle.reach.proofs.Masking.{Holds}

abbrev Words : List ℕ → Type 0
Words l = (w : ℕ) → mask_at l w < 2 ^ 64

-- ---- one term

module _ (m : ℕ) (u : Term) (l : List ℕ) where
  abbrev bits : ℕ
  bits = pulled (shift_at u.inner) m

  term_length : length (pull_term m u l) ≡ length l
  unfolding pull_term
  term_length = length-set l u.wire (bit_or (mask_at l u.wire) bits)

  term_other : (w : ℕ) → (u.wire ≡ w → ⊥) → mask_at (pull_term m u l) w ≡ mask_at l w
  unfolding pull_term
  term_other w n = get_or-set_other l u.wire w (bit_or (mask_at l u.wire) bits) 0 (λ q. n (sym q))

  term_here : (w : ℕ) → u.wire ≡ w → u.wire < length l → mask_at (pull_term m u l) w ≡ bit_or (mask_at l w) bits
  unfolding pull_term
  term_here w e b = rw (sym e) (get_or-set_same l u.wire (bit_or (mask_at l u.wire) bits) 0 b)

  term_words : m < 2 ^ 64 → Usable (length l) u → Words l → Words (pull_term m u l)
  term_words h k f w = go (eqb u.wire w) refl
    where
      go : (b : Bool) → eqb u.wire w ≡ b → mask_at (pull_term m u l) w < 2 ^ 64
      go true e = subst (λ (x : ℕ). x < 2 ^ 64) (sym (term_here w (eqb-true u.wire w e) k.0)) (or_lt 64 (mask_at l w) bits (f w) (pulled_lt (shift_at u.inner) (valid_at u.inner k.1) m h))
      go false e = subst (λ (x : ℕ). x < 2 ^ 64) (sym (term_other w (eqb-false u.wire w e))) (f w)

  term_misses : (w y : ℕ) → y < 2 ^ 64 → u.wire < length l → bit_and y (mask_at (pull_term m u l) w) ≡ 0 ↔ (bit_and y (mask_at l w) ≡ 0) × (bit_and y (from_term m w u) ≡ 0)
  term_misses w y h k = go (eqb u.wire w) refl
    where
      go : (b : Bool) → eqb u.wire w ≡ b → bit_and y (mask_at (pull_term m u l) w) ≡ 0 ↔ (bit_and y (mask_at l w) ≡ 0) × (bit_and y (cond b bits 0) ≡ 0)
      go true e =
          let q = term_here w (eqb-true u.wire w e) k in (
            λ z. let x = ap (bit_and y) (sym q) ∙ z in (misses_left 64 y (mask_at l w) bits h x, misses_right 64 y (mask_at l w) bits h x),
            λ z. ap (bit_and y) q ∙ misses_or 64 y (mask_at l w) bits h z.0 z.1,
          )
      go false e = let q = term_other w (eqb-false u.wire w e) in (λ z. (ap (bit_and y) (sym q) ∙ z, and_zero_r y), λ z. ap (bit_and y) q ∙ z.0)

-- ---- the terms of an operand

terms_length : (m : ℕ) (us : Operand) (l : List ℕ) → length (pull_terms m us l) ≡ length l
unfolding pull_terms
terms_length m [] l = refl
terms_length m (u ∷ us) l = terms_length m us (pull_term m u l) ∙ term_length m u l

terms_other : (m : ℕ) (us : Operand) (l : List ℕ) (w : ℕ) → All (λ (u : Term). u.wire ≡ w → ⊥) us → mask_at (pull_terms m us l) w ≡ mask_at l w
unfolding pull_terms
terms_other m [] l w done = refl
terms_other m (u ∷ us) l w (more h t) = terms_other m us (pull_term m u l) w t ∙ term_other m u l w h

terms_words : (m : ℕ) (us : Operand) (l : List ℕ) → m < 2 ^ 64 → All (Usable (length l)) us → Words l → Words (pull_terms m us l)
unfolding pull_terms
terms_words m [] l h done f = f
terms_words m (u ∷ us) l h (more k t) f =
    terms_words m us (pull_term m u l) h (subst (λ (n : ℕ). All (Usable n) us) (sym (term_length m u l)) t) (term_words m u l h k f)

terms_misses : (m : ℕ) (us : Operand) (l : List ℕ) (w y : ℕ) → y < 2 ^ 64 → All (Usable (length l)) us
    → bit_and y (mask_at (pull_terms m us l) w) ≡ 0 ↔ (bit_and y (mask_at l w) ≡ 0) × All (λ (u : Term). bit_and y (from_term m w u) ≡ 0) us
unfolding pull_terms
terms_misses m [] l w y b done = (λ z. (z, done), λ z. z.0)
terms_misses m (u ∷ us) l w y b (more k t) =
    let i = terms_misses m us (pull_term m u l) w y b (subst (λ (n : ℕ). All (Usable n) us) (sym (term_length m u l)) t) in
    let s = term_misses m u l w y b k.0 in (
      λ z. let x = i.0 z in let v = s.0 x.0 in (v.0, more v.1 x.1),
      λ z. step i s z.0 z.1,
    )
  where
    step : (bit_and y (mask_at (pull_terms m us (pull_term m u l)) w) ≡ 0 ↔ (bit_and y (mask_at (pull_term m u l) w) ≡ 0) × All (λ (v : Term). bit_and y (from_term m w v) ≡ 0) us)
        → (bit_and y (mask_at (pull_term m u l) w) ≡ 0 ↔ (bit_and y (mask_at l w) ≡ 0) × (bit_and y (from_term m w u) ≡ 0))
        → bit_and y (mask_at l w) ≡ 0 → All (λ (v : Term). bit_and y (from_term m w v) ≡ 0) (u ∷ us) → bit_and y (mask_at (pull_terms m us (pull_term m u l)) w) ≡ 0
    step i s z (more a c) = i.1 (s.1 (z, a), c)

-- ---- operands of which every bit gets in

module _ (old new : List ℕ) where
  pub operands_length : (hs l : List ℕ) → length (pull_operands old new hs l) ≡ length l
  unfolding pull_operands
  operands_length [] l = refl
  operands_length (h ∷ hs) l = operands_length hs (pull_terms ones (operand_of old new h) l) ∙ terms_length ones (operand_of old new h) l

  abbrev Usables : ℕ → List ℕ → Type 0
  Usables n hs = All (λ (h : ℕ). All (Usable n) (operand_of old new h)) hs

  pub operands_words : (hs l : List ℕ) → Usables (length l) hs → Words l → Words (pull_operands old new hs l)
  unfolding pull_operands
  operands_words [] l done f = f
  operands_words (h ∷ hs) l (more k t) f =
      operands_words hs (pull_terms ones (operand_of old new h) l) (subst (λ (n : ℕ). Usables n hs) (sym (terms_length ones (operand_of old new h) l)) t)
      (terms_words ones (operand_of old new h) l (lit< tt) k f)

  pub operands_misses : (hs l : List ℕ) (w y : ℕ) → y < 2 ^ 64 → Usables (length l) hs
      → bit_and y (mask_at (pull_operands old new hs l) w) ≡ 0 ↔ (bit_and y (mask_at l w) ≡ 0) × All (λ (h : ℕ). All (λ (u : Term). bit_and y (from_term ones w u) ≡ 0) (operand_of old new h)) hs
  unfolding pull_operands
  operands_misses [] l w y b done = (λ z. (z, done), λ z. z.0)
  operands_misses (h ∷ hs) l w y b (more k t) =
      let i = operands_misses hs (pull_terms ones (operand_of old new h) l) w y b (subst (λ (n : ℕ). Usables n hs) (sym (terms_length ones (operand_of old new h) l)) t) in
      let s = terms_misses ones (operand_of old new h) l w y b k in (
        λ z. let x = i.0 z in let v = s.0 x.0 in (v.0, more v.1 x.1),
        λ z. step i s z.0 z.1,
      )
    where
      step : (bit_and y (mask_at (pull_operands old new hs (pull_terms ones (operand_of old new h) l)) w) ≡ 0
          ↔ (bit_and y (mask_at (pull_terms ones (operand_of old new h) l) w) ≡ 0) × All (λ (g : ℕ). All (λ (u : Term). bit_and y (from_term ones w u) ≡ 0) (operand_of old new g)) hs)
          → (bit_and y (mask_at (pull_terms ones (operand_of old new h) l) w) ≡ 0 ↔ (bit_and y (mask_at l w) ≡ 0) × All (λ (u : Term). bit_and y (from_term ones w u) ≡ 0) (operand_of old new h))
          → bit_and y (mask_at l w) ≡ 0 → All (λ (g : ℕ). All (λ (u : Term). bit_and y (from_term ones w u) ≡ 0) (operand_of old new g)) (h ∷ hs)
          → bit_and y (mask_at (pull_operands old new hs (pull_terms ones (operand_of old new h) l)) w) ≡ 0
      step i s z (more a c) = i.1 (s.1 (z, a), c)

-- ---- definitions in an order

module _ (h : Held) (p : System) (m : ℕ) (once : Once p.linears) (small : All (λ (d : ℕ). d < m) (destinations p.linears)) (is : Holds h p)
    (n : ℕ) (usable : (d : ℕ) → d < length p.linears → All (Usable n) (rhs_at h d)) where
  abbrev table : List ℕ
  table = table_of m p

  abbrev Below : List ℕ → Type 0
  Below ds = (d : ℕ) → Memᴰ d ds → d < length p.linears

  link : (d x : ℕ) → x < length p.linears → (u : Term) → Memᴰ u (rhs_at h d) → u.wire ≡ dst_at h x → Link (rhs_at h) table d x
  link d x k u i q = (u, i, ap (λ (w : ℕ). get_or table w 0) (q ∙ is.dst_is x k) ∙ found-by p m once small x k)

  step_length : (x : ℕ) (l : List ℕ) → length (reach_step h x l) ≡ length l
  unfolding reach_step
  step_length x l = terms_length (taken h x l) (rhs_at h x) l

  from_length : (ds l : List ℕ) → length (reach_from h ds l) ≡ length l
  unfolding reach_from reach_step
  from_length [] l = refl
  from_length (x ∷ ds) l = from_length ds (reach_step h x l) ∙ terms_length (taken h x l) (rhs_at h x) l

  from_other : (ds l : List ℕ) (w : ℕ) → ((d : ℕ) → Memᴰ d ds → (u : Term) → Memᴰ u (rhs_at h d) → u.wire ≡ w → ⊥) → mask_at (reach_from h ds l) w ≡ mask_at l w
  unfolding reach_from reach_step
  from_other [] l w f = refl
  from_other (x ∷ ds) l w f =
      from_other ds (reach_step h x l) w (λ d k. f d (Memᴰ.tail k)) ∙ terms_other (taken h x l) (rhs_at h x) l w (all_members (rhs_at h x) (f x (Memᴰ.head refl)))

  taken_lt : (d : ℕ) (l : List ℕ) → Words l → taken h d l < 2 ^ 64
  taken_lt d l f = on_cond (λ (x : ℕ). x < 2 ^ 64) (committed_at h d) (λ e. lit< tt) (λ e. f (dst_at h d))

  pub from_words : (ds l : List ℕ) → Below ds → length l ≡ n → Words l → Words (reach_from h ds l)
  unfolding reach_from reach_step
  from_words [] l below k f = f
  from_words (x ∷ ds) l below k f =
      from_words ds (reach_step h x l) (λ d i. below d (Memᴰ.tail i)) (terms_length (taken h x l) (rhs_at h x) l ∙ k)
      (terms_words (taken h x l) (rhs_at h x) l (taken_lt x l f) (rw k (usable x (below x (Memᴰ.head refl)))) f)

  -- What a word misses in the end: what it missed before, and what each definition's terms take in of the definition's mask in the end.
  abbrev Takes : ℕ → ℕ → List ℕ → ℕ → Type 0
  Takes w y l d = All (λ (u : Term). bit_and y (from_term (taken h d l) w u) ≡ 0) (rhs_at h d)

  module _ (x : ℕ) (ds l : List ℕ) (o : Posted (rhs_at h) table ds) (fresh : Memᴰ x ds → ⊥) (all : (e : ℕ) → Link (rhs_at h) table x e → Memᴰ e ds)
      (below : Below (x ∷ ds)) (k : length l ≡ n) (w y : ℕ) (b : y < 2 ^ 64) where
    abbrev x_under : x < length p.linears
    x_under = below x (Memᴰ.head refl)

    abbrev last : List ℕ
    last = reach_from h ds (reach_step h x l)

    first : bit_and y (mask_at (reach_step h x l) w) ≡ 0 ↔ (bit_and y (mask_at l w) ≡ 0) × Takes w y l x
    unfolding reach_step
    first = terms_misses (taken h x l) (rhs_at h x) l w y b (rw k (usable x x_under))

    -- from its turn on the mask of x stays: no definition that is left names it, nor does x
    stays : mask_at last (dst_at h x) ≡ mask_at l (dst_at h x)
    unfolding reach_step
    stays =
        from_other ds (reach_step h x l) (dst_at h x) (λ d i u j q. fresh (links_in (rhs_at h) table ds o d x i (link d x x_under u j q)))
        ∙ terms_other (taken h x l) (rhs_at h x) l (dst_at h x) (all_members (rhs_at h x) (λ u j q. fresh (all x (link x x x_under u j q))))

    same : Takes w y last x ≡ Takes w y l x
    same = ap (λ (v : ℕ). All (λ (u : Term). bit_and y (from_term (cond (committed_at h x) ones v) w u) ≡ 0) (rhs_at h x)) stays

    each : Takes w y l x → ((d : ℕ) → Memᴰ d ds → Takes w y last d) → (d : ℕ) → Memᴰ d (x ∷ ds) → Takes w y last d
    each t f d (Memᴰ.head q) = subst (λ (e : ℕ). Takes w y last e) (sym q) (subst (λ (X : Type 0). X) (sym same) t)
    each t f d (Memᴰ.tail i) = f d i

    with_first : (bit_and y (mask_at last w) ≡ 0 ↔ (bit_and y (mask_at (reach_step h x l) w) ≡ 0) × ((d : ℕ) → Memᴰ d ds → Takes w y last d))
        → bit_and y (mask_at last w) ≡ 0 ↔ (bit_and y (mask_at l w) ≡ 0) × ((d : ℕ) → Memᴰ d (x ∷ ds) → Takes w y last d)
    with_first later = (
      λ z. let v = later.0 z in let t = first.0 v.0 in (t.0, each t.1 v.1),
      λ z. later.1 (first.1 (z.0, subst (λ (X : Type 0). X) same (z.1 x (Memᴰ.head refl))), λ d i. z.1 d (Memᴰ.tail i)),
    )

  pub from_misses : (ds l : List ℕ) → Posted (rhs_at h) table ds → Below ds → length l ≡ n → (w y : ℕ) → y < 2 ^ 64
      → bit_and y (mask_at (reach_from h ds l) w) ≡ 0 ↔ (bit_and y (mask_at l w) ≡ 0) × ((d : ℕ) → Memᴰ d ds → Takes w y (reach_from h ds l) d)
  unfolding reach_from
  from_misses [] l o below k w y b = (λ z. (z, λ d i. absurd (Memᴰ.not-nil i)), λ z. z.0)
  from_misses (x ∷ ds) l (O.more fresh all o) below k w y b =
      with_first x ds l o fresh all below k w y b (from_misses ds (reach_step h x l) o (λ d i. below d (Memᴰ.tail i)) (step_length x l ∙ k) w y b)
