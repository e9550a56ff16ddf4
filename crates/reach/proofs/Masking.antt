-- The masks that are made in an order of the definitions, each after those that it names, are what masks of expansions should be.
-- Assumes nothing.
use mathlib.Core.Path.{◌≡◌, refl, sym, ap, ◌∙◌, subst}
use Prim.Native.Nat.{ℕ, zero, suc, ◌/◌, ◌≤◌, ◌<◌}
use native.Mathlib.Omega.{arith}
use native.Mathlib.Decide.{dec_lt}
use mathlib.Core.Bool.{Bool, true, false, cond}
use mathlib.Core.List.Memᴰ
use mathlib.Core.List.{List, [], ◌∷◌, Memᴰ}
use mathlib.Core.Option.{Option, none, some}
use lib.Dec.{eqb}
use lib.ListN.{length, get_or, set, replicate, length-set, length-replicate, get_or-replicate}
use lib.Seq.{get_or-set_same, get_or-set_other}
use Rattle.shift.proofs.Composes.{on_cond}
use Rattle.operand.specs.Numbers.{Term, Operand}
use Rattle.alive.specs.Masks.{ones}
use Rattle.lower.specs.Lists.{All, done, more}
use Rattle.lower.specs.Model.{System, destinations}
use Rattle.lower.specs.Accepted.{Once}
use Rattle.legraph.specs.Uses.{dst_of, rhs_of}
use Rattle.legraph.specs.Orders as O
use Rattle.legraph.specs.Orders.{Link, Posted}
use Rattle.legraph.proofs.Walking.{links_in}
use Rattle.legraph.proofs.Listing.{table_of, found_at, found-by}
use Rattle.commit_set.specs.declared.CommitSetCx.{CommitSetCx}
use Rattle.commit_set.specs.declared.Decision.{Decision}
use Rattle.commit_set.specs.declared.Decision.TheVariants.{Commit, Inline}
use Rattle.commit_set.specs.Numbers.{context_at, decision_at, state_at}
use Rattle.commit_set.specs.Paths.{committed}
use Rattle.commit_set.proofs.Members.{all_at}
use Rattle.patch.specs.Patch.{commit_set, inlined}
use Rattle.patch.proofs.Parts.{lost, clash, all_members}
use Rattle.patch.proofs.Chains.{inlined_defined}
use Rattle.patch.proofs.Definitions.{stands, inlined_uncommitted}
use Rattle.reach.specs.Alive.{or_all, through, IsAlive}
use Rattle.reach.specs.Steps.{Held, rhs_at, dst_at, committed_at, mask_at, alive_step, alive_from}

-- ---- places of a list

pub get_d_any : (l : List ℕ) (i a b : ℕ) → i < length l → get_or l i a ≡ get_or l i b
get_d_any [] i a b h = absurd (omega arith)
get_d_any (x ∷ xs) zero a b h = refl
get_d_any (x ∷ xs) (suc i) a b h = get_d_any xs i a b (omega arith)

get_d_none : (l : List ℕ) (i a : ℕ) → length l ≤ i → get_or l i a ≡ a
get_d_none [] i a h = refl
get_d_none (x ∷ xs) zero a h = absurd (omega arith)
get_d_none (x ∷ xs) (suc i) a h = get_d_none xs i a (omega arith)

-- 0 is the number of a decision to commit
pub committed-number : (n : ℕ) → committed (decision_at n) ≡ eqb n 0
unfolding decision_at
committed-number n = go (eqb n 0) (context_at (n / 2))
  where
    go : (b : Bool) (x : CommitSetCx) → committed (cond b Commit (Inline x)) ≡ b
    go true x = refl
    go false x = refl

-- the store keeps its length
pub alive_length : (h : Held) (ds l : List ℕ) → length (alive_from h ds l) ≡ length l
unfolding alive_from alive_step
alive_length h [] l = refl
alive_length h (d ∷ ds) l =
    on_cond (λ (k : List ℕ). length k ≡ length l) (committed_at h d) (λ e. alive_length h ds l)
    (λ e. length-set (alive_from h ds l) (dst_at h d) (or_all (through (mask_at (alive_from h ds l))) (rhs_at h d)) ∙ alive_length h ds l)

-- the stores hold the definitions of the system
pub record Holds (h : Held) (p : System) : Type 0 where
  pub rhs_is : (d : ℕ) → d < length p.linears → rhs_at h d ≡ rhs_of p d
  pub dst_is : (d : ℕ) → d < length p.linears → dst_at h d ≡ dst_of p d

module _ (h : Held) (p : System) (m : ℕ) (once : Once p.linears) (small : All (λ (d : ℕ). d < m) (destinations p.linears)) (is : Holds h p) where
  abbrev table : List ℕ
  table = table_of m p

  abbrev st : ℕ → Decision
  st = state_at h.decisions

  abbrev D : ℕ → Option Operand
  D = inlined p (commit_set p st)

  -- a definition is the one of its wire
  pub one_only : (d e : ℕ) → d < length p.linears → e < length p.linears → dst_of p d ≡ dst_of p e → d ≡ e
  one_only d e k l q =
      let z : suc d ≡ suc e = sym (found-by p m once small d k) ∙ ap (λ (w : ℕ). get_or table w 0) q ∙ found-by p m once small e l in
      omega arith

  -- what is decided of its wire
  pub decided_of : (d : ℕ) → d < length p.linears → commit_set p st (dst_of p d) ≡ committed_at h d
  decided_of d l =
      let f = stands p st (dst_of p d) (rhs_of p d) (found_at p m once small (dst_of p d) d (found-by p m once small d l)).right in
      let q : f.0 ≡ d = one_only f.0 d f.1.under l (sym f.1.wire) in
      f.1.decided ∙ committed-number (get_or h.decisions f.0 0) ∙ ap (committed_at h) q

  -- an uncommitted definition is put in the place of its wire
  pub put_at : (d : ℕ) → d < length p.linears → committed_at h d ≡ false → D (dst_of p d) ≡ some (rhs_of p d)
  unfolding inlined
  put_at d l e = rw (decided_of d l ∙ e) (found_at p m once small (dst_of p d) d (found-by p m once small d l)).right

  -- and nothing else is
  pub record At (w : ℕ) (rhs : Operand) : Type 0 where
    pub number : ℕ
    pub under : number < length p.linears
    pub wire : w ≡ dst_of p number
    pub right : rhs_of p number ≡ rhs
    pub uncommitted : committed_at h number ≡ false

  pub put_from : (w : ℕ) (rhs : Operand) → D w ≡ some rhs → At w rhs
  put_from w rhs e =
      let f = stands p st w rhs (inlined_defined p (commit_set p st) w rhs e) in
      record {
        number = f.0;
        under = f.1.under;
        wire = f.1.wire;
        right = f.1.right;
        uncommitted = sym (committed-number (get_or h.decisions f.0 0)) ∙ sym f.1.decided ∙ inlined_uncommitted p (commit_set p st) w rhs e;
      }

  or_same : (a b : ℕ → ℕ) (rhs : Operand) → ((u : Term) → Memᴰ u rhs → a u.wire ≡ b u.wire) → or_all (through a) rhs ≡ or_all (through b) rhs
  or_same a b rhs f = go (all_members rhs f)
    where
      go : {l : Operand} → All (λ (u : Term). a u.wire ≡ b u.wire) l → or_all (through a) l ≡ or_all (through b) l
      go done = refl
      go (more k t) = rw (k, go t)

  module _ (n : ℕ) (places : (d : ℕ) → d < length p.linears → dst_of p d < n) where
    -- ---- the store after some definitions

    record Made (ds l : List ℕ) : Type 0 where
      long : length l ≡ n
      standing : (w : ℕ) → w < n → ((d : ℕ) → Memᴰ d ds → committed_at h d ≡ false → dst_of p d ≡ w → ⊥) → mask_at l w ≡ ones
      opened : (d : ℕ) → Memᴰ d ds → committed_at h d ≡ false → mask_at l (dst_of p d) ≡ or_all (through (mask_at l)) (rhs_of p d)

    made_none : Made [] (replicate n ones)
    made_none = record {
      long = length-replicate n ones;
      standing = λ w b f. get_or-replicate n w ones 0 b;
      opened = λ d k. absurd (Memᴰ.not-nil k);
    }

    module _ (x : ℕ) (ds l : List ℕ) (o : Posted (rhs_at h) table ds) (fresh : Memᴰ x ds → ⊥) (all : (e : ℕ) → Link (rhs_at h) table x e → Memᴰ e ds)
        (under : (d : ℕ) → Memᴰ d (x ∷ ds) → d < length p.linears) (made : Made ds l) where
      abbrev x_under : x < length p.linears
      x_under = under x (Memᴰ.head refl)

      -- a term that names the wire of x stands in no definition that is made, nor in x
      link : (d : ℕ) → d < length p.linears → (u : Term) → Memᴰ u (rhs_of p d) → u.wire ≡ dst_of p x → Link (rhs_at h) table d x
      link d k u i q = (u, subst (Memᴰ u) (sym (is.rhs_is d k)) i, ap (λ (w : ℕ). get_or table w 0) q ∙ found-by p m once small x x_under)

      committed-made : committed_at h x ≡ true → Made (x ∷ ds) l
      committed-made e = record { long = made.long; standing = λ w b f. made.standing w b (λ d k. f d (Memᴰ.tail k)); opened = λ d k c. go d k c }
        where
          go : (d : ℕ) → Memᴰ d (x ∷ ds) → committed_at h d ≡ false → mask_at l (dst_of p d) ≡ or_all (through (mask_at l)) (rhs_of p d)
          go d (Memᴰ.head q) c = absurd (clash e (ap (committed_at h) (sym q) ∙ c))
          go d (Memᴰ.tail k) c = made.opened d k c

      abbrev mask : ℕ
      mask = or_all (through (mask_at l)) (rhs_of p x)

      abbrev l2 : List ℕ
      l2 = set l (dst_of p x) mask

      kept : (w : ℕ) → (w ≡ dst_of p x → ⊥) → mask_at l2 w ≡ mask_at l w
      kept w f = get_or-set_other l (dst_of p x) w mask 0 f

      open_made : committed_at h x ≡ false → Made (x ∷ ds) l2
      open_made e = record {
        long = length-set l (dst_of p x) mask ∙ made.long;
        standing = λ w b f. kept w (λ q. f x (Memᴰ.head refl) e (sym q)) ∙ made.standing w b (λ d k. f d (Memᴰ.tail k));
        opened = λ d k c. go d k c;
      }
        where
          here : mask_at l2 (dst_of p x) ≡ or_all (through (mask_at l2)) (rhs_of p x)
          here =
              get_or-set_same l (dst_of p x) mask 0 (omega (arith, made.long, places x x_under))
              ∙ or_same (mask_at l) (mask_at l2) (rhs_of p x) (λ u i. sym (kept u.wire (λ q. fresh (all x (link x x_under u i q)))))

          go : (d : ℕ) → Memᴰ d (x ∷ ds) → committed_at h d ≡ false → mask_at l2 (dst_of p d) ≡ or_all (through (mask_at l2)) (rhs_of p d)
          go d (Memᴰ.head q) c = rw q here
          go d (Memᴰ.tail k) c =
              let b = under d (Memᴰ.tail k) in
              kept (dst_of p d) (λ q. fresh (subst (λ (y : ℕ). Memᴰ y ds) (one_only d x b x_under q) k))
              ∙ made.opened d k c
              ∙ or_same (mask_at l) (mask_at l2) (rhs_of p d) (λ u i. sym (kept u.wire (λ q. fresh (links_in (rhs_at h) table ds o d x k (link d b u i q)))))

      step_made : Made (x ∷ ds) (alive_step h x l)
      unfolding alive_step
      step_made =
          rw (is.rhs_is x x_under, is.dst_is x x_under)
          (on_cond (λ (k : List ℕ). Made (x ∷ ds) k) (committed_at h x) committed-made open_made)

    made_from_lem : (ds : List ℕ) → Posted (rhs_at h) table ds → ((d : ℕ) → Memᴰ d ds → d < length p.linears) → Made ds (alive_from h ds (replicate n ones))
    unfolding alive_from
    made_from_lem [] o under = made_none
    made_from_lem (x ∷ ds) (O.more fresh all o) under = step_made x ds (alive_from h ds (replicate n ones)) o fresh all under (made_from_lem ds o (λ d k. under d (Memᴰ.tail k)))

    -- THE THEOREM. Where an order has every definition, the store ends with the masks of all wires.
    module _ (named : (d : ℕ) → d < length p.linears → All (λ (u : Term). u.wire < n) (rhs_of p d))
        (ds : List ℕ) (o : Posted (rhs_at h) table ds) (under : (d : ℕ) → Memᴰ d ds → d < length p.linears)
        (whole : (d : ℕ) → d < length p.linears → Memᴰ d ds) where
      abbrev final : List ℕ
      final = alive_from h ds (replicate n ones)

      made : Made ds final
      made = made_from_lem ds o under

      -- past the store nothing is defined
      in_range : (w : ℕ) → w < n → get_or final w ones ≡ mask_at final w
      in_range w b = get_d_any final w ones 0 (omega (arith, made.long))

      out_of_range : (w : ℕ) → n ≤ w → get_or final w ones ≡ ones
      out_of_range w b = get_d_none final w ones (omega (arith, made.long))

      pub masks_alive : IsAlive D (λ w. get_or final w ones)
      masks_alive = record { alive_stands = stood; alive_opens = opens }
        where
          stood : (w : ℕ) → D w ≡ none → get_or final w ones ≡ ones
          stood w e = elim (dec_lt w n) [
            | yes b ↦ in_range w b ∙ made.standing w b (λ d k c q. lost (put_at d (under d k) c) (ap D q ∙ e))
            | no b ↦ out_of_range w (omega arith)
          ]

          opens : (w : ℕ) (rhs : Operand) → D w ≡ some rhs → get_or final w ones ≡ or_all (through (λ v. get_or final v ones)) rhs
          opens w rhs e =
              let a = put_from w rhs e in
              ap (λ (v : ℕ). get_or final v ones) a.wire
              ∙ in_range (dst_of p a.number) (places a.number a.under)
              ∙ made.opened a.number (whole a.number a.under) a.uncommitted
              ∙ or_same (mask_at final) (λ v. get_or final v ones) (rhs_of p a.number)
              (λ u i. sym (in_range u.wire (all_at (λ (t : Term). t.wire < n) (rhs_of p a.number) u (named a.number a.under) i)))
              ∙ ap (or_all (through (λ v. get_or final v ones))) a.right
