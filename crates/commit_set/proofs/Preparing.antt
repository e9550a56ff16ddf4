-- What the program makes of a system in stores is what deciding needs. Assumes nothing.
use mathlib.Core.Path.{◌≡◌, sym, ap, ◌∙◌, subst}
use Prim.Native.Nat.{ℕ, zero, suc, ◌+◌, ◌≤◌, ◌<◌}
use mathlib.Core.List.{List, [], ◌∷◌, ◌++◌, map, Memᴰ}
use mathlib.Core.Bool.{false}
use native.Mathlib.Omega.{arith}
use lib.ListN.{length, get_or, take, replicate, length-replicate, length-append}
use Rattle.shift.proofs.Numbers.{valid-low}
use Rattle.operand.specs.Numbers.{Term, Operand}
use Rattle.lower.specs.declared.Sizes.{Sizes}
use Rattle.lower.specs.Lists.{All, joined}
use Rattle.lower.specs.Model.{Definition, System, row_operands, definition_operands, terms_of}
use Rattle.lower.specs.Accepted.{Once, ShiftsOf}
use Rattle.lower.specs.Stores.{Stores, system_of, Placed}
use Rattle.lower.specs.Faults.{memory_fault}
use Rattle.lower.proofs.Laws.{all_imp, terms_model}
use Rattle.lower.proofs.Checks.{checked, placed, memory_places, memory_terms, memory_definitions}
use Rattle.lower.proofs.Explains.{standing_right}
use Rattle.legraph.specs.Uses.{no_definition, uses_of, dst_of, rhs_of}
use Rattle.legraph.specs.Tables.{numbered, graph, note_all}
use Rattle.legraph.proofs.Listing.{Listed, Holds, table_of, uses_right}
use Rattle.legraph.proofs.Theorem.{count, small, rhs_same, table_made, all_there}
use Rattle.commit_set.specs.Answer.{Solution}
use Rattle.commit_set.specs.Orders.{InOrder}
use Rattle.commit_set.specs.Steps.{held, decided_from, Ready}
use Rattle.commit_set.proofs.Deciding.{Prepared, ready_solution}

rhs_part : (ds : List Definition) (d : ℕ) → length (get_or ds d no_definition).rhs ≤ length (joined (map (λ (x : Definition). x.rhs) ds))
rhs_part [] d = omega arith
rhs_part (x ∷ ds) zero = omega (arith, length-append x.rhs (joined (map (λ (y : Definition). y.rhs) ds)))
rhs_part (x ∷ ds) (suc d) = omega (arith, length-append x.rhs (joined (map (λ (y : Definition). y.rhs) ds)), rhs_part ds d)

joined_length : (a b : List Operand) → length (joined (a ++ b)) ≡ length (joined a) + length (joined b)
joined_length [] b = omega arith
joined_length (o ∷ a) b = omega (arith, length-append o (joined (a ++ b)), length-append o (joined a), joined_length a b)

module _ (z : Sizes) (s : Stores) (e : memory_fault 8192 z s ≡ 0) (once : Once (system_of z s).linears) where
  abbrev p : System
  p = system_of z s

  there : Placed z s
  there = placed z s (checked z s (memory_places 8192 z s e))

  few : length (terms_of p) ≤ 8192
  few = omega (arith, terms_model z s there, memory_terms 8192 z s e)

  shifts : All (λ (t : Term). t.inner < 65536) (terms_of p)
  shifts = all_imp (λ t (h : ShiftsOf t). omega (arith, valid-low t.inner h.0)) (terms_of p) ((standing_right 8192 z s).0 e).0.2

  graphed : Listed p (replicate 8192 0) (note_all (table_of 4096 p) p (graph (replicate 1024 0) (replicate 8192 0) 0))
  graphed =
      uses_right p 4096 once (small z s e) 1024 (replicate 8192 0) (omega (arith, count z s e, memory_definitions 8192 z s e)) (omega (arith, count z s e, memory_definitions 8192 z s e)) shifts
      (omega (arith, few, length-replicate {A = ℕ} 8192 0))

  rhs_few : (d : ℕ) → length (rhs_of p d) ≤ 8192
  unfolding definition_operands
  rhs_few d = omega (arith, rhs_part p.linears d, joined_length (row_operands p) (definition_operands p), few)

  -- the graph that the program has made
  prepared : (first us : List ℕ) (n : ℕ) → length first ≡ 1024 → length us ≡ 8192 → graph first us n ≡ note_all (table_of 4096 p) p (graph (replicate 1024 0) (replicate 8192 0) 0)
      → Prepared p (held s.old s.new s.rhss first us)
  prepared first us n a b made =
      let g : Holds (length p.linears) (λ d. uses_of p (dst_of p d)) (graph first us n) = subst (Holds (length p.linears) (λ d. uses_of p (dst_of p d))) (sym made) graphed.holds in
      record {
        lists = λ d k. g.lists d k (get_or first d 0) (omega arith);
        linked = λ d. record { inside = omega (arith, g.heads d, g.linked.inside); falls = λ i h. g.linked.falls i (omega (arith, h, g.heads d)) };
        few_uses = λ d. omega (arith, g.heads d, g.linked.inside, b);
        firsts = omega (arith, a, count z s e, memory_definitions 8192 z s e);
        rhs = rhs_same z s e;
        few_terms = λ d k. omega (arith, rhs_few d);
        right_sides = omega (arith, there.rhss_there, count z s e);
        stand = λ d k. (all_there z s e d (omega (arith, k, count z s e))).2;
      }

  -- all that is to be decided is ready, and what is decided solves
  pub ready_made : (slots : ℕ) (first us table : List ℕ) (n : ℕ) (order l : List ℕ) → length first ≡ length (replicate {A = ℕ} 1024 0) → length us ≡ length (replicate {A = ℕ} 8192 0)
      → table ≡ numbered 0 (take z.linears s.dsts) (replicate 4096 0)
      → graph first us n ≡ note_all table p (graph (replicate 1024 0) (replicate 8192 0) 0)
      → InOrder p (λ d. false) order
      → ((d : ℕ) → Memᴰ d order → d < z.linears) × (length order < 65536) × (z.linears ≤ length l)
      → Ready slots (held s.old s.new s.rhss first us) order l × Solution slots p l (decided_from slots (held s.old s.new s.rhss first us) order l)
  ready_made slots first us table n order l a b t made o within =
      let k = count z s e in
      ready_solution slots p (held s.old s.new s.rhss first us)
      (prepared first us n (a ∙ length-replicate {A = ℕ} 1024 0) (b ∙ length-replicate {A = ℕ} 8192 0) (made ∙ ap (λ (x : List ℕ). note_all x p (graph (replicate 1024 0) (replicate 8192 0) 0)) (t ∙ table_made z s e)))
      l (omega (arith, k, within.2)) order o (λ d m. omega (arith, k, within.0 d m)) (omega (arith, within.1))
