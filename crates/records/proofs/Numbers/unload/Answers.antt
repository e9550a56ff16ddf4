-- One more number of each kind. Assumes nothing.
use Prim.Native.Nat.{min}
use Rattle.std.proofs.Common.{◌≡◌, ℕ, ◌+◌, List, length, get_or, refl, ap, ◌∙◌, arith}
use lib.ListN.{set, get_or-map, length-map}
use Rattle.records.specs.Records.{dsts_of, rhss_of, numbers_of}
use Rattle.records.specs.declared.Definition.{Definition}
use Rattle.records.specs.declared.Numbers.{Numbers}
use Rattle.records.proofs.Laws.{none, front_more}
use Rattle.records.proofs.Unloaded.{blank_length}
use Rattle.records.proofs.Numbers.unload.Goals as goal

abbrev dst_of : Definition → ℕ
dst_of d = d.dst

abbrev rhs_of : Definition → ℕ
rhs_of d = d.rhs

pub loop-k-init : goal.loop-k-init
loop-k-init c = record { dsts_are = ap (λ (n : Numbers). n.dsts) c.requires; rhss_are = ap (λ (n : Numbers). n.rhss) c.requires }

pub loop-k-preserved : goal.loop-k-preserved
loop-k-preserved c =
    let ys = c.args.defs.now in
    let k = c.loop-k.k in
    record {
      dsts_are =
          ap (λ (l : List ℕ). set l k (get_or ys k none).dst) c.loop-k.invariant.dsts_are
          ∙ front_more _ (dsts_of ys) k (k + 1) (get_or ys k none).dst (omega (arith, length-map ys dst_of)) (get_or-map dst_of ys k none) refl;
      rhss_are =
          ap (λ (l : List ℕ). set l k (get_or ys k none).rhs) c.loop-k.invariant.rhss_are
          ∙ front_more _ (rhss_of ys) k (k + 1) (get_or ys k none).rhs (omega (arith, length-map ys rhs_of)) (get_or-map rhs_of ys k none) refl;
    }

pub returns-clause-are : goal.returns-clause-are
unfolding numbers_of
returns-clause-are c =
    let m : c.min-len.result ≡ min (length c.args.defs.now) 1024 = omega arith in
    let e : c.loop-k.k ≡ c.min-len.result = omega arith in
    rw (← m, ← e, ← c.loop-k.invariant.dsts_are, ← c.loop-k.invariant.rhss_are)

pub returns-clause-stand : goal.returns-clause-stand
returns-clause-stand c =
    record {
      dsts_there = omega (arith, c.min-len.ensures, ap length c.loop-k.invariant.dsts_are, blank_length (dsts_of c.args.defs.now) c.loop-k.k);
      rhss_there = omega (arith, c.min-len.ensures, ap length c.loop-k.invariant.rhss_are, blank_length (rhss_of c.args.defs.now) c.loop-k.k);
    }
