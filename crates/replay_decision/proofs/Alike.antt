-- Two answers are alike where their numbers are, and an answer is no refusal where its number is 0. Assumes nothing.
use Rattle.std.proofs.Common.{◌≡◌, refl, sym, ap, Bool, true, false, eqb, ne_eqb, rules, Result, Ok, Err}
use Rattle.std.proofs.lemmas.Bool.{eqb-true, eqb-false}
use Rattle.std.specs.Result.{result_eq, is_ok}
use Rattle.std.specs.contracts.prelude.UnitPartialEq.TheImpl as U
use denote.Enum.Bare.{true_same, false_same}
use Rattle.refusal.specs.declared.Refusal.{Refusal}
use Rattle.refusal.specs.contracts.Refusal.{the_type}
use Rattle.refusal.specs.contracts.RefusalPartialEq.TheImpl as R
use Rattle.refusal.specs.Refusals.{number_of, fault_in}
use Rattle.lower.proofs.Refusals.{number_some, number_once}

refusals : (r s : Refusal) (b : Bool) → eqb (number_of r) (number_of s) ≡ b → (R.eq-value).it r s ≡ b
refusals r s true e = true_same the_type r s (number_once r s (eqb-true _ _ e))
refusals r s false e = false_same the_type (search rules) r s (λ p. eqb-false _ _ e (ap number_of p))

pub alike : (a b : Result (Unit {0}) Refusal) → result_eq (U.eq-value).it (R.eq-value).it a b ≡ eqb (fault_in a) (fault_in b)
alike (Ok x) (Ok y) = refl
alike (Ok x) (Err s) = sym (ne_eqb 0 (number_of s) (λ e. number_some s (sym e)))
alike (Err r) (Ok y) = sym (ne_eqb (number_of r) 0 (number_some r))
alike (Err r) (Err s) = refusals r s _ refl

pub ok_none : (a : Result (Unit {0}) Refusal) → is_ok a ≡ true → fault_in a ≡ 0
ok_none (Ok x) h = refl
ok_none (Err r) h = cc

pub err_some : (a : Result (Unit {0}) Refusal) → is_ok a ≡ false → fault_in a ≡ 0 → ⊥
err_some (Ok x) h = cc
err_some (Err r) h = number_some r
