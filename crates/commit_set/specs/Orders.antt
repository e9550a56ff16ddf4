-- Orders of the definitions (01, "The decision": "A definition is decided after all its uses").
--
--   Ranked p rank        a definition that names another has the lower rank
--   put f d a            f, but a at d
--   take_all_lem slots p      the definitions decided one after the other, in the order of a list
--   InOrder p done ds    ds takes each definition that is not done once, after all that name it, and leaves none
--   place_of ds d         how many stand before d in ds
--
-- Assumes nothing.
use Rattle.std.specs.Prelude.{◌≡◌, ℕ, suc, ◌<◌, Bool, true, false, cond, List, [], ◌∷◌, eqb, length}
use Rattle.lower.specs.Model.{System}
use Rattle.legraph.specs.Uses.{names}
use Rattle.commit_set.specs.declared.Decision.{Decision}
use Rattle.commit_set.specs.Decision.{decide_at}

abbrev pub Ranked : System → (ℕ → ℕ) → Type 0
Ranked p rank = (e d : ℕ) → e < length p.linears → d < length p.linears → names p e d ≡ true → rank e < rank d

abbrev pub put : {A : Type 0} → (ℕ → A) → ℕ → A → ℕ → A
put f d a e = cond (eqb e d) a (f e)

unfoldable pub take_all_lem : ℕ → System → (ℕ → Decision) → List ℕ → ℕ → Decision
take_all_lem slots p st [] = st
take_all_lem slots p st (d ∷ ds) = take_all_lem slots p (put st d (decide_at slots p st d)) ds

unfoldable pub InOrder : System → (ℕ → Bool) → List ℕ → Type 0
InOrder p done [] = (d : ℕ) → d < length p.linears → done d ≡ true
InOrder p done (d ∷ ds) =
    (done d ≡ false) × ((e : ℕ) → e < length p.linears → names p e d ≡ true → done e ≡ true) × InOrder p (put done d true) ds

unfoldable pub place_of : List ℕ → ℕ → ℕ
place_of [] d = 0
place_of (x ∷ xs) d = cond (eqb d x) 0 (suc (place_of xs d))
