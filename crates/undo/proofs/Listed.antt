-- Demand 3 over lists of words, from demand 3 over functions of a wire. Assumes nothing.
use mathlib.Core.Path.{◌≡◌, refl, sym, ap, ◌∙◌, fun_ext}
use mathlib.Core.Bool.{Bool}
use mathlib.Core.List.{List, [], ◌∷◌, ◌++◌, map, map-append}
use mathlib.Core.Option.{none}
use Prim.Native.Nat.{ℕ, zero, suc, ◌≤◌, ◌<◌}
use native.Mathlib.Omega.{arith}
use native.Mathlib.Decide.{dec_lt}
use lib.Dec.{lit<}
use lib.ListN.{length, get_or, length-append, length-map, get_or-eq_default, get_or-append}
use lib.Seq.{ext_get_or, get_or_at}
use Rattle.lower.specs.Lists.{All, done, more}
use Rattle.lower.specs.Model.{Definition, System}
use Rattle.lower.specs.Values.{word_of}
use Rattle.lower.specs.Accepted.{Accepted}
use Rattle.patch.specs.Lists.{up_to}
use Rattle.patch.specs.Patch.{inlined, depth}
use Rattle.patch.proofs.Parts.{Found, absent, present, found, all_mapped, all_up_to}
use Rattle.patch.proofs.Chains.{inlined_defined}
use Rattle.patch.proofs.Definitions.{of_looked_up}
use Rattle.undo.specs.FillBack.{IsWord, fill_back, FilledBack, filled_list}
use Rattle.undo.specs.Demand3.{Undone, Demand3}
use Rattle.undo.proofs.Filling.{fill_word}
use Rattle.undo.proofs.Undo.{filling, one_filling}

pub up_to-length : (n : ℕ) → length (up_to n) ≡ n
up_to-length zero = refl
up_to-length (suc n) = length-append (up_to n) (n ∷ []) ∙ omega (arith, up_to-length n)

-- element i of f 0, f 1, .., f (n - 1)
pub tabled_at : {A : Type 0} (f : ℕ → A) (d : A) (n i : ℕ) → i < n → get_or (map f (up_to n)) i d ≡ f i
tabled_at f d zero i h = absurd (omega arith)
tabled_at {A} f d (suc n) i h = rw (map-append f (up_to n) (n ∷ [])) (step (λ k. tabled_at f d n i k) (dec_lt i n))
  where
    len : length (map f (up_to n)) ≡ n
    len = length-map (up_to n) f ∙ up_to-length n

    step : (i < n → get_or (map f (up_to n)) i d ≡ f i) → Dec (i < n) → get_or (map f (up_to n) ++ (f n ∷ [])) i d ≡ f i
    step onward (yes k) = get_or-append (map f (up_to n)) (f n ∷ []) d i (rw len k) ∙ onward k
    step onward (no k) = let e : i ≡ n = omega arith in rw e (get_or_at (map f (up_to n)) (f n) [] d n len)

pub words_of : {w : List ℕ} → All IsWord w → (i : ℕ) → IsWord (word_of w i)
words_of done i = lit< tt
words_of (more h t) zero = h
words_of (more h t) (suc i) = words_of t i

module _ (p : System) (c : ℕ → Bool) (acc : Accepted p) where
  -- no wire past the count is inlined
  pub beyond : (i : ℕ) → p.wires ≤ i → inlined p c i ≡ none
  beyond i b = step (found (inlined p c i))
    where
      step : Found (inlined p c i) → inlined p c i ≡ none
      step (absent e) = e
      step (present rhs e) =
          let k : i < p.wires = of_looked_up {P = λ (d : Definition). d.dst < p.wires} acc.named.destinations_named i rhs (inlined_defined p c i rhs e) in absurd (omega arith)

  pub filled-length : (w : List ℕ) → length (filled_list p c w) ≡ p.wires
  unfolding filled_list
  filled-length w = length-map (up_to p.wires) _ ∙ up_to-length p.wires

  -- the list that filling back gives, read as a function, is filling back
  pub listed : (w : List ℕ) → length w ≡ p.wires → word_of (filled_list p c w) ≡ fill_back p c (word_of w)
  unfolding filled_list
  listed w long = fun_ext (λ i. step i (dec_lt i p.wires))
    where
      f : ℕ → ℕ
      f = fill_back p c (word_of w)

      step : (i : ℕ) → Dec (i < p.wires) → word_of (filled_list p c w) i ≡ fill_back p c (word_of w) i
      step i (yes b) = tabled_at (fill_back p c (word_of w)) 0 p.wires i b
      step i (no b) =
          get_or-eq_default (filled_list p c w) 0 (rw (filled-length w) (omega arith))
          ∙ sym (get_or-eq_default w 0 (rw long (omega arith)))
          ∙ sym ((filling p c acc (word_of w)).others i (beyond i (omega arith)))

  -- no other list of words is filled back
  pub one_list : (w v : List ℕ) → length w ≡ p.wires → length v ≡ p.wires → FilledBack p c w v → v ≡ filled_list p c w
  one_list w v lw lv fb =
      ext_get_or 0 v (filled_list p c w) (lv ∙ sym (filled-length w)) λ i b.
      one_filling p c acc (word_of w) (word_of v) fb i ∙ sym (ap (λ (f : ℕ → ℕ). f i) (listed w lw))

  pub filled-back : (w : List ℕ) → length w ≡ p.wires → FilledBack p c w (filled_list p c w)
  filled-back w lw = rw (listed w lw) (filling p c acc (word_of w))

  pub filled_words : (w : List ℕ) → All IsWord w → All IsWord (filled_list p c w)
  unfolding filled_list fill_back
  filled_words w h = all_mapped (fill_back p c (word_of w)) (all_up_to p.wires (λ i b. fill_word (inlined p c) (word_of w) (words_of h) (depth p c) i))

  module _ (Imul Bmul : List ℕ → Type 0) (u : Undone p c Imul Bmul) where
    pub demand_3 : Demand3 p c Imul Bmul
    demand_3 =
        record {
          vanished = u.vanished;
          fills = λ w a. (record { as_long = filled-length w; all_words = filled_words w a.all_words }, filled-back w a.as_long);
          one_filling = λ w v a lv fb. one_list w v a.as_long lv fb;
          exactly = λ w a. u.exactly (word_of w) (word_of (filled_list p c w)) (words_of a.all_words) (filled-back w a.as_long);
          no_other = λ w v a lv o h. one_list w v a.as_long lv (u.no_other (word_of w) (word_of v) o h);
          still = λ w a h. u.still (word_of w) (words_of a.all_words) h;
          returns = λ w v a b h o. sym (one_list v w b.as_long a.as_long (u.no_other (word_of v) (word_of w) (λ i e. sym (o i e)) h));
        }
