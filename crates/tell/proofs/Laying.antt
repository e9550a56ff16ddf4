-- Values laid one after the other. Assumes nothing.
use mathlib.Core.Path.{◌≡◌, sym, ap, ◌∙◌}
use mathlib.Core.List.{List}
use Prim.Native.Nat.{ℕ, ◌+◌, ◌≤◌, ◌<◌}
use native.Mathlib.Numerals.{add-one}
use lib.ListN.{length, get_or, set, drop, drop_of_length-le}
use Rattle.std.proofs.lemmas.List.Edits.{sets}
use Rattle.lower.proofs.Firsts.{drop_step}

pub lay_step : (l a : List ℕ) (i : ℕ) → i < length a → sets l i (drop i a) ≡ sets (set l i (get_or a i 0)) (i + 1) (drop (i + 1) a)
lay_step l a i h = ap (sets l i) (drop_step a i 0 h) ∙ ap (λ (k : ℕ). sets (set l i (get_or a i 0)) k (drop (i + 1) a)) (sym (add-one i))

pub lay_end : (l a : List ℕ) (i : ℕ) → length a ≤ i → sets l i (drop i a) ≡ l
lay_end l a i h = ap (sets l i) (drop_of_length-le a {i = i} h)
