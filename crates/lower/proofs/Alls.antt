-- What holds of each element of lists that are joined, mapped or put together. Assumes nothing.
use mathlib.Core.List.{List, [], ◌∷◌, map}
use Rattle.lower.specs.Lists.{All, done, more, joined}
use Rattle.lower.proofs.Laws.{all_left, all_right, all_both}

module _ {A : Type 0} where
  pub all_every : {P : A → Type 0} → ((x : A) → P x) → (l : List A) → All P l
  all_every f [] = done
  all_every f (x ∷ l) = more (f x) (all_every f l)

  pub all_zip : {P Q R : A → Type 0} → ((x : A) → P x → Q x → R x) → (l : List A) → All P l → All Q l → All R l
  all_zip f [] done done = done
  all_zip f (x ∷ l) (more p h) (more q k) = more (f x p q) (all_zip f l h k)

  pub all_join : (P : A → Type 0) (ls : List (List A)) → All (λ (l : List A). All P l) ls → All P (joined ls)
  all_join P [] done = done
  all_join P (l ∷ ls) (more p h) = all_both P p (all_join P ls h)

  pub all_unjoin : (P : A → Type 0) (ls : List (List A)) → All P (joined ls) → All (λ (l : List A). All P l) ls
  all_unjoin P [] h = done
  all_unjoin P (l ∷ ls) h = more (all_left P l (joined ls) h) (all_unjoin P ls (all_right P l (joined ls) h))

pub all_unmap : {A B : Type 0} (P : B → Type 0) (f : A → B) (l : List A) → All P (map f l) → All (λ (x : A). P (f x)) l
all_unmap P f [] h = done
all_unmap P f (x ∷ l) (more p h) = more p (all_unmap P f l h)
