-- Numbers and parts of the input, and stores place by place.
--
--   number_at b at        a number of four bytes, the low one first
--   part_of l b e         the places from b on and before e; none where they are not all there
--   counted x l           how many places have the number x
--   untouched_from l i    all places of l from i on have the number that stood there before the call
--   same_from a b i       the two are as long, and the same from i on
--   mixed, digest_of      the digest of numbers
--
-- The forms that end in `_by` say the same of places of any type, f giving the number at a place, and eq whether two places are the same.
--
-- Assumes nothing.
use Rattle.std.specs.Prelude.{ℕ, ◌+◌, ◌*◌, ◌%◌, Bool, cond, ◌&&◌, List, [], length, drop, ◌==◌, nat_le, slice_range}
use Rattle.std.specs.List.{count_by, list_all, fold}
use Rattle.std.specs.Cmp.Lexicographic.{pointwise}
use Rattle.house_file.specs.Decoding.{u16_at}

abbrev pub number_at : List ℕ → ℕ → ℕ
number_at b at = u16_at b at + 65536 * u16_at b (at + 2)

abbrev pub part_of : List ℕ → ℕ → ℕ → List ℕ
part_of l begin end = cond (nat_le begin end && nat_le end (length l)) (slice_range l begin end) []

abbrev pub counted_by : {A : Type 0} → (A → ℕ) → ℕ → List A → ℕ
counted_by f x l = count_by (λ y. f y == x) l

abbrev pub counted : ℕ → List ℕ → ℕ
counted x l = counted_by (λ y. y) x l

abbrev pub UNTOUCHED : ℕ
UNTOUCHED = 7

abbrev pub all_untouched_by : {A : Type 0} → (A → ℕ) → List A → Bool
all_untouched_by f l = list_all (λ y. f y == UNTOUCHED) l

abbrev pub untouched_by : {A : Type 0} → (A → ℕ) → List A → ℕ → Bool
untouched_by f l from = nat_le from (length l) && all_untouched_by f (drop from l)

abbrev pub untouched_from : List ℕ → ℕ → Bool
untouched_from l from = untouched_by (λ y. y) l from

abbrev pub same_by : {A : Type 0} → (A → A → Bool) → List A → List A → ℕ → Bool
same_by eq a b from = length a == length b && (nat_le from (length a) && pointwise eq (drop from a) (drop from b))

abbrev pub same_from : List ℕ → List ℕ → ℕ → Bool
same_from a b from = same_by (λ x y. x == y) a b from

abbrev pub mixed : ℕ → ℕ → ℕ
mixed digest x = (digest % 1000000007 * 31 + x % 1000000007) % 1000000007

abbrev pub digest_by : {A : Type 0} → (A → ℕ) → List A → ℕ → ℕ
digest_by f l start = fold (λ d y. mixed d (f y)) start l

abbrev pub digest_of : List ℕ → ℕ → ℕ
digest_of l start = digest_by (λ y. y) l start
