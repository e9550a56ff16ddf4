-- The reader accepts a byte string exactly when it is a file of the format. Assumes nothing.
use mathlib.Core.Path.{◌≡◌, ap, sym, ◌∙◌}
use mathlib.Core.Logic.{◌↔◌}
use mathlib.Core.List.{List}
use Prim.Native.Nat.{ℕ, ◌<◌}
use lib.ListN.{length}
use Rattle.lower.specs.declared.Sizes.{Sizes}
use Rattle.lower.specs.Lists.{All}
use Rattle.lower.specs.Model.{terms_of}
use Rattle.std.specs.Prelude.{Ok}
use Rattle.house_file.specs.Format.{InFormat, system_from, sizes_in}
use Rattle.house_file.specs.Decoding.{entries_at}
use Rattle.house_file.specs.Reading.{read_of, total, file_read}
use Rattle.house_read.proofs.Tallies.{accepts}
use Rattle.house_read.proofs.Exact.{accepted_entries, accepted_file}

-- the bytes alone are not refused
pub record Accepts (s : List ℕ) : Type 0 where
  pub sizes : Sizes
  pub terms : ℕ
  pub is : read_of s ≡ Ok (file_read sizes terms)

pub exactly : (s : List ℕ) → All (λ (b : ℕ). b < 256) s → Accepts s ↔ InFormat s
exactly s b = (
  λ a. record {
    wires = a.sizes.wires;
    entries = entries_at s (total a.sizes) 5;
    sound = (accepted_entries s a.sizes a.terms a.is).sound;
    bytes_are = accepted_file s a.sizes a.terms a.is b;
  },
  λ f. record {
    sizes = sizes_in (system_from f.wires f.entries);
    terms = length (terms_of (system_from f.wires f.entries));
    is = ap read_of (sym f.bytes_are) ∙ (accepts f.wires f.entries f.sound).accepted;
  },
)
