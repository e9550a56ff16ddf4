-- The first pass gives the answer, 12 comes after it, and only an answer reaches the second pass. Assumes nothing.
use Rattle.std.proofs.lemmas.Result.{err_from_is_err_and}
use Rattle.house_read.proofs.Answers.{read_fits, room_done, room_short, room_refused, answer_tells}
use Rattle.house_fill.specs.Layout.{terms_laid, list_laid, destinations_laid}
use lib.ListN.{length}
use Rattle.std.specs.Prelude.{Ok, Err}
use Rattle.refusal.specs.declared.Refusal.TheVariants.{Room}
use mathlib.Core.Path.{refl, sym, ◌∙◌}
use Rattle.house_read.proofs.read.Goals as goal

-- the first pass found no fault, so the answer fits
pub has_room-requires : goal.has_room-requires
has_room-requires c = read_fits c.args.input.now _ (sym c.in_ok-seen.ensures)

pub fields-n-requires : goal.fields-n-requires
fields-n-requires c = read_fits c.args.input.now _ (sym c.in_ok-seen.ensures)

pub returns-then-has_room : goal.returns-then-has_room
returns-then-has_room c =
    let e = room_done _ _ _ _ _ _ _ _ (sym c.in_ok-seen.ensures) (sym c.has_room.ensures ∙ c.if-has_room.true) in
    record { answer = e; tells = answer_tells _ _ _ _ _ _ _ _ (Ok c.in_ok-seen.seen) _ e; filled = rw c.fields-n.ensures.0 at c.fill.ensures }

pub returns-in_err-seen : goal.returns-in_err-seen
unfolding terms_laid list_laid destinations_laid
returns-in_err-seen c =
    let p = err_from_is_err_and c.from_residual.result c.from_residual.ensures.1 in
    let e = room_refused _ _ _ _ _ _ _ _ (sym c.in_err-seen.ensures) in
    rw (p.1, p.2) (record {
      answer = e;
      tells = answer_tells _ _ _ _ _ _ _ _ (Err c.in_err-seen.field-0.0) _ e;
      filled = record { terms_are = refl; ands_are = refl; imuls_are = refl; bmuls_are = refl; zeros_are = refl; dsts_are = refl; rhss_are = refl };
    })

pub returns-else-has_room : goal.returns-else-has_room
unfolding terms_laid list_laid destinations_laid
returns-else-has_room c =
    let e = room_short _ _ _ _ _ _ _ _ (sym c.in_ok-seen.ensures) (sym c.has_room.ensures ∙ c.if-has_room.false) in
    record {
      answer = e;
      tells = answer_tells _ _ _ _ _ _ _ _ (Err (record { refusal = Room; at = length c.args.input.now })) _ e;
      filled = record { terms_are = refl; ands_are = refl; imuls_are = refl; bmuls_are = refl; zeros_are = refl; dsts_are = refl; rhss_are = refl };
    }
