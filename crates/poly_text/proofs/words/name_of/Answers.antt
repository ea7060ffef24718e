use Rattle.std.proofs.Common.{refl, sym, true≢false}
use Rattle.poly_text.proofs.Naming.{is_name_from, no_name_from}
use Rattle.poly_text.proofs.words.name_of.Goals as goal

pub returns-in-Ok : goal.returns-in-Ok
returns-in-Ok c = rw (is_name_from c.args.bytes.now (c.in-Ok.ensures.when.0 refl), c.in-Ok.ensures.ok) refl

pub returns-in-Err : goal.returns-in-Err
returns-in-Err c = rw (no_name_from c.args.bytes.now (λ h. true≢false (sym (c.in-Err.ensures.when.1 h)))) refl
