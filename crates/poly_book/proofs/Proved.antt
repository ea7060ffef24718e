-- The laws.
use Rattle.std.proofs.Common.{List, [], subst, sym, ℕ, ◌∷◌, arith}
use Rattle.poly_report.specs.Trees.{Plan}
use Rattle.poly_book.specs.States.{State}
use Rattle.poly_book.specs.Events.{Event, step}
use Rattle.poly_book.specs.Laws.{OpeningsAreWhole, QuietRedo, QuietShelvesAreKept, QuietUndo, ReportsKeepHolding, RunsKeepWhole, StepsKeepWhole}
use Rattle.poly_book.specs.Trails.{trailed}
use Rattle.poly_book.specs.Whole.{Runs, Whole}
use Rattle.poly_book.proofs.Moves.{becomes_consistent, opening_consistent, step_consistent}
use Rattle.poly_book.proofs.Traces.{becomes_replay, opening_replay, step_replay}
use Rattle.poly_book.proofs.Lasting.{HoldsAt, becomes_holds, becomes_rises, holds_now, holds_then, step_holds, step_rises}
use Rattle.poly_book.proofs.Accounting.{becomes_accounts, opening_accounts, step_accounts}
use Rattle.poly_book.proofs.QuietShelves.{quiet_shelves_are_kept}
use Rattle.poly_book.proofs.Stillness.{becomes_stays_quiet, opening_stays_quiet, step_stays_quiet}
use Rattle.poly_book.proofs.Regained.{quiet_redo, quiet_undo}
pub use Rattle.poly_book.proofs.Taken.{listed_stay_lem}

pub openings_are_whole_lem : OpeningsAreWhole
openings_are_whole_lem d v is wn shows = record {
  trail = record { back = []; forth = [] };
  consistent = opening_consistent d v is wn shows;
  stays_quiet = opening_stays_quiet d v;
  replay = opening_replay d v;
  rising = (omega arith, omega arith);
  accounts = opening_accounts d v;
}

pub steps_keep_whole_lem : StepsKeepWhole
steps_keep_whole_lem s t e p g b = record {
  trail = trailed s e p.trail;
  consistent = becomes_consistent (step s e) t (trailed s e p.trail) b (step_consistent s e p.trail g p.consistent);
  stays_quiet = becomes_stays_quiet (step s e) t (trailed s e p.trail) b (step_stays_quiet s e p.trail g p.consistent p.stays_quiet);
  replay = becomes_replay (step s e) t b (step_replay s e p.consistent.design g p.replay);
  rising = becomes_rises (step s e) t b (step_rises s e p.rising);
  accounts = becomes_accounts (step s e) t b (step_accounts s e p.accounts);
}

pub runs_keep_whole_lem : RunsKeepWhole
runs_keep_whole_lem s t [] p r = subst Whole (sym r) p
runs_keep_whole_lem s t (e ∷ es) p r = runs_keep_whole_lem r.0 t es (steps_keep_whole_lem s r.0 e p r.1 r.2) r.3

pub run_holds : (s t : State) (es : List Event) (k : ℕ) (tree : Plan) → Whole s → Runs s es t → HoldsAt s k tree → HoldsAt t k tree
run_holds s t [] k tree p r l = subst (λ x. HoldsAt x k tree) (sym r) l
run_holds s t (e ∷ es) k tree p r l =
    run_holds r.0 t es k tree (steps_keep_whole_lem s r.0 e p r.1 r.2) r.3 (becomes_holds (step s e) r.0 k tree r.2 (step_holds s e k tree p.consistent.well r.1 l))

pub reports_keep_holding_lem : ReportsKeepHolding
reports_keep_holding_lem s t es k a b tree p r found h there = holds_then t k b tree (run_holds s t es k tree p r (holds_now s k a tree p.rising found h)) there

pub quiet_undo_lem : QuietUndo
quiet_undo_lem s w b ways p g is q = quiet_undo s p.trail w b ways p.consistent p.stays_quiet g is q

pub quiet_redo_lem : QuietRedo
quiet_redo_lem s w b ways p g is q = quiet_redo s p.trail w b ways p.consistent p.stays_quiet g is q

pub quiet_shelves_are_kept_lem : QuietShelvesAreKept
quiet_shelves_are_kept_lem s w e = quiet_shelves_are_kept s w e
