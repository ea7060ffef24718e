-- What holds of both ends of every lane.
use Rattle.std.specs.Prelude.{ℕ, ◌≡◌, true, false, []}
use Rattle.std.specs.Global.{Global}
use Rattle.crossbeam_deque.specs.Handles.{Pass, IsPassOf, worker_flavor, worker_view, view}
use Rattle.crossbeam_deque.specs.declared.handles.Worker.{Worker}
use Rattle.poly_crew.specs.declared.rule.HandleView.{HandleView}
use Rattle.poly_crew.specs.declared.rule.LaneRule.{LaneRule}
use Rattle.poly_crew.specs.Rule.{handle_of}
use Rattle.poly_crew.specs.Views.{DequeId}

-- the deque of a lane pops its oldest hint, and its view is the owner's, not a thief's
pub record IsOwner (worker : Worker ℕ Global HandleView LaneRule) : Type 0 where
  pub fifo : worker_flavor worker ≡ 0
  pub owner : (worker_view worker).is_owner ≡ true
  pub no_thief : (worker_view worker).thief ≡ 0

-- the pass with which a thief steals is for this lane's deque, and its view is that of a thief: it records no hints but those
-- that the thief took
pub record IsThief (deque : DequeId) (pass : Pass ℕ HandleView Global) : Type 0 where
  pub here : IsPassOf deque pass
  pub taken : view pass ≡ handle_of false 0 1 [] (view pass).taken
