-- A step that is undone leaves no trace.
use Rattle.std.proofs.Common.{List, [], ap, arith, length, length-append, ◌++◌, ◌-◌, ◌∙◌, ◌∷◌, ◌≡◌}
use Rattle.std.proofs.Math.Seq.{take-append_seam}
use Rattle.poly_tiling.specs.Lists.{tally}
use Rattle.poly_atom.specs.declared.atom.Atom.{Atom}
use Rattle.poly_atom.specs.Hopeless.{base}
use Rattle.poly_frame.specs.Laws.{StepsComeBack}
use Rattle.poly_frame.specs.Walk.{Walk, backtrack_to, is_option, step_back, with_step}

-- backtracking to the level before a step undoes the step
pub back_to_level : (w : Walk) (a : Atom) → backtrack_to (with_step w a) (length w.atoms) ≡ w
back_to_level w a = ap (λ (A : List Atom). let x : Walk = record { scene = w.scene; atoms = A; given = w.given } in x) (take-append_seam w.atoms (a ∷ []))

-- going one step back undoes the last step
pub step_undone : (w : Walk) (a : Atom) → step_back (with_step w a) ≡ w
step_undone w a =
    let more = length-append w.atoms (a ∷ []) in
    let one_less : length (w.atoms ++ a ∷ []) - 1 ≡ length w.atoms = omega arith in
    ap (λ n. backtrack_to (with_step w a) n) one_less ∙ back_to_level w a

pub steps_come_back_lem : StepsComeBack
steps_come_back_lem w a =
    let same = step_undone w a in
    record {
      trail = same;
      level = back_to_level w a;
      base = ap (λ (x : Walk). base w.scene x.atoms) same;
      options = λ i p. ap (λ (x : Walk). is_option x i p) same;
      sizes = λ i. ap (λ (x : Walk). tally (is_option x i) w.scene.live) same;
    }
