use Rattle.std.proofs.Common.{List, ap, arith, not, refl, sym, ◌&&◌, ◌∙◌}
use Rattle.std.specs.List.{list_any}
use Rattle.std.proofs.lemmas.List.{take_all}
use Rattle.poly_atom.specs.declared.atom.Atom.{Atom}
use Rattle.poly_atom.specs.Hopeless.{lacks}
use Rattle.poly_frame.specs.Bits.{has_bit}
use Rattle.poly_frame.proofs.Matrices.{out_more}
use Rattle.poly_frame.proofs.Walks.{and_true_right}
use Rattle.poly_frame.proofs.frame.alive.take_out_lacked.Goals as goal

pub loop-atom-init : goal.loop-atom-init
loop-atom-init c = record { len = refl; bits = λ x. sym (and_true_right (has_bit c.args.words.now.items x)) }

pub loop-atom-preserved : goal.loop-atom-preserved
loop-atom-preserved c =
    let inv = c.loop-atom.invariant in
    record {
      len = c.take_out_lacked_by.ensures.len ∙ inv.len;
      bits = λ x. out_more (λ a. lacks a x) c.args.atoms.now c.loop-atom.atom-index c.atom-item.result (has_bit c.args.words.now.items x) (has_bit c.loop-atom.words.items x) (has_bit c.take_out_lacked_by.new.words.items x) c.loop-atom-test.true (inv.bits x) (c.take_out_lacked_by.ensures.bits x ∙ ap (λ (a : Atom). has_bit c.loop-atom.words.items x && not (lacks a x)) c.atom-item.is);
    }

pub returns : goal.returns
returns c = record {
  len = c.loop-atom.invariant.len;
  bits = λ x. c.loop-atom.invariant.bits x ∙ ap (λ (A : List Atom). has_bit c.args.words.now.items x && not (list_any (λ a. lacks a x) A)) (take_all c.loop-atom.atom-index c.args.atoms.now (omega (arith, c.loop-atom-test.false)));
}
